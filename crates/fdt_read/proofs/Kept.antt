-- What the reader keeps in memory agrees with the tokens so far.
use Rattle.std.proofs.Common.{◌≡◌, ℕ, ◌<◌, Bool, true, false, cond, ◌&&◌, List, [], ◌∷◌, ◌++◌, Option, Some, None, option_map, Result, Ok, Err, OnOk, IsTrue, length, length-append, refl, sym, ap, ◌∙◌, subst, arith}
use Rattle.fdt_tree.specs.Tree.{Bytes, Place}
use Rattle.fdt_tree.specs.Document.{Document, place_of, children_at, with_child, with_child_of}
use Rattle.fdt_tree.specs.declared.edit_fault.EditFault.{EditFault}
use Rattle.fdt_tree.proofs.Links.{place-new}
use Rattle.fdt_read.specs.declared.building.Building.{Building}
use Rattle.fdt_read.specs.Tokens.{Token, begin_node, nop, is_final}
use Rattle.texts.specs.Rows.{first_that_applies}
use Rattle.fdt_read.specs.Refusals.{rows_at, fault_after, open_after, has_node}
use Rattle.fdt_read.specs.Built.{Shape, IsBuilding, IsWhole}
use Rattle.fdt_read.proofs.Counted.{level-nop, node-nop}
use Rattle.fdt_read.proofs.Progress.{after_child-last}
use Rattle.fdt_read.proofs.Steps.{shape-nop, shape-child, shape-final}

-- The fault of a token, by what the reader keeps.
pub fault_here : (done : List Token) (b : Building) (o : ℕ) (x : Token) → IsBuilding done b → first_that_applies (rows_at b.level b.started b.past_child o x) ≡ fault_after done (o, x)
fault_here done b o x i =
    ap (λ n. first_that_applies (rows_at n b.started b.past_child o x)) i.level ∙ (ap (λ s. first_that_applies (rows_at (open_after done) s b.past_child o x)) i.started ∙ ap (λ s. first_that_applies (rows_at (open_after done) (has_node done) s o x)) i.past_child)

pub no_fault : (done : List Token) (b : Building) (o : ℕ) (x : Token) → IsBuilding done b → first_that_applies (rows_at b.level b.started b.past_child o x) ≡ None → fault_after done (o, x) ≡ None
no_fault done b o x i e = sym (fault_here done b o x i) ∙ e

-- The node that is open, if one is.
pub shape_at : (done : List Token) (b : Building) (current : Option ℕ) → IsBuilding done b → b.current ≡ current → Shape done b.tree.tree (option_map (place_of b.tree) current)
shape_at done b current i e = subst (λ (z : Option ℕ). Shape done b.tree.tree (option_map (place_of b.tree) z)) e i.shape

pub nothing_open : (current : Option ℕ) → ((n : ℕ) → current ≡ Some n → ⊥) → current ≡ None
nothing_open None h = refl
nothing_open (Some n) h = absurd (h n refl)

pub building-nop : (done : List Token) (b : Building) → IsBuilding done b → IsBuilding (done ++ nop ∷ []) b
building-nop done b i = record {
  level = i.level ∙ level-nop done;
  shallow = i.shallow;
  started = i.started ∙ node-nop done;
  past_child = i.past_child ∙ sym (after_child-last false done nop);
  live = i.live;
  shape = shape-nop done b.tree.tree _ i.shape;
}

ok_of : {A : Type 0} (b : Bool) (e : EditFault) (x y : A) → cond b (Err e) (Ok x) ≡ Ok y → x ≡ y
ok_of true e x y h = absurd (cc)
ok_of false e x y h = cc

pub added : (d after : Document) (n : ℕ) (name : Bytes) → with_child_of d n name ≡ Ok after → with_child d (place_of d n) name ≡ after
added d after n name e = ok_of _ _ _ _ e

pub added_live : (d after : Document) (n m : ℕ) (name : Bytes) → with_child_of d n name ≡ Ok after → m ≡ length d.places → m < length after.places
added_live d after n m name e q =
    omega (arith, q, ap (λ (z : Document). length z.places) (added d after n name e), length-append d.places ((place_of d n ++ children_at d.tree (place_of d n) ∷ []) ∷ []))

pub shape_added : (done : List Token) (d after : Document) (n m o : ℕ) (name : Bytes) → Shape done d.tree (Some (place_of d n)) → with_child_of d n name ≡ Ok after → m ≡ length d.places → fault_after done (o, begin_node name) ≡ None → open_after done < 33 → Shape (done ++ begin_node name ∷ []) after.tree (Some (place_of after m))
shape_added done d after n m o name s e q f l =
    subst (λ (z : Document). Shape (done ++ begin_node name ∷ []) z.tree (Some (place_of z m))) (added d after n name e) (subst (λ (z : Place). Shape (done ++ begin_node name ∷ []) (with_child d (place_of d n) name).tree (Some z)) (sym (place-new d (place_of d n) name [] m q)) (shape-child done d.tree (place_of d n) o name s f (omega (arith, l))))

pub named_node : (x y z : Bool) → (x && z) ≡ true → IsTrue y → IsTrue (x && (y && z))
named_node true true true e h = h
named_node true true false e h = absurd (cc)
named_node true false z e h = h
named_node false y z e h = absurd (cc)

pub on_ok : {A E : Type 0} (r : Result A E) (P Q : Type 0) → (P → Q) → OnOk r P → OnOk r Q
on_ok (Ok x) P Q f h = f h
on_ok (Err e) P Q f h = tt

pub building-final : (done : List Token) (b : Building) (o : ℕ) (x : Token) → IsBuilding done b → is_final x ≡ true → first_that_applies (rows_at b.level b.started b.past_child o x) ≡ None → IsWhole (done ++ x ∷ []) b.tree.tree
building-final done b o x i f e = shape-final done b.tree.tree _ o x i.shape f (no_fault done b o x i e)
