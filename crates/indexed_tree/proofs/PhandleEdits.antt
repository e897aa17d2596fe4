-- The phandle of a node whose properties are changed.
use Rattle.std.proofs.Common.{◌≡◌, ◌∙◌, ap, sym, subst, refl, ℕ, zero, suc, ◌+◌, ◌≤◌, List, [], ◌∷◌, ◌++◌, Bool, true, false, cond, Option, Some, None, Result, Ok, Err, OnOk, OnErr, length, ◌<◌, take, drop, arith, length-append, length-drop}
use Rattle.std.proofs.lemmas.List.{length-take}
use Rattle.std.specs.Prelude.{bytes_eq, codes, option_and_then, ◌==◌}
use Rattle.std.specs.Int.{w32, from_be_bytes, to_be_bytes}
use Rattle.std.specs.Option.{option_to_list, option_eq, option_map_or}
use Rattle.std.specs.declared.alloc.AllocError.{AllocError}
use Rattle.std.proofs.lemmas.Bool.{eqb-true, eq-eqb}
use Rattle.std.proofs.lemmas.Slice.Eq.{bytes_eq-Decides}
use Rattle.fdt_tree.specs.Tree.{Bytes, Property, Trees, none, tree, Tree, Place, at, at_in, edit, edit_in, change_properties, cell, property_of}
use Rattle.fdt_tree.specs.Document.{Document, place_of, properties_of, with_node, with_properties}
use Rattle.fdt_tree.specs.PathEdits.{set_property}
use Rattle.fdt_tree.specs.Phandles.{phandle_of}
use Rattle.tree_parts.proofs.Growing.{stands}
use Rattle.indexed_tree.specs.Words.{with_word}
use Rattle.indexed_tree.specs.PrivateArena.{held, IsHeld}
use Rattle.indexed_tree.specs.PrivateHolders.{Holders, holder_at, changed_at, IsHolding, IsWhole}
use Rattle.indexed_tree.specs.declared.entry.Entry.{Entry}
use Rattle.indexed_tree.proofs.Holds.{holding-grown, holding-kept, holding-moved, holding-undone}

-- edits that do the same to what stands at a place
edit_in-there : (f g : Tree → Tree) (ts : Trees) (k : ℕ) (q : Place) (u : Tree) → at_in ts k q ≡ Some u → f u ≡ g u → edit_in f ts k q ≡ edit_in g ts k q
edit_in-there f g none k q u at same = refl
edit_in-there f g (tree n ps cs rest) zero [] u at same =
    let one : record { name = n; properties = ps; children = cs } ≡ u = cc in ap (λ (w : Tree). tree w.name w.properties w.children rest) (ap f one ∙ (same ∙ ap g (sym one)))
edit_in-there f g (tree n ps cs rest) zero (j ∷ q) u at same = ap (λ z. tree n ps z rest) (edit_in-there f g cs j q u at same)
edit_in-there f g (tree n ps cs rest) (suc k) q u at same = ap (tree n ps cs) (edit_in-there f g rest k q u at same)

edit-there : (f g : Tree → Tree) (t : Tree) (q : Place) (u : Tree) → at t q ≡ Some u → f u ≡ g u → edit f t q ≡ edit g t q
edit-there f g t [] u at_t same = let one : t ≡ u = cc in ap f one ∙ (same ∙ ap g (sym one))
edit-there f g t (k ∷ q) u at_t same = ap (λ z. record t { children = z }) (edit_in-there f g t.children k q u at_t same)

itself : (n : Bytes) → bytes_eq n n ≡ true
itself n = (bytes_eq-Decides n n).1 refl

-- a property that is set, and another
pub set-same : (n b : Bytes) (ps : List Property) → property_of (set_property n b ps) n ≡ Some b
set-same n b [] = ap (λ t. cond t (Some b) None) (itself n)
set-same n b (p ∷ ps) = by (bytes_eq p.0 n) refl (set-same n b ps)
  where
    by : (t : Bool) → bytes_eq p.0 n ≡ t → property_of (set_property n b ps) n ≡ Some b → property_of (cond t ((n, b) ∷ ps) (p ∷ set_property n b ps)) n ≡ Some b
    by true e later = ap (λ s. cond s (Some b) (property_of ps n)) (itself n)
    by false e later = ap (λ s. cond s (Some p.1) (property_of (set_property n b ps) n)) e ∙ later

pub set-other : (n m b : Bytes) (ps : List Property) → bytes_eq n m ≡ false → property_of (set_property n b ps) m ≡ property_of ps m
set-other n m b [] other = ap (λ t. cond t (Some b) None) other
set-other n m b (p ∷ ps) other = by (bytes_eq p.0 n) (λ e. (bytes_eq-Decides p.0 n).0 e) (set-other n m b ps other)
  where
    by : (t : Bool) → (t ≡ true → p.0 ≡ n) → property_of (set_property n b ps) m ≡ property_of ps m → property_of (cond t ((n, b) ∷ ps) (p ∷ set_property n b ps)) m ≡ cond (bytes_eq p.0 m) (Some p.1) (property_of ps m)
    by true same later =
        ap (λ s. cond s (Some b) (property_of ps m)) other ∙ sym (ap (λ s. cond s (Some p.1) (property_of ps m)) (ap (λ k. bytes_eq k m) (same refl) ∙ other))
    by false same later = ap (cond (bytes_eq p.0 m) (Some p.1)) later

-- a last property of another name, or of one that is there
pub last-other : (n m b : Bytes) (ps : List Property) → bytes_eq n m ≡ false → property_of (ps ++ (n, b) ∷ []) m ≡ property_of ps m
last-other n m b [] other = ap (λ t. cond t (Some b) None) other
last-other n m b (p ∷ ps) other = ap (cond (bytes_eq p.0 m) (Some p.1)) (last-other n m b ps other)

pub last-there : (m v : Bytes) (q : Property) (ps : List Property) → property_of ps m ≡ Some v → property_of (ps ++ q ∷ []) m ≡ property_of ps m
last-there m v q [] is = absurd (cc)
last-there m v q (p ∷ ps) is = by (bytes_eq p.0 m) (last-there m v q ps) is
  where
    by : (t : Bool) → (property_of ps m ≡ Some v → property_of (ps ++ q ∷ []) m ≡ property_of ps m) → cond t (Some p.1) (property_of ps m) ≡ Some v → cond t (Some p.1) (property_of (ps ++ q ∷ []) m) ≡ cond t (Some p.1) (property_of ps m)
    by true later is = refl
    by false later is = later is

-- one that is not there is set as a last one
pub set-missing : (n b : Bytes) (ps : List Property) → property_of ps n ≡ None → set_property n b ps ≡ ps ++ (n, b) ∷ []
set-missing n b [] is = refl
set-missing n b (p ∷ ps) is = by (bytes_eq p.0 n) (set-missing n b ps) is
  where
    by : (t : Bool) → (property_of ps n ≡ None → set_property n b ps ≡ ps ++ (n, b) ∷ []) → cond t (Some p.1) (property_of ps n) ≡ None → cond t ((n, b) ∷ ps) (p ∷ set_property n b ps) ≡ p ∷ (ps ++ (n, b) ∷ [])
    by true later is = absurd (cc)
    by false later is = ap (λ z. p ∷ z) (later is)

-- the phandle after that
pub phandle-set : (b : Bytes) (ps : List Property) → phandle_of (set_property (codes "phandle") b ps) ≡ option_to_list (cell b)
phandle-set b ps = ap (λ (o : Option Bytes). option_to_list (option_and_then cell o)) (set-same (codes "phandle") b ps)

pub phandle-kept : (n b : Bytes) (ps : List Property) → bytes_eq n (codes "phandle") ≡ false → phandle_of (set_property n b ps) ≡ phandle_of ps
phandle-kept n b ps other = ap (λ (o : Option Bytes). option_to_list (option_and_then cell o)) (set-other n (codes "phandle") b ps other)

-- a property of a name that is there, or is not `phandle`, is added
pub phandle-last : (n b v : Bytes) (ps : List Property) → property_of ps n ≡ Some v → phandle_of (ps ++ (n, b) ∷ []) ≡ phandle_of ps
phandle-last n b v ps is = ap (λ (o : Option Bytes). option_to_list (option_and_then cell o)) (by (bytes_eq n (codes "phandle")) refl)
  where
    by : (t : Bool) → bytes_eq n (codes "phandle") ≡ t → property_of (ps ++ (n, b) ∷ []) (codes "phandle") ≡ property_of ps (codes "phandle")
    by true e = last-there (codes "phandle") v (n, b) ps (ap (property_of ps) (sym ((bytes_eq-Decides n (codes "phandle")).0 e)) ∙ is)
    by false e = last-other n (codes "phandle") b ps e

long-cell : (v : Bytes) → (length v ≡ 4 → ⊥) → cell v ≡ None
long-cell v other = by (length v == 4) refl
  where
    by : (t : Bool) → (length v == 4) ≡ t → cond t (Some (from_be_bytes w32 v)) None ≡ None
    by true e = absurd (other (eqb-true (length v) 4 e))
    by false e = refl

-- a value that is no phandle is changed to another that is none
pub phandle-long : (n b v : Bytes) (ps : List Property) → property_of ps n ≡ Some v → (length v ≡ 4 → ⊥) → length b ≡ length v → phandle_of (set_property n b ps) ≡ phandle_of ps
phandle-long n b v ps is other same = by (bytes_eq n (codes "phandle")) refl
  where
    by : (t : Bool) → bytes_eq n (codes "phandle") ≡ t → phandle_of (set_property n b ps) ≡ phandle_of ps
    by true e =
        let named : n ≡ codes "phandle" = (bytes_eq-Decides n (codes "phandle")).0 e in
        ap (λ k. phandle_of (set_property k b ps)) named ∙ (phandle-set b ps ∙ (ap option_to_list (long-cell b (λ four. other (sym same ∙ four)) ∙ sym (long-cell v other)) ∙ ap (λ (o : Option Bytes). option_to_list (option_and_then cell o)) (sym (ap (property_of ps) (sym named) ∙ is))))
    by false e = phandle-kept n b ps e

-- what is whole stays whole
pub whole-kept : (was now : List Entry) (h : Holders) (p : ℕ) (g : List Property → List Property) → IsWhole was h → p < length (held was).places → IsHeld (held now) now → held now ≡ with_properties (held was) (place_of (held was) p) g → phandle_of (g (properties_of (held was) p)) ≡ phandle_of (properties_of (held was) p) → IsWhole now h
whole-kept was now h p g whole live is document kept = record {
  is_held = is;
  holding = subst (λ (z : Document). IsHolding z h) (sym document) (holding-kept (held was) p g whole.is_held.numbering live h kept whole.holding);
}

pub whole-same : (was now : List Entry) (h : Holders) → IsWhole was h → IsHeld (held now) now → held now ≡ held was → IsWhole now h
whole-same was now h whole is document = record { is_held = is; holding = subst (λ (z : Document). IsHolding z h) (sym document) whole.holding }

pub whole-tried : (r : Result (Unit {0}) AllocError) (was now : List Entry) (h : Holders) (p : ℕ) (g : List Property → List Property) → IsWhole was h → p < length (held was).places → IsHeld (held now) now → OnOk r (held now ≡ with_properties (held was) (place_of (held was) p) g) → OnErr r (held now ≡ held was) → phandle_of (g (properties_of (held was) p)) ≡ phandle_of (properties_of (held was) p) → IsWhole now h
whole-tried (Ok u) was now h p g whole live is document failed kept = whole-kept was now h p g whole live is document kept
whole-tried (Err e) was now h p g whole live is document failed kept = whole-same was now h whole is failed

pub whole-added : (r : Result ℕ AllocError) (was now : List Entry) (h : Holders) (p : ℕ) (name : Bytes) → IsWhole was h → p < length (held was).places → IsHeld (held now) now → OnOk r (held now ≡ with_node (held was) (place_of (held was) p) name []) → OnErr r (held now ≡ held was) → IsWhole now h
whole-added (Ok u) was now h p name whole live is document failed = record {
  is_held = is;
  holding = subst (λ (z : Document). IsHolding z h) (sym document) (holding-grown (held was) p name whole.is_held.numbering live h whole.holding);
}
whole-added (Err e) was now h p name whole live is document failed = whole-same was now h whole is failed

-- phandles that are compared
pub same-option : (a b : Option ℕ) → option_eq (λ x y. x == y) a b ≡ true → a ≡ b
same-option None None e = refl
same-option None (Some y) e = absurd (cc)
same-option (Some x) None e = absurd (cc)
same-option (Some x) (Some y) e = ap Some (eqb-true x y e)

pub other-option : (a b : Option ℕ) → option_eq (λ x y. x == y) a b ≡ false → a ≡ b → ⊥
other-option None b e is = let same : option_eq (λ x y. x == y) None None ≡ false = ap (option_eq (λ x y. x == y) None) is ∙ e in cc
other-option (Some x) b e is =
    let same : (x == x) ≡ false = ap (option_eq (λ x y. x == y) (Some x)) is ∙ e in let holds : (x == x) ≡ true = eq-eqb x x refl in let wrong : true ≡ false = sym holds ∙ same in absurd (cc)

-- a phandle takes the place of another, or is taken out again
module _ (was now : List Entry) (h noted left : Holders) (p : ℕ) (bytes : Bytes) (place key : Place) (before after : Option ℕ) (whole : IsWhole was h) (live : p < length (held was).places) (own : option_to_list before ≡ phandle_of (properties_of (held was) p)) (next : after ≡ cell bytes) (apart : before ≡ after → ⊥) (place_is : place ≡ place_of (held was) p) (key_is : key ≡ place_of (held was) p) (note : (q : ℕ) (there : Place) → holder_at noted q there ≡ changed_at after key (Some p) h q there) (is : IsHeld (held now) now) where
  abbrev g : List Property → List Property
  g ps = set_property (codes "phandle") bytes ps

  becomes : phandle_of (g (properties_of (held was) p)) ≡ option_to_list after
  becomes = phandle-set bytes (properties_of (held was) p) ∙ ap option_to_list (sym next)

  noted_there : (q : ℕ) (there : Place) → holder_at noted q there ≡ changed_at after (place_of (held was) p) (Some p) h q there
  noted_there q there = note q there ∙ ap (λ k. changed_at after k (Some p) h q there) key_is

  pub whole-moved : held now ≡ with_properties (held was) (place_of (held was) p) (set_property (codes "phandle") bytes) → ((q : ℕ) (there : Place) → holder_at left q there ≡ changed_at before place None noted q there) → IsWhole now left
  whole-moved document forget = record {
    is_held = is;
    holding = subst (λ (z : Document). IsHolding z left) (sym document) (holding-moved (held was) p g whole.is_held.numbering live before after (sym own) becomes apart h noted whole.holding noted_there left (λ q there. forget q there ∙ ap (λ k. changed_at before k None noted q there) place_is));
  }

  pub whole-undone : held now ≡ held was → ((q : ℕ) (there : Place) → holder_at left q there ≡ changed_at after place None noted q there) → IsWhole now left
  whole-undone document forget = record {
    is_held = is;
    holding = subst (λ (z : Document). IsHolding z left) (sym document) (holding-undone (held was) p g whole.is_held.numbering live before after (sym own) becomes apart h noted whole.holding noted_there left (λ q there. forget q there ∙ ap (λ k. changed_at after k None noted q there) place_is));
  }

-- a last property is set, where none of its name is there
pub set-missing-there : (was now : List Entry) (p : ℕ) (n b : Bytes) (r : Result (Unit {0}) AllocError) → IsHeld (held was) was → p < length (held was).places → property_of (properties_of (held was) p) n ≡ None → OnOk r (held now ≡ with_properties (held was) (place_of (held was) p) (set_property n b)) → OnOk r (held now ≡ with_properties (held was) (place_of (held was) p) (λ ps. ps ++ (n, b) ∷ []))
set-missing-there was now p n b r is live missing done =
    let u = stands (held was) p is.numbering live in
    let own : properties_of (held was) p ≡ u.0.properties = ap (λ (o : Option Tree). option_map_or (λ (v : Tree). v.properties) o []) u.1 in
    let same : with_properties (held was) (place_of (held was) p) (set_property n b) ≡ with_properties (held was) (place_of (held was) p) (λ ps. ps ++ (n, b) ∷ []) = ap (λ (t : Tree). record (held was) { tree = t }) (edit-there (change_properties (set_property n b)) (change_properties (λ ps. ps ++ (n, b) ∷ [])) (held was).tree (place_of (held was) p) u.0 u.1 (ap (λ qs. record u.0 { properties = qs }) (set-missing n b u.0.properties (ap (λ qs. property_of qs n) (sym own) ∙ missing)))) in
    subst (λ (z : Document). OnOk r (held now ≡ z)) same done

-- a word in a value leaves its length
pub word-long : (v : Bytes) (offset number : ℕ) → offset + 4 ≤ length v → length (with_word v offset number) ≡ length v
word-long v offset number within =
    let long : length (to_be_bytes w32 number) ≡ 4 = refl in
    omega (arith, length-append (take offset v) (to_be_bytes w32 number ++ drop (offset + 4) v), length-append (to_be_bytes w32 number) (drop (offset + 4) v), length-take offset v, length-drop (offset + 4) v, long)
