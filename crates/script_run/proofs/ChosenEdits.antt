-- The commands behind the tree's Addr extend the first `chosen`.
use Rattle.std.proofs.Common.{◌≡◌, ℕ, Bool, true, false, cond, not, ◌||◌, List, [], ◌∷◌, ◌++◌, Option, Some, None, option_and_then, refl, sym, ap, ◌∙◌}
use Rattle.std.specs.Prelude.{bytes_eq, is_some}
use Rattle.std.specs.List.{list_all, list_any}
use Rattle.std.proofs.lemmas.Bool.{and_parts}
use Rattle.std.proofs.lemmas.List.Sums.{fold-append}
use Rattle.fdt_tree.specs.Tree.{Bytes, Property, Trees, none, tree, Tree, with_last, first_named}
use Rattle.fdt_tree.specs.PathEdits.{has_named, set_property}
use Rattle.script_run.specs.Edited.{with_trees, with_properties, extended, leaf}
use Rattle.script_run.proofs.NodeEdits.{Edit, apply_all, apply_all-append, puts, make_leaf, leaf_made, are_new, first_of, found_again}
use Rattle.script_run.proofs.GuestEdits.{add_whole}
use Rattle.script_run.proofs.Distinct.{has-last}

-- whether some of the trees has a name that is taken
abbrev pub taken : List Tree → Trees → Bool
taken ts trees = list_any (λ (new : Tree). has_named new.name trees) ts

any_append : (ts us : List Tree) (trees : Trees) → taken (ts ++ us) trees ≡ (taken ts trees || taken us trees)
any_append [] us trees = refl
any_append (t ∷ ts) us trees = by (has_named t.name trees) (any_append ts us trees)
  where
    by : (b : Bool) → taken (ts ++ us) trees ≡ (taken ts trees || taken us trees) → (b || taken (ts ++ us) trees) ≡ ((b || taken ts trees) || taken us trees)
    by true h = refl
    by false h = h

has-before : (name : Bytes) (ts : Trees) (n : Bytes) (qs : List Property) (ds : Trees) → has_named name ts ≡ true → has_named name (with_last ts n qs ds) ≡ true
has-before name none n qs ds e = cc
has-before name (tree m ps cs rest) n qs ds e = by (bytes_eq m name) (first_named name rest) refl (has-before name rest n qs ds) e
  where
    by : (b : Bool) (o : Option (ℕ × Trees)) → first_named name rest ≡ o → (has_named name rest ≡ true → has_named name (with_last rest n qs ds) ≡ true) → is_some (first_of b cs o) ≡ true → is_some (first_of b cs (first_named name (with_last rest n qs ds))) ≡ true
    by true o f h e = refl
    by false None f h e = cc
    by false (Some x) f h e = found_again false cs (first_named name (with_last rest n qs ds)) (h (rw f refl))

-- a name that none of the new trees has is there as before
pub named-with : (name : Bytes) (ts : List Tree) (trees : Trees) → list_all (λ (t : Tree). not (bytes_eq t.name name)) ts ≡ true → has_named name (with_trees ts trees) ≡ has_named name trees
named-with name [] trees h = refl
named-with name (t ∷ ts) trees h =
    let k = and_parts (not (bytes_eq t.name name)) (list_all (λ (u : Tree). not (bytes_eq u.name name)) ts) h in
    named-with name ts (with_last trees t.name t.properties t.children) k.1 ∙ both (has_named name trees) refl (off (bytes_eq t.name name) k.0)
  where
    off : (b : Bool) → not b ≡ true → b ≡ false
    off true e = cc
    off false e = refl

    both : (b : Bool) → has_named name trees ≡ b → bytes_eq t.name name ≡ false → has_named name (with_last trees t.name t.properties t.children) ≡ has_named name trees
    both true e f = has-before name trees t.name t.properties t.children e ∙ sym e
    both false e f = has-last name trees t.name t.properties t.children e f ∙ sym e

-- each name of the second differs from each of the first
abbrev pub side_by_side : List Tree → List Tree → Bool
side_by_side ts us = list_all (λ (u : Tree). list_all (λ (t : Tree). not (bytes_eq t.name u.name)) ts) us

taken-with : (ts us : List Tree) (trees : Trees) → side_by_side ts us ≡ true → taken us (with_trees ts trees) ≡ taken us trees
taken-with ts [] trees h = refl
taken-with ts (u ∷ us) trees h =
    let k = and_parts (list_all (λ (t : Tree). not (bytes_eq t.name u.name)) ts) (side_by_side ts us) h in
    ap (λ b. b || taken us (with_trees ts trees)) (named-with u.name ts trees k.0) ∙ ap (λ b. has_named u.name trees || b) (taken-with ts us trees k.1)

-- an extension, by whether a name is taken
abbrev pub ext : Bool → List Property → List Tree → Tree → Option Tree
ext b ps ts u = cond b None (Some (record { name = u.name; properties = with_properties ps u.properties; children = with_trees ts u.children }))

-- Two extensions, one after the other.
pub extended-append : (ps qs : List Property) (ts us : List Tree) (u : Tree) → side_by_side ts us ≡ true → option_and_then (extended qs us) (extended ps ts u) ≡ extended (ps ++ qs) (ts ++ us) u
extended-append ps qs ts us u h = by (taken ts u.children) ∙ ap (λ b. ext b (ps ++ qs) (ts ++ us) u) (sym (any_append ts us u.children))
  where
    grown : Tree
    grown = record { name = u.name; properties = with_properties ps u.properties; children = with_trees ts u.children }

    both : (b : Bool) → ext b qs us (record { name = u.name; properties = with_properties ps u.properties; children = with_trees ts u.children }) ≡ ext b (ps ++ qs) (ts ++ us) u
    both true = refl
    both false =
        ap (λ z. Some (record { name = u.name; properties = z; children = with_trees us (with_trees ts u.children) })) (sym (fold-append (λ xs (p : Property). set_property p.0 p.1 xs) u.properties ps qs))
        ∙ ap (λ z. Some (record { name = u.name; properties = with_properties (ps ++ qs) u.properties; children = z })) (sym (fold-append (λ xs (t : Tree). with_last xs t.name t.properties t.children) u.children ts us))

    by : (a : Bool) → option_and_then (extended qs us) (ext a ps ts u) ≡ ext (a || taken us u.children) (ps ++ qs) (ts ++ us) u
    by true = refl
    by false = ap (λ b. ext b qs us (record { name = u.name; properties = with_properties ps u.properties; children = with_trees ts u.children })) (taken-with ts us u.children h) ∙ both (taken us u.children)

-- Edits that extend a node.
abbrev pub Extend : List Edit → List Property → List Tree → Type 0
Extend es ps ts = (u : Tree) → apply_all es u ≡ extended ps ts u

pub Extend-append : (es fs : List Edit) (ps qs : List Property) (ts us : List Tree) → Extend es ps ts → Extend fs qs us → side_by_side ts us ≡ true → Extend (es ++ fs) (ps ++ qs) (ts ++ us)
Extend-append es fs ps qs ts us a b h u =
    apply_all-append es fs u ∙ (ap (option_and_then (apply_all fs)) (a u) ∙ (ap (λ (f : Tree → Option Tree). option_and_then f (extended ps ts u)) (λ j. λ v. b v j) ∙ extended-append ps qs ts us u h))

pub Extend-puts : (ps : List Property) → Extend (puts ps) ps []
Extend-puts [] u = refl
Extend-puts (p ∷ ps) u = Extend-puts ps (record u { properties = set_property p.0 p.1 u.properties })

or_false : (b : Bool) → b ≡ (b || false)
or_false true = refl
or_false false = refl

-- one tree added whole
pub whole-extended : (w u : Tree) → add_whole w u ≡ extended [] (w ∷ []) u
whole-extended w u = ap (λ b. cond b None (Some (record u { children = with_last u.children w.name w.properties w.children }))) (or_false (has_named w.name u.children))

pub Extend-leaf : (name : Bytes) (ps : List Property) → bytes_eq name [] ≡ false → are_new [] ps ≡ true → Extend (make_leaf name ps) [] (leaf name ps ∷ [])
Extend-leaf name ps some new u = by (has_named name u.children) refl ∙ whole-extended (leaf name ps) u
  where
    by : (b : Bool) → has_named name u.children ≡ b → apply_all (make_leaf name ps) u ≡ add_whole (leaf name ps) u
    by true e = rw e refl
    by false e = leaf_made name ps u some e new ∙ rw e refl
