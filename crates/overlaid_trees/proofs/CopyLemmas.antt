-- Copies of properties and of nodes.
use Rattle.std.proofs.Common.{◌≡◌, ◌∙◌, ap, sym, subst, refl, ℕ, ◌+◌, ◌<◌, ◌≤◌, length, List, [], ◌∷◌, ◌++◌, Option, Some, None, option_map, drop, Bool, true, false, cond, slice_get, append_assoc, append-nil}
use Rattle.std.specs.Prelude.{option_and_then, bytes_eq, codes, IfSome}
use Rattle.std.specs.Option.{option_map_or}
use Rattle.std.specs.Int.{w32, to_be_bytes}
use Rattle.fdt_tree.specs.Tree.{Bytes, Property, Trees, none, tree, Tree, Place, cell, property_of, at, edit, change_properties}
use Rattle.fdt_tree.specs.Document.{Document, empty, place_of, name_of, properties_of, children_of, with_node, next_place, if_there, IsNumbering}
use Rattle.fdt_tree.specs.PathEdits.{set_property}
use Rattle.fdt_nodes.specs.Values.{u32_in}
use Rattle.tree_parts.specs.Grown.{joined, Grows, with_more, with_last_children}
use Rattle.tree_parts.proofs.Growing.{joined-none, Grows-nothing, Grows-more, Grows-inside, joined-twice, with_more-nothing, with_more-twice}
use Rattle.overlaid_trees.specs.Shift.{moved_properties, moved_in, moved_tree}
use Rattle.overlaid_trees.specs.PrivateCopies.{placed, left_over, with_first, moved_phandle}
use Rattle.overlaid_trees.proofs.TurnLemmas.{from-index, from-end}
use Rattle.fdt_nodes.proofs.Siblings.{siblings_from, first-siblings, node-siblings}

-- the properties before an index are given, and what is left of them is known
pub record IsGiven (name : Bytes) (whole : List Property) (rest : List Property) (left : Option Bytes) (old new : Document) (copy : ℕ) : Type 0 where
  pub done : List Property
  pub given : new ≡ with_more old copy done
  pub parts : done ++ with_first name left rest ≡ whole

pub IsGiven-start : (name : Bytes) (ps : List Property) (left : Option Bytes) (d : Document) (copy : ℕ) → IsGiven name (with_first name left ps) ps left d d copy
IsGiven-start name ps left d copy = record { done = []; given = sym (with_more-nothing d copy); parts = refl }

pub IsGiven-next : (name : Bytes) (whole ps : List Property) (i : ℕ) (p : Property) (left later : Option Bytes) (old now done : Document) (copy : ℕ) → slice_get ps i ≡ Some p → done ≡ with_more now copy (placed name left p ∷ []) → later ≡ left_over name left p → IsGiven name whole (drop i ps) left old now copy → IsGiven name whole (drop (i + 1) ps) later old done copy
IsGiven-next name whole ps i p left later old now done copy at added rest so_far = record {
  done = so_far.done ++ placed name left p ∷ [];
  given = added ∙ (ap (λ (z : Document). with_more z copy (placed name left p ∷ [])) so_far.given ∙ with_more-twice old copy so_far.done (placed name left p ∷ []));
  parts = append_assoc so_far.done (placed name left p ∷ []) (with_first name later (drop (i + 1) ps)) ∙ (ap (λ o. so_far.done ++ placed name left p ∷ with_first name o (drop (i + 1) ps)) rest ∙ (ap (λ qs. so_far.done ++ with_first name left qs) (sym (from-index ps i p at)) ∙ so_far.parts));
}

pub IsGiven-end : (name : Bytes) (whole ps : List Property) (i : ℕ) (left : Option Bytes) (old new : Document) (copy : ℕ) → i ≡ length ps → IsGiven name whole (drop i ps) left old new copy → new ≡ with_more old copy whole
IsGiven-end name whole ps i left old new copy end so_far =
    so_far.given ∙ ap (with_more old copy) (sym (append-nil so_far.done) ∙ (ap (λ qs. so_far.done ++ with_first name left qs) (sym (ap (λ n. drop n ps) end ∙ from-end ps)) ∙ so_far.parts))

-- where nothing is given the properties are as they were
with_first-none : (name : Bytes) (ps : List Property) → with_first name None ps ≡ ps
with_first-none name [] = refl
with_first-none name (p ∷ ps) = ap (λ qs. p ∷ qs) (with_first-none name ps)

-- where the property is there it is set
with_first-some : (name bytes value : Bytes) (ps : List Property) → property_of ps name ≡ Some value → set_property name bytes ps ≡ with_first name (Some bytes) ps
with_first-some name bytes value [] is = absurd (cc)
with_first-some name bytes value (p ∷ ps) is = by (with_first-some name bytes value ps) (bytes_eq p.0 name) is
  where
    by : (property_of ps name ≡ Some value → set_property name bytes ps ≡ with_first name (Some bytes) ps) → (b : Bool) → cond b (Some p.1) (property_of ps name) ≡ Some value → cond b ((name, bytes) ∷ ps) (p ∷ set_property name bytes ps) ≡ cond b (name, bytes) p ∷ with_first name (cond b None (Some bytes)) ps
    by later true is = ap (λ qs. (name, bytes) ∷ qs) (sym (with_first-none name ps))
    by later false is = ap (λ qs. p ∷ qs) (later is)

-- the phandle is moved, where there is one
moved-first : (by : ℕ) (ps : List Property) → with_first (codes "phandle") (option_map (to_be_bytes w32) (moved_phandle by ps)) ps ≡ moved_properties by ps
moved-first by ps = sym (from (property_of ps (codes "phandle")) refl)
  where
    moved : List Property → Option ℕ → List Property
    moved qs o = option_map_or (λ phandle. set_property (codes "phandle") (to_be_bytes w32 (phandle + by)) qs) o qs

    given : List Property → Option ℕ → List Property
    given qs o = with_first (codes "phandle") (option_map (to_be_bytes w32) (option_map (λ phandle. phandle + by) o)) qs

    same : (value : Bytes) → property_of ps (codes "phandle") ≡ Some value → (o : Option ℕ) → moved ps o ≡ given ps o
    same value is None = sym (with_first-none (codes "phandle") ps)
    same value is (Some phandle) = with_first-some (codes "phandle") (to_be_bytes w32 (phandle + by)) value ps is

    from : (o : Option Bytes) → property_of ps (codes "phandle") ≡ o → moved ps (u32_in ps (codes "phandle")) ≡ given ps (u32_in ps (codes "phandle"))
    from None is = ap (λ (v : Option Bytes). moved ps (option_and_then cell v)) is ∙ (sym (with_first-none (codes "phandle") ps) ∙ sym (ap (λ (v : Option Bytes). given ps (option_and_then cell v)) is))
    from (Some value) is = same value is (u32_in ps (codes "phandle"))

-- the properties of a copy, by the phandle that was found for it
pub given-as : (by : ℕ) (ps : List Property) (phandle : Option ℕ) (d e : Document) (copy : ℕ) → phandle ≡ moved_phandle by ps → e ≡ with_more d copy (with_first (codes "phandle") (option_map (to_be_bytes w32) phandle) ps) → e ≡ with_more d copy (moved_properties by ps)
given-as by ps phandle d e copy is given =
    given ∙ ap (with_more d copy) (ap (λ (o : Option ℕ). with_first (codes "phandle") (option_map (to_be_bytes w32) o) ps) is ∙ moved-first by ps)

-- a phandle that is moved has still four bytes
pub moved-fits : (by phandle : ℕ) (ps : List Property) → Some phandle ≡ u32_in ps (codes "phandle") → IfSome (moved_phandle by ps) (λ moved. moved ≤ 4294967295) → phandle + by ≤ 4294967295
moved-fits by phandle ps at fits = subst (λ (o : Option ℕ). IfSome (option_map (λ number. number + by) o) (λ moved. moved ≤ 4294967295)) (sym at) fits

moved-joined : (by : ℕ) (ts us : Trees) → moved_in by (joined ts us) ≡ joined (moved_in by ts) (moved_in by us)
moved-joined by none us = refl
moved-joined by (tree n ps cs rest) us = ap (tree n (moved_properties by ps) (moved_in by cs)) (moved-joined by rest us)

-- what a walk over the children of a node has done: the children before the next one are copied
pub record IsCopied (by : ℕ) (source : Document) (node : ℕ) (next : Option ℕ) (old new : Document) (parent : ℕ) : Type 0 where
  pub before : Trees
  pub parts : children_of source node ≡ joined before (siblings_from source next)
  pub copies : Grows old new parent (moved_in by before)

pub IsCopied-start : (by : ℕ) (source : Document) (node : ℕ) (next : Option ℕ) (doc : Document) (parent : ℕ) → IsNumbering source → node < length source.places → option_map (λ n. place_of source n) next ≡ if_there source (place_of source node ++ 0 ∷ []) → IsCopied by source node next doc doc parent
IsCopied-start by source node next doc parent numbering live is = record {
  before = none;
  parts = sym (first-siblings source node next (numbering.stand node live) is);
  copies = Grows-nothing doc doc parent refl;
}

pub IsCopied-end : (by : ℕ) (source : Document) (node : ℕ) (next : Option ℕ) (old new : Document) (parent : ℕ) → next ≡ None → IsCopied by source node next old new parent → Grows old new parent (moved_in by (children_of source node))
IsCopied-end by source node next old new parent end so_far =
    let all : so_far.before ≡ children_of source node = sym (so_far.parts ∙ (ap (λ z. joined so_far.before (siblings_from source z)) end ∙ joined-none so_far.before)) in
    subst (λ (ts : Trees). Grows old new parent (moved_in by ts)) all so_far.copies

pub IsCopied-next : (by : ℕ) (source : Document) (node child : ℕ) (here next : Option ℕ) (old now added done : Document) (parent copy : ℕ) → IsNumbering source → IsNumbering now → child < length source.places → parent < length old.places → parent < length now.places → here ≡ Some child → option_map (λ n. place_of source n) next ≡ option_and_then (λ p. if_there source p) (next_place (place_of source child)) → added ≡ with_node now (place_of now parent) (name_of source child) (moved_properties by (properties_of source child)) → copy ≡ length now.places → Grows added done copy (moved_in by (children_of source child)) → IsCopied by source node here old now parent → IsCopied by source node next old done parent
IsCopied-next by source node child here next old now added done parent copy numbering fine live first_live now_live is following made newest below so_far =
    let n = name_of source child in
    let ps = properties_of source child in
    let cs = children_of source child in
    let one : Trees = tree n ps cs none in
    record {
      before = joined so_far.before one;
      parts = so_far.parts ∙ (ap (λ z. joined so_far.before (siblings_from source z)) is ∙ (ap (joined so_far.before) (node-siblings source child next (numbering.stand child live) following) ∙ sym (joined-twice so_far.before one (siblings_from source next))));
      copies = subst (λ (ts : Trees). Grows old done parent ts) (sym (moved-joined by so_far.before one)) (Grows-more old now done parent (moved_in by so_far.before) (moved_in by one) first_live so_far.copies (Grows-inside now added done parent copy n (moved_properties by ps) (moved_in by cs) fine now_live made newest below));
    }

-- a whole tree: the root with its properties, and then its children
whole : (start given done : Document) (root : ℕ) (ps : List Property) (ts : Trees) → start ≡ empty → place_of start root ≡ [] → given ≡ with_more start root ps → Grows given done root ts → done.tree ≡ record { name = []; properties = ps; children = ts }
whole start given done root ps ts fresh top has grown =
    let place : place_of given root ≡ [] = ap (λ (z : Document). place_of z root) has ∙ top in
    grown.tree ∙ (ap (edit (with_last_children ts) given.tree) place ∙ (ap (λ (z : Document). with_last_children ts z.tree) has ∙ (ap (λ p. with_last_children ts (edit (change_properties (λ qs. qs ++ ps)) start.tree p)) top ∙ ap (λ (z : Document). with_last_children ts (change_properties (λ qs. qs ++ ps) z.tree)) fresh)))

-- a copy of a whole tree is made
pub copy-made : (by : ℕ) (s start given done : Document) (from root : ℕ) (phandle : Option ℕ) → place_of s from ≡ [] → s.tree.name ≡ [] → phandle ≡ moved_phandle by (properties_of s from) → start ≡ empty → place_of start root ≡ [] → given ≡ with_more start root (with_first (codes "phandle") (option_map (to_be_bytes w32) phandle) (properties_of s from)) → Grows given done root (moved_in by (children_of s from)) → done.tree ≡ moved_tree by s.tree
copy-made by s start given done from root phandle stands unnamed is fresh top has grown =
    whole start given done root (moved_properties by (properties_of s from)) (moved_in by (children_of s from)) fresh top (given-as by (properties_of s from) phandle start given root is has) grown
    ∙ (ap (λ (p : Place). record { name = []; properties = moved_properties by (option_map_or (λ (n : Tree). n.properties) (at s.tree p) []); children = moved_in by (option_map_or (λ (n : Tree). n.children) (at s.tree p) none) }) stands
    ∙ ap (λ (n : Bytes). record { name = n; properties = moved_properties by s.tree.properties; children = moved_in by s.tree.children }) (sym unnamed))

-- a property is added to a copy, by the phandle that is still to be given
pub placed-none : (phandle : Option ℕ) (p : Property) (d e : Document) (copy : ℕ) → phandle ≡ None → e ≡ with_more d copy (p ∷ []) → e ≡ with_more d copy (placed (codes "phandle") (option_map (to_be_bytes w32) phandle) p ∷ [])
placed-none phandle p d e copy is added = added ∙ ap (λ (o : Option ℕ). with_more d copy (placed (codes "phandle") (option_map (to_be_bytes w32) o) p ∷ [])) (sym is)

pub placed-some : (phandle : Option ℕ) (number : ℕ) (name value bytes : Bytes) (d e : Document) (copy : ℕ) → phandle ≡ Some number → bytes_eq name (codes "phandle") ≡ true → bytes ≡ to_be_bytes w32 number → e ≡ with_more d copy ((codes "phandle", bytes) ∷ []) → e ≡ with_more d copy (placed (codes "phandle") (option_map (to_be_bytes w32) phandle) (name, value) ∷ [])
placed-some phandle number name value bytes d e copy is named spelled added =
    let new : Property = (codes "phandle", to_be_bytes w32 number) in
    let old : Property = (name, value) in
    added ∙ (ap (λ (b : Bytes). with_more d copy ((codes "phandle", b) ∷ [])) spelled ∙ (ap (λ (t : Bool). with_more d copy (cond t new old ∷ [])) (sym named) ∙ ap (λ (o : Option ℕ). with_more d copy (placed (codes "phandle") (option_map (to_be_bytes w32) o) old ∷ [])) (sym is)))

pub placed-other : (phandle : Option ℕ) (number : ℕ) (name value : Bytes) (d e : Document) (copy : ℕ) → phandle ≡ Some number → bytes_eq name (codes "phandle") ≡ false → e ≡ with_more d copy ((name, value) ∷ []) → e ≡ with_more d copy (placed (codes "phandle") (option_map (to_be_bytes w32) phandle) (name, value) ∷ [])
placed-other phandle number name value d e copy is named added =
    let new : Property = (codes "phandle", to_be_bytes w32 number) in
    let old : Property = (name, value) in
    added ∙ (ap (λ (t : Bool). with_more d copy (cond t new old ∷ [])) (sym named) ∙ ap (λ (o : Option ℕ). with_more d copy (placed (codes "phandle") (option_map (to_be_bytes w32) o) old ∷ [])) (sym is))
