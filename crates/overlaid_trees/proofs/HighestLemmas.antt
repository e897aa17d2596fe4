-- No phandle of a tree is above the highest.
use Rattle.std.proofs.Common.{◌≡◌, ◌∙◌, ap, sym, subst, refl, ℕ, zero, suc, ◌+◌, ◌≤◌, max, fold, List, [], ◌∷◌, ◌++◌, Option, Some, None, option_map, map, arith}
use Rattle.std.specs.Prelude.{codes, IfSome}
use Rattle.std.specs.Option.{option_to_list, option_map_or}
use Rattle.fdt_tree.specs.Tree.{Property, Trees, none, tree, Tree, Place, at, at_in}
use Rattle.fdt_tree.specs.Document.{Document, properties_of, IsNumbering}
use Rattle.fdt_tree.specs.Phandles.{phandle_at, phandles_below, highest_phandle}
use Rattle.fdt_nodes.specs.Values.{u32_in}
use Rattle.tree_parts.proofs.Growing.{stands}
use Rattle.overlaid_trees.specs.PrivateCopies.{CanMove}

-- the greatest of a number and of phandles
abbrev top : ℕ → List (ℕ × Place) → ℕ
top least found = fold max least (map (λ (one : ℕ × Place). one.0) found)

top-grows : (found : List (ℕ × Place)) (least : ℕ) → least ≤ top least found
top-grows [] least = omega arith
top-grows (one ∷ found) least = let more = top-grows found (max least one.0) in omega (arith, more)

top-append : (xs ys : List (ℕ × Place)) (least : ℕ) → top least (xs ++ ys) ≡ top (top least xs) ys
top-append [] ys least = refl
top-append (x ∷ xs) ys least = top-append xs ys (max least x.0)

-- the phandle of a node is not above the greatest
own : (ps : List Property) (place : Place) (least phandle : ℕ) → u32_in ps (codes "phandle") ≡ Some phandle → phandle ≤ top least (phandle_at ps place)
own ps place least phandle is =
    subst (λ (o : Option ℕ). phandle ≤ top least (map (λ number. (number, place)) (option_to_list o))) (sym is) (above phandle)
  where
    above : (n : ℕ) → n ≤ max least n
    above n = omega arith

below : (ts : Trees) (place : Place) (number k : ℕ) (q : Place) (u : Tree) (least phandle : ℕ) → at_in ts k q ≡ Some u → u32_in u.properties (codes "phandle") ≡ Some phandle → phandle ≤ top least (phandles_below ts place number)
below none place number k q u least phandle there is = absurd (cc)
below (tree n ps cs rest) place number zero [] u least phandle there is =
    let here : record { name = n; properties = ps; children = cs } ≡ u = cc in
    let first = phandle_at ps (place ++ number ∷ []) in
    let second = phandles_below cs (place ++ number ∷ []) 0 in
    let third = phandles_below rest place (number + 1) in
    let one = own ps (place ++ number ∷ []) least phandle (ap (λ (v : Tree). u32_in v.properties (codes "phandle")) here ∙ is) in
    let later = top-grows (second ++ third) (top least first) in
    let whole = top-append first (second ++ third) least in
    omega (arith, one, later, whole)
below (tree n ps cs rest) place number zero (j ∷ q) u least phandle there is =
    let first = phandle_at ps (place ++ number ∷ []) in
    let second = phandles_below cs (place ++ number ∷ []) 0 in
    let third = phandles_below rest place (number + 1) in
    let one = below cs (place ++ number ∷ []) 0 j q u (top least first) phandle there is in
    let later = top-grows third (top (top least first) second) in
    let inner = top-append second third (top least first) in
    let whole = top-append first (second ++ third) least in
    omega (arith, one, later, inner, whole)
below (tree n ps cs rest) place number (suc k) q u least phandle there is =
    let first = phandle_at ps (place ++ number ∷ []) in
    let second = phandles_below cs (place ++ number ∷ []) 0 in
    let third = phandles_below rest place (number + 1) in
    let one = below rest place (number + 1) k q u (top (top least first) second) phandle there is in
    let inner = top-append second third (top least first) in
    let whole = top-append first (second ++ third) least in
    omega (arith, one, inner, whole)

-- the phandle of a node that stands somewhere
pub phandle-highest : (t : Tree) (q : Place) (u : Tree) (phandle : ℕ) → at t q ≡ Some u → u32_in u.properties (codes "phandle") ≡ Some phandle → phandle ≤ highest_phandle t
phandle-highest t [] u phandle there is =
    let here : t ≡ u = cc in
    let first = phandle_at t.properties [] in
    let second = phandles_below t.children [] 0 in
    let one = own t.properties [] 0 phandle (ap (λ (v : Tree). u32_in v.properties (codes "phandle")) here ∙ is) in
    let later = top-grows second (top 0 first) in
    let whole = top-append first second 0 in
    omega (arith, one, later, whole)
phandle-highest t (k ∷ q) u phandle there is =
    let first = phandle_at t.properties [] in
    let second = phandles_below t.children [] 0 in
    let one = below t.children [] 0 k q u (top 0 first) phandle there is in
    let whole = top-append first second 0 in
    omega (arith, one, whole)

-- all phandles can be moved where the highest can
pub can-move : (d : Document) (by : ℕ) → IsNumbering d → highest_phandle d.tree + by ≤ 4294967294 → CanMove d by
can-move d by numbering fits node live =
    let u = stands d node numbering live in
    each (u32_in (properties_of d node) (codes "phandle")) refl (λ phandle is. phandle-highest d.tree _ u.0 phandle u.1 (sym (ap (λ (o : Option Tree). u32_in (option_map_or (λ (v : Tree). v.properties) o []) (codes "phandle")) u.1) ∙ is))
  where
    each : (o : Option ℕ) → u32_in (properties_of d node) (codes "phandle") ≡ o → ((phandle : ℕ) → u32_in (properties_of d node) (codes "phandle") ≡ Some phandle → phandle ≤ highest_phandle d.tree) → IfSome (option_map (λ phandle. phandle + by) o) (λ moved. moved ≤ 4294967295)
    each None is within = tt
    each (Some phandle) is within = let low = within phandle is in omega (arith, low, fits)
