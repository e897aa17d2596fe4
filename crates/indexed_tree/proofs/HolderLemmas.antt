-- The first node that has a phandle, found on a walk.
use Rattle.std.proofs.Common.{◌≡◌, ◌∙◌, ap, sym, subst, refl, ℕ, List, [], ◌∷◌, ◌++◌, Bool, true, false, cond, Option, Some, None, option_map, map, flat_map}
use Rattle.std.specs.Prelude.{find, All, ◌==◌, codes}
use Rattle.fdt_tree.specs.Tree.{Place}
use Rattle.fdt_tree.specs.Document.{Document, place_of, properties_of}
use Rattle.fdt_tree.specs.Phandles.{phandle_places}
use Rattle.fdt_tree.specs.Visits.{visits, seen, IsLive}
use Rattle.fdt_tree.specs.PrivateFound.{given}
use Rattle.fdt_tree.specs.declared.walk.Visit.{Visit}
use Rattle.fdt_tree.specs.declared.walk.Visit.TheVariants.{Enter}
use Rattle.fdt_nodes.specs.Values.{u32_in}
use Rattle.std.proofs.lemmas.Bool.{eq-eqb, eqb-true}
use Rattle.std.specs.Option.{option_to_list}
use Rattle.fdt_tree.proofs.PhandleLemmas.{found-none, later-live}
use Rattle.indexed_tree.specs.Lookups.{place_of_phandle}

-- the first with a phandle
abbrev pub first_with : ℕ → List (ℕ × Place) → Option (ℕ × Place)
first_with phandle held = find (λ (one : ℕ × Place). one.0 == phandle) held

-- the node with the phandle, if any has it, is among those that the walk has still to pass
pub record IsSearched (d : Document) (phandle : ℕ) (left : List Visit) : Type 0 where
  pub rest : first_with phandle (phandle_places d.tree) ≡ first_with phandle (flat_map (given d) left)
  pub live : All (IsLive d) left

pub IsSearched-start : (d : Document) (phandle : ℕ) (left : List Visit) → map (seen d) left ≡ visits d.tree → All (IsLive d) left → IsSearched d phandle left
IsSearched-start d phandle left are live = record {
  rest = ap (first_with phandle) ((found-none d left are live).whole);
  live = live;
}

pub find-append : (phandle : ℕ) (xs ys : List (ℕ × Place)) (found : Option (ℕ × Place)) → first_with phandle xs ≡ found → first_with phandle (xs ++ ys) ≡ elim found [ Some x ↦ Some x | None ↦ first_with phandle ys ]
find-append phandle [] ys found is = ap (λ (o : Option (ℕ × Place)). elim o [ Some x ↦ Some x | None ↦ first_with phandle ys ]) is
find-append phandle (x ∷ xs) ys found is = by (find-append phandle xs ys found) (x.0 == phandle) is
  where
    by : (first_with phandle xs ≡ found → first_with phandle (xs ++ ys) ≡ elim found [ Some x ↦ Some x | None ↦ first_with phandle ys ]) → (b : Bool) → cond b (Some x) (first_with phandle xs) ≡ found → cond b (Some x) (first_with phandle (xs ++ ys)) ≡ elim found [ Some x ↦ Some x | None ↦ first_with phandle ys ]
    by later true is = ap (λ (o : Option (ℕ × Place)). elim o [ Some x ↦ Some x | None ↦ first_with phandle ys ]) is
    by later false is = later is

-- the walk passes a node that has another, or none
pub IsSearched-next : (d : Document) (phandle : ℕ) (visit : Visit) (all left : List Visit) → all ≡ visit ∷ left → None ≡ first_with phandle (given d visit) → IsSearched d phandle all → IsSearched d phandle left
IsSearched-next d phandle visit all left is none so_far = record {
  rest = so_far.rest ∙ (ap (λ vs. first_with phandle (flat_map (given d) vs)) is ∙ find-append phandle (given d visit) (flat_map (given d) left) None (sym none));
  live = later-live d visit left (subst (λ xs. All (IsLive d) xs) is so_far.live);
}

-- the walk comes to a node that has it
pub IsSearched-found : (d : Document) (phandle node : ℕ) (visit : Visit) (all left : List Visit) → all ≡ visit ∷ left → Some (phandle, place_of d node) ≡ first_with phandle (given d visit) → IsSearched d phandle all → Some (place_of d node) ≡ place_of_phandle d.tree phandle
IsSearched-found d phandle node visit all left is found so_far =
    let held : ℕ × Place = (phandle, place_of d node) in
    sym (ap (option_map {U = Place} (λ (one : ℕ × Place). one.1)) (so_far.rest ∙ (ap (λ vs. first_with phandle (flat_map (given d) vs)) is ∙ find-append phandle (given d visit) (flat_map (given d) left) (Some held) (sym found))))

-- the walk came to its end
pub IsSearched-end : (d : Document) (phandle : ℕ) (left : List Visit) → left ≡ [] → IsSearched d phandle left → None ≡ place_of_phandle d.tree phandle
IsSearched-end d phandle left end so_far =
    sym (ap (option_map {U = Place} (λ (one : ℕ × Place). one.1)) (so_far.rest ∙ ap (λ vs. first_with phandle (flat_map (given d) vs)) end))

other-test : (a b : ℕ) → (a ≡ b → ⊥) → (a == b) ≡ false
other-test a b ne = by (a == b) refl
  where
    by : (t : Bool) → (a == b) ≡ t → (a == b) ≡ false
    by true e = absurd (ne (eqb-true a b e))
    by false e = e

module _ (d : Document) (visit : Visit) (node phandle : ℕ) (is : visit ≡ Enter node) where
  abbrev searched : Option ℕ → Option (ℕ × Place)
  searched own = first_with phandle (map (λ number. (number, place_of d node)) (option_to_list own))

  -- a node that is entered has no phandle, another, or the one that is looked for
  pub holder-none : None ≡ u32_in (properties_of d node) (codes "phandle") → None ≡ first_with phandle (given d visit)
  holder-none own = sym (ap (λ v. first_with phandle (given d v)) is ∙ ap searched (sym own))

  pub holder-other : (number : ℕ) → Some number ≡ u32_in (properties_of d node) (codes "phandle") → (number ≡ phandle → ⊥) → None ≡ first_with phandle (given d visit)
  holder-other number own other =
      sym (ap (λ v. first_with phandle (given d v)) is ∙ (ap searched (sym own) ∙ ap (λ b. cond b (Some (number, place_of d node)) None) (other-test number phandle other)))

  pub holder-some : (number : ℕ) → Some number ≡ u32_in (properties_of d node) (codes "phandle") → number ≡ phandle → Some (phandle, place_of d node) ≡ first_with phandle (given d visit)
  holder-some number own same =
      sym (ap (λ v. first_with phandle (given d v)) is ∙ (ap searched (sym own) ∙ (ap (λ b. cond b (Some (number, place_of d node)) None) (eq-eqb number phandle same) ∙ ap (λ n. Some (n, place_of d node)) same)))
