-- The first node in document order that has a phandle is the one before whose place none stands that has it.
use Rattle.std.proofs.Common.{◌≡◌, ◌∙◌, ap, sym, refl, ℕ, zero, suc, ◌+◌, ◌<◌, List, [], ◌∷◌, ◌++◌, Bool, true, false, cond, Option, Some, None, option_map, map, append_assoc, arith}
use Rattle.std.specs.Prelude.{codes, ◌==◌, option_and_then}
use Rattle.std.specs.Option.{option_to_list}
use Rattle.std.specs.Ordering.{nat_cmp, is_gt, ordering_then}
use Rattle.std.specs.Cmp.{nat_cmp_is}
use Rattle.std.specs.Cmp.Lexicographic.{slice_cmp}
use Rattle.std.specs.declared.cmp.Ordering.TheVariants.{Equal, Greater}
use Rattle.std.proofs.lemmas.Bool.{eq-eqb, eqb-true}
use Rattle.std.proofs.lemmas.Bool.Decides.{nat_tests}
use Rattle.fdt_tree.specs.Tree.{Property, Trees, none, tree, Tree, Place, at, at_in, cell, property_of}
use Rattle.fdt_tree.specs.Phandles.{phandle_of, phandle_at, phandles_below}
use Rattle.indexed_tree.specs.Lookups.{place_of_phandle}
use Rattle.indexed_tree.proofs.HolderLemmas.{first_with, find-append}

same-head : (k : ℕ) (xs ys : List ℕ) → slice_cmp nat_cmp (k ∷ xs) (k ∷ ys) ≡ slice_cmp nat_cmp xs ys
same-head k xs ys = ap (λ o. ordering_then o (slice_cmp nat_cmp xs ys)) (sym (nat_cmp_is k k Equal refl))

later-head : (j k : ℕ) (xs ys : List ℕ) → k < j → is_gt (slice_cmp nat_cmp (j ∷ xs) (k ∷ ys)) ≡ true
later-head j k xs ys h = ap (λ o. is_gt (ordering_then o (slice_cmp nat_cmp xs ys))) (sym (nat_cmp_is j k Greater h))

suc-heads : (j k : ℕ) → nat_cmp (suc j) (suc k) ≡ nat_cmp j k
suc-heads j k = grind (arith, nat_tests)

suc-head : (j k : ℕ) (xs ys : List ℕ) → slice_cmp nat_cmp (suc j ∷ xs) (suc k ∷ ys) ≡ slice_cmp nat_cmp (j ∷ xs) (k ∷ ys)
suc-head j k xs ys = ap (λ o. ordering_then o (slice_cmp nat_cmp xs ys)) (suc-heads j k)

wrong : (b : Bool) → b ≡ true → b ≡ false → ⊥
wrong b holds other = let both : true ≡ false = sym holds ∙ other in absurd (cc)

-- a node that has the phandle
own-hit : (ps : List Property) (place : Place) (p : ℕ) → phandle_of ps ≡ p ∷ [] → first_with p (phandle_at ps place) ≡ Some (p, place)
own-hit ps place p is =
    ap (λ (ns : List ℕ). first_with p (map (λ n. (n, place)) ns)) is ∙ ap (λ b. cond b (Some (p, place)) None) (eq-eqb p p refl)

-- one that has it not
own-miss : (ps : List Property) (place : Place) (p : ℕ) → (phandle_of ps ≡ p ∷ [] → ⊥) → first_with p (phandle_at ps place) ≡ None
own-miss ps place p other = by (option_and_then cell (property_of ps (codes "phandle"))) other
  where
    by : (o : Option ℕ) → (option_to_list o ≡ p ∷ [] → ⊥) → first_with p (map (λ n. (n, place)) (option_to_list o)) ≡ None
    by None other = refl
    by (Some n) other = test (n == p) refl
      where
        test : (b : Bool) → (n == p) ≡ b → cond {A = Option (ℕ × Place)} b (Some (n, place)) None ≡ None
        test true e = absurd (other (ap (λ m. m ∷ []) (eqb-true n p e)))
        test false e = refl

-- no node among the trees has it
abbrev NoneIn : Trees → ℕ → Type 0
NoneIn ts p = (k : ℕ) (r : Place) (v : Tree) → at_in ts k r ≡ Some v → phandle_of v.properties ≡ p ∷ [] → ⊥

below-none : (ts : Trees) (place : Place) (number p : ℕ) → NoneIn ts p → first_with p (phandles_below ts place number) ≡ None
below-none none place number p miss = refl
below-none (tree n ps cs rest) place number p miss =
    find-append p (phandle_at ps (place ++ number ∷ [])) (phandles_below cs (place ++ number ∷ []) 0 ++ phandles_below rest place (number + 1)) None (own-miss ps (place ++ number ∷ []) p (λ h. miss 0 [] (record { name = n; properties = ps; children = cs }) refl h))
    ∙ (find-append p (phandles_below cs (place ++ number ∷ []) 0) (phandles_below rest place (number + 1)) None (below-none cs (place ++ number ∷ []) 0 p (λ k r v e h. miss 0 (k ∷ r) v e h))
    ∙ below-none rest place (number + 1) p (λ k r v e h. miss (suc k) r v e h))

-- none that has it stands before a place among the trees
abbrev FirstIn : Trees → ℕ → Place → ℕ → Type 0
FirstIn ts k r p = (j : ℕ) (q : Place) (v : Tree) → at_in ts j q ≡ Some v → phandle_of v.properties ≡ p ∷ [] → is_gt (slice_cmp nat_cmp (k ∷ r) (j ∷ q)) ≡ false

below-first : (ts : Trees) (place : Place) (number k : ℕ) (r : Place) (u : Tree) (p : ℕ) → at_in ts k r ≡ Some u → phandle_of u.properties ≡ p ∷ [] → FirstIn ts k r p → first_with p (phandles_below ts place number) ≡ Some (p, place ++ (number + k) ∷ r)
below-first none place number k r u p there has least = absurd (cc)
below-first (tree n ps cs rest) place number zero [] u p there has least =
    let here : record { name = n; properties = ps; children = cs } ≡ u = cc in
    let own : phandle_of ps ≡ p ∷ [] = ap (λ (v : Tree). phandle_of v.properties) here ∙ has in
    let same : number ≡ number + 0 = omega arith in
    find-append p (phandle_at ps (place ++ number ∷ [])) (phandles_below cs (place ++ number ∷ []) 0 ++ phandles_below rest place (number + 1)) (Some (p, place ++ number ∷ [])) (own-hit ps (place ++ number ∷ []) p own)
    ∙ ap (λ m. Some (p, place ++ m ∷ [])) same
below-first (tree n ps cs rest) place number zero (j ∷ r) u p there has least =
    let one : 0 + j ≡ j = omega arith in
    let same : number ≡ number + 0 = omega arith in
    let found : Place = (place ++ number ∷ []) ++ (0 + j) ∷ r in
    find-append p (phandle_at ps (place ++ number ∷ [])) (phandles_below cs (place ++ number ∷ []) 0 ++ phandles_below rest place (number + 1)) None (own-miss ps (place ++ number ∷ []) p (λ h. wrong _ (ap is_gt (same-head 0 (j ∷ r) [])) (least 0 [] (record { name = n; properties = ps; children = cs }) refl h)))
    ∙ (find-append p (phandles_below cs (place ++ number ∷ []) 0) (phandles_below rest place (number + 1)) (Some (p, found)) (below-first cs (place ++ number ∷ []) 0 j r u p there has (λ i q v e h. sym (ap is_gt (same-head 0 (j ∷ r) (i ∷ q))) ∙ least 0 (i ∷ q) v e h))
    ∙ (ap (λ (q : Place). Some (p, q)) (append_assoc place (number ∷ []) ((0 + j) ∷ r)) ∙ (ap (λ m. Some (p, place ++ number ∷ m ∷ r)) one ∙ ap (λ m. Some (p, place ++ m ∷ j ∷ r)) same)))
below-first (tree n ps cs rest) place number (suc k) r u p there has least =
    let same : number + 1 + k ≡ number + suc k = omega arith in
    find-append p (phandle_at ps (place ++ number ∷ [])) (phandles_below cs (place ++ number ∷ []) 0 ++ phandles_below rest place (number + 1)) None (own-miss ps (place ++ number ∷ []) p (λ h. wrong _ (later-head (suc k) 0 r [] (omega arith)) (least 0 [] (record { name = n; properties = ps; children = cs }) refl h)))
    ∙ (find-append p (phandles_below cs (place ++ number ∷ []) 0) (phandles_below rest place (number + 1)) None (below-none cs (place ++ number ∷ []) 0 p (λ j q v e h. wrong _ (later-head (suc k) 0 r (j ∷ q) (omega arith)) (least 0 (j ∷ q) v e h)))
    ∙ (below-first rest place (number + 1) k r u p there has (λ j q v e h. sym (ap is_gt (suc-head k j r q)) ∙ least (suc j) q v e h)
    ∙ ap (λ m. Some (p, place ++ m ∷ r)) same))

-- none that has it stands before a place
abbrev pub IsFirst : Tree → Place → ℕ → Type 0
IsFirst t q p = (r : Place) (v : Tree) → at t r ≡ Some v → phandle_of v.properties ≡ p ∷ [] → is_gt (slice_cmp nat_cmp q r) ≡ false

pub first-held : (t : Tree) (q : Place) (u : Tree) (p : ℕ) → at t q ≡ Some u → phandle_of u.properties ≡ p ∷ [] → IsFirst t q p → place_of_phandle t p ≡ Some q
first-held t [] u p there has least =
    let here : t ≡ u = cc in
    let own : phandle_of t.properties ≡ p ∷ [] = ap (λ (v : Tree). phandle_of v.properties) here ∙ has in
    ap (option_map {U = Place} (λ (one : ℕ × Place). one.1)) (find-append p (phandle_at t.properties []) (phandles_below t.children [] 0) (Some (p, [])) (own-hit t.properties [] p own))
first-held t (k ∷ r) u p there has least =
    let one : 0 + k ≡ k = omega arith in
    ap (option_map {U = Place} (λ (one : ℕ × Place). one.1)) (find-append p (phandle_at t.properties []) (phandles_below t.children [] 0) None (own-miss t.properties [] p (λ h. wrong true refl (least [] t refl h))) ∙ below-first t.children [] 0 k r u p there has (λ j q v e h. least (j ∷ q) v e h))
    ∙ ap (λ m. Some (m ∷ r)) one

pub none-held : (t : Tree) (p : ℕ) → ((q : Place) (v : Tree) → at t q ≡ Some v → phandle_of v.properties ≡ p ∷ [] → ⊥) → place_of_phandle t p ≡ None
none-held t p miss =
    ap (option_map {U = Place} (λ (one : ℕ × Place). one.1)) (find-append p (phandle_at t.properties []) (phandles_below t.children [] 0) None (own-miss t.properties [] p (λ h. miss [] t refl h)) ∙ below-none t.children [] 0 p (λ k r v e h. miss (k ∷ r) v e h))
