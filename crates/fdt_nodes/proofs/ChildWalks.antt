-- From node to node: the first child and the next sibling are no root, and have greater numbers.
use Rattle.std.proofs.Common.{◌≡◌, ◌≢◌, ◌∙◌, sym, subst, refl, ℕ, ◌-◌, ◌<◌, [], ◌∷◌, ◌++◌, Option, Some, None, option_map, arith}
use Rattle.std.specs.Prelude.{option_and_then, IfSome}
use Rattle.fdt_tree.specs.Tree.{Tree, Place, at}
use Rattle.fdt_tree.specs.Document.{Document, place_of, next_place, if_there}

child-below : (d : Document) (q : Place) (o : Option Tree) (p : Place) → q ≢ [] → Some p ≡ option_map (λ _. q) o → p ≢ []
child-below d q None p ne is = absurd (cc)
child-below d q (Some u) p ne is = λ e. let same : p ≡ q = cc in ne (sym same ∙ e)

not-root : (p : Place) (k : ℕ) → p ++ k ∷ [] ≢ []
not-root [] k = λ e. absurd (cc)
not-root (j ∷ p) k = λ e. absurd (cc)

-- a child is not the root
pub first-below : (d : Document) (p : Place) (result : Option ℕ) → option_map (λ n. place_of d n) result ≡ if_there d (p ++ 0 ∷ []) → IfSome result (λ n. place_of d n ≢ [])
first-below d p None is = tt
first-below d p (Some n) is = child-below d (p ++ 0 ∷ []) (at d.tree (p ++ 0 ∷ [])) (place_of d n) (not-root p 0) is

next-some : (p q : Place) → next_place p ≡ Some q → q ≢ []
next-some [] q e = absurd (cc)
next-some (k ∷ []) q e = λ h. absurd (cc)
next-some (k ∷ j ∷ p) q e = by (next_place (j ∷ p)) e
  where
    by : (o : Option Place) → option_map (λ after. k ∷ after) o ≡ Some q → q ≢ []
    by None e = absurd (cc)
    by (Some after) e = λ h. absurd (cc)

-- nor is a sibling
pub next-below : (d : Document) (p : Place) (result : Option ℕ) → option_map (λ n. place_of d n) result ≡ option_and_then (λ q. if_there d q) (next_place p) → IfSome result (λ n. place_of d n ≢ [])
next-below d p None is = tt
next-below d p (Some n) is = by (next_place p) refl is
  where
    by : (o : Option Place) → next_place p ≡ o → Some (place_of d n) ≡ option_and_then (λ q. if_there d q) o → place_of d n ≢ []
    by None here is = absurd (cc)
    by (Some q) here is = child-below d q (at d.tree q) (place_of d n) (next-some p q here) is

-- the number after that of a child is greater than that of the node above
pub further : (here : Option ℕ) (node child : ℕ) (next : Option ℕ) → here ≡ Some child → IfSome here (λ n. node < n) → IfSome next (λ n. child < n) → IfSome next (λ n. node < n)
further None node child next is low high = absurd (cc)
further (Some n) node child None is low high = tt
further (Some n) node child (Some m) is low high = let same : n ≡ child = cc in omega arith

-- what is said of the next one, where there is one
pub held : (P : ℕ → Type 0) (here : Option ℕ) (child : ℕ) → here ≡ Some child → IfSome here P → P child
held P None child is h = absurd (cc)
held P (Some n) child is h = let same : n ≡ child = cc in subst P same h

-- how many numbers come after a node
abbrev pub numbers_after : ℕ → Option ℕ → ℕ
numbers_after count None = 0
numbers_after count (Some child) = count - child
