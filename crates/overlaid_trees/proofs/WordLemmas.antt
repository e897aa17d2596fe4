-- Words that are moved, one after the other.
use Rattle.std.proofs.Common.{◌≡◌, ap, refl, ℕ, ◌<◌, length, List, [], ◌∷◌, Option, Some, None, option_map, arith}
use Rattle.std.specs.Prelude.{option_and_then}
use Rattle.std.specs.Int.{w32, from_be_bytes}
use Rattle.fdt_tree.specs.Tree.{Bytes}
use Rattle.overlaid_trees.specs.Turns.{all}
use Rattle.overlaid_trees.specs.Words.{with_moved, words, with_all_moved}

-- a word that is moved
pub turn-some : (by a b c d : ℕ) (later made next : Bytes) → with_moved by made (from_be_bytes w32 (a ∷ b ∷ c ∷ d ∷ [])) ≡ Some next → with_all_moved by (a ∷ b ∷ c ∷ d ∷ later) made ≡ with_all_moved by later next
turn-some by a b c d later made next is = go (words later)
  where
    go : (numbers : Option (List ℕ)) → option_and_then (all (with_moved by) made) (option_map (λ ns. from_be_bytes w32 (a ∷ b ∷ c ∷ d ∷ []) ∷ ns) numbers) ≡ option_and_then (all (with_moved by) next) numbers
    go None = refl
    go (Some numbers) = ap (λ o. elim o [ Some state ↦ all (with_moved by) state numbers | None ↦ None ]) is

-- a word that is not
pub turn-none : (by a b c d : ℕ) (later made : Bytes) → with_moved by made (from_be_bytes w32 (a ∷ b ∷ c ∷ d ∷ [])) ≡ None → with_all_moved by (a ∷ b ∷ c ∷ d ∷ later) made ≡ None
turn-none by a b c d later made is = go (words later)
  where
    go : (numbers : Option (List ℕ)) → option_and_then (all (with_moved by) made) (option_map (λ ns. from_be_bytes w32 (a ∷ b ∷ c ∷ d ∷ []) ∷ ns) numbers) ≡ None
    go None = refl
    go (Some numbers) = ap (λ o. elim o [ Some state ↦ all (with_moved by) state numbers | None ↦ None ]) is

-- no offset is left
pub at-end : (by : ℕ) (rest made : Bytes) → length rest ≡ 0 → with_all_moved by rest made ≡ Some made
at-end by [] made is = refl
at-end by (a ∷ rest) made is = absurd (cc)

-- bytes are left that are no offset
pub left-over : (by : ℕ) (rest made : Bytes) → length rest < 4 → 0 < length rest → with_all_moved by rest made ≡ None
left-over by [] made short some = absurd (omega arith)
left-over by (a ∷ []) made short some = refl
left-over by (a ∷ b ∷ []) made short some = refl
left-over by (a ∷ b ∷ c ∷ []) made short some = refl
left-over by (a ∷ b ∷ c ∷ d ∷ rest) made short some = absurd (omega arith)
