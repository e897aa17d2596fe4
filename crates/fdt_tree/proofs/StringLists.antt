-- The strings of a list of strings.
use Rattle.std.proofs.Common.{◌≡◌, ℕ, ◌<◌, ◌==◌, ◌||◌, List, [], ◌∷◌, length, refl, ap, ◌∙◌, arith}
use Rattle.std.specs.Prelude.{bytes_eq}
use Rattle.std.specs.List.{slice_split, list_any}
use Rattle.std.proofs.lemmas.List.Splits.{length-slice_split}
use Rattle.fdt_tree.specs.Tree.{Bytes}
use Rattle.fdt_tree.specs.Values.{all_but_last, has_text}

pub all_but_last-cons : (x : Bytes) (xs : List Bytes) → 0 < length xs → all_but_last (x ∷ xs) ≡ x ∷ all_but_last xs
all_but_last-cons x [] h = absurd (omega arith)
all_but_last-cons x (y ∷ xs) h = refl

-- The text is among strings where it is the first of them, or among those after it.
pub has_text-cons : (bytes string after text : Bytes) → slice_split (λ b. b == 0) bytes ≡ string ∷ slice_split (λ b. b == 0) after → has_text bytes text ≡ (bytes_eq string text || has_text after text)
has_text-cons bytes string after text e =
    ap (λ parts. list_any (λ s. bytes_eq s text) (all_but_last parts)) e ∙ ap (list_any (λ s. bytes_eq s text)) (all_but_last-cons string (slice_split (λ b. b == 0) after) (omega (arith, length-slice_split (λ (b : ℕ). b == 0) after)))
