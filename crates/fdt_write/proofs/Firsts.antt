-- The names of the strings block are the names of all properties.
use Rattle.std.proofs.Common.{◌≡◌, true, false, cond, List, [], ◌∷◌, ◌⊎◌, inl, inr, ⊎_elim, refl, sym, ap, ◌∙◌}
use Rattle.std.specs.Str.{bytes_eq}
use Rattle.std.proofs.lemmas.Bool.{or_cases, or_left, or_right}
use Rattle.std.proofs.lemmas.Slice.Eq.{bytes_eq-Decides}
use Rattle.fdt_tree.specs.Tree.{Bytes}
use Rattle.fdt_write.specs.Strings.{is_among, firsts}

-- What is among the names is among the first ones, or was seen.
pub among-firsts : (seen names : List Bytes) (name : Bytes) → is_among names name ≡ true → (is_among (firsts seen names) name ≡ true) ⊎ (is_among seen name ≡ true)
among-firsts seen [] name among = absurd (cc)
among-firsts seen (first ∷ rest) name among =
    elim (is_among seen first) as (λ known. is_among seen first ≡ known → (is_among (cond known (firsts seen rest) (first ∷ firsts (first ∷ seen) rest)) name ≡ true) ⊎ (is_among seen name ≡ true)) [
      | true ↦ λ e. ⊎_elim (λ same. inr (ap (is_among seen) (sym ((bytes_eq-Decides first name).0 same)) ∙ e)) (λ others. among-firsts seen rest name others) (or_cases (bytes_eq first name) (is_among rest name) among)
      | false ↦ λ e. ⊎_elim (λ same. inl (or_left (bytes_eq first name) _ same)) (λ others. ⊎_elim (λ found. inl (or_right (bytes_eq first name) _ found)) (λ met. ⊎_elim (λ same. inl (or_left (bytes_eq first name) _ same)) (λ before. inr before) (or_cases (bytes_eq first name) (is_among seen name) met)) (among-firsts (first ∷ seen) rest name others)) (or_cases (bytes_eq first name) (is_among rest name) among)
    ] refl

pub among-all : (names : List Bytes) (name : Bytes) → is_among names name ≡ true → is_among (firsts [] names) name ≡ true
among-all names name among = ⊎_elim (λ found. found) (λ none. absurd (cc)) (among-firsts [] names name among)
