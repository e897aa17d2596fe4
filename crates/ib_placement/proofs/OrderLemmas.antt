-- The files of guests, guest after guest.
use Rattle.std.proofs.Common.{◌≡◌, ℕ, ◌+◌, ◌<◌, List, [], ◌∷◌, ◌++◌, length, take, get_or, slice_get, Some, None, refl, ◌∙◌, ap, append_assoc, append-nil}
use Rattle.std.specs.Prelude.{Option, option_map}
use Rattle.std.specs.List.{flat_map}
use Rattle.std.proofs.lemmas.List.{take_more}
use Rattle.std.proofs.lemmas.Grind.{flat_map-append}
use Rattle.std.proofs.lemmas.Option.{slice_get-get_or}

-- one guest more
pub guests_on : {G A : Type 0} (f : G → List A) (start old new : List A) (guests : List G) (i : ℕ) → i < length guests → old ≡ start ++ flat_map f (take i guests)
    → option_map (λ g. old ++ f g) (slice_get guests i) ≡ Some new → new ≡ start ++ flat_map f (take (i + 1) guests)
guests_on {G = G} f start old new guests i below so_far is = by (slice_get guests i) refl
  where
    by : (o : Option G) → slice_get guests i ≡ o → new ≡ start ++ flat_map f (take (i + 1) guests)
    by None found = absurd (let none : option_map (λ g. old ++ f g) (slice_get guests i) ≡ None = rw found refl in cc)
    by (Some g) found =
        let some : option_map (λ g. old ++ f g) (slice_get guests i) ≡ Some (old ++ f g) = rw found refl in
        let there : slice_get guests i ≡ Some (get_or guests i g) = slice_get-get_or guests i g below in
        let same : get_or guests i g ≡ g = cc in
        let new_is : new ≡ old ++ f g = cc in
        let more : take (i + 1) guests ≡ take i guests ++ g ∷ [] = take_more guests i g below ∙ ap (λ x. take i guests ++ x ∷ []) same in
        new_is ∙ rw (more, flat_map-append f (take i guests) (g ∷ []), append-nil (f g), so_far) (append_assoc start (flat_map f (take i guests)) (f g))
