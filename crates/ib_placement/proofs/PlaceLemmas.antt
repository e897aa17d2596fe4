-- Files that are placed one after the other.
use Rattle.std.proofs.Common.{◌≡◌, ℕ, ◌+◌, ◌<◌, ◌≤◌, ◌==◌, Bool, true, false, List, [], ◌∷◌, ◌++◌, length, map, drop, get_or, Some, None, Ok, Err, refl, sym, ◌∙◌, ap, append_assoc, append-nil, arith}
use Rattle.std.specs.Prelude.{Option, Result, nat_lt, find}
use Rattle.std.specs.Option.{option_map_or}
use Rattle.std.proofs.lemmas.List.{drop_more}
use Rattle.std.proofs.lemmas.Bool.Decides.{nat_tests}
use Rattle.ib_placement.specs.Placement.{round_up, counted, room_of, end_of, placed_from, places_below}
use Rattle.ib_placement.specs.declared.places.FilePlace.{FilePlace}
use Rattle.ib_placement.specs.declared.places.PlaceFault.{PlaceFault}
use Rattle.ib_placement.specs.declared.places.PlaceFault.TheVariants.{PastEnd}

-- the places so far, and those that follow, if no file is refused
abbrev pub onto : List FilePlace → Result (List FilePlace) PlaceFault → Result (List FilePlace) PlaceFault
onto before (Ok later) = Ok (before ++ later)
onto before (Err fault) = Err fault

onto-append : (xs ys : List FilePlace) (r : Result (List FilePlace) PlaceFault) → onto xs (onto ys r) ≡ onto (xs ++ ys) r
onto-append xs ys (Ok later) = ap (λ zs. Ok zs) (sym (append_assoc xs ys later))
onto-append xs ys (Err fault) = refl

-- the first file ends past the limit
first_past : (limit : ℕ) (one : FilePlace × ℕ) (later : List (FilePlace × ℕ)) → limit < one.1 → places_below limit (one ∷ later) ≡ Err (PastEnd one.0.name one.1)
first_past limit one later past = let test : nat_lt limit one.1 ≡ true = grind (arith, nat_tests) in rw test refl

-- what was found in the files after the first is found in all, and the first place comes before theirs
join : (first : FilePlace) (places : List FilePlace) (found : Option (FilePlace × ℕ)) → option_map_or (λ one. Err (PastEnd one.0.name one.1)) found (Ok (first ∷ places))
    ≡ onto (first ∷ []) (option_map_or (λ one. Err (PastEnd one.0.name one.1)) found (Ok places))
join first places None = refl
join first places (Some one) = refl

-- the first file ends below the limit
first_below : (limit : ℕ) (one : FilePlace × ℕ) (later : List (FilePlace × ℕ)) → one.1 ≤ limit → places_below limit (one ∷ later) ≡ onto (one.0 ∷ []) (places_below limit later)
first_below limit one later below =
    let test : nat_lt limit one.1 ≡ false = grind (arith, nat_tests) in
    rw test (join one.0 (map (λ one. one.0) later) (find (λ one. nat_lt limit one.1) later))

-- the room of a file, which is the last or not
pub room_is : (later : List (List ℕ)) (size room : ℕ) (is_last : Bool) → is_last ≡ (length later == 0) → (is_last ≡ true → room ≡ counted size + 0x80000)
    → (is_last ≡ false → room ≡ counted size) → room ≡ room_of later size
room_is [] size room is_last is last earlier = last is
room_is (next ∷ later) size room is_last is last earlier = let more : (length (next ∷ later) == 0) ≡ false = grind (arith, nat_tests) in earlier (is ∙ more)

-- the files from one on
module _ (limit : ℕ) (all : Result (List FilePlace) PlaceFault) (places : List FilePlace) (before end : ℕ) (name : List ℕ) (names later : List (List ℕ)) (size : ℕ) (sizes : List ℕ) (i : ℕ)
    (so_far : all ≡ onto places (places_below limit (placed_from before names (drop i sizes)))) (name_is : names ≡ name ∷ later) (within : i < length sizes)
    (size_is : size ≡ get_or sizes i 0) (end_is : end ≡ end_of before later size) where
  first : FilePlace × ℕ
  first = (record { name = name; address = round_up before; size = size }, end)

  from_first : placed_from before names (drop i sizes) ≡ first ∷ placed_from end later (drop (i + 1) sizes)
  unfolding first
  from_first =
      let more : drop i sizes ≡ size ∷ drop (i + 1) sizes = drop_more sizes i 0 within ∙ ap (λ x. x ∷ drop (i + 1) sizes) (sym size_is) in
      rw (name_is, more, end_is) refl

  pub place_past : limit < end → all ≡ Err (PastEnd name end)
  unfolding first
  place_past past = so_far ∙ rw from_first (rw (first_past limit first (placed_from end later (drop (i + 1) sizes)) past) refl)

  pub place_on : (new : List FilePlace) → end ≤ limit → new ≡ places ++ record { name = name; address = round_up before; size = size } ∷ []
      → all ≡ onto new (places_below limit (placed_from end later (drop (i + 1) sizes)))
  unfolding first
  place_on new below new_is = so_far ∙ rw (from_first, first_below limit first (placed_from end later (drop (i + 1) sizes)) below, new_is)
      (onto-append places (first.0 ∷ []) (places_below limit (placed_from end later (drop (i + 1) sizes))))

pub places_end : (limit : ℕ) (all : Result (List FilePlace) PlaceFault) (places : List FilePlace) (before : ℕ) (names : List (List ℕ)) (sizes : List ℕ)
    → all ≡ onto places (places_below limit (placed_from before names sizes)) → length names ≡ 0 → all ≡ Ok places
places_end limit all places before [] sizes so_far none = so_far ∙ ap (λ xs. Ok xs) (append-nil places)
places_end limit all places before (name ∷ names) sizes so_far none = absurd (omega arith)
