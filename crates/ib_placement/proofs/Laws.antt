-- What the places of files have in common.
use Rattle.std.proofs.Common.{◌≡◌, ℕ, suc, ◌+◌, ◌^◌, ◌<◌, ◌≤◌, ◌%◌, inl, inr, true, List, [], ◌∷◌, get_or, length, map, Some, None, Ok, Err, refl, sym, ap, subst, arith}
use Rattle.std.specs.Prelude.{Option, Result, IfOk, nat_lt, find}
use Rattle.std.specs.Option.{option_map_or}
use Rattle.std.specs.List.{list_all}
use Rattle.std.proofs.lemmas.Bool.{cases_Bool}
use Rattle.std.proofs.lemmas.Bool.Decides.{nat_tests}
use Rattle.ib_config.specs.declared.settings.Settings.{Settings}
use Rattle.ib_placement.specs.Apart.{LieBetween}
use Rattle.ib_placement.specs.declared.places.FilePlace.{FilePlace}
use Rattle.ib_placement.specs.declared.places.PlaceFault.{PlaceFault}
use Rattle.ib_placement.specs.declared.places.PlaceFault.TheVariants.{PastEnd}
use Rattle.ib_placement.specs.Placement.{round_up, counted, room_of, files_of, end_of, placed, placed_from, places_below, places_of, is_wide, Gives}

-- the places without their ends
abbrev without_ends : List (FilePlace × ℕ) → List FilePlace
without_ends all = map (λ one. one.0) all

-- the places that were not refused
accepted : (limit : ℕ) (all : List (FilePlace × ℕ)) (places : List FilePlace) → places_below limit all ≡ Ok places → places ≡ without_ends all
accepted limit all places is = by (find (λ one. nat_lt limit one.1) all) is
  where
    by : (found : Option (FilePlace × ℕ)) → option_map_or (λ one. Err (PastEnd one.0.name one.1)) found (Ok (without_ends all)) ≡ Ok places → places ≡ without_ends all
    by None given = cc
    by (Some one) given = absurd (cc)

-- what is placed are the names, with the sizes
names_from : (before : ℕ) (names : List (List ℕ)) (sizes : List ℕ) → length sizes ≡ length names → map (λ (p : FilePlace). p.name) (without_ends (placed_from before names sizes)) ≡ names
names_from before [] sizes same = refl
names_from before (name ∷ names) [] same = absurd (omega arith)
names_from before (name ∷ names) (size ∷ sizes) same = ap (λ xs. name ∷ xs) (names_from (end_of before names size) names sizes (omega arith))

sizes_from : (before : ℕ) (names : List (List ℕ)) (sizes : List ℕ) → length sizes ≡ length names → map (λ (p : FilePlace). p.size) (without_ends (placed_from before names sizes)) ≡ sizes
sizes_from before [] [] same = refl
sizes_from before [] (size ∷ sizes) same = absurd (omega arith)
sizes_from before (name ∷ names) [] same = absurd (omega arith)
sizes_from before (name ∷ names) (size ∷ sizes) same = ap (λ xs. size ∷ xs) (sizes_from (end_of before names size) names sizes (omega arith))

-- the places are those of the configuration's files, in their order
pub places_named : (settings : Settings) (sizes : List ℕ) (places : List FilePlace) → length sizes ≡ length (files_of settings) → places_of settings sizes ≡ Ok places
    → map (λ (p : FilePlace). p.name) places ≡ files_of settings
unfolding places_of
places_named settings sizes places same is = rw (accepted settings.memory_end (placed settings sizes) places is) (names_from _ (files_of settings) sizes same)

-- each place has the size that was handed in
pub places_sized : (settings : Settings) (sizes : List ℕ) (places : List FilePlace) → length sizes ≡ length (files_of settings) → places_of settings sizes ≡ Ok places
    → map (λ (p : FilePlace). p.size) places ≡ sizes
unfolding places_of
places_sized settings sizes places same is = rw (accepted settings.memory_end (placed settings sizes) places is) (sizes_from _ (files_of settings) sizes same)

-- the room of a file is at least what its size counts
room_above : (later : List (List ℕ)) (size : ℕ) → counted size ≤ room_of later size
room_above [] size = omega arith
room_above (next ∷ later) size = omega arith

-- rounding up does not go below, and comes to a multiple of 2 MiB
round_up_above : (address : ℕ) → address ≤ round_up address
round_up_above address = omega arith

round_up_multiple : (address : ℕ) → round_up address % 0x200000 ≡ 0
round_up_multiple address = omega arith

-- the first is not past the limit, and so are those that follow
none_past : (limit : ℕ) (one : FilePlace × ℕ) (later : List (FilePlace × ℕ)) → find (λ one. nat_lt limit one.1) (one ∷ later) ≡ None
    → (one.1 ≤ limit) × (find (λ one. nat_lt limit one.1) later ≡ None)
none_past limit one later none = elim (cases_Bool (nat_lt limit one.1)) [
  | inl past ↦ absurd (let some : find (λ one. nat_lt limit one.1) (one ∷ later) ≡ Some one = rw past refl in cc)
  | inr below ↦
      let rest : find (λ one. nat_lt limit one.1) (one ∷ later) ≡ find (λ one. nat_lt limit one.1) later = rw below refl in
      (grind (arith, nat_tests), cc)
]

-- files that end at or below a limit lie one behind the other
lie_from : (low before limit : ℕ) (names : List (List ℕ)) (sizes : List ℕ) → low ≤ before → find (λ one. nat_lt limit one.1) (placed_from before names sizes) ≡ None
    → LieBetween low limit (without_ends (placed_from before names sizes))
lie_from low before limit [] sizes above none = tt
lie_from low before limit (name ∷ names) [] above none = tt
lie_from low before limit (name ∷ names) (size ∷ sizes) above none =
    let rest = none_past limit (record { name = name; address = round_up before; size = size }, end_of before names size) (placed_from (end_of before names size) names sizes) none in
    let high : round_up before + counted size ≤ end_of before names size = omega (arith, room_above names size) in
    let up : before ≤ round_up before = round_up_above before in
    (omega arith, round_up_multiple before, omega (arith, rest.0), lie_from (round_up before + counted size) (end_of before names size) limit names sizes high rest.1)

-- the places lie one behind the other, from 2 MiB above MEMORY_START to MEMORY_END
pub places_apart : (settings : Settings) (sizes : List ℕ) (places : List FilePlace) → places_of settings sizes ≡ Ok places
    → LieBetween (settings.memory_start + 0x200000) settings.memory_end places
unfolding places_of
places_apart settings sizes places is = by (find (λ one. nat_lt settings.memory_end one.1) (placed settings sizes)) refl is
  where
    by : (found : Option (FilePlace × ℕ)) → find (λ one. nat_lt settings.memory_end one.1) (placed settings sizes) ≡ found
        → option_map_or (λ one. Err (PastEnd one.0.name one.1)) found (Ok (without_ends (placed settings sizes))) ≡ Ok places → LieBetween (settings.memory_start + 0x200000) settings.memory_end places
    by None none given =
        let same : without_ends (placed settings sizes) ≡ places = cc in
        rw (← same) (lie_from (settings.memory_start + 0x200000) (settings.memory_start + 0x200000) settings.memory_end (files_of settings) sizes (omega arith) none)
    by (Some one) some given = absurd (cc)

-- the addresses of places below a limit and sizes of 64 bits are wide
wide_from : (low high : ℕ) (places : List FilePlace) → high < 2 ^ 64 → LieBetween low high places → ((k : ℕ) → get_or (map (λ (p : FilePlace). p.size) places) k 0 < 2 ^ 64) → list_all is_wide places ≡ true
wide_from low high [] fits lie each = refl
wide_from low high (p ∷ ps) fits lie each =
    let size : nat_lt p.size (2 ^ 64) ≡ true = small p.size (each 0) in
    let address : nat_lt p.address (2 ^ 64) ≡ true = small p.address (omega (arith, lie.2)) in
    rw (address, size, wide_from (p.address + counted p.size) high ps fits lie.3 (λ k. each (suc k))) refl
  where
    small : (n : ℕ) → n < 2 ^ 64 → nat_lt n (2 ^ 64) ≡ true
    small n less = grind (arith, nat_tests)

-- the same of what a call answered
pub answer_wide : (settings : Settings) (sizes : List ℕ) (answer : Result (List FilePlace) PlaceFault) → length sizes ≡ length (files_of settings) → settings.memory_end < 2 ^ 64 → ((k : ℕ) → get_or sizes k 0 < 2 ^ 64) → Gives answer (places_of settings sizes)
    → IfOk answer (λ places. list_all is_wide places ≡ true)
answer_wide settings sizes (Ok places) same fits each gives =
    wide_from (settings.memory_start + 0x200000) settings.memory_end places fits (places_apart settings sizes places gives)
    (λ k. subst (λ xs. get_or xs k 0 < 2 ^ 64) (sym (places_sized settings sizes places same gives)) (each k))
answer_wide settings sizes (Err fault) same fits each gives = tt

pub answer_named : (settings : Settings) (sizes : List ℕ) (answer : Result (List FilePlace) PlaceFault) → length sizes ≡ length (files_of settings) → Gives answer (places_of settings sizes)
    → IfOk answer (λ places. map (λ (p : FilePlace). p.name) places ≡ files_of settings)
answer_named settings sizes (Ok places) same gives = places_named settings sizes places same gives
answer_named settings sizes (Err fault) same gives = tt

pub answer_sized : (settings : Settings) (sizes : List ℕ) (answer : Result (List FilePlace) PlaceFault) → length sizes ≡ length (files_of settings) → Gives answer (places_of settings sizes)
    → IfOk answer (λ places. map (λ (p : FilePlace). p.size) places ≡ sizes)
answer_sized settings sizes (Ok places) same gives = places_sized settings sizes places same gives
answer_sized settings sizes (Err fault) same gives = tt

pub answer_apart : (settings : Settings) (sizes : List ℕ) (answer : Result (List FilePlace) PlaceFault) → Gives answer (places_of settings sizes)
    → IfOk answer (λ places. LieBetween (settings.memory_start + 0x200000) settings.memory_end places)
answer_apart settings sizes (Ok places) gives = places_apart settings sizes places gives
answer_apart settings sizes (Err fault) gives = tt
