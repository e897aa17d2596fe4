-- Files that stand in a list of bytes stay where they are as more is added behind them.
use Rattle.std.proofs.Common.{◌≡◌, refl, ℕ, zero, suc, ◌<◌, get_or, slice_get, Some, ◌+◌, ◌-◌, ◌≤◌, List, [], ◌∷◌, ◌++◌, length, take, drop, append_assoc, arith, length-append, length-drop}
use Rattle.std.proofs.lemmas.List.{take-append-le, drop-append-le}
use Rattle.std.proofs.Math.Seq.{drop-append_seam, take-append_seam, take-length}
use Rattle.outside.specs.declared.places.Place.{Place}
use Rattle.outside.specs.Places.{file_at, files_at, IsWithin, AreWithin}

-- a part of a list stays as more is added behind it
range-append : (xs ys : List ℕ) (from to : ℕ) → from ≤ to → to ≤ length xs → take (to - from) (drop from (xs ++ ys)) ≡ take (to - from) (drop from xs)
range-append xs ys from to ordered inside =
    let l : from ≤ length xs = omega arith in
    let s : to - from ≤ length (drop from xs) = simp length-drop (omega arith) in
    rw (drop-append-le from xs ys l, take-append-le (to - from) (drop from xs) ys s)

file_at-append : (bytes more : List ℕ) (place : Place) → IsWithin (length bytes) place → file_at (bytes ++ more) place ≡ file_at bytes place
file_at-append bytes more place within =
    let a : place.middle ≤ length bytes = omega (arith, within.contents, within.inside) in
    rw (range-append bytes more place.start place.middle within.name a, range-append bytes more place.middle place.end within.contents within.inside)

pub files_at-append : (bytes more : List ℕ) (places : List Place) → AreWithin (length bytes) places → files_at (bytes ++ more) places ≡ files_at bytes places
files_at-append bytes more [] within = refl
files_at-append bytes more (place ∷ places) within = rw (file_at-append bytes more place within.0, files_at-append bytes more places within.1)

pub AreWithin-more : (count more : ℕ) (places : List Place) → AreWithin count places → count ≤ more → AreWithin more places
AreWithin-more count more [] within below = tt
AreWithin-more count more (place ∷ places) within below =
    (record { name = within.0.name; contents = within.0.contents; inside = omega (arith, within.0.inside) }, AreWithin-more count more places within.1 below)

pub AreWithin-push : (count : ℕ) (places : List Place) (place : Place) → AreWithin count places → IsWithin count place → AreWithin count (places ++ place ∷ [])
AreWithin-push count [] place within last = (last, tt)
AreWithin-push count (first ∷ places) place within last = (within.0, AreWithin-push count places place within.1 last)

pub files_at-push : (bytes : List ℕ) (places : List Place) (place : Place) → files_at bytes (places ++ place ∷ []) ≡ files_at bytes places ++ file_at bytes place ∷ []
files_at-push bytes [] place = refl
files_at-push bytes (first ∷ places) place = rw (files_at-push bytes places place)

pub AreWithin-at : (count : ℕ) (places : List Place) (index : ℕ) (d : Place) → AreWithin count places → index < length places → IsWithin count (get_or places index d)
AreWithin-at count [] index d within below = absurd (omega arith)
AreWithin-at count (place ∷ places) zero d within below = within.0
AreWithin-at count (place ∷ places) (suc index) d within below = AreWithin-at count places index d within.1 (omega arith)

pub files_at-at : (bytes : List ℕ) (places : List Place) (index : ℕ) (d : Place) → index < length places → slice_get (files_at bytes places) index ≡ Some (file_at bytes (get_or places index d))
files_at-at bytes [] index d below = absurd (omega arith)
files_at-at bytes (place ∷ places) zero d below = refl
files_at-at bytes (place ∷ places) (suc index) d below = files_at-at bytes places index d (omega arith)

-- a file that is added stands at its place
pub file_at-added : (bytes name contents : List ℕ) → file_at ((bytes ++ name) ++ contents) (record { start = length bytes; middle = length bytes + length name; end = length bytes + length name + length contents }) ≡ (name, contents)
file_at-added bytes name contents =
    let first : take (length bytes + length name - length bytes) (drop (length bytes) ((bytes ++ name) ++ contents)) ≡ name =
    let e : length bytes + length name - length bytes ≡ length name = omega arith in
    rw (e, append_assoc bytes name contents, drop-append_seam bytes (name ++ contents), take-append_seam name contents) in
    let second : take (length bytes + length name + length contents - (length bytes + length name)) (drop (length bytes + length name) ((bytes ++ name) ++ contents)) ≡ contents =
    let e : length bytes + length name + length contents - (length bytes + length name) ≡ length contents = omega arith in
    rw (e, ← length-append bytes name, drop-append_seam (bytes ++ name) contents, take-length contents) in
    rw (first, second)

-- a list of files, each within the bytes, with one more behind it
pub files-added : (bytes name contents : List ℕ) (places : List Place) → AreWithin (length bytes) places
    → let place : Place = record { start = length bytes; middle = length bytes + length name; end = length bytes + length name + length contents } in
    files_at ((bytes ++ name) ++ contents) (places ++ place ∷ []) ≡ files_at bytes places ++ (name, contents) ∷ []
files-added bytes name contents places within =
    let place : Place = record { start = length bytes; middle = length bytes + length name; end = length bytes + length name + length contents } in
    rw (files_at-push ((bytes ++ name) ++ contents) places place, file_at-added bytes name contents, append_assoc bytes name contents, files_at-append bytes (name ++ contents) places within)

pub AreWithin-added : (bytes name contents : List ℕ) (places : List Place) → AreWithin (length bytes) places
    → AreWithin (length ((bytes ++ name) ++ contents)) (places ++ record { start = length bytes; middle = length bytes + length name; end = length bytes + length name + length contents } ∷ [])
AreWithin-added bytes name contents places within =
    simp length-append (AreWithin-push _ places _
    (AreWithin-more (length bytes) _ places within (omega arith))
    (record { name = omega arith; contents = omega arith; inside = omega arith }))
