-- Every frame that an item claims is below 2^28.
use Rattle.std.proofs.Common.{◌≡◌, ℕ, zero, suc, ◌+◌, ◌/◌, ◌^◌, ◌<◌, ◌≤◌, Bool, true, false, cond, List, [], ◌∷◌, ◌++◌, length, map, get_or, Option, Some, None, sym, subst, arith}
use Rattle.std.specs.Prelude.{◌==◌}
use Rattle.texts.specs.declared.ranges.BaseSize.{BaseSize}
use Rattle.texts.specs.declared.ranges.FrameRange.{FrameRange}
use Rattle.described.specs.declared.item.What.{What}
use Rattle.described.specs.declared.item.What.TheVariants as whats
use Rattle.item_checks.specs.declared.state.Taken.{Taken}
use Rattle.frame_alloc.specs.Ranges.{touched, cut, between}
use Rattle.item_checks.specs.Entries.{Entry}
use Rattle.item_checks.specs.Taken.{Passed, is_loaded, is_repeated, region_claims, claims_of, passing, all_passed}
use Rattle.item_checks.specs.Standing.{taken_at, taken_from, claims_taken}

-- ranges that end at or below frame 2^28
abbrev pub AreLow : List FrameRange → Type 0
AreLow [] = Unit {0}
AreLow (range ∷ ranges) = (range.first + range.count ≤ 2 ^ 28) × AreLow ranges

abbrev pub AreTakenLow : List Taken → Type 0
AreTakenLow [] = Unit {0}
AreTakenLow (taken ∷ more) = (taken.range.first + taken.range.count ≤ 2 ^ 28) × AreTakenLow more

touched_low : (range : BaseSize) → (touched range).first + (touched range).count ≤ 2 ^ 28
touched_low range = by_size (range.size == 0)
  where
    by_size : (b : Bool) → (cond b (between 0 0) (between (cut (range.base / 4096)) (cut ((range.base + range.size + 4095) / 4096)))).first + (cond b (between 0 0) (between (cut (range.base / 4096)) (cut ((range.base + range.size + 4095) / 4096)))).count ≤ 2 ^ 28
    by_size true = omega arith
    by_size false = omega arith

all_low : (entries : List BaseSize) → AreLow (map touched entries)
all_low [] = tt
all_low (entry ∷ entries) = (touched_low entry, all_low entries)

claims_low : (before : List Passed) (entry : Entry) → AreLow (claims_of before entry)
claims_low before entry = elim entry.described.what as (λ (w : What). AreLow (elim w as (λ _. List FrameRange) [
  | whats.Reserved entries ↦ map touched entries
  | whats.Reserve at ↦ touched at ∷ []
  | whats.Load at ↦ touched at ∷ []
  | whats.Module kind at ↦ cond (is_loaded before at) [] (touched at ∷ [])
  | whats.Static at ↦ touched at ∷ []
  | whats.Range host size guest ↦ cond (is_repeated before entry.guest host size guest) [] (touched (record { base = host; size = size }) ∷ [])
  | whats.Shared id host guest size owner ↦ region_claims host size
  | _ ↦ []
])) [
  | whats.Reserved entries ↦ all_low entries
  | whats.Reserve at ↦ (touched_low at, tt)
  | whats.Load at ↦ (touched_low at, tt)
  | whats.Module kind at ↦ unless (is_loaded before at) (touched at) (touched_low at)
  | whats.Static at ↦ (touched_low at, tt)
  | whats.Range host size guest ↦ unless (is_repeated before entry.guest host size guest) (touched (record { base = host; size = size })) (touched_low (record { base = host; size = size }))
  | whats.Shared id host guest size owner ↦ by_host host size
  | _ ↦ tt
]
  where
    unless : (b : Bool) (range : FrameRange) → range.first + range.count ≤ 2 ^ 28 → AreLow (cond b [] (range ∷ []))
    unless true range low = tt
    unless false range low = (low, tt)

    by_host : (host : Option ℕ) (size : ℕ) → AreLow (region_claims host size)
    by_host None size = tt
    by_host (Some host) size = (touched_low (record { base = host; size = size }), tt)

-- every item's
abbrev ArePassedLow : List Passed → Type 0
ArePassedLow [] = Unit {0}
ArePassedLow (p ∷ ps) = AreLow p.claims × ArePassedLow ps

one_more : (ps : List Passed) (p : Passed) → ArePassedLow ps → AreLow p.claims → ArePassedLow (ps ++ p ∷ [])
one_more [] p low own = (own, tt)
one_more (x ∷ xs) p low own = (low.0, one_more xs p low.1 own)

passed_low : (before : List Passed) (entries : List Entry) → ArePassedLow before → ArePassedLow (all_passed before entries)
unfolding all_passed
passed_low before [] low = low
passed_low before (entry ∷ entries) low = passed_low (before ++ passing before entry ∷ []) entries (one_more before (passing before entry) low (claims_low before entry))

taken_append : (xs ys : List Taken) → AreTakenLow xs → AreTakenLow ys → AreTakenLow (xs ++ ys)
taken_append [] ys low other = other
taken_append (x ∷ xs) ys low other = (low.0, taken_append xs ys low.1 other)

taken_low : (place : ℕ) (ranges : List FrameRange) → AreLow ranges → AreTakenLow (map (taken_at place) ranges)
taken_low place [] low = tt
taken_low place (range ∷ ranges) low = (low.0, taken_low place ranges low.1)

all_taken_low : (place : ℕ) (ps : List Passed) → ArePassedLow ps → AreTakenLow (taken_from claims_taken place ps)
unfolding taken_from
all_taken_low place [] low = tt
all_taken_low place (p ∷ ps) low = taken_append (map (taken_at place) p.claims) (taken_from claims_taken (place + 1) ps) (taken_low place p.claims low.0) (all_taken_low (place + 1) ps low.1)

at_each : (xs : List Taken) (k : ℕ) (d : Taken) → AreTakenLow xs → k < length xs → (get_or xs k d).range.first + (get_or xs k d).range.count ≤ 2 ^ 28
at_each [] k d low under = absurd (omega arith)
at_each (x ∷ xs) zero d low under = low.0
at_each (x ∷ xs) (suc k) d low under = at_each xs k d low.1 (omega arith)

pub all_claims_low : (claims : List Taken) (entries : List Entry) → claims ≡ taken_from claims_taken 0 (all_passed [] entries) → (k : ℕ) (d : Taken) → k < length claims → (get_or claims k d).range.first + (get_or claims k d).range.count ≤ 2 ^ 28
all_claims_low claims entries is k d under = at_each claims k d (subst AreTakenLow (sym is) (all_taken_low 0 (all_passed [] entries) (passed_low [] entries tt))) under
