-- The place of the first item that takes something, among what all items take, is that of the first item.
use Rattle.std.proofs.Common.{◌≡◌, ℕ, ◌+◌, ◌||◌, Bool, true, false, cond, List, [], ◌∷◌, ◌++◌, length, map, Option, Some, None, refl, sym, ap, ◌∙◌, append_assoc, length-append}
use Rattle.std.specs.List.{find, slice_get}
use Rattle.std.specs.Prelude.{option_map, option_and_then}
use Rattle.std.specs.Option.{option_or}
use Rattle.std.proofs.lemmas.List.Folds.{find-append}
use Rattle.texts.specs.declared.ranges.FrameRange.{FrameRange}
use Rattle.item_checks.specs.declared.state.Taken.{Taken}
use Rattle.frame_alloc.specs.Ranges.{have_common}
use Rattle.item_checks.specs.Taken.{Passed, item_of}
use Rattle.item_checks.specs.Standing.{taken_at, taken_from}
use Rattle.frame_alloc.proofs.CommonFrames.{none_common, common-cons_left}

-- the range has something of these ranges
abbrev pub takes_of : List FrameRange → Taken → Bool
takes_of ranges taken = have_common (taken.range ∷ []) ranges

abbrev pub place_in : List FrameRange → List Taken → Option ℕ
place_in ranges taken = option_map (λ (one : Taken). one.item) (find (takes_of ranges) taken)

-- the place of the first item that takes something, where the first of them has this place
pub place_from : (Passed → List FrameRange) → List FrameRange → ℕ → List Passed → Option ℕ
place_from takes ranges place [] = None
place_from takes ranges place (passed ∷ more) = cond (have_common (takes passed) ranges) (Some place) (place_from takes ranges (place + 1) more)

-- among the ranges of one item
place_at : (ranges rs : List FrameRange) (place : ℕ) → place_in ranges (map (taken_at place) rs) ≡ cond (have_common rs ranges) (Some place) None
place_at ranges [] place = rw (none_common ranges) refl
place_at ranges (r ∷ rs) place = rw (common-cons_left r rs ranges) (by_test (have_common (r ∷ []) ranges) refl (place_at ranges rs place))
  where
    by_test : (b : Bool) → have_common (r ∷ []) ranges ≡ b → place_in ranges (map (taken_at place) rs) ≡ cond (have_common rs ranges) (Some place) None
        → place_in ranges (taken_at place r ∷ map (taken_at place) rs) ≡ cond (b || have_common rs ranges) (Some place) None
    by_test true here rest = rw here refl
    by_test false here rest = rw here rest

either_place : (o p : Option Taken) → option_map (λ (one : Taken). one.item) (option_or o p) ≡ option_or (option_map (λ (one : Taken). one.item) o) (option_map (λ (one : Taken). one.item) p)
either_place None p = refl
either_place (Some x) p = refl

place_taken : (takes : Passed → List FrameRange) (ranges : List FrameRange) (place : ℕ) (passed : List Passed) → place_in ranges (taken_from takes place passed) ≡ place_from takes ranges place passed
unfolding taken_from place_from
place_taken takes ranges place [] = refl
place_taken takes ranges place (p ∷ ps) =
    ap (option_map (λ (one : Taken). one.item)) (find-append (takes_of ranges) (map (taken_at place) (takes p)) (taken_from takes (place + 1) ps))
    ∙ either_place (find (takes_of ranges) (map (taken_at place) (takes p))) (find (takes_of ranges) (taken_from takes (place + 1) ps))
    ∙ by_test (have_common (takes p) ranges) (place_at ranges (takes p) place) (place_taken takes ranges (place + 1) ps)
  where
    by_test : (b : Bool) → place_in ranges (map (taken_at place) (takes p)) ≡ cond b (Some place) None → place_in ranges (taken_from takes (place + 1) ps) ≡ place_from takes ranges (place + 1) ps
        → option_or (place_in ranges (map (taken_at place) (takes p))) (place_in ranges (taken_from takes (place + 1) ps)) ≡ cond b (Some place) (place_from takes ranges (place + 1) ps)
    by_test true here rest = rw here refl
    by_test false here rest = rw here rest

-- the item at the seam of two lists
item_at_seam : (front : List Passed) (p : Passed) (ps : List Passed) → slice_get (map item_of (front ++ p ∷ ps)) (length front) ≡ Some (item_of p)
item_at_seam [] p ps = refl
item_at_seam (x ∷ xs) p ps = item_at_seam xs p ps

pub named_from : (takes : Passed → List FrameRange) (ranges : List FrameRange) (front ps : List Passed) →
    option_and_then (slice_get (map item_of (front ++ ps))) (place_from takes ranges (length front) ps) ≡ option_map item_of (find (λ p. have_common (takes p) ranges) ps)
unfolding place_from
named_from takes ranges front [] = refl
named_from takes ranges front (p ∷ ps) = by_test (have_common (takes p) ranges) (moved front p ps takes ranges (named_from takes ranges (front ++ p ∷ []) ps))
  where
    moved : (front : List Passed) (p : Passed) (ps : List Passed) (takes : Passed → List FrameRange) (ranges : List FrameRange) →
        option_and_then (slice_get (map item_of ((front ++ p ∷ []) ++ ps))) (place_from takes ranges (length (front ++ p ∷ [])) ps) ≡ option_map item_of (find (λ q. have_common (takes q) ranges) ps)
        → option_and_then (slice_get (map item_of (front ++ p ∷ ps))) (place_from takes ranges (length front + 1) ps) ≡ option_map item_of (find (λ q. have_common (takes q) ranges) ps)
    moved front p ps takes ranges h =
        let lists : (front ++ p ∷ []) ++ ps ≡ front ++ p ∷ ps = append_assoc front (p ∷ []) ps in
        let long : length (front ++ p ∷ []) ≡ length front + 1 = length-append front (p ∷ []) in
        ap (λ (n : ℕ). option_and_then (slice_get (map item_of (front ++ p ∷ ps))) (place_from takes ranges n ps)) (sym long)
        ∙ ap (λ (xs : List Passed). option_and_then (slice_get (map item_of xs)) (place_from takes ranges (length (front ++ p ∷ [])) ps)) (sym lists) ∙ h

    by_test : (b : Bool) → option_and_then (slice_get (map item_of (front ++ p ∷ ps))) (place_from takes ranges (length front + 1) ps) ≡ option_map item_of (find (λ q. have_common (takes q) ranges) ps)
        → option_and_then (slice_get (map item_of (front ++ p ∷ ps))) (cond b (Some (length front)) (place_from takes ranges (length front + 1) ps)) ≡ option_map item_of (cond b (Some p) (find (λ q. have_common (takes q) ranges) ps))
    by_test true rest = item_at_seam front p ps
    by_test false rest = rest

-- the item that the place names
pub named : (takes : Passed → List FrameRange) (ranges : List FrameRange) (before : List Passed) →
    option_and_then (slice_get (map item_of before)) (place_in ranges (taken_from takes 0 before)) ≡ option_map item_of (find (λ p. have_common (takes p) ranges) before)
named takes ranges before = ap (option_and_then (slice_get (map item_of before))) (place_taken takes ranges 0 before) ∙ named_from takes ranges [] before
