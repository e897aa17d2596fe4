-- What is left of frames when some are taken.
use Rattle.std.proofs.Common.{◌≡◌, ◌≢◌, ◌∙◌, refl, sym, ap, ap₂, ℕ, ◌+◌, ◌^◌, ◌<◌, ◌≤◌, ◌⊎◌, ◌&&◌, ◌||◌, Bool, true, false, cond, List, [], ◌∷◌, length, map, flat_map, drop, get_or, All, Some, arith, inl, inr}
use Rattle.std.specs.Prelude.{◌==◌, not, filter, find, Result, Ok, Err, IfOk}
use Rattle.std.specs.List.{list_any}
use Rattle.std.proofs.lemmas.Bool.Decides.{eqb_tells}
use Rattle.std.proofs.lemmas.List.{at_drop_more}
use Rattle.std.proofs.lemmas.List.Elements.{All-nil, All-cons, All-append, All-head, All-tail}
use Rattle.std.proofs.lemmas.List.Folds.{list_any-append}
use Rattle.texts.specs.Consecutive.{numbers, is_in}
use Rattle.described.specs.Maps.{AreMapRanges, AreSortedFrom}
use Rattle.texts.specs.declared.ranges.FrameRange.{FrameRange}
use Rattle.described.specs.declared.map_range.MapRange.{MapRange}
use Rattle.frame_alloc.specs.Frames.{AreFrameRanges, frames_in, is_within}
use Rattle.frame_alloc.proofs.FreeFrames.{is_in_nil, is_in_cons}
use Rattle.frame_alloc.specs.Ranges.{holds, lie_in}
use Rattle.frame_alloc.proofs.CommonFrames.{is_in-frames_in, holds_one, within_tells}
use Rattle.domain_plan.specs.declared.planned.GuestPlan.{GuestPlan}
use Rattle.image_audit.specs.Findings.{is_mapped}
use Rattle.image_audit.specs.PrivateRests.{host_frames, one_frame, IsRest, IsLeft}

and-false : (b : Bool) → (b && false) ≡ false
and-false true = refl
and-false false = refl

and-true : (b : Bool) → (b && true) ≡ b
and-true true = refl
and-true false = refl

-- the members of a filter
filter_member : (p : ℕ → Bool) (xs : List ℕ) (x : ℕ) → is_in (filter p xs) x ≡ (is_in xs x && p x)
filter_member p [] x = is_in_nil x ∙ ap (λ b. b && p x) (sym (is_in_nil x))
filter_member p (y ∷ ys) x = by (eqb_tells y x) (p y) refl (filter_member p ys x) ∙ ap (λ b. b && p x) (sym (is_in_cons x y ys))
  where
    by : (((y == x) ≡ true) × (y ≡ x)) ⊎ (((y == x) ≡ false) × (y ≢ x)) → (b : Bool) → p y ≡ b → is_in (filter p ys) x ≡ (is_in ys x && p x) → is_in (cond b (y ∷ filter p ys) (filter p ys)) x ≡ (((y == x) || is_in ys x) && p x)
    by (inl h) true pass rest = let same : p x ≡ true = ap p (sym h.1) ∙ pass in is_in_cons x y (filter p ys) ∙ rw (h.0, same) refl
    by (inl h) false pass rest = let same : p x ≡ false = ap p (sym h.1) ∙ pass in rest ∙ rw (h.0, same) (and-false (is_in ys x))
    by (inr h) true pass rest = is_in_cons x y (filter p ys) ∙ rw h.0 rest
    by (inr h) false pass rest = rw h.0 rest

-- which frames are left
left_of : (ranges taken left : List FrameRange) → frames_in left ≡ filter (λ frame. not (holds taken frame)) (frames_in ranges) → (frame : ℕ) → holds left frame ≡ (holds ranges frame && not (holds taken frame))
left_of ranges taken left is frame =
    sym (is_in-frames_in left frame) ∙ ap (λ frames. is_in frames frame) is ∙ filter_member (λ frame. not (holds taken frame)) (frames_in ranges) frame
    ∙ ap (λ b. b && not (holds taken frame)) (is_in-frames_in ranges frame)

-- all frames are below 2^28
pub all_held : (frame : ℕ) → frame < 2 ^ 28 → holds (record { first = 0; count = 2 ^ 28 } ∷ []) frame ≡ true
all_held frame low = holds_one (record { first = 0; count = 2 ^ 28 }) frame ∙ elim (within_tells 0 (2 ^ 28) frame) [
  | inl h ↦ h.0
  | inr h ↦ absurd (elim h.1 [ inl below ↦ omega arith | inr above ↦ omega arith ])
]

-- one frame alone
within_one : (first frame : ℕ) → is_within first 1 frame ≡ (first == frame)
within_one first frame = by (within_tells first 1 frame) (eqb_tells first frame)
  where
    by : ((is_within first 1 frame ≡ true) × (first ≤ frame) × (frame < first + 1)) ⊎ ((is_within first 1 frame ≡ false) × ((frame < first) ⊎ (first + 1 ≤ frame)))
        → (((first == frame) ≡ true) × (first ≡ frame)) ⊎ (((first == frame) ≡ false) × (first ≢ frame)) → is_within first 1 frame ≡ (first == frame)
    by (inl h) (inl k) = h.0 ∙ sym k.0
    by (inl h) (inr k) = absurd (k.1 (omega arith))
    by (inr h) (inl k) = absurd (elim h.1 [ inl below ↦ omega arith | inr above ↦ omega arith ])
    by (inr h) (inr k) = h.0 ∙ sym k.0

holds-ones : (frames : List ℕ) (frame : ℕ) → holds (map one_frame frames) frame ≡ is_in frames frame
holds-ones [] frame = sym (is_in_nil frame)
holds-ones (x ∷ xs) frame = ap₂ (λ (a b : Bool). a || b) (within_one x frame) (holds-ones xs frame) ∙ sym (is_in_cons frame x xs)

-- the frames of plans
holds-hosts : (ranges : List MapRange) (frame : ℕ) → holds (map host_frames ranges) frame ≡ list_any (λ (range : MapRange). is_within range.first range.count frame) ranges
holds-hosts [] frame = refl
holds-hosts (range ∷ ranges) frame = ap (λ b. is_within range.first range.count frame || b) (holds-hosts ranges frame)

abbrev pub hosts_of : GuestPlan → List FrameRange
hosts_of guest = map host_frames guest.ranges

holds-plans : (guests : List GuestPlan) (frame : ℕ) → holds (flat_map hosts_of guests) frame ≡ is_mapped guests frame
holds-plans [] frame = refl
holds-plans (guest ∷ guests) frame =
    list_any-append (λ (range : FrameRange). is_within range.first range.count frame) (hosts_of guest) (flat_map hosts_of guests)
    ∙ ap₂ (λ (a b : Bool). a || b) (holds-hosts guest.ranges frame) (holds-plans guests frame)

abbrev pub IsLow : FrameRange → Type 0
IsLow range = range.first + range.count ≤ 2 ^ 28

hosts_low : (ranges : List MapRange) (start : ℕ) → AreSortedFrom start ranges → All IsLow (map host_frames ranges)
hosts_low [] start sorted = All-nil IsLow
hosts_low (range ∷ ranges) start sorted = All-cons IsLow (host_frames range) (map host_frames ranges) sorted.3 (hosts_low ranges (range.page + range.count) sorted.4)

pub plans_low : (guests : List GuestPlan) → All (λ guest. AreMapRanges guest.ranges) guests → All IsLow (flat_map hosts_of guests)
plans_low [] sorted = All-nil IsLow
plans_low (guest ∷ guests) sorted =
    All-append IsLow (hosts_of guest) (flat_map hosts_of guests) (hosts_low guest.ranges 0 (All-head (λ (guest : GuestPlan). AreMapRanges guest.ranges) guest guests sorted))
    (plans_low guests (All-tail (λ (guest : GuestPlan). AreMapRanges guest.ranges) guest guests sorted))

-- the frames that no guest is planned to be mapped to
pub unmapped_left : (guests : List GuestPlan) (taken left : List FrameRange) → taken ≡ flat_map hosts_of guests → AreFrameRanges left
    → frames_in left ≡ filter (λ frame. not (holds taken frame)) (frames_in (record { first = 0; count = 2 ^ 28 } ∷ [])) → IsRest (is_mapped guests) left
unmapped_left guests taken left same apart is = record {
  apart = apart;
  rest = λ frame low.
      left_of (record { first = 0; count = 2 ^ 28 } ∷ []) taken left is frame ∙ ap (λ b. b && not (holds taken frame)) (all_held frame low)
      ∙ ap (λ (ranges : List FrameRange). not (holds ranges frame)) same ∙ ap not (holds-plans guests frame);
}

-- the frames that no table lies in
pub tables_left : (ranges : List FrameRange) (frames : List ℕ) (taken left : List FrameRange) → taken ≡ map one_frame frames → AreFrameRanges left
    → frames_in left ≡ filter (λ frame. not (holds taken frame)) (frames_in ranges) → IsLeft ranges frames left
tables_left ranges frames taken left same apart is = record {
  apart = apart;
  left = λ frame. left_of ranges taken left is frame ∙ ap (λ (ones : List FrameRange). holds ranges frame && not (holds ones frame)) same ∙ ap (λ b. holds ranges frame && not b) (holds-ones frames frame);
}

-- whether one frame lies in ranges
pub lies_in_one : (ranges : List FrameRange) (frame : ℕ) → lie_in ranges (one_frame frame ∷ []) ≡ holds ranges frame
unfolding lie_in numbers
lies_in_one ranges frame = and-true (holds ranges frame)

-- ---- the first that passes

module _ (p : ℕ → Bool) (xs : List ℕ) (i x : ℕ) (so_far : find p xs ≡ find p (drop i xs)) (below : i < length xs) (is : x ≡ get_or xs i 0) where
  here : find p xs ≡ find p (x ∷ drop (i + 1) xs)
  here = so_far ∙ at_drop_more (find p) xs i 0 below ∙ ap (λ y. find p (y ∷ drop (i + 1) xs)) (sym is)

  pub found_here : p x ≡ true → find p xs ≡ Some x
  found_here pass = here ∙ rw pass refl

  pub found_later : p x ≡ false → find p xs ≡ find p (drop (i + 1) xs)
  found_later fail = here ∙ rw fail refl

-- two facts of one answer
pub both_ok : {A E : Type 0} (P Q R : A → Type 0) → ((x : A) → P x → Q x → R x) → (r : Result A E) → IfOk r P → IfOk r Q → IfOk r R
both_ok P Q R law (Ok x) p q = law x p q
both_ok P Q R law (Err e) p q = tt
