-- Guest after guest, and claim after claim.
use Rattle.std.proofs.Common.{◌≡◌, ℕ, ◌+◌, ◌<◌, ◌≤◌, ◌||◌, not, Bool, List, [], ◌∷◌, ◌++◌, length, map, drop, get_or, Option, Some, None, Result, Ok, Err, refl, sym, ap, ◌∙◌, append-nil, append_assoc}
use Rattle.std.specs.Prelude.{filter}
use Rattle.std.specs.List.{list_any}
use Rattle.std.proofs.lemmas.List.{drop_more, drop_all}
use Rattle.std.proofs.lemmas.List.Folds.{list_any-append}
use Rattle.texts.specs.declared.ranges.FrameRange.{FrameRange}
use Rattle.described.specs.declared.why.Why.TheVariants.{NoRam}
use Rattle.frame_alloc.specs.Frames.{frames_in, is_within}
use Rattle.item_checks.specs.declared.guests.Guest.{Guest}
use Rattle.item_checks.specs.declared.state.Taken.{Taken}
use Rattle.frame_alloc.specs.Ranges.{holds}
use Rattle.item_checks.specs.Taken.{Passed}
use Rattle.item_checks.specs.Refusals.{Refusal}
use Rattle.domain_plan.specs.Draws.{Drawn, Heaps, drawn, heaps, and_drawn, heap_item, is_claimed, free_frames}
use Rattle.item_checks.specs.Standing.{taken_at, taken_from, claims_taken}

-- what guests before drew, and then the others
abbrev pub after_draws : List (List FrameRange) → Result Heaps Refusal → Result Heaps Refusal
after_draws before (Err refusal) = Err refusal
after_draws before (Ok later) = Ok (record { drawn = before ++ later.drawn; left = later.left })

pub heaps_start : (o : Result Heaps Refusal) → o ≡ after_draws [] o
heaps_start (Err refusal) = refl
heaps_start (Ok later) = refl

one_more : (before : List (List FrameRange)) (one : List FrameRange) (o : Result Heaps Refusal) → after_draws before (and_drawn one o) ≡ after_draws (before ++ one ∷ []) o
one_more before one (Err refusal) = refl
one_more before one (Ok later) = ap (λ (xs : List (List FrameRange)). Ok (record { drawn = xs; left = later.left })) (sym (append_assoc before (one ∷ []) later.drawn))

pub heaps_more : (guests : List Guest) (i : ℕ) (g : Guest) (free left : List ℕ) (before : List (List FrameRange)) (frames : List FrameRange) → i < length guests → g ≡ get_or guests i g → drawn g.domain.pages free ≡ Some (record { frames = frames; left = left }) →
    after_draws before (heaps (drop i guests) free) ≡ after_draws (before ++ frames ∷ []) (heaps (drop (i + 1) guests) left)
unfolding heaps
heaps_more guests i g free left before frames low is found =
    ap (λ (xs : List Guest). after_draws before (heaps xs free)) (drop_more guests i g low ∙ ap (λ (one : Guest). one ∷ drop (i + 1) guests) (sym is))
    ∙ ap (λ (o : Option Drawn). after_draws before (elim o as (λ _. Result Heaps Refusal) [ None ↦ Err (heap_item g, NoRam g.domain.pages (length free)) | Some one ↦ and_drawn one.frames (heaps (drop (i + 1) guests) one.left) ])) found
    ∙ one_more before frames (heaps (drop (i + 1) guests) left)

pub heaps_short : (guests : List Guest) (i : ℕ) (g : Guest) (free : List ℕ) (before : List (List FrameRange)) → i < length guests → g ≡ get_or guests i g → drawn g.domain.pages free ≡ None →
    after_draws before (heaps (drop i guests) free) ≡ Err (heap_item g, NoRam g.domain.pages (length free))
unfolding heaps
heaps_short guests i g free before low is found =
    ap (λ (xs : List Guest). after_draws before (heaps xs free)) (drop_more guests i g low ∙ ap (λ (one : Guest). one ∷ drop (i + 1) guests) (sym is))
    ∙ ap (λ (o : Option Drawn). after_draws before (elim o as (λ _. Result Heaps Refusal) [ None ↦ Err (heap_item g, NoRam g.domain.pages (length free)) | Some one ↦ and_drawn one.frames (heaps (drop (i + 1) guests) one.left) ])) found

pub heaps_done : (guests : List Guest) (i : ℕ) (free : List ℕ) (before : List (List FrameRange)) → length guests ≤ i → after_draws before (heaps (drop i guests) free) ≡ Ok (record { drawn = before; left = free })
unfolding heaps
heaps_done guests i free before past =
    ap (λ (xs : List Guest). after_draws before (heaps xs free)) (drop_all i guests past) ∙ ap (λ (xs : List (List FrameRange)). Ok (record { drawn = xs; left = free })) (append-nil before)

-- a frame is among those that are claimed
abbrev claims_frame : List Taken → ℕ → Bool
claims_frame claims frame = list_any (λ (taken : Taken). is_within taken.range.first taken.range.count frame) claims

filter_same : (p q : ℕ → Bool) (xs : List ℕ) → ((x : ℕ) → p x ≡ q x) → filter p xs ≡ filter q xs
filter_same p q [] same = refl
filter_same p q (x ∷ xs) same = rw (same x, filter_same p q xs same) refl

any_taken : (place : ℕ) (ranges : List FrameRange) (frame : ℕ) → claims_frame (map (taken_at place) ranges) frame ≡ holds ranges frame
any_taken place [] frame = refl
any_taken place (range ∷ ranges) frame = ap (λ (b : Bool). is_within range.first range.count frame || b) (any_taken place ranges frame)

claimed_taken : (place : ℕ) (passed : List Passed) (frame : ℕ) → claims_frame (taken_from claims_taken place passed) frame ≡ is_claimed passed frame
unfolding taken_from
claimed_taken place [] frame = refl
claimed_taken place (p ∷ ps) frame =
    list_any-append (λ (taken : Taken). is_within taken.range.first taken.range.count frame) (map (taken_at place) p.claims) (taken_from claims_taken (place + 1) ps)
    ∙ rw (any_taken place p.claims frame, claimed_taken (place + 1) ps frame) refl

claims_hold : (claims : List Taken) (frame : ℕ) → holds (map (λ (taken : Taken). taken.range) claims) frame ≡ claims_frame claims frame
claims_hold [] frame = refl
claims_hold (taken ∷ more) frame = ap (λ (b : Bool). is_within taken.range.first taken.range.count frame || b) (claims_hold more frame)

-- what claims leave of the host's memory are the free frames
pub left_free : (ram ranges : List FrameRange) (claims : List Taken) (passed : List Passed) → ranges ≡ map (λ (taken : Taken). taken.range) claims → claims ≡ taken_from claims_taken 0 passed
    → filter (λ frame. not (holds ranges frame)) (frames_in ram) ≡ free_frames ram passed
unfolding free_frames
left_free ram ranges claims passed are_ranges are_claims =
    filter_same (λ frame. not (holds ranges frame)) (λ frame. not (is_claimed passed frame)) (frames_in ram)
    (λ frame. ap not (ap (λ (rs : List FrameRange). holds rs frame) are_ranges ∙ (claims_hold claims frame ∙ (ap (λ (cs : List Taken). claims_frame cs frame) are_claims ∙ claimed_taken 0 passed frame))))
