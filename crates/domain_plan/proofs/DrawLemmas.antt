-- What is drawn, and what is left.
use Rattle.std.proofs.Common.{◌≡◌, ℕ, zero, suc, ◌+◌, ◌/◌, ◌%◌, ◌<◌, ◌≤◌, ◌⊎◌, ◌&&◌, ◌||◌, not, Bool, true, false, List, [], ◌∷◌, ◌++◌, length, Option, Some, None, Result, Ok, Err, refl, sym, ap, subst, ◌∙◌, arith, inl, inr}
use Rattle.std.specs.Prelude.{slice_get}
use Rattle.std.proofs.lemmas.Option.{same_Some, none-some}
use Rattle.std.proofs.lemmas.List.Folds.{list_any-append}
use Rattle.texts.specs.Consecutive.{is_in}
use Rattle.texts.specs.declared.ranges.FrameRange.{FrameRange}
use Rattle.frame_alloc.specs.Frames.{AreFrames, is_within, without, lowest_frame, lowest_chunk}
use Rattle.frame_alloc.proofs.FreeFrames.{is_in-without, lowest_frame-member, lowest_group-tells, AreFrames-without}
use Rattle.item_checks.specs.declared.guests.Guest.{Guest}
use Rattle.described.specs.declared.why.Why.TheVariants.{NoRam}
use Rattle.frame_alloc.specs.Ranges.{holds}
use Rattle.item_checks.specs.Refusals.{Refusal}
use Rattle.domain_plan.specs.Draws.{Drawn, Heaps, ◌>>=◌, groups_drawn, drawn, heaps, and_drawn, heap_item}
use Rattle.frame_alloc.proofs.CommonFrames.{true_or_false, not_both, or_tells, within_bounds}

-- what a draw takes was free, and the rest is left
pub record IsDraw (free : List ℕ) (frames : List FrameRange) (left : List ℕ) : Type 0 where
  pub was_free : (frame : ℕ) → holds frames frame ≡ true → is_in free frame ≡ true
  pub rest : (frame : ℕ) → is_in left frame ≡ (is_in free frame && not (holds frames frame))

-- a draw of a group takes free frames
unfoldable pub IsPick : (List ℕ → Option ℕ) → ℕ → Type 0
IsPick lowest size = (free : List ℕ) (first : ℕ) → lowest free ≡ Some first → (frame : ℕ) → first ≤ frame → frame < first + size → is_in free frame ≡ true

none_drawn : (b : Bool) → (b && true) ≡ b
none_drawn true = refl
none_drawn false = refl

split_rest : (b c d : Bool) → ((b && not c) && not d) ≡ (b && not (c || d))
split_rest true true d = refl
split_rest true false d = refl
split_rest false c d = refl

left_and : (b c : Bool) → (b && c) ≡ true → b ≡ true
left_and true c h = refl
left_and false c h = absurd cc

-- nothing drawn
empty_draw : (free : List ℕ) → IsDraw free [] free
empty_draw free = record { was_free = λ frame h. not_both _ h refl; rest = λ frame. sym (none_drawn (is_in free frame)) }

-- a group, and then a draw from what is left
group_then : (free left : List ℕ) (first size : ℕ) (frames : List FrameRange) → ((frame : ℕ) → first ≤ frame → frame < first + size → is_in free frame ≡ true) → IsDraw (without first size free) frames left →
    IsDraw free (record { first = first; count = size } ∷ frames) left
group_then free left first size frames taken later = record {
  was_free = λ frame h. by_range frame (or_tells (is_within first size frame) (holds frames frame) h);
  rest = λ frame. later.rest frame ∙ rw (is_in-without first size free frame) (split_rest (is_in free frame) (is_within first size frame) (holds frames frame));
}
  where
    by_range : (frame : ℕ) → (is_within first size frame ≡ true) ⊎ (holds frames frame ≡ true) → is_in free frame ≡ true
    by_range frame (inl here) = let b = within_bounds first size frame here in taken frame b.0 b.1
    by_range frame (inr h) = left_and _ _ (sym (is_in-without first size free frame) ∙ later.was_free frame h)

-- two draws in a row
then_draw : (free middle left : List ℕ) (one other : List FrameRange) → IsDraw free one middle → IsDraw middle other left → IsDraw free (one ++ other) left
then_draw free middle left one other a b = record {
  was_free = λ frame h. by_draw frame (or_tells (holds one frame) (holds other frame) (sym (list_any-append (λ (range : FrameRange). is_within range.first range.count frame) one other) ∙ h));
  rest = λ frame. b.rest frame ∙ rw (a.rest frame, list_any-append (λ (range : FrameRange). is_within range.first range.count frame) one other) (split_rest (is_in free frame) (holds one frame) (holds other frame));
}
  where
    by_draw : (frame : ℕ) → (holds one frame ≡ true) ⊎ (holds other frame ≡ true) → is_in free frame ≡ true
    by_draw frame (inl h) = a.was_free frame h
    by_draw frame (inr h) = left_and _ _ (sym (a.rest frame) ∙ b.was_free frame h)

pub groups_draw : (lowest : List ℕ → Option ℕ) (size count : ℕ) (free : List ℕ) (d : Drawn) → IsPick lowest size → groups_drawn lowest size count free ≡ Some d → IsDraw free d.frames d.left
unfolding groups_drawn IsPick
groups_draw lowest size zero free d picks is =
    let given : Drawn = record { frames = []; left = free } in
    let same : given ≡ d = same_Some given d is in
    subst (λ (one : Drawn). IsDraw free one.frames one.left) same (empty_draw free)
groups_draw lowest size (suc count) free d picks is = by_first (lowest free) refl (λ more e one. groups_draw lowest size count more e picks one) is
  where
    by_rest : (first : ℕ) → lowest free ≡ Some first → (o : Option Drawn) → (((e : Drawn) → o ≡ Some e → IsDraw (without first size free) e.frames e.left)) →
        (o >>= λ (rest : Drawn). Some (record { frames = record { first = first; count = size } ∷ rest.frames; left = rest.left })) ≡ Some d → IsDraw free d.frames d.left
    by_rest first found None later e = absurd (none-some _ e)
    by_rest first found (Some rest) later e =
        let given : Drawn = record { frames = record { first = first; count = size } ∷ rest.frames; left = rest.left } in
        let same : given ≡ d = same_Some given d e in
        subst (λ (one : Drawn). IsDraw free one.frames one.left) same (group_then free rest.left first size rest.frames (picks free first found) (later rest refl))

    by_first : (o : Option ℕ) → lowest free ≡ o → ((more : List ℕ) (e : Drawn) → groups_drawn lowest size count more ≡ Some e → IsDraw more e.frames e.left) →
        (o >>= λ (first : ℕ). groups_drawn lowest size count (without first size free) >>= λ (rest : Drawn). Some (record { frames = record { first = first; count = size } ∷ rest.frames; left = rest.left })) ≡ Some d → IsDraw free d.frames d.left
    by_first None found later e = absurd (none-some _ e)
    by_first (Some first) found later e = by_rest first found (groups_drawn lowest size count (without first size free)) (λ one is. later (without first size free) one is) e

pick_chunk : IsPick lowest_chunk 512
unfolding IsPick
pick_chunk free first is frame low high = (lowest_group-tells 512 free first is).1 frame low high

pick_frame : IsPick lowest_frame 1
unfolding IsPick
pick_frame free first is frame low high = let same : frame ≡ first = omega arith in ap (is_in free) same ∙ lowest_frame-member free first is

-- what a guest draws
pub draw_tells : (count : ℕ) (free : List ℕ) (d : Drawn) → drawn count free ≡ Some d → IsDraw free d.frames d.left
unfolding drawn
draw_tells count free d is = by_chunks (groups_drawn lowest_chunk 512 (count / 512) free) refl is
  where
    by_singles : (chunks : Drawn) → groups_drawn lowest_chunk 512 (count / 512) free ≡ Some chunks → (o : Option Drawn) → groups_drawn lowest_frame 1 (count % 512) chunks.left ≡ o →
        (o >>= λ (singles : Drawn). Some (record { frames = chunks.frames ++ singles.frames; left = singles.left })) ≡ Some d → IsDraw free d.frames d.left
    by_singles chunks took None found e = absurd (none-some _ e)
    by_singles chunks took (Some singles) found e =
        let given : Drawn = record { frames = chunks.frames ++ singles.frames; left = singles.left } in
        let same : given ≡ d = same_Some given d e in
        let one : IsDraw free chunks.frames chunks.left = groups_draw lowest_chunk 512 (count / 512) free chunks pick_chunk took in
        let other : IsDraw chunks.left singles.frames singles.left = groups_draw lowest_frame 1 (count % 512) chunks.left singles pick_frame found in
        subst (λ (x : Drawn). IsDraw free x.frames x.left) same (then_draw free chunks.left singles.left chunks.frames singles.frames one other)

    by_chunks : (o : Option Drawn) → groups_drawn lowest_chunk 512 (count / 512) free ≡ o →
        (o >>= λ (chunks : Drawn). groups_drawn lowest_frame 1 (count % 512) chunks.left >>= λ (singles : Drawn). Some (record { frames = chunks.frames ++ singles.frames; left = singles.left })) ≡ Some d → IsDraw free d.frames d.left
    by_chunks None found e = absurd (none-some _ e)
    by_chunks (Some chunks) found e = by_singles chunks found (groups_drawn lowest_frame 1 (count % 512) chunks.left) refl e

-- what all guests draw: frames that were free, none of them left, and none for two guests
pub record AreDraws (free : List ℕ) (heaps : Heaps) : Type 0 where
  pub was_free : (k frame : ℕ) (frames : List FrameRange) → slice_get heaps.drawn k ≡ Some frames → holds frames frame ≡ true → is_in free frame ≡ true
  pub not_left : (k frame : ℕ) (frames : List FrameRange) → slice_get heaps.drawn k ≡ Some frames → holds frames frame ≡ true → is_in heaps.left frame ≡ false
  pub left_free : (frame : ℕ) → is_in heaps.left frame ≡ true → is_in free frame ≡ true
  pub apart : (j k frame : ℕ) (ones others : List FrameRange) → j < k → slice_get heaps.drawn j ≡ Some ones → slice_get heaps.drawn k ≡ Some others → holds ones frame ≡ true → holds others frame ≡ true → ⊥

no_draws : (free : List ℕ) → AreDraws free (record { drawn = []; left = free })
no_draws free = record { was_free = λ k frame frames at. absurd (none-some _ at); not_left = λ k frame frames at. absurd (none-some _ at); left_free = λ frame h. h; apart = λ j k frame ones others low at. absurd (none-some _ at) }

gone : (free left : List ℕ) (frames : List FrameRange) (frame : ℕ) → IsDraw free frames left → holds frames frame ≡ true → is_in left frame ≡ false
gone free left frames frame d h = d.rest frame ∙ rw h (nothing (is_in free frame))
  where
    nothing : (b : Bool) → (b && false) ≡ false
    nothing true = refl
    nothing false = refl

and_draws : (free middle : List ℕ) (frames : List FrameRange) (later : Heaps) → IsDraw free frames middle → AreDraws middle later → AreDraws free (record { drawn = frames ∷ later.drawn; left = later.left })
and_draws free middle frames later d draws = record { was_free = was; not_left = not_in; left_free = λ frame h. middle_free frame (draws.left_free frame h); apart = far }
  where
    middle_free : (frame : ℕ) → is_in middle frame ≡ true → is_in free frame ≡ true
    middle_free frame h = left_and _ _ (sym (d.rest frame) ∙ h)

    was : (k frame : ℕ) (ones : List FrameRange) → slice_get (frames ∷ later.drawn) k ≡ Some ones → holds ones frame ≡ true → is_in free frame ≡ true
    was zero frame ones at h = d.was_free frame (ap (λ (xs : List FrameRange). holds xs frame) (same_Some frames ones at) ∙ h)
    was (suc k) frame ones at h = middle_free frame (draws.was_free k frame ones at h)

    not_in : (k frame : ℕ) (ones : List FrameRange) → slice_get (frames ∷ later.drawn) k ≡ Some ones → holds ones frame ≡ true → is_in later.left frame ≡ false
    not_in (suc k) frame ones at h = draws.not_left k frame ones at h
    not_in zero frame ones at h = by_test (true_or_false (is_in later.left frame))
      where
        by_test : (is_in later.left frame ≡ true) ⊎ (is_in later.left frame ≡ false) → is_in later.left frame ≡ false
        by_test (inr out) = out
        by_test (inl inside) = not_both _ (draws.left_free frame inside) (gone free middle frames frame d (ap (λ (xs : List FrameRange). holds xs frame) (same_Some frames ones at) ∙ h))

    far : (j k frame : ℕ) (ones others : List FrameRange) → j < k → slice_get (frames ∷ later.drawn) j ≡ Some ones → slice_get (frames ∷ later.drawn) k ≡ Some others → holds ones frame ≡ true → holds others frame ≡ true → ⊥
    far j zero frame ones others low at other_at h other_h = absurd (omega arith)
    far zero (suc k) frame ones others low at other_at h other_h =
        not_both _ (draws.was_free k frame others other_at other_h) (gone free middle frames frame d (ap (λ (xs : List FrameRange). holds xs frame) (same_Some frames ones at) ∙ h))
    far (suc j) (suc k) frame ones others low at other_at h other_h = draws.apart j k frame ones others (omega arith) at other_at h other_h

pub heaps_tell : (guests : List Guest) (free : List ℕ) (all : Heaps) → heaps guests free ≡ Ok all → AreDraws free all
unfolding heaps
heaps_tell [] free all is =
    let given : Heaps = record { drawn = []; left = free } in
    let same : given ≡ all = cc in
    subst (AreDraws free) same (no_draws free)
heaps_tell (guest ∷ guests) free all is = by_first (drawn guest.domain.pages free) refl (λ more later e. heaps_tell guests more later e) is
  where
    by_later : (one : Drawn) → drawn guest.domain.pages free ≡ Some one → (o : Result Heaps Refusal) → ((later : Heaps) → o ≡ Ok later → AreDraws one.left later) → and_drawn one.frames o ≡ Ok all → AreDraws free all
    by_later one found (Err refusal) told e = absurd cc
    by_later one found (Ok later) told e =
        let given : Heaps = record { drawn = one.frames ∷ later.drawn; left = later.left } in
        let same : given ≡ all = cc in
        subst (AreDraws free) same (and_draws free one.left one.frames later (draw_tells guest.domain.pages free one found) (told later refl))

    by_first : (o : Option Drawn) → drawn guest.domain.pages free ≡ o → ((more : List ℕ) (later : Heaps) → heaps guests more ≡ Ok later → AreDraws more later) →
        (elim o as (λ _. Result Heaps Refusal) [ None ↦ Err (heap_item guest, NoRam guest.domain.pages (length free)) | Some one ↦ and_drawn one.frames (heaps guests one.left) ]) ≡ Ok all → AreDraws free all
    by_first None found told e = absurd cc
    by_first (Some one) found told e = by_later one found (heaps guests one.left) (λ later is. told one.left later is) e

-- what is left of ascending frames is ascending
groups_ascend : (lowest : List ℕ → Option ℕ) (size count : ℕ) (free : List ℕ) (d : Drawn) → AreFrames free → groups_drawn lowest size count free ≡ Some d → AreFrames d.left
unfolding groups_drawn
groups_ascend lowest size zero free d ok is =
    let given : Drawn = record { frames = []; left = free } in
    let same : given ≡ d = same_Some given d is in
    subst (λ (one : Drawn). AreFrames one.left) same ok
groups_ascend lowest size (suc count) free d ok is = by_first (lowest free) (λ more e fine one. groups_ascend lowest size count more e fine one) is
  where
    by_rest : (first : ℕ) (o : Option Drawn) → ((e : Drawn) → o ≡ Some e → AreFrames e.left) →
        (o >>= λ (rest : Drawn). Some (record { frames = record { first = first; count = size } ∷ rest.frames; left = rest.left })) ≡ Some d → AreFrames d.left
    by_rest first None later e = absurd (none-some _ e)
    by_rest first (Some rest) later e =
        let given : Drawn = record { frames = record { first = first; count = size } ∷ rest.frames; left = rest.left } in
        let same : given ≡ d = same_Some given d e in
        subst (λ (one : Drawn). AreFrames one.left) same (later rest refl)

    by_first : (o : Option ℕ) → ((more : List ℕ) (e : Drawn) → AreFrames more → groups_drawn lowest size count more ≡ Some e → AreFrames e.left) →
        (o >>= λ (first : ℕ). groups_drawn lowest size count (without first size free) >>= λ (rest : Drawn). Some (record { frames = record { first = first; count = size } ∷ rest.frames; left = rest.left })) ≡ Some d → AreFrames d.left
    by_first None later e = absurd (none-some _ e)
    by_first (Some first) later e = by_rest first (groups_drawn lowest size count (without first size free)) (λ one is. later (without first size free) one (AreFrames-without first size free ok) is) e

pub drawn_ascend : (count : ℕ) (free : List ℕ) (d : Drawn) → AreFrames free → drawn count free ≡ Some d → AreFrames d.left
unfolding drawn
drawn_ascend count free d ok is = by_chunks (groups_drawn lowest_chunk 512 (count / 512) free) refl is
  where
    by_singles : (chunks : Drawn) → groups_drawn lowest_chunk 512 (count / 512) free ≡ Some chunks → (o : Option Drawn) → groups_drawn lowest_frame 1 (count % 512) chunks.left ≡ o →
        (o >>= λ (singles : Drawn). Some (record { frames = chunks.frames ++ singles.frames; left = singles.left })) ≡ Some d → AreFrames d.left
    by_singles chunks took None found e = absurd (none-some _ e)
    by_singles chunks took (Some singles) found e =
        let given : Drawn = record { frames = chunks.frames ++ singles.frames; left = singles.left } in
        let same : given ≡ d = same_Some given d e in
        subst (λ (one : Drawn). AreFrames one.left) same (groups_ascend lowest_frame 1 (count % 512) chunks.left singles (groups_ascend lowest_chunk 512 (count / 512) free chunks ok took) found)

    by_chunks : (o : Option Drawn) → groups_drawn lowest_chunk 512 (count / 512) free ≡ o →
        (o >>= λ (chunks : Drawn). groups_drawn lowest_frame 1 (count % 512) chunks.left >>= λ (singles : Drawn). Some (record { frames = chunks.frames ++ singles.frames; left = singles.left })) ≡ Some d → AreFrames d.left
    by_chunks None found e = absurd (none-some _ e)
    by_chunks (Some chunks) found e = by_singles chunks found (groups_drawn lowest_frame 1 (count % 512) chunks.left) refl e

pub heaps_ascend : (guests : List Guest) (free : List ℕ) (all : Heaps) → AreFrames free → heaps guests free ≡ Ok all → AreFrames all.left
unfolding heaps
heaps_ascend [] free all ok is =
    let given : Heaps = record { drawn = []; left = free } in
    let same : given ≡ all = cc in
    subst (λ (one : Heaps). AreFrames one.left) same ok
heaps_ascend (guest ∷ guests) free all ok is = by_first (drawn guest.domain.pages free) refl (λ more later fine e. heaps_ascend guests more later fine e) is
  where
    by_later : (one : Drawn) → (o : Result Heaps Refusal) → ((later : Heaps) → o ≡ Ok later → AreFrames later.left) → and_drawn one.frames o ≡ Ok all → AreFrames all.left
    by_later one (Err refusal) told e = absurd cc
    by_later one (Ok later) told e =
        let given : Heaps = record { drawn = one.frames ∷ later.drawn; left = later.left } in
        let same : given ≡ all = cc in
        subst (λ (h : Heaps). AreFrames h.left) same (told later refl)

    by_first : (o : Option Drawn) → drawn guest.domain.pages free ≡ o → ((more : List ℕ) (later : Heaps) → AreFrames more → heaps guests more ≡ Ok later → AreFrames later.left) →
        (elim o as (λ _. Result Heaps Refusal) [ None ↦ Err (heap_item guest, NoRam guest.domain.pages (length free)) | Some one ↦ and_drawn one.frames (heaps guests one.left) ]) ≡ Ok all → AreFrames all.left
    by_first None found told e = absurd cc
    by_first (Some one) found told e = by_later one (heaps guests one.left) (λ later is. told one.left later (drawn_ascend guest.domain.pages free one ok found) is) e
