-- Extents at the end of a list: one that grows, and one that is added.
use Rattle.std.proofs.Common.{◌≡◌, ℕ, ◌+◌, ◌^◌, ◌<◌, ◌≤◌, ◌⊎◌, inl, inr, List, [], ◌∷◌, ◌++◌, length, get_or, drop, refl, sym, ap, subst, ◌∙◌, arith, append-nil, append_assoc}
use Rattle.std.proofs.lemmas.List.{drop_more}
use Rattle.std.proofs.lemmas.Grind.{flat_map-append}
use Rattle.texts.specs.Consecutive.{numbers}
use Rattle.texts.specs.declared.ranges.FrameRange.{FrameRange}
use Rattle.frame_alloc.specs.Frames.{frames_in, AreFrameRangesFrom}
use Rattle.frame_alloc.specs.Extents.{frames_of, AreExtentsFrom}
use Rattle.frame_alloc.specs.PrivateExtents.{end_from}
use Rattle.frame_alloc.specs.declared.extents.Extent.{Extent}
use Rattle.frame_alloc.proofs.Without.{numbers-split}

-- the last extent with n more frames
abbrev pub longer : Extent → ℕ → Extent
longer e n = record { first = e.first; count = e.count + n }

pub frames_of-push : (es : List Extent) (e : Extent) → frames_of (es ++ e ∷ []) ≡ frames_of es ++ numbers e.first e.count
frames_of-push es e = flat_map-append (λ (extent : Extent). numbers extent.first extent.count) es (e ∷ []) ∙ ap (λ xs. frames_of es ++ xs) (append-nil (numbers e.first e.count))

push_after : (es : List Extent) (e : Extent) (s : ℕ) → AreExtentsFrom (s + 1) es → end_from s es < e.first → 0 < e.count → e.first + e.count ≤ 2 ^ 28 → AreExtentsFrom (s + 1) (es ++ e ∷ [])
push_after [] e s ok past some low = (omega arith, some, low, tt)
push_after (x ∷ xs) e s ok past some low = (ok.0, ok.1, ok.2, push_after xs e (x.first + x.count) ok.3 past some low)

pub AreExtents-push : (es : List Extent) (e : Extent) → AreExtentsFrom 0 es → (length es ≡ 0) ⊎ (end_from 0 es < e.first) → 0 < e.count → e.first + e.count ≤ 2 ^ 28 → AreExtentsFrom 0 (es ++ e ∷ [])
AreExtents-push [] e ok past some low = (omega arith, some, low, tt)
AreExtents-push (x ∷ xs) e ok (inl none) some low = absurd (omega arith)
AreExtents-push (x ∷ xs) e ok (inr past) some low = (ok.0, ok.1, ok.2, push_after xs e (x.first + x.count) ok.3 past some low)

pub end_from-push : (es : List Extent) (e : Extent) (s : ℕ) → end_from s (es ++ e ∷ []) ≡ e.first + e.count
end_from-push [] e s = refl
end_from-push (x ∷ xs) e s = end_from-push xs e (x.first + x.count)

-- the last extent is in bounds
pub bound-last : (es : List Extent) (e : Extent) (start : ℕ) → AreExtentsFrom start (es ++ e ∷ []) → e.first + e.count ≤ 2 ^ 28
bound-last [] e start ok = ok.2
bound-last (x ∷ xs) e start ok = bound-last xs e (x.first + x.count + 1) ok.3

-- the last extent grows
pub frames_of-longer : (es : List Extent) (e : Extent) (n : ℕ) → frames_of (es ++ longer e n ∷ []) ≡ frames_of (es ++ e ∷ []) ++ numbers (e.first + e.count) n
frames_of-longer es e n =
    frames_of-push es (longer e n)
    ∙ ap (λ xs. frames_of es ++ xs) (numbers-split e.first e.count n)
    ∙ sym (append_assoc (frames_of es) (numbers e.first e.count) (numbers (e.first + e.count) n))
    ∙ ap (λ xs. xs ++ numbers (e.first + e.count) n) (sym (frames_of-push es e))

pub AreExtents-longer : (es : List Extent) (e : Extent) (n start : ℕ) → AreExtentsFrom start (es ++ e ∷ []) → e.first + e.count + n ≤ 2 ^ 28 → AreExtentsFrom start (es ++ longer e n ∷ [])
AreExtents-longer [] e n start ok low = (ok.0, let some : 0 < e.count = ok.1 in omega arith, omega arith, tt)
AreExtents-longer (x ∷ xs) e n start ok low = (ok.0, ok.1, ok.2, AreExtents-longer xs e n (x.first + x.count + 1) ok.3 low)

-- one turn of a loop over sorted ranges
pub ranges-front : (ranges : List FrameRange) (i : ℕ) (d : FrameRange) (start : ℕ) → i < length ranges → AreFrameRangesFrom start (drop i ranges) →
    let range : FrameRange = get_or ranges i d in (start ≤ range.first) × (range.first + range.count ≤ 2 ^ 28) × AreFrameRangesFrom (range.first + range.count) (drop (i + 1) ranges)
ranges-front ranges i d start low ok = subst (AreFrameRangesFrom start) (drop_more ranges i d low) ok

pub frames_in-front : (ranges : List FrameRange) (i : ℕ) (d : FrameRange) → i < length ranges → frames_in (drop i ranges) ≡ numbers (get_or ranges i d).first (get_or ranges i d).count ++ frames_in (drop (i + 1) ranges)
frames_in-front ranges i d low = ap frames_in (drop_more ranges i d low)

pub AreFrameRanges-weaker : (ranges : List FrameRange) (low high : ℕ) → low ≤ high → AreFrameRangesFrom high ranges → AreFrameRangesFrom low ranges
AreFrameRanges-weaker [] low high le ok = tt
AreFrameRanges-weaker (x ∷ xs) low high le ok = (let h : high ≤ x.first = ok.0 in omega arith, ok.1, ok.2)
