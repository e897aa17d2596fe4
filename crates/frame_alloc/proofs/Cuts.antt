-- What a range leaves of extents: of each extent no piece, one or two.
use Rattle.std.proofs.Common.{◌≡◌, ℕ, suc, ◌+◌, ◌-◌, ◌<◌, ◌≤◌, ◌⊎◌, true, false, leb, List, [], ◌∷◌, ◌++◌, refl, sym, ap, ◌∙◌, arith, inl, inr, ⊎_elim, append-nil}
use Rattle.std.specs.List.{flat_map}
use Rattle.std.proofs.lemmas.Bool.Decides.{nat_tests, leb_tells}
use Rattle.std.specs.Prelude.{nat_lt, nat_le, if◌then◌else◌}
use Rattle.std.proofs.lemmas.Grind.{flat_map-append}
use Rattle.texts.specs.Consecutive.{numbers}
use Rattle.texts.proofs.NumberLists.{numbers-zero}
use Rattle.frame_alloc.specs.Frames.{without}
use Rattle.frame_alloc.specs.Extents.{frames_of, AreExtentsFrom}
use Rattle.frame_alloc.specs.declared.extents.Extent.{Extent}
use Rattle.frame_alloc.proofs.Without.{without-append, without-below, without-above, without-nil, without-met}

-- what is left of an extent
abbrev pub low_piece : ℕ → Extent → List Extent
low_piece first e = if nat_lt e.first first then record { first = e.first; count = first - e.first } ∷ [] else []

abbrev pub high_piece : ℕ → Extent → List Extent
high_piece end e = if nat_lt end (e.first + e.count) then record { first = end; count = (e.first + e.count) - end } ∷ [] else []

abbrev pub pieces : ℕ → ℕ → Extent → List Extent
pieces first count e =
    if nat_le (e.first + e.count) first then e ∷ []
    else if nat_le (first + count) e.first then e ∷ []
    else low_piece first e ++ high_piece (first + count) e

abbrev pub cut : ℕ → ℕ → List Extent → List Extent
cut first count extents = flat_map (pieces first count) extents

-- the frames of one extent
pub frames_of-one : (e : Extent) → frames_of (e ∷ []) ≡ numbers e.first e.count
frames_of-one e = append-nil (numbers e.first e.count)

low_part : (first : ℕ) (e : Extent) → frames_of (low_piece first e) ≡ numbers e.first (first - e.first)
low_part first e = by_test (leb_tells (suc e.first) first)
  where
    empty : (a n : ℕ) → n ≡ 0 → [] ≡ numbers a n
    empty a n none = sym (ap (numbers a) none ∙ numbers-zero a)

    by_test : ((leb (suc e.first) first ≡ true) × (suc e.first ≤ first)) ⊎ ((leb (suc e.first) first ≡ false) × (first < suc e.first)) → frames_of (low_piece first e) ≡ numbers e.first (first - e.first)
    by_test (inl h) = rw h.0 (append-nil (numbers e.first (first - e.first)))
    by_test (inr h) = rw h.0 (empty e.first (first - e.first) (omega arith))

high_part : (end : ℕ) (e : Extent) → frames_of (high_piece end e) ≡ numbers end ((e.first + e.count) - end)
high_part end e = by_test (leb_tells (suc end) (e.first + e.count))
  where
    empty : (a n : ℕ) → n ≡ 0 → [] ≡ numbers a n
    empty a n none = sym (ap (numbers a) none ∙ numbers-zero a)

    by_test : ((leb (suc end) (e.first + e.count) ≡ true) × (suc end ≤ e.first + e.count)) ⊎ ((leb (suc end) (e.first + e.count) ≡ false) × (e.first + e.count < suc end)) → frames_of (high_piece end e) ≡ numbers end ((e.first + e.count) - end)
    by_test (inl h) = rw h.0 (append-nil (numbers end ((e.first + e.count) - end)))
    by_test (inr h) = rw h.0 (empty end ((e.first + e.count) - end) (omega arith))

frames_of-append : (xs ys : List Extent) → frames_of (xs ++ ys) ≡ frames_of xs ++ frames_of ys
frames_of-append xs ys = flat_map-append (λ (extent : Extent). numbers extent.first extent.count) xs ys

-- the pieces of an extent hold what the range leaves of it
pub frames_of-pieces : (first count : ℕ) (e : Extent) → frames_of (pieces first count e) ≡ without first count (numbers e.first e.count)
frames_of-pieces first count e = by_test (leb_tells (e.first + e.count) first) (leb_tells (first + count) e.first)
  where
    by_test : ((leb (e.first + e.count) first ≡ true) × (e.first + e.count ≤ first)) ⊎ ((leb (e.first + e.count) first ≡ false) × (first < e.first + e.count))
        → ((leb (first + count) e.first ≡ true) × (first + count ≤ e.first)) ⊎ ((leb (first + count) e.first ≡ false) × (e.first < first + count))
        → frames_of (pieces first count e) ≡ without first count (numbers e.first e.count)
    by_test (inl h) _ = rw h.0 (frames_of-one e) ∙ sym (without-below first count e.first e.count h.1)
    by_test (inr h) (inl k) = rw (h.0, k.0) (frames_of-one e) ∙ sym (without-above first count e.first e.count k.1)
    by_test (inr h) (inr k) =
        rw (h.0, k.0) (frames_of-append (low_piece first e) (high_piece (first + count) e))
        ∙ ap (λ xs. xs ++ frames_of (high_piece (first + count) e)) (low_part first e)
        ∙ ap (λ xs. numbers e.first (first - e.first) ++ xs) (high_part (first + count) e)
        ∙ sym (without-met first count e.first e.count k.1 h.1)

-- cutting every extent takes the range away
pub frames_of-cut : (first count : ℕ) (es : List Extent) → frames_of (cut first count es) ≡ without first count (frames_of es)
frames_of-cut first count [] = sym (without-nil first count)
frames_of-cut first count (e ∷ es) =
    frames_of-append (pieces first count e) (cut first count es)
    ∙ ap (λ xs. xs ++ frames_of (cut first count es)) (frames_of-pieces first count e)
    ∙ ap (λ xs. without first count (numbers e.first e.count) ++ xs) (frames_of-cut first count es)
    ∙ sym (without-append first count (numbers e.first e.count) (frames_of es))

pub weaker : (es : List Extent) (low high : ℕ) → low ≤ high → AreExtentsFrom high es → AreExtentsFrom low es
weaker [] low high le ok = tt
weaker (e ∷ es) low high le ok = (let h : high ≤ e.first = ok.0 in omega arith, ok.1, ok.2, ok.3)

pub AreExtents-cons : (e : Extent) (es : List Extent) (start : ℕ) → AreExtentsFrom start (e ∷ es) → AreExtentsFrom 0 es
AreExtents-cons e es start ok = weaker es 0 (e.first + e.count + 1) (omega arith) ok.3

-- the pieces keep their place before what follows
pub AreExtents-pieces : (first count start : ℕ) (e : Extent) (es : List Extent) → 0 < count → AreExtentsFrom start (e ∷ []) → AreExtentsFrom (e.first + e.count + 1) es → AreExtentsFrom start (pieces first count e ++ es)
AreExtents-pieces first count start e es some ok rest = by_test (leb_tells (e.first + e.count) first) (leb_tells (first + count) e.first) (leb_tells (suc e.first) first) (leb_tells (suc (first + count)) (e.first + e.count))
  where
    by_test : ((leb (e.first + e.count) first ≡ true) × (e.first + e.count ≤ first)) ⊎ ((leb (e.first + e.count) first ≡ false) × (first < e.first + e.count))
        → ((leb (first + count) e.first ≡ true) × (first + count ≤ e.first)) ⊎ ((leb (first + count) e.first ≡ false) × (e.first < first + count))
        → ((leb (suc e.first) first ≡ true) × (suc e.first ≤ first)) ⊎ ((leb (suc e.first) first ≡ false) × (first < suc e.first))
        → ((leb (suc (first + count)) (e.first + e.count) ≡ true) × (suc (first + count) ≤ e.first + e.count)) ⊎ ((leb (suc (first + count)) (e.first + e.count) ≡ false) × (e.first + e.count < suc (first + count)))
        → AreExtentsFrom start (pieces first count e ++ es)
    by_test (inl h) _ _ _ = rw h.0 (ok.0, ok.1, ok.2, rest)
    by_test (inr h) (inl k) _ _ = rw (h.0, k.0) (ok.0, ok.1, ok.2, rest)
    by_test (inr h) (inr k) (inl l) (inl m) = rw (h.0, k.0, l.0, m.0) (ok.0, omega arith, (let b = ok.2 in omega arith), (omega arith, omega arith, (let b = ok.2 in omega arith), weaker es _ (e.first + e.count + 1) (omega arith) rest))
    by_test (inr h) (inr k) (inl l) (inr m) = rw (h.0, k.0, l.0, m.0) (ok.0, omega arith, (let b = ok.2 in omega arith), weaker es _ (e.first + e.count + 1) (omega arith) rest)
    by_test (inr h) (inr k) (inr l) (inl m) = rw (h.0, k.0, l.0, m.0) ((let b = ok.0 in omega arith), omega arith, (let b = ok.2 in omega arith), weaker es _ (e.first + e.count + 1) (omega arith) rest)
    by_test (inr h) (inr k) (inr l) (inr m) = rw (h.0, k.0, l.0, m.0) (weaker es start (e.first + e.count + 1) (let b = ok.0 in omega arith) rest)

pub AreExtents-cut : (first count start : ℕ) (es : List Extent) → 0 < count → AreExtentsFrom start es → AreExtentsFrom start (cut first count es)
AreExtents-cut first count start [] some ok = tt
AreExtents-cut first count start (e ∷ es) some ok = AreExtents-pieces first count start e (cut first count es) some (ok.0, ok.1, ok.2, tt) (AreExtents-cut first count (e.first + e.count + 1) es some ok.3)

-- extents above the range stay
pub cut-later : (first count start : ℕ) (es : List Extent) → AreExtentsFrom start es → first + count ≤ start → cut first count es ≡ es
cut-later first count start [] ok high = refl
cut-later first count start (e ∷ es) ok high =
    let rest : cut first count es ≡ es = cut-later first count (e.first + e.count + 1) es ok.3 (let b : start ≤ e.first = ok.0 in omega arith) in
    ap (λ (xs : List Extent). xs ++ cut first count es) (pieces-above e (let b : start ≤ e.first = ok.0 in omega arith)) ∙ ap (λ (xs : List Extent). e ∷ xs) rest
  where
    pieces-above : (e : Extent) → first + count ≤ e.first → pieces first count e ≡ e ∷ []
    pieces-above e high =
        let above : leb (first + count) e.first ≡ true = grind (arith, nat_tests) in
        ⊎_elim (λ (h : (leb (e.first + e.count) first ≡ true) × (e.first + e.count ≤ first)). rw h.0 refl) (λ (h : (leb (e.first + e.count) first ≡ false) × (first < e.first + e.count)). rw (h.0, above) refl) (leb_tells (e.first + e.count) first)

-- what the pieces of an extent are, case by case
pub pieces-below : (first count : ℕ) (e : Extent) → e.first + e.count ≤ first → pieces first count e ≡ e ∷ []
pieces-below first count e low = let a : leb (e.first + e.count) first ≡ true = grind (arith, nat_tests) in rw a refl

pub pieces-above : (first count : ℕ) (e : Extent) → first < e.first + e.count → first + count ≤ e.first → pieces first count e ≡ e ∷ []
pieces-above first count e past high =
    let a : leb (e.first + e.count) first ≡ false = grind (arith, nat_tests) in
    let b : leb (first + count) e.first ≡ true = grind (arith, nat_tests) in
    rw (a, b) refl

pub pieces-met : (first count : ℕ) (e : Extent) → first < e.first + e.count → e.first < first + count → pieces first count e ≡ low_piece first e ++ high_piece (first + count) e
pieces-met first count e past low =
    let a : leb (e.first + e.count) first ≡ false = grind (arith, nat_tests) in
    let b : leb (first + count) e.first ≡ false = grind (arith, nat_tests) in
    rw (a, b) refl

pub low_piece-some : (first : ℕ) (e : Extent) → e.first < first → low_piece first e ≡ record { first = e.first; count = first - e.first } ∷ []
low_piece-some first e low = let a : leb (suc e.first) first ≡ true = grind (arith, nat_tests) in rw a refl

pub low_piece-none : (first : ℕ) (e : Extent) → first ≤ e.first → low_piece first e ≡ []
low_piece-none first e low = let a : leb (suc e.first) first ≡ false = grind (arith, nat_tests) in rw a refl

pub high_piece-some : (end : ℕ) (e : Extent) → end < e.first + e.count → high_piece end e ≡ record { first = end; count = (e.first + e.count) - end } ∷ []
high_piece-some end e high = let a : leb (suc end) (e.first + e.count) ≡ true = grind (arith, nat_tests) in rw a refl

pub high_piece-none : (end : ℕ) (e : Extent) → e.first + e.count ≤ end → high_piece end e ≡ []
high_piece-none end e high = let a : leb (suc end) (e.first + e.count) ≡ false = grind (arith, nat_tests) in rw a refl
