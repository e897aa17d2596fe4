-- The members of a list of extents, and the runs that begin in an extent.
use Rattle.std.proofs.Common.{◌≡◌, ℕ, ◌+◌, ◌<◌, ◌≤◌, ◌⊎◌, ◌||◌, Bool, true, false, leb, List, [], ◌∷◌, refl, sym, ap, ◌∙◌, arith, inl, inr}
use Rattle.std.proofs.lemmas.Bool.{false≢true}
use Rattle.std.proofs.lemmas.Bool.Decides.{leb_tells}
use Rattle.std.specs.Prelude.{nat_le}
use Rattle.std.specs.List.{list_all}
use Rattle.texts.specs.Consecutive.{numbers, is_in}
use Rattle.frame_alloc.specs.Frames.{begins_run}
use Rattle.frame_alloc.specs.Extents.{frames_of, AreExtentsFrom}
use Rattle.frame_alloc.specs.declared.extents.Extent.{Extent}
use Rattle.frame_alloc.proofs.Without.{is_within-in, is_within-below, is_within-above}
use Rattle.frame_alloc.proofs.FreeFrames.{is_in-append, is_in-numbers, is_in_nil, list_all-numbers, list_all-numbers_tells}

-- below the first extent there is no frame
pub is_in-before : (es : List Extent) (start x : ℕ) → AreExtentsFrom start es → x < start → is_in (frames_of es) x ≡ false
is_in-before [] start x ok low = is_in_nil x
is_in-before (e ∷ es) start x ok low =
    let begins : start ≤ e.first = ok.0 in
    is_in-append (numbers e.first e.count) (frames_of es) x
    ∙ ap (λ b. b || is_in (frames_of es) x) (is_in-numbers e.first e.count x ∙ is_within-below e.first e.count x (omega arith))
    ∙ is_in-before es (e.first + e.count + 1) x ok.3 (omega arith)

-- in an extent, the frames are those of the extent; the frame past it is in none
pub is_in-extent : (e : Extent) (es : List Extent) (start x : ℕ) → AreExtentsFrom start (e ∷ es) → e.first ≤ x → x < e.first + e.count → is_in (frames_of (e ∷ es)) x ≡ true
is_in-extent e es start x ok low high =
    is_in-append (numbers e.first e.count) (frames_of es) x
    ∙ ap (λ b. b || is_in (frames_of es) x) (is_in-numbers e.first e.count x ∙ is_within-in e.first e.count x low high)

pub is_in-past : (e : Extent) (es : List Extent) (start x : ℕ) → AreExtentsFrom start (e ∷ es) → e.first + e.count ≤ x → is_in (frames_of (e ∷ es)) x ≡ is_in (frames_of es) x
is_in-past e es start x ok past =
    is_in-append (numbers e.first e.count) (frames_of es) x
    ∙ ap (λ b. b || is_in (frames_of es) x) (is_in-numbers e.first e.count x ∙ is_within-above e.first e.count x past)

-- a list of frames is, from a frame on, that of these extents
abbrev pub IsFrom : ℕ → List ℕ → List Extent → Type 0
IsFrom from all es = (x : ℕ) → from ≤ x → is_in all x ≡ is_in (frames_of es) x

-- a run begins at a frame of an extent where it ends in the extent
pub free-in_extent : (size : ℕ) (all : List ℕ) (e : Extent) (es : List Extent) (start k : ℕ) → AreExtentsFrom start (e ∷ es) → IsFrom e.first all (e ∷ es) → e.first ≤ k → k < e.first + e.count →
    begins_run size all k ≡ nat_le (k + size) (e.first + e.count)
free-in_extent size all e es start k ok same low high = by_test (leb_tells (k + size) (e.first + e.count))
  where
    gap : is_in all (e.first + e.count) ≡ false
    gap = same (e.first + e.count) (omega arith) ∙ is_in-past e es start (e.first + e.count) ok (omega arith) ∙ is_in-before es (e.first + e.count + 1) (e.first + e.count) ok.3 (omega arith)

    missed : (b : Bool) → list_all (is_in all) (numbers k size) ≡ b → e.first + e.count < k + size → b ≡ false
    missed false is past = refl
    missed true is past = absurd (false≢true (sym gap ∙ list_all-numbers_tells (is_in all) k size is (e.first + e.count) (omega arith) past))

    by_test : ((leb (k + size) (e.first + e.count) ≡ true) × (k + size ≤ e.first + e.count)) ⊎ ((leb (k + size) (e.first + e.count) ≡ false) × (e.first + e.count < k + size)) → list_all (is_in all) (numbers k size) ≡ nat_le (k + size) (e.first + e.count)
    by_test (inl h) = rw h.0 (list_all-numbers (is_in all) k size (λ x from to. same x (omega arith) ∙ is_in-extent e es start x ok (omega arith) (let a = h.1 in omega arith)))
    by_test (inr h) = rw h.0 (missed (list_all (is_in all) (numbers k size)) refl h.1)
