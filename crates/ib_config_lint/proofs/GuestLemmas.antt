-- The guests one after the other.
use Rattle.std.proofs.Common.{◌≡◌, ℕ, zero, suc, ◌+◌, ◌<◌, ◌≤◌, List, [], ◌∷◌, ◌++◌, length, drop, refl, sym, ◌∙◌, ap, arith, Some, slice_get, append_assoc, append-nil, add-one}
use Rattle.std.specs.Prelude.{option_map}
use Rattle.ib_config.specs.declared.guests.Guest.{Guest}
use Rattle.ib_config_lint.specs.Warnings.{guest_warnings, guests_warnings}
use Rattle.ib_config_lint.specs.declared.warning.Warning.{Warning}

-- the guest at a place stands before those behind it, and its rows were added
at_place : (old new : List Warning) (n : ℕ) (guests : List Guest) (i : ℕ) → i < length guests → option_map (λ g. old ++ guest_warnings n g) (slice_get guests i) ≡ Some new
    → (g : Guest) × (drop i guests ≡ g ∷ drop (suc i) guests) × (new ≡ old ++ guest_warnings n g)
at_place old new n [] i h p = absurd (omega arith)
at_place old new n (g ∷ guests) zero h p = (g, refl, cc)
at_place old new n (g ∷ guests) (suc i) h p = at_place old new n guests i (omega arith) p

-- the rows of a guest stand before those of the others
before_others : (g : Guest) (rest guests : List Guest) (n : ℕ) (t t1 : List Warning) → guests ≡ g ∷ rest → t1 ≡ t ++ guest_warnings n g → t ++ guests_warnings n guests ≡ t1 ++ guests_warnings (n + 1) rest
unfolding guests_warnings
before_others g rest guests n t t1 first more = rw (first, more) (sym (append_assoc t (guest_warnings n g) _))

-- the rows of one more guest are added
pub next_guest : (guests : List Guest) (n : ℕ) (all t t1 : List Warning) → n < length guests → option_map (λ g. t ++ guest_warnings n g) (slice_get guests n) ≡ Some t1
    → all ≡ t ++ guests_warnings n (drop n guests) → all ≡ t1 ++ guests_warnings (n + 1) (drop (n + 1) guests)
next_guest guests n all t t1 h p so_far =
    let here : (g : Guest) × (drop n guests ≡ g ∷ drop (suc n) guests) × (t1 ≡ t ++ guest_warnings n g) = at_place t t1 n guests n h p in
    so_far ∙ before_others here.0 (drop (n + 1) guests) (drop n guests) n t t1 (here.1 ∙ ap (λ k. here.0 ∷ drop k guests) (sym (add-one n))) here.2

-- no guest is left
past : (guests : List Guest) (i : ℕ) → length guests ≤ i → drop i guests ≡ []
past [] zero h = refl
past [] (suc i) h = refl
past (g ∷ guests) zero h = absurd (omega arith)
past (g ∷ guests) (suc i) h = past guests i (omega arith)

-- the rows of all guests are added
pub all_guests : (guests : List Guest) (n : ℕ) (all t : List Warning) → length guests ≤ n → all ≡ t ++ guests_warnings n (drop n guests) → t ≡ all
unfolding guests_warnings
all_guests guests n all t h so_far = sym (so_far ∙ rw (past guests n h) (append-nil t))
