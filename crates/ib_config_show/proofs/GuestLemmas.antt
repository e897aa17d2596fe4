-- The guests one after the other.
use Rattle.std.proofs.Common.{◌≡◌, ℕ, zero, suc, ◌+◌, ◌<◌, ◌≤◌, List, [], ◌∷◌, ◌++◌, length, drop, refl, sym, ◌∙◌, ap, arith, Some, None, slice_get, append_assoc, append-nil, add-one}
use Rattle.std.specs.Prelude.{Option, IfSome}
use Rattle.ib_config.specs.declared.guests.Guest.{Guest}
use Rattle.ib_config_show.proofs.PartLemmas.{added_4}
use Rattle.ib_config_show.specs.Shown.{kernel_lines, machine_lines, static_lines, shared_lines, guest_lines, guests_lines}

-- a guest's lines are its four parts, one after the other
pub four_parts : (n : ℕ) (o : Option Guest) (t t1 t2 t3 t4 : List ℕ) → IfSome o (λ g. t1 ≡ t ++ kernel_lines n g) → IfSome o (λ g. t2 ≡ t1 ++ machine_lines n g) → IfSome o (λ g. t3 ≡ t2 ++ static_lines n g)
    → IfSome o (λ g. t4 ≡ t3 ++ shared_lines n g) → IfSome o (λ g. t4 ≡ t ++ guest_lines n g)
unfolding guest_lines
four_parts n None t t1 t2 t3 t4 a b c d = tt
four_parts n (Some g) t t1 t2 t3 t4 a b c d = added_4 t t1 t2 t3 t4 _ _ _ _ a b c d

-- the item at a place stands before those behind it
at_place : {A : Type 0} (P : A → Type 0) (xs : List A) (i : ℕ) → i < length xs → IfSome (slice_get xs i) P → (x : A) × (drop i xs ≡ x ∷ drop (suc i) xs) × P x
at_place P [] i h p = absurd (omega arith)
at_place P (x ∷ xs) zero h p = (x, refl, p)
at_place P (x ∷ xs) (suc i) h p = at_place P xs i (omega arith) p

-- the lines of a guest stand before those of the others
before_others : (g : Guest) (rest guests : List Guest) (n : ℕ) (t t1 : List ℕ) → guests ≡ g ∷ rest → t1 ≡ t ++ guest_lines n g → t ++ guests_lines n guests ≡ t1 ++ guests_lines (n + 1) rest
unfolding guests_lines
before_others g rest guests n t t1 first more = rw (first, more) (sym (append_assoc t (guest_lines n g) _))

-- one more guest is written
pub next_guest : (guests : List Guest) (n : ℕ) (all t t1 : List ℕ) → n < length guests → IfSome (slice_get guests n) (λ g. t1 ≡ t ++ guest_lines n g) → all ≡ t ++ guests_lines n (drop n guests)
    → all ≡ t1 ++ guests_lines (n + 1) (drop (n + 1) guests)
next_guest guests n all t t1 h p so_far =
    let here : (g : Guest) × (drop n guests ≡ g ∷ drop (suc n) guests) × (t1 ≡ t ++ guest_lines n g) = at_place (λ g. t1 ≡ t ++ guest_lines n g) guests n h p in
    so_far ∙ before_others here.0 (drop (n + 1) guests) (drop n guests) n t t1 (here.1 ∙ ap (λ k. here.0 ∷ drop k guests) (sym (add-one n))) here.2

-- no guest is left
past : {A : Type 0} (xs : List A) (i : ℕ) → length xs ≤ i → drop i xs ≡ []
past [] zero h = refl
past [] (suc i) h = refl
past (x ∷ xs) zero h = absurd (omega arith)
past (x ∷ xs) (suc i) h = past xs i (omega arith)

-- all guests are written
pub all_guests : (guests : List Guest) (n : ℕ) (all t : List ℕ) → length guests ≤ n → all ≡ t ++ guests_lines n (drop n guests) → t ≡ all
unfolding guests_lines
all_guests guests n all t h so_far = sym (so_far ∙ rw (past guests n h) (append-nil t))
