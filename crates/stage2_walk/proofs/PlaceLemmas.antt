-- What an index from frames to places answers, and what it answers after an entry was added in its order.
use Rattle.std.proofs.Common.{◌≡◌, ◌≢◌, ℕ, zero, suc, ◌+◌, ◌-◌, ◌<◌, ◌≤◌, ◌⊎◌, Bool, true, false, cond, eqb, List, [], ◌∷◌, ◌++◌, length, get_or, take, drop, Option, Some, None, refl, sym, ap, ◌∙◌, arith, inl, inr}
use Rattle.std.specs.List.{insert}
use Rattle.std.proofs.lemmas.Option.{none-some}
use Rattle.std.proofs.lemmas.List.{take-append-drop}
use Rattle.std.proofs.lemmas.List.Edits.{length-insert, get_or-insert_below, get_or-insert_at, get_or-insert_above}
use Rattle.std.proofs.lemmas.Bool.Decides.{nat_tests, eqb_tells}
use Rattle.stage2_walk.specs.Places.{place_in, AreAscending}
use Rattle.stage2_walk.specs.declared.places.Place.{Place}

pub eqb-apart : (a b : ℕ) → a ≢ b → eqb a b ≡ false
eqb-apart a b apart = grind (arith, nat_tests)

pub eqb-same : (a b : ℕ) → a ≡ b → eqb a b ≡ true
eqb-same a b same = grind (arith, nat_tests)

place_in-hit : (x : Place) (xs : List Place) (f : ℕ) → x.frame ≡ f → place_in (x ∷ xs) f ≡ Some x.place
place_in-hit x xs f same = rw (eqb-same x.frame f same) refl

place_in-miss : (x : Place) (xs : List Place) (f : ℕ) → x.frame ≢ f → place_in (x ∷ xs) f ≡ place_in xs f
place_in-miss x xs f apart = rw (eqb-apart x.frame f apart) refl

-- the first entry with a frame tells its place
pub place_in-at : (xs : List Place) (i f : ℕ) (d : Place) → i < length xs → ((k : ℕ) → k < i → (get_or xs k d).frame ≢ f) → (get_or xs i d).frame ≡ f → place_in xs f ≡ Some (get_or xs i d).place
place_in-at [] i f d within before here = absurd (omega arith)
place_in-at (x ∷ xs) zero f d within before here = place_in-hit x xs f here
place_in-at (x ∷ xs) (suc i) f d within before here =
    place_in-miss x xs f (before 0 (omega arith)) ∙ place_in-at xs i f d (omega arith) (λ k low. before (suc k) (omega arith)) here

-- a frame of no entry has no place
pub place_in-nowhere : (xs : List Place) (f : ℕ) (d : Place) → ((k : ℕ) → k < length xs → (get_or xs k d).frame ≢ f) → place_in xs f ≡ None
place_in-nowhere [] f d each = refl
place_in-nowhere (x ∷ xs) f d each = place_in-miss x xs f (each 0 (omega arith)) ∙ place_in-nowhere xs f d (λ k low. each (suc k) (omega arith))

-- the converse: no entry has a frame without a place
pub place_in-absent : (xs : List Place) (f : ℕ) (d : Place) → place_in xs f ≡ None → (k : ℕ) → k < length xs → (get_or xs k d).frame ≢ f
place_in-absent [] f d none k low = absurd (omega arith)
place_in-absent (x ∷ xs) f d none zero low = λ same. none-some x.place (sym none ∙ place_in-hit x xs f same)
place_in-absent (x ∷ xs) f d none (suc k) low = place_in-absent xs f d (rest (eqb_tells x.frame f)) k (omega arith)
  where
    rest : ((eqb x.frame f ≡ true) × (x.frame ≡ f)) ⊎ ((eqb x.frame f ≡ false) × (x.frame ≢ f)) → place_in xs f ≡ None
    rest (inl hit) = absurd (none-some x.place (sym none ∙ place_in-hit x xs f hit.1))
    rest (inr miss) = sym (place_in-miss x xs f miss.1) ∙ none

-- the first of two
abbrev pub or_else : Option ℕ → Option ℕ → Option ℕ
or_else None o = o
or_else (Some k) o = Some k

pub place_in-append : (xs ys : List Place) (f : ℕ) → place_in (xs ++ ys) f ≡ or_else (place_in xs f) (place_in ys f)
place_in-append [] ys f = refl
place_in-append (x ∷ xs) ys f = choose (eqb x.frame f) (place_in-append xs ys f)
  where
    choose : (b : Bool) → place_in (xs ++ ys) f ≡ or_else (place_in xs f) (place_in ys f) → cond b (Some x.place) (place_in (xs ++ ys) f) ≡ or_else (cond b (Some x.place) (place_in xs f)) (place_in ys f)
    choose true rest = refl
    choose false rest = rest

first_none : (o p : Option ℕ) → or_else o p ≡ None → o ≡ None
first_none None p none = refl
first_none (Some k) p none = absurd (none-some k (sym none))

-- an entry that was added with a new frame
pub place_in-insert_own : (xs : List Place) (i : ℕ) (e : Place) → place_in xs e.frame ≡ None → place_in (insert xs i e) e.frame ≡ Some e.place
place_in-insert_own xs i e fresh =
    let whole : place_in (take i xs ++ drop i xs) e.frame ≡ None = ap (λ (ys : List Place). place_in ys e.frame) (take-append-drop i xs) ∙ fresh in
    let before : place_in (take i xs) e.frame ≡ None = first_none _ _ (sym (place_in-append (take i xs) (drop i xs) e.frame) ∙ whole) in
    place_in-append (take i xs) (e ∷ drop i xs) e.frame
    ∙ ap (λ (o : Option ℕ). or_else o (place_in (e ∷ drop i xs) e.frame)) before
    ∙ place_in-hit e (drop i xs) e.frame refl

pub place_in-insert_other : (xs : List Place) (i : ℕ) (e : Place) (f : ℕ) → e.frame ≢ f → place_in (insert xs i e) f ≡ place_in xs f
place_in-insert_other xs i e f apart =
    place_in-append (take i xs) (e ∷ drop i xs) f
    ∙ ap (or_else (place_in (take i xs) f)) (place_in-miss e (drop i xs) f apart)
    ∙ sym (place_in-append (take i xs) (drop i xs) f)
    ∙ ap (λ (ys : List Place). place_in ys f) (take-append-drop i xs)

-- an index stays in order where an entry is added between the lower and the higher frames
pub AreAscending-insert : (xs : List Place) (i : ℕ) (e : Place) → AreAscending xs → i ≤ length xs →
    ((k : ℕ) (d : Place) → k < i → (get_or xs k d).frame < e.frame) → ((k : ℕ) (d : Place) → i ≤ k → k < length xs → e.frame < (get_or xs k d).frame) → AreAscending (insert xs i e)
AreAscending-insert xs i e up within below above j k d earlier late = by_later (sides k i)
  where
    sides : (a b : ℕ) → (a < b) ⊎ ((a ≡ b) ⊎ (b < a))
    sides a b = grind arith

    size : k < length xs + 1
    size = omega (arith, length-insert xs i e within)

    under : (m : ℕ) → m < i → get_or (insert xs i e) m d ≡ get_or xs m d
    under m low = get_or-insert_below xs i e d m low within

    at : (m : ℕ) → m ≡ i → get_or (insert xs i e) m d ≡ e
    at m same = ap (λ (n : ℕ). get_or (insert xs i e) n d) same ∙ get_or-insert_at xs i e d within

    over : (m : ℕ) → i < m → get_or (insert xs i e) m d ≡ get_or xs (m - 1) d
    over m high =
        let from : m ≡ (m - 1) + 1 = omega arith in
        ap (λ (n : ℕ). get_or (insert xs i e) n d) from ∙ get_or-insert_above xs i e d (m - 1) (omega arith) within

    by_earlier : i < k → (j < i) ⊎ ((j ≡ i) ⊎ (i < j)) → (get_or (insert xs i e) j d).frame < (get_or (insert xs i e) k d).frame
    by_earlier high (inl low) = rw (under j low, over k high) (up j (k - 1) d (omega arith) (omega (arith, size)))
    by_earlier high (inr (inl same)) = rw (at j same, over k high) (above (k - 1) d (omega arith) (omega (arith, size)))
    by_earlier high (inr (inr past)) = rw (over j past, over k high) (up (j - 1) (k - 1) d (omega arith) (omega (arith, size)))

    by_later : (k < i) ⊎ ((k ≡ i) ⊎ (i < k)) → (get_or (insert xs i e) j d).frame < (get_or (insert xs i e) k d).frame
    by_later (inl low) = rw (under j (omega arith), under k low) (up j k d earlier (omega arith))
    by_later (inr (inl same)) = rw (under j (omega arith), at k same) (below j d (omega arith))
    by_later (inr (inr high)) = by_earlier high (sides j i)
