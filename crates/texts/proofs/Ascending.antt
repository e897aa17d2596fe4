-- Lists in ascending order of a key: two with the same members are one list.
use Rattle.std.proofs.Common.{◌≡◌, ℕ, ◌+◌, ◌≤◌, ◌⊎◌, Bool, true, false, cond, List, [], ◌∷◌, refl, sym, ap, subst, ◌∙◌, arith, inl, inr}
use Rattle.std.specs.List.{filter}

-- the keys begin at or above a number, and each is above the one before
abbrev pub AreAscendingFrom : {X : Type 0} → (X → ℕ) → ℕ → List X → Type 0
AreAscendingFrom key start [] = Unit {0}
AreAscendingFrom key start (x ∷ xs) = (start ≤ key x) × AreAscendingFrom key (key x + 1) xs

abbrev pub IsMember : {X : Type 0} → X → List X → Type 0
IsMember x [] = ⊥
IsMember x (y ∷ ys) = (y ≡ x) ⊎ IsMember x ys

pub member_above : {X : Type 0} (key : X → ℕ) (xs : List X) (start : ℕ) (x : X) → AreAscendingFrom key start xs → IsMember x xs → start ≤ key x
member_above key [] start x up is = absurd is
member_above key (y ∷ ys) start x up (inl same) = let at : key y ≡ key x = ap key same in let low : start ≤ key y = up.0 in omega arith
member_above key (y ∷ ys) start x up (inr is) = let rest : key y + 1 ≤ key x = member_above key ys (key y + 1) x up.1 is in let low : start ≤ key y = up.0 in omega arith

-- two ascending lists with the same members are equal
pub same_ascending : {X : Type 0} (key : X → ℕ) (xs ys : List X) (start : ℕ) → AreAscendingFrom key start xs → AreAscendingFrom key start ys →
    ((x : X) → IsMember x xs → IsMember x ys) → ((x : X) → IsMember x ys → IsMember x xs) → xs ≡ ys
same_ascending key [] [] start up vp to from = refl
same_ascending key [] (y ∷ ys) start up vp to from = absurd (from y (inl refl))
same_ascending key (x ∷ xs) [] start up vp to from = absurd (to x (inl refl))
same_ascending key (x ∷ xs) (y ∷ ys) start up vp to from =
    both (first (to x (inl refl)) (from y (inl refl)))
    (λ (same : y ≡ x). same_ascending key xs ys (key x + 1) up.1 (subst (λ z. AreAscendingFrom key (key z + 1) ys) same vp.1)
    (λ z is. later same z (member_above key xs (key x + 1) z up.1 is) (to z (inr is)))
    (λ z is. later_back same z (member_above key ys (key y + 1) z vp.1 is) (from z (inr is))))
  where
    first : (y ≡ x) ⊎ IsMember x ys → (x ≡ y) ⊎ IsMember y xs → y ≡ x
    first (inl same) there = same
    first (inr is) (inl same) = sym same
    first (inr is) (inr there) =
        let a : key y + 1 ≤ key x = member_above key ys (key y + 1) x vp.1 is in
        let b : key x + 1 ≤ key y = member_above key xs (key x + 1) y up.1 there in
        absurd (omega arith)

    later : y ≡ x → (z : _) → key x + 1 ≤ key z → (y ≡ z) ⊎ IsMember z ys → IsMember z ys
    later same z above (inl at) = let a : key x ≡ key z = ap key (sym same ∙ at) in absurd (omega arith)
    later same z above (inr is) = is

    later_back : y ≡ x → (z : _) → key y + 1 ≤ key z → (x ≡ z) ⊎ IsMember z xs → IsMember z xs
    later_back same z above (inl at) = let a : key y ≡ key z = ap key (same ∙ at) in absurd (omega arith)
    later_back same z above (inr is) = is

    both : y ≡ x → (y ≡ x → xs ≡ ys) → x ∷ xs ≡ y ∷ ys
    both same rest = let tail = rest same in let head : x ≡ y = sym same in cc

-- a filter keeps the order, and its members are those that pass
pub filter-ascending : {X : Type 0} (key : X → ℕ) (p : X → Bool) (xs : List X) (start : ℕ) → AreAscendingFrom key start xs → AreAscendingFrom key start (filter p xs)
filter-ascending key p [] start up = tt
filter-ascending key p (x ∷ xs) start up = choose (p x) (filter-ascending key p xs (key x + 1) up.1)
  where
    weaker : (ys : List _) (low high : ℕ) → low ≤ high → AreAscendingFrom key high ys → AreAscendingFrom key low ys
    weaker [] low high le vp = tt
    weaker (y ∷ ys) low high le vp = (let h : high ≤ key y = vp.0 in omega arith, vp.1)

    choose : (b : Bool) → AreAscendingFrom key (key x + 1) (filter p xs) → AreAscendingFrom key start (cond b (x ∷ filter p xs) (filter p xs))
    choose true rest = (up.0, rest)
    choose false rest = weaker (filter p xs) start (key x + 1) (let h : start ≤ key x = up.0 in omega arith) rest

pub member-filter : {X : Type 0} (p : X → Bool) (xs : List X) (x : X) → IsMember x xs → p x ≡ true → IsMember x (filter p xs)
member-filter p [] x is pass = is
member-filter p (y ∷ ys) x (inl same) pass = let hit : p y ≡ true = ap p same ∙ pass in rw hit (inl same)
member-filter p (y ∷ ys) x (inr is) pass = choose (p y) (member-filter p ys x is pass)
  where
    choose : (b : Bool) → IsMember x (filter p ys) → IsMember x (cond b (y ∷ filter p ys) (filter p ys))
    choose true rest = inr rest
    choose false rest = rest

pub member-from_filter : {X : Type 0} (p : X → Bool) (xs : List X) (x : X) → IsMember x (filter p xs) → IsMember x xs × (p x ≡ true)
member-from_filter p [] x is = absurd is
member-from_filter p (y ∷ ys) x is = choose (p y) refl is (member-from_filter p ys x)
  where
    choose : (b : Bool) → p y ≡ b → IsMember x (cond b (y ∷ filter p ys) (filter p ys)) → (IsMember x (filter p ys) → IsMember x ys × (p x ≡ true)) → IsMember x (y ∷ ys) × (p x ≡ true)
    choose true at (inl same) rest = (inl same, ap p (sym same) ∙ at)
    choose true at (inr is) rest = let r = rest is in (inr r.0, r.1)
    choose false at is rest = let r = rest is in (inr r.0, r.1)

-- an ascending list whose members are those of another that pass is its filter
pub filter_from_members : {X : Type 0} (key : X → ℕ) (p : X → Bool) (all xs : List X) (start : ℕ) → AreAscendingFrom key start all → AreAscendingFrom key start xs →
    ((x : X) → IsMember x xs → IsMember x all × (p x ≡ true)) → ((x : X) → IsMember x all → p x ≡ true → IsMember x xs) → xs ≡ filter p all
filter_from_members key p all xs start up vp to from =
    same_ascending key xs (filter p all) start vp (filter-ascending key p all start up)
    (λ x is. let h = to x is in member-filter p all x h.0 h.1)
    (λ x is. let h = member-from_filter p all x is in from x h.0 h.1)
