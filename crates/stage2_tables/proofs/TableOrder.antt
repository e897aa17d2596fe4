-- The tables of a map: which regions they have, and in which order.
use Rattle.std.proofs.Common.{◌≡◌, ℕ, zero, suc, ◌+◌, ◌*◌, ◌%◌, ◌^◌, ◌<◌, ◌≤◌, ◌⊎◌, true, List, [], ◌∷◌, ◌++◌, map, Some, refl, ap, subst, arith, inl, inr}
use Rattle.std.specs.List.{slice_get, flat_map, range_with_len}
use Rattle.std.proofs.lemmas.Option.{none-some, same_Some}
use Rattle.texts.specs.Consecutive.{numbers}
use Rattle.described.specs.Regions.{Map, Region, span, has_table, regions_in, all_regions, table_regions}
use Rattle.texts.proofs.Ascending.{AreAscendingFrom, IsMember, filter-ascending, member-from_filter}
use Rattle.stage2_tables.specs.Sweeps.{IsTable}

-- a region of level 1 or 2 in the guest's pages
pub record IsRegular (region : Region) : Type 0 where
  pub level : (region.level ≡ 1) ⊎ (region.level ≡ 2)
  pub aligned : region.page % span region.level ≡ 0
  pub low : region.page + span region.level ≤ 2 ^ 28

member-append : {X : Type 0} (x : X) (xs ys : List X) → IsMember x (xs ++ ys) → IsMember x xs ⊎ IsMember x ys
member-append x [] ys is = inr is
member-append x (z ∷ zs) ys (inl same) = inl (inl same)
member-append x (z ∷ zs) ys (inr is) = by_side (member-append x zs ys is)
  where
    by_side : IsMember x zs ⊎ IsMember x ys → ((z ≡ x) ⊎ IsMember x zs) ⊎ IsMember x ys
    by_side (inl h) = inl (inr h)
    by_side (inr h) = inr h

regular_large : (g : ℕ) → g < 1024 → IsRegular (record { level = 1; page = g * 2 ^ 18 })
regular_large g low = record { level = inl refl; aligned = omega arith; low = omega arith }

regular_small : (g i : ℕ) → g < 1024 → i < 512 → IsRegular (record { level = 2; page = g * 2 ^ 18 + i * 2 ^ 9 })
regular_small g i low within = record { level = inr refl; aligned = omega arith; low = omega arith }

regular_smalls : (g a n : ℕ) (region : Region) → g < 1024 → a + n ≤ 512 → IsMember region (map (λ (i : ℕ). record { level = 2; page = g * 2 ^ 18 + i * 2 ^ 9 }) (range_with_len a n)) → IsRegular region
regular_smalls g a zero region low within is = absurd is
regular_smalls g a (suc n) region low within (inl same) = subst IsRegular same (regular_small g a low (omega arith))
regular_smalls g a (suc n) region low within (inr is) = regular_smalls g (a + 1) n region low (omega arith) is

regular_in : (g : ℕ) (region : Region) → g < 1024 → IsMember region (regions_in g) → IsRegular region
unfolding numbers
regular_in g region low (inl same) = subst IsRegular same (regular_large g low)
regular_in g region low (inr is) = regular_smalls g 0 512 region low (omega arith) is

regular_range : (a n : ℕ) (region : Region) → a + n ≤ 1024 → IsMember region (flat_map regions_in (range_with_len a n)) → IsRegular region
regular_range a zero region low is = absurd is
regular_range a (suc n) region low is = by_side (member-append region (regions_in a) (flat_map regions_in (range_with_len (a + 1) n)) is) (λ h. regular_range (a + 1) n region (omega arith) h)
  where
    by_side : IsMember region (regions_in a) ⊎ IsMember region (flat_map regions_in (range_with_len (a + 1) n)) → (IsMember region (flat_map regions_in (range_with_len (a + 1) n)) → IsRegular region) → IsRegular region
    by_side (inl h) rest = regular_in a region (omega arith) h
    by_side (inr h) rest = rest h

regular_all : (region : Region) → IsMember region all_regions → IsRegular region
unfolding numbers
regular_all region is = regular_range 0 1024 region (omega arith) is

pub member_at : {X : Type 0} (xs : List X) (k : ℕ) (x : X) → slice_get xs k ≡ Some x → IsMember x xs
member_at [] k x at = absurd (none-some x at)
member_at (y ∷ ys) zero x at = inl (same_Some y x at)
member_at (y ∷ ys) (suc k) x at = inr (member_at ys k x at)

-- a table but the first two has a regular region that has a table
pub table_regular : (mapping : Map) (k : ℕ) (region : Region) → IsTable mapping k region → 2 ≤ k → IsRegular region × (has_table mapping region ≡ true)
unfolding table_regions
table_regular mapping zero region at low = absurd (omega arith)
table_regular mapping (suc zero) region at low = absurd (omega arith)
table_regular mapping (suc (suc k)) region at low =
    let is = member-from_filter (has_table mapping) all_regions region (member_at (table_regions mapping) k region at) in
    (regular_all region is.0, is.1)

-- the key by which regions ascend
abbrev pub key_of : Region → ℕ
key_of region = region.page * 4 + region.level

-- keys that ascend from a number, and are all below another
abbrev pub AreBetween : ℕ → List Region → ℕ → Type 0
AreBetween start [] end = start ≤ end
AreBetween start (x ∷ xs) end = (start ≤ key_of x) × AreBetween (key_of x + 1) xs end

between_append : (start middle end : ℕ) (xs ys : List Region) → AreBetween start xs middle → AreBetween middle ys end → AreBetween start (xs ++ ys) end
between_append start middle end [] ys first second = weaker start ys first second
  where
    weaker : (start : ℕ) (ys : List Region) → start ≤ middle → AreBetween middle ys end → AreBetween start ys end
    weaker start [] low is = omega arith
    weaker start (y ∷ ys) low is = (let h = is.0 in omega arith, is.1)
between_append start middle end (x ∷ xs) ys first second = (first.0, between_append (key_of x + 1) middle end xs ys first.1 second)

between_smalls : (g a n start end : ℕ) → start ≤ (g * 2 ^ 18 + a * 2 ^ 9) * 4 + 2 → start ≤ end → (g * 2 ^ 18 + (a + n) * 2 ^ 9) * 4 ≤ end + 2045 → AreBetween start (map (λ (i : ℕ). record { level = 2; page = g * 2 ^ 18 + i * 2 ^ 9 }) (range_with_len a n)) end
between_smalls g a zero start end low fits last = fits
between_smalls g a (suc n) start end low fits last = (low, between_smalls g (a + 1) n ((g * 2 ^ 18 + a * 2 ^ 9) * 4 + 2 + 1) end (omega arith) (omega arith) (omega arith))

between_in : (g : ℕ) → AreBetween (g * 2 ^ 20) (regions_in g) ((g + 1) * 2 ^ 20)
unfolding numbers
between_in g = (omega arith, between_smalls g 0 512 (g * 2 ^ 18 * 4 + 1 + 1) ((g + 1) * 2 ^ 20) (omega arith) (omega arith) (omega arith))

between_range : (a n : ℕ) → AreBetween (a * 2 ^ 20) (flat_map regions_in (range_with_len a n)) ((a + n) * 2 ^ 20)
between_range a zero = omega arith
between_range a (suc n) =
    let end : ((a + 1) + n) * 2 ^ 20 ≡ (a + suc n) * 2 ^ 20 = omega arith in
    subst (AreBetween (a * 2 ^ 20) (flat_map regions_in (range_with_len a (suc n)))) end
    (between_append (a * 2 ^ 20) ((a + 1) * 2 ^ 20) (((a + 1) + n) * 2 ^ 20) (regions_in a) (flat_map regions_in (range_with_len (a + 1) n)) (between_in a) (between_range (a + 1) n))

ascending-between : (start end : ℕ) (xs : List Region) → AreBetween start xs end → AreAscendingFrom key_of start xs
ascending-between start end [] is = tt
ascending-between start end (x ∷ xs) is = (is.0, ascending-between (key_of x + 1) end xs is.1)

ascending_all : AreAscendingFrom key_of 0 all_regions
unfolding numbers
ascending_all = ascending-between 0 ((0 + 1024) * 2 ^ 20) (flat_map regions_in (range_with_len 0 1024)) (between_range 0 1024)

ascending_tables : (mapping : Map) → AreAscendingFrom key_of 0 (table_regions mapping)
unfolding table_regions
ascending_tables mapping = filter-ascending key_of (has_table mapping) all_regions 0 ascending_all

above : (start : ℕ) (xs : List Region) (k : ℕ) (y : Region) → AreAscendingFrom key_of start xs → slice_get xs k ≡ Some y → start ≤ key_of y
above start [] k y up at = absurd (none-some y at)
above start (x ∷ xs) zero y up at = subst (λ (r : Region). start ≤ key_of r) (same_Some x y at) up.0
above start (x ∷ xs) (suc k) y up at = let rest = above (key_of x + 1) xs k y up.1 at in let low = up.0 in omega arith

in_order : (start : ℕ) (xs : List Region) (j k : ℕ) (x y : Region) → AreAscendingFrom key_of start xs → slice_get xs j ≡ Some x → slice_get xs k ≡ Some y → j < k → key_of x < key_of y
in_order start [] j k x y up at there less = absurd (none-some x at)
in_order start (z ∷ zs) zero zero x y up at there less = absurd (omega arith)
in_order start (z ∷ zs) zero (suc k) x y up at there less =
    let first : key_of z ≡ key_of x = ap key_of (same_Some z x at) in
    let rest = above (key_of z + 1) zs k y up.1 there in
    omega arith
in_order start (z ∷ zs) (suc j) zero x y up at there less = absurd (omega arith)
in_order start (z ∷ zs) (suc j) (suc k) x y up at there less = in_order (key_of z + 1) zs j k x y up.1 at there (omega arith)

-- the tables but the first two ascend
pub tables_in_order : (mapping : Map) (j k : ℕ) (x y : Region) → IsTable mapping j x → IsTable mapping k y → 2 ≤ j → j < k → key_of x < key_of y
tables_in_order mapping zero k x y at there low less = absurd (omega arith)
tables_in_order mapping (suc zero) k x y at there low less = absurd (omega arith)
tables_in_order mapping (suc (suc j)) zero x y at there low less = absurd (omega arith)
tables_in_order mapping (suc (suc j)) (suc zero) x y at there low less = absurd (omega arith)
tables_in_order mapping (suc (suc j)) (suc (suc k)) x y at there low less = in_order 0 (table_regions mapping) j k x y (ascending_tables mapping) at there (omega arith)

-- a region has one table
pub one_table : (mapping : Map) (j k : ℕ) (x : Region) → IsTable mapping j x → IsTable mapping k x → 2 ≤ j → 2 ≤ k → j ≡ k
one_table mapping j k x at there low high = by_order (order j k)
  where
    order : (j k : ℕ) → (j < k) ⊎ ((j ≡ k) ⊎ (k < j))
    order j k = grind arith

    by_order : (j < k) ⊎ ((j ≡ k) ⊎ (k < j)) → j ≡ k
    by_order (inl less) = absurd (let h = tables_in_order mapping j k x x at there low less in omega arith)
    by_order (inr (inl same)) = same
    by_order (inr (inr more)) = absurd (let h = tables_in_order mapping k j x x there at high more in omega arith)
