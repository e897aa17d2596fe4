-- How many tables a map has at most.
use Rattle.std.proofs.Common.{◌≡◌, ℕ, zero, suc, ◌+◌, ◌*◌, ◌/◌, ◌^◌, ◌<◌, ◌≤◌, ◌⊎◌, ◌&&◌, Bool, true, false, not, cond, List, [], ◌∷◌, length, map, refl, ap, ◌∙◌, arith, inl, inr}
use Rattle.std.specs.Option.{is_some, IsSome}
use Rattle.std.specs.List.{range_with_len, count_by, flat_map}
use Rattle.std.proofs.lemmas.List.{length-append}
use Rattle.std.proofs.lemmas.List.Sums.{length-filter}
use Rattle.texts.specs.Consecutive.{numbers}
use Rattle.texts.proofs.NumberLists.{length-map-numbers}
use Rattle.described.specs.Regions.{Map, Region, span, lies_in_block, has_table, regions_in, all_regions, table_regions, table_count}
use Rattle.stage2_tables.proofs.NumberCounts.{any-numbers-none, count-append, count-cons, count-map, count-numbers-none}

-- no more are counted than there are
count_most : {X : Type 0} (p : X → Bool) (xs : List X) → count_by p xs ≤ length xs
count_most p [] = omega arith
count_most p (x ∷ xs) = by_test (p x) (count-cons p x xs) (count_most p xs)
  where
    by_test : (b : Bool) → count_by p (x ∷ xs) ≡ cond b 1 0 + count_by p xs → count_by p xs ≤ length xs → count_by p (x ∷ xs) ≤ length (x ∷ xs)
    by_test true is rest = omega arith
    by_test false is rest = omega arith

length_in : (g : ℕ) → length (regions_in g) ≡ 513
length_in g = let n = length-map-numbers (λ (i : ℕ). region g i) 0 512 in omega arith
  where
    region : ℕ → ℕ → Region
    region g i = record { level = 2; page = g * 2 ^ 18 + i * 2 ^ 9 }

length_range : (a n : ℕ) → length (flat_map regions_in (range_with_len a n)) ≡ n * 513
length_range a zero = refl
length_range a (suc n) =
    let rest = length_range (a + 1) n in
    let first = length_in a in
    let both = length-append (regions_in a) (flat_map regions_in (range_with_len (a + 1) n)) in
    omega arith

few_regions : length all_regions ≡ 1024 * 513
unfolding numbers
few_regions = length_range 0 1024

-- the root pair, and one for each region at most
pub few_tables : (mapping : Map) → table_count mapping ≤ 2 ^ 20
unfolding table_regions
few_tables mapping = let most = count_most (has_table mapping) all_regions in let same = length-filter (has_table mapping) all_regions in let all = few_regions in omega arith

-- the mapped pages lie in one region of 1 GiB
abbrev pub LiesInGigabyte : Map → ℕ → Type 0
LiesInGigabyte mapping gigabyte = (page : ℕ) → IsSome (mapping page) → page / 2 ^ 18 ≡ gigabyte

module _ (mapping : Map) (gigabyte : ℕ) (lies : LiesInGigabyte mapping gigabyte) where
  not_mapped : (page : ℕ) → (page / 2 ^ 18 ≡ gigabyte → ⊥) → is_some (mapping page) ≡ false
  not_mapped page outside = by_target (is_some (mapping page)) refl
    where
      by_target : (b : Bool) → is_some (mapping page) ≡ b → is_some (mapping page) ≡ false
      by_target false is = is
      by_target true is = absurd (outside (lies page is))

  -- a region outside has no table
  no_table : (region : Region) → ((page : ℕ) → region.page ≤ page → page < region.page + span region.level → page / 2 ^ 18 ≡ gigabyte → ⊥) → has_table mapping region ≡ false
  no_table region outside =
      ap (λ (b : Bool). b && not (lies_in_block mapping region))
      (any-numbers-none (λ page. is_some (mapping page)) region.page (span region.level) (λ page low high. not_mapped page (outside page low high)))

  none_in : (a : ℕ) → (a ≡ gigabyte → ⊥) → count_by (has_table mapping) (regions_in a) ≡ 0
  none_in a other =
      let large : Region = record { level = 1; page = a * 2 ^ 18 } in
      let small : ℕ → Region = λ (index : ℕ). record { level = 2; page = a * 2 ^ 18 + index * 2 ^ 9 } in
      let first : has_table mapping large ≡ false = no_table large (λ page low high same. other (omega arith)) in
      let rest : count_by (has_table mapping) (map small (numbers 0 512)) ≡ 0 =
      count-map (has_table mapping) small (numbers 0 512)
      ∙ count-numbers-none (λ index. has_table mapping (small index)) 0 512 (λ index _ less. no_table (small index) (λ page low high same. other (omega arith))) in
      count-cons (has_table mapping) large (map small (numbers 0 512))
      ∙ ap (λ (b : Bool). cond b 1 0 + count_by (has_table mapping) (map small (numbers 0 512))) first
      ∙ ap (λ (n : ℕ). 0 + n) rest

  split : (a : ℕ) (n : ℕ) → count_by (has_table mapping) (flat_map regions_in (range_with_len a (suc n))) ≡ count_by (has_table mapping) (regions_in a) + count_by (has_table mapping) (flat_map regions_in (range_with_len (a + 1) n))
  split a n = count-append (has_table mapping) (regions_in a) (flat_map regions_in (range_with_len (a + 1) n))

  none_past : (a n : ℕ) → gigabyte < a → count_by (has_table mapping) (flat_map regions_in (range_with_len a n)) ≡ 0
  none_past a zero past = refl
  none_past a (suc n) past = let here = none_in a (λ same. omega arith) in let rest = none_past (a + 1) n (omega arith) in let both = split a n in omega arith

  most : (a n : ℕ) → count_by (has_table mapping) (flat_map regions_in (range_with_len a n)) ≤ 513
  most a zero = omega arith
  most a (suc n) = by_place (order a gigabyte) (most (a + 1) n)
    where
      order : (j k : ℕ) → (j ≡ k) ⊎ (j ≡ k → ⊥)
      order j k = grind arith

      by_place : (a ≡ gigabyte) ⊎ (a ≡ gigabyte → ⊥) → count_by (has_table mapping) (flat_map regions_in (range_with_len (a + 1) n)) ≤ 513 → count_by (has_table mapping) (flat_map regions_in (range_with_len a (suc n))) ≤ 513
      by_place (inl same) rest = let here = count_most (has_table mapping) (regions_in a) in let all = length_in a in let past = none_past (a + 1) n (omega arith) in let both = split a n in omega arith
      by_place (inr other) rest = let here = none_in a other in let both = split a n in omega arith

  most_of_all : count_by (has_table mapping) all_regions ≤ 513
  unfolding numbers
  most_of_all = most 0 1024

  -- the root pair, one for the region, and one for each of its 512 regions of 2 MiB
  pub tables_in_gigabyte : table_count mapping ≤ 515
  unfolding table_regions
  tables_in_gigabyte = let few = most_of_all in let same = length-filter (has_table mapping) all_regions in omega arith
