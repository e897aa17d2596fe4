-- What is known of the numbers of a map in ranges.
use Rattle.std.proofs.Common.{◌≡◌, ℕ, ◌+◌, ◌^◌, ◌≤◌, List, [], ◌∷◌, All, arith}
use Rattle.std.proofs.lemmas.List.Elements.{All-nil, All-cons}
use Rattle.std.proofs.lemmas.List.Sums.{sum_by-cons}
use Rattle.described.specs.Maps.{AreSortedFrom}
use Rattle.described.specs.declared.map_range.Kind.{Kind}
use Rattle.described.specs.declared.map_range.Kind.TheVariants.{Ram, Device, Shared}
use Rattle.described.specs.declared.map_range.MapRange.{MapRange}
use Rattle.described.specs.RunLines.{HasAddresses}
use Rattle.build_outputs.specs.ReportLines.{ram_in, ram_pages}

-- its pages and frames have addresses
pub have_addresses : (ranges : List MapRange) (start : ℕ) → AreSortedFrom start ranges → All HasAddresses ranges
have_addresses [] start sorted = All-nil HasAddresses
have_addresses (range ∷ ranges) start sorted =
    All-cons HasAddresses range ranges (omega arith, omega arith) (have_addresses ranges (range.page + range.count) sorted.4)

ram_at_most : (range : MapRange) → ram_in range ≤ range.count
ram_at_most range = by range.kind
  where
    by : (kind : Kind) → elim kind as (λ _. ℕ) [ Ram ↦ range.count | _ ↦ 0 ] ≤ range.count
    by Ram = omega arith
    by Device = omega arith
    by Shared = omega arith

-- it has at most 2^28 pages of memory
pub few_pages : (ranges : List MapRange) (start : ℕ) → start ≤ 2 ^ 28 → AreSortedFrom start ranges → start + ram_pages ranges ≤ 2 ^ 28
few_pages [] start low sorted = omega arith
few_pages (range ∷ ranges) start low sorted =
    let sum : ram_pages (range ∷ ranges) ≡ ram_in range + ram_pages ranges = sum_by-cons ram_in range ranges in
    let more : ram_in range ≤ range.count = ram_at_most range in
    let begins : start ≤ range.page = sorted.0 in
    let ends : range.page + range.count ≤ 2 ^ 28 = sorted.2 in
    let later = few_pages ranges (range.page + range.count) ends sorted.4 in
    omega arith
