-- How many port groups the guests before a guest have.
use Rattle.std.proofs.Common.{◌≡◌, ℕ, ◌+◌, ◌<◌, ◌≤◌, true, false, inl, inr, List, length, take, get_or, slice_get, Some, None, refl, arith}
use Rattle.std.specs.Prelude.{Option, IfSome, option_map, sum_by, min}
use Rattle.std.proofs.lemmas.Bool.{cases_lt}
use Rattle.std.proofs.lemmas.Bool.Decides.{nat_tests}
use Rattle.std.proofs.lemmas.List.{take_all, take_min}
use Rattle.std.proofs.lemmas.List.Sums.{sum_by_more, sum_by_more_le, sum_by-take-le}
use Rattle.std.proofs.lemmas.Option.{slice_get-get_or, slice_get_past}
use Rattle.ib_config.specs.declared.groups.PortGroup.{PortGroup}
use Rattle.ib_config.specs.declared.guests.Guest.{Guest}
use Rattle.ib_script.specs.Phandles.{groups_before, has_phandles}

-- how many groups a guest has
abbrev groups_of : Guest → ℕ
groups_of guest = length guest.evtchns

-- one guest more
pub one_more : (guests : List Guest) (n count : ℕ) (groups : List PortGroup) → n < length guests → option_map (λ (g : Guest). g.evtchns) (slice_get guests n) ≡ Some groups → count ≡ groups_before guests n
    → count + length groups ≡ groups_before guests (n + 1)
unfolding groups_before
one_more guests n count groups within found so_far = by (slice_get guests n) refl
  where
    by : (o : Option Guest) → slice_get guests n ≡ o → count + length groups ≡ groups_before guests (n + 1)
    by None none = absurd (let lost : option_map (λ (g : Guest). g.evtchns) (slice_get guests n) ≡ None = rw none refl in cc)
    by (Some g) some =
        let there : slice_get guests n ≡ Some (get_or guests n g) = slice_get-get_or guests n g within in
        let same : get_or guests n g ≡ g = cc in
        let read : option_map (λ (g : Guest). g.evtchns) (slice_get guests n) ≡ Some g.evtchns = rw some refl in
        let groups_are : groups ≡ g.evtchns = cc in
        let more : sum_by groups_of (take (n + 1) guests) ≡ sum_by groups_of (take n guests) + groups_of (get_or guests n g) = sum_by_more groups_of guests n g within in
        rw (so_far, groups_are, more, same) refl

-- no more than all guests have
pub before_all : (guests : List Guest) (n : ℕ) → groups_before guests n ≤ groups_before guests (length guests)
unfolding groups_before
before_all guests n = rw (take_all (length guests) guests (omega arith)) (sum_by-take-le groups_of guests n)

-- where there are fewer guests, all are counted
pub before_end : (guests : List Guest) (n : ℕ) → groups_before guests (min n (length guests)) ≡ groups_before guests n
unfolding groups_before
before_end guests n = rw (take_min n guests) refl

-- the phandles of a guest's groups fit, where those of all guests do
pub room_for : (guests : List Guest) (highest n first : ℕ) → highest + groups_before guests (length guests) ≤ 0xfffffffe → first ≡ highest + 1 + groups_before guests n
    → IfSome (slice_get guests n) (λ (g : Guest). first + length g.evtchns ≤ 0xffffffff)
unfolding groups_before
room_for guests highest n first fits first_is = by (slice_get guests n) refl
  where
    within : (g : Guest) → slice_get guests n ≡ Some g → n < length guests
    within g some = elim (cases_lt n (length guests)) [ inl below ↦ below | inr past ↦ absurd (let none : slice_get guests n ≡ None = slice_get_past guests n past in cc) ]

    by : (o : Option Guest) → slice_get guests n ≡ o → IfSome o (λ (g : Guest). first + length g.evtchns ≤ 0xffffffff)
    by None none = tt
    by (Some g) some =
        let there : slice_get guests n ≡ Some (get_or guests n g) = slice_get-get_or guests n g (within g some) in
        let same : get_or guests n g ≡ g = cc in
        let part : sum_by groups_of (take n guests) + groups_of (get_or guests n g) ≤ sum_by groups_of guests = sum_by_more_le groups_of guests n g (within g some) in
        let part_of_g : sum_by groups_of (take n guests) + length g.evtchns ≤ sum_by groups_of guests = rw same at part in
        let all : take (length guests) guests ≡ guests = take_all (length guests) guests (omega arith) in
        let fits_all : highest + sum_by groups_of guests ≤ 0xfffffffe = rw all at fits in
        omega arith

-- whether the last phandle fits
pub phandles_fit : (guests : List Guest) (highest last : ℕ) → last ≡ highest + groups_before guests (length guests) → last ≤ 0xfffffffe → has_phandles guests highest ≡ true
phandles_fit guests highest last is fits = grind (arith, nat_tests)

pub phandles_past : (guests : List Guest) (highest last : ℕ) → last ≡ highest + groups_before guests (length guests) → 0xfffffffe < last → has_phandles guests highest ≡ false
phandles_past guests highest last is past = grind (arith, nat_tests)
