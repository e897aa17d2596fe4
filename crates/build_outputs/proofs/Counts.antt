-- What all guests need can be counted.
use Rattle.std.proofs.Common.{◌≡◌, ◌∙◌, refl, sym, ap, arith, ℕ, ◌+◌, ◌-◌, ◌*◌, ◌^◌, ◌≤◌, Bool, true, false, List, [], ◌∷◌, length, map, sum, sum_by, All, Some, None}
use Rattle.std.specs.Prelude.{Option, filter, is_none, nat_lt, not, if◌then◌else◌}
use Rattle.std.proofs.lemmas.Bool.Decides.{nat_tests}
use Rattle.std.proofs.lemmas.List.{length-drop}
use Rattle.std.proofs.lemmas.List.Elements.{All-head, All-tail}
use Rattle.std.proofs.lemmas.List.Sums.{count_by-le-length, length-filter, sum-map, sum_by-cons}
use Rattle.build_outputs.specs.ReportLines.{ram_pages}
use Rattle.build_outputs.proofs.MapBounds.{few_pages}
use Rattle.described.specs.Maps.{AreMapRanges}
use Rattle.described.specs.declared.why.Why.{Why}
use Rattle.described.specs.declared.why.Why.TheVariants.{NoTableFrame}
use Rattle.item_checks.specs.Refusals.{Refusal, or_later}
use Rattle.domain_plan.specs.declared.planned.GuestPlan.{GuestPlan}
use Rattle.frame_alloc.specs.Frames.{AreFramesFrom, is_within, lowest_pair, without}
use Rattle.guest_images.specs.Built.{tables_counted}
use Rattle.guest_images.specs.Requests.{left_by, no_table_frame, refused_tables, tables_item, tables_needed}
use Rattle.guest_images.specs.declared.images.GuestImage.{GuestImage}
use Rattle.stage2_tables.specs.Draws.{free_after, left_after}
use Rattle.build_outputs.specs.Totals.{all_pages, all_tables}

-- ---- pages of memory

-- at most 2^28 for each guest
pub pages_at_most : (guests : List GuestPlan) → All (λ (guest : GuestPlan). AreMapRanges guest.ranges) guests → all_pages guests ≤ 2 ^ 28 * length guests
pages_at_most [] sorted = omega arith
pages_at_most (guest ∷ guests) sorted =
    let sum : all_pages (guest ∷ guests) ≡ ram_pages guest.ranges + all_pages guests = sum_by-cons (λ (g : GuestPlan). ram_pages g.ranges) guest guests in
    let one : 0 + ram_pages guest.ranges ≤ 2 ^ 28 = few_pages guest.ranges 0 (omega arith) (All-head (λ (g : GuestPlan). AreMapRanges g.ranges) guest guests sorted) in
    let later : all_pages guests ≤ 2 ^ 28 * length guests = pages_at_most guests (All-tail (λ (g : GuestPlan). AreMapRanges g.ranges) guest guests sorted) in
    omega arith

-- ---- frames

-- ascending frames below 2^28 are no more than so many
pub frames_at_most : (frames : List ℕ) (start : ℕ) → start ≤ 2 ^ 28 → AreFramesFrom start frames → start + length frames ≤ 2 ^ 28
frames_at_most [] start low ascending = omega arith
frames_at_most (frame ∷ frames) start low ascending =
    let later : frame + 1 + length frames ≤ 2 ^ 28 = frames_at_most frames (frame + 1) (omega (arith, ascending.1)) ascending.2 in
    omega (arith, ascending.0)

-- no frame comes with a draw
without_at_most : (root : ℕ) (free : List ℕ) → length (without root 2 free) ≤ length free
unfolding without
without_at_most root free = at_most free
  where
    at_most : (frames : List ℕ) → length (filter (λ frame. not (is_within root 2 frame)) frames) ≤ length frames
    at_most frames = omega (arith, length-filter (λ frame. not (is_within root 2 frame)) frames, count_by-le-length (λ frame. not (is_within root 2 frame)) frames)

left_at_most : (count : ℕ) (free : List ℕ) → length (free_after count free) ≤ length free
left_at_most count free = by (lowest_pair free)
  where
    by : (pair : Option ℕ) → length (left_after count free pair) ≤ length free
    by None = omega arith
    by (Some root) = omega (arith, without_at_most root free, length-drop (count - 2) (without root 2 free))

-- ---- tables

-- a guest whose tables can be had needs no more than the frames that there are
needed_at_most : (guest : GuestPlan) (free : List ℕ) → no_table_frame guest free ≡ None → tables_needed guest ≤ length free
needed_at_most guest free met = by (NoTableFrame (tables_needed guest) (length free)) (nat_lt (length free) (tables_needed guest)) refl met
  where
    by : (why : Why) (few : Bool) → nat_lt (length free) (tables_needed guest) ≡ few → (if few then Some why else if is_none (lowest_pair free) then Some why else None) ≡ None → tables_needed guest ≤ length free
    by why true test none = absurd (cc)
    by why false test none = grind (arith, nat_tests)

first_met : (guest : GuestPlan) (why : Option Why) (later : Option Refusal) → or_later (tables_item guest) why later ≡ None → (why ≡ None) × (later ≡ None)
first_met guest None later none = (refl, none)
first_met guest (Some why) later none = absurd (cc)

-- at most 2^28 for each guest
pub tables_at_most : (guests : List GuestPlan) (free : List ℕ) → length free ≤ 2 ^ 28 → refused_tables guests free ≡ None → all_tables guests ≤ 2 ^ 28 * length guests
tables_at_most [] free low met = omega arith
tables_at_most (guest ∷ guests) free low met =
    let sum : all_tables (guest ∷ guests) ≡ tables_needed guest + all_tables guests = sum_by-cons tables_needed guest guests in
    let both = first_met guest (no_table_frame guest free) (refused_tables guests (left_by guest free)) met in
    let one : tables_needed guest ≤ length free = needed_at_most guest free both.0 in
    let left : length (left_by guest free) ≤ length free = left_at_most (tables_needed guest) free in
    let later : all_tables guests ≤ 2 ^ 28 * length guests = tables_at_most guests (left_by guest free) (omega arith) both.1 in
    omega arith

-- the tables of images are those that their guests need
pub tables_of_images : (guests : List GuestPlan) (images : List GuestImage) → tables_counted images ≡ map tables_needed guests → sum_by (λ (image : GuestImage). image.tables) images ≡ all_tables guests
tables_of_images guests images counted = sym (sum-map (λ (image : GuestImage). image.tables) images) ∙ ap sum counted ∙ sum-map tables_needed guests
