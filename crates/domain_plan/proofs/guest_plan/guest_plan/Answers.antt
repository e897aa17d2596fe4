use Rattle.std.proofs.Common.{◌≡◌, ℕ, ◌+◌, Bool, cond, List, [], ◌∷◌, map, Some, refl, sym, ap, subst, ◌∙◌}
use Rattle.std.specs.Prelude.{◌==◌, ◌&&◌, All}
use Rattle.std.specs.List.{list_any}
use Rattle.texts.specs.Consecutive.{numbers}
use Rattle.described.specs.declared.map_range.MapRange.{MapRange}
use Rattle.item_checks.specs.Entries.{of_guest, is_read, items_of}
use Rattle.domain_plan.specs.Regions.{placed_item}
use Rattle.item_checks.specs.Taken.{Passed, what_of, belongs_to, is_direct, all_passed}
use Rattle.item_checks.specs.Reasons.{is_irq}
use Rattle.domain_plan.specs.GuestMaps.{guest_ranges}
use Rattle.domain_plan.specs.Plans.{said_by, static_memory, banks_filled}
use Rattle.domain_plan.specs.PrivateLaying.{AreApart, AreLowRanges, IsMapOf}
use Rattle.domain_plan.specs.PrivateGiving.{irq_of}
use Rattle.domain_plan.proofs.SpiLemmas.{filter_same, irqs_tell}
use Rattle.domain_plan.proofs.guest_plan.guest_plan.Goals as goal

pub in_one_map-requires-clause-apart : goal.in_one_map-requires-clause-apart
in_one_map-requires-clause-apart c = subst AreApart (sym (c.as_slice.ensures.value ∙ c.in_ok-state.ensures.ranges)) c.requires.apart

pub in_one_map-requires-clause-low : goal.in_one_map-requires-clause-low
in_one_map-requires-clause-low c = subst AreLowRanges (sym (c.as_slice.ensures.value ∙ c.in_ok-state.ensures.ranges)) c.requires.low_ranges

pub returns : goal.returns
returns c =
    let own : List Passed = all_passed [] (of_guest c.args.number (is_read c.args.guest.now.partial) (map (placed_item c.args.runs.now) (items_of c.args.guest.now))) in
    let all : List MapRange = guest_ranges own c.args.number c.args.drawn.now in
    let gives = c.in_ok-state.ensures in
    let ranges : c.as_slice.result.now ≡ guest_ranges own c.args.number c.args.drawn.now = c.as_slice.ensures.value ∙ gives.ranges in
    let made : IsMapOf all c.in_ok-ranges.ranges = subst (λ (from : List MapRange). IsMapOf from c.in_ok-ranges.ranges) ranges c.in_ok-ranges.ensures in
    let irqs : c.as_slice-2.result.now ≡ said_by own c.args.number irq_of = c.as_slice-2.ensures.value ∙ gives.said.irqs in
    let pages : ℕ = c.args.guest.now.domain.pages in
    let said = c.in_ok-state.field-0.said in
    record {
      guest_number = refl;
      path = c.in_ok-named.ensures.path;
      cpus = refl;
      console = refl;
      gic = c.gic_of.ensures;
      layout = c.layout.ensures (Some c.args.number) own gives.stands;
      bootargs = c.in_ok-named.ensures.bootargs;
      memories = c.in_ok-memories.ensures
          ∙ ap (λ (b : Bool). cond b said.statics (banks_filled (pages + c.static_pages.result))) (c.is_direct.ensures (Some c.args.number) own gives.stands)
          ∙ ap (λ (xs : List (ℕ × ℕ)). cond (is_direct own (Some c.args.number)) xs (banks_filled (pages + c.static_pages.result))) gives.said.statics
          ∙ ap (λ (k : ℕ). cond (is_direct own (Some c.args.number)) (said_by own c.args.number static_memory) (banks_filled (pages + k))) (c.static_pages.ensures.pages (Some c.args.number) own gives.stands);
      sorted = made.sorted;
      merged = made.merged;
      mapped = made.mapped;
      spis = c.in_ok-spis.ensures
          ∙ filter_same (λ spi. list_any (λ (irq : ℕ). irq == spi) c.as_slice-2.result.now) (λ spi. list_any (λ (one : Passed). belongs_to (Some c.args.number) one && is_irq spi (what_of one)) own) (numbers 0 988)
          (λ spi. ap (list_any (λ (irq : ℕ). irq == spi)) irqs ∙ irqs_tell c.args.number spi own);
      shared = gives.said.shared;
      ports = gives.said.ports;
    }
