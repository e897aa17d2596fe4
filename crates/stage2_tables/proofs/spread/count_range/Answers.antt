use Rattle.std.proofs.Common.{◌≡◌, ◌+◌, ◌-◌, ℕ, List, get_or, sym, subst, ◌∙◌, arith}
use Rattle.std.proofs.lemmas.Option.{same_Some}
use Rattle.described.specs.Maps.{target_of}
use Rattle.described.specs.declared.map_range.Kind.TheVariants.{Ram}
use Rattle.described.specs.declared.map_range.MapRange.{MapRange}
use Rattle.stage2_tables.specs.Leaves.{stretch}
use Rattle.stage2_tables.specs.PrivateLeaves.{IsFresh}
use Rattle.stage2_tables.specs.Sweeps.{IsCounted}
use Rattle.stage2_tables.specs.declared.sweep.Sweep.{Sweep}
use Rattle.stage2_tables.proofs.LeafChoice.{IsRange, fresh_first}
use Rattle.stage2_tables.proofs.FewTables.{few_tables}
use Rattle.stage2_tables.proofs.SpreadSteps.{range_at, bounds}
use Rattle.stage2_tables.proofs.StretchSteps.{stretch_within, fresh_behind, counted_behind}
use Rattle.stage2_tables.proofs.spread.count_range.Goals as goal

abbrev none : MapRange
none = record { page = 0; first = 0; count = 0; kind = Ram }

pub loop-done-init : goal.loop-done-init
loop-done-init c =
    let ranges : List MapRange = c.args.ranges.now in
    let range : MapRange = get_or ranges c.args.index none in
    let at = range_at ranges c.args.index none c.requires.within in
    let is : IsRange ranges c.args.index range = record { sorted = c.requires.sorted; merged = c.requires.merged; at = at } in
    let start : range.page ≡ range.page + 0 = omega arith in
    record {
      within = omega arith;
      fresh = subst (IsFresh (target_of ranges)) start (fresh_first ranges c.args.index range is (bounds ranges 0 c.args.index range c.requires.sorted at).some);
      counted = subst (λ (p : ℕ). IsCounted (target_of ranges) p 1 c.args.sweep.now) start (c.requires.counted range at);
    }

pub overflow_add-page : goal.overflow_add-page
overflow_add-page c =
    let range = bounds c.args.ranges.now 0 c.args.index (get_or c.args.ranges.now c.args.index none) c.requires.sorted (range_at c.args.ranges.now c.args.index none c.requires.within) in
    let pages = range.pages in
    let within = c.loop-done.invariant.within in
    omega arith

pub overflow_add-range : goal.overflow_add-range
overflow_add-range c =
    let range = bounds c.args.ranges.now 0 c.args.index (get_or c.args.ranges.now c.args.index none) c.requires.sorted (range_at c.args.ranges.now c.args.index none c.requires.within) in
    let frames = range.frames in
    let within = c.loop-done.invariant.within in
    omega arith

pub enter_tables-requires : goal.enter_tables-requires
enter_tables-requires c = record {
  few = (let few = few_tables (target_of c.args.ranges.now) in let within = c.loop-done.invariant.counted.within in omega arith);
}

pub loop-done-preserved : goal.loop-done-preserved
loop-done-preserved c =
    let ranges : List MapRange = c.args.ranges.now in
    let range : MapRange = get_or ranges c.args.index none in
    let at = range_at ranges c.args.index none c.requires.within in
    let is : IsRange ranges c.args.index range = record { sorted = c.requires.sorted; merged = c.requires.merged; at = at } in
    let now = c.loop-done.invariant in
    let done : ℕ = c.loop-done.done in
    let level : ℕ = c.leaf_level-level.result in
    let chosen = c.leaf_level-level.ensures in
    let more = c.loop-done-test.true in
    let length_is = c.stretch-done.ensures.value in
    let within = (stretch_within ranges c.args.index range is done level c.loop-done.sweep now.fresh more chosen.at_least chosen.at_most chosen.level).1 in
    record {
      within = omega arith;
      fresh = subst (λ (n : ℕ). IsFresh (target_of ranges) (range.page + (done + n))) (sym length_is)
          (fresh_behind ranges c.args.index range is done level c.loop-done.sweep now.fresh more chosen.at_least chosen.at_most chosen.level);
      counted = subst (λ (n : ℕ). IsCounted (target_of ranges) (range.page + (done + n)) 1 c.enter_tables.new.sweep) (sym length_is)
          (subst (λ (s : Sweep). IsCounted (target_of ranges) (range.page + (done + stretch level (range.page + done) (range.count - done))) 1 s) (sym c.enter_tables.ensures.sweep)
          (counted_behind ranges c.args.index range is done level c.loop-done.sweep now.fresh more chosen.at_least chosen.at_most chosen.level now.counted));
    }

pub returns : goal.returns
returns c = record {
  counted = λ range at.
      (let found : get_or c.args.ranges.now c.args.index none ≡ range = same_Some (get_or c.args.ranges.now c.args.index none) range (sym (range_at c.args.ranges.now c.args.index none c.requires.within) ∙ at) in
      let past = c.loop-done-test.false in
      let within = c.loop-done.invariant.within in
      let end : (get_or c.args.ranges.now c.args.index none).page + c.loop-done.done ≡ (get_or c.args.ranges.now c.args.index none).page + (get_or c.args.ranges.now c.args.index none).count = omega arith in
      subst (λ (r : MapRange). IsCounted (target_of c.args.ranges.now) (r.page + r.count) 1 c.loop-done.sweep) found
      (subst (λ (p : ℕ). IsCounted (target_of c.args.ranges.now) p 1 c.loop-done.sweep) end c.loop-done.invariant.counted));
}
