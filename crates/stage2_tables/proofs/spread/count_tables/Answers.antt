use Rattle.std.proofs.Common.{sym, subst, arith}
use Rattle.described.specs.Maps.{target_of}
use Rattle.described.specs.declared.map_range.Kind.TheVariants.{Ram}
use Rattle.described.specs.declared.map_range.MapRange.{MapRange}
use Rattle.stage2_tables.specs.Sweeps.{IsCounted}
use Rattle.stage2_tables.specs.declared.sweep.Sweep.{Sweep}
use Rattle.stage2_tables.proofs.SweepStates.{begins_counted}
use Rattle.stage2_tables.proofs.FewTables.{few_tables}
use Rattle.stage2_tables.proofs.SpreadSteps.{range_at, between_first, between_more, skip_counted}
use Rattle.stage2_tables.proofs.SpreadEnds.{counted_last}
use Rattle.stage2_tables.proofs.spread.count_tables.Goals as goal

abbrev none : MapRange
none = record { page = 0; first = 0; count = 0; kind = Ram }

pub loop-index-init : goal.loop-index-init
loop-index-init c = record {
  page = 0;
  between = between_first c.args.ranges.now;
  counted = subst (λ (s : Sweep). IsCounted (target_of c.args.ranges.now) 0 1 s) (sym c.begin-sweep.ensures) (begins_counted (target_of c.args.ranges.now) 0 0);
}

pub count_range-requires-clause-counted : goal.count_range-requires-clause-counted
count_range-requires-clause-counted c = λ range at.
    let now = c.loop-index.invariant in
    skip_counted c.args.ranges.now c.loop-index.index now.page range c.loop-index.sweep at c.requires.sorted now.between now.counted

pub loop-index-preserved : goal.loop-index-preserved
loop-index-preserved c =
    let now = c.loop-index.invariant in
    let at = range_at c.args.ranges.now c.loop-index.index none c.loop-index-test.true in
    record {
      page = _;
      between = between_more c.args.ranges.now c.loop-index.index now.page _ c.requires.sorted at now.between;
      counted = c.count_range.ensures.counted _ at;
    }

pub returns-clause-count : goal.returns-clause-count
returns-clause-count c =
    let now = c.loop-index.invariant in
    let past = c.loop-index-test.false in
    let end = c.loop-index.auto.index-end in
    counted_last c.args.ranges.now c.loop-index.sweep c.loop-index.index now.page now.between (omega arith) now.counted

pub returns-clause-few : goal.returns-clause-few
returns-clause-few c =
    let few = few_tables (target_of c.args.ranges.now) in
    let within = c.loop-index.invariant.counted.within in
    omega arith
