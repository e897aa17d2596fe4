use Rattle.std.proofs.Common.{ℕ}
use Rattle.described.specs.Maps.{target_of}
use Rattle.stage2_tables.specs.Sweeps.{IsCounted}
use Rattle.stage2_tables.proofs.SpreadSteps.{IsBetween}
use Rattle.stage2_tables.proofs.spread.count_tables.Given as goal

abbrev pub invariant-loop-index : goal.invariant-loop-index
invariant-loop-index l = record {
  page : ℕ;
  between : IsBetween l.ranges l.index page;
  counted : IsCounted (target_of l.ranges) page 1 l.sweep;
}
