use Rattle.std.proofs.Common.{◌+◌, ◌-◌, ◌≤◌}
use Rattle.described.specs.Maps.{target_of}
use Rattle.stage2_tables.specs.PrivateLeaves.{IsFresh}
use Rattle.stage2_tables.specs.Sweeps.{IsCounted}
use Rattle.stage2_tables.proofs.spread.count_range.Given as goal

abbrev pub invariant-loop-done : goal.invariant-loop-done
invariant-loop-done l = record {
  within : l.done ≤ l.range.count;
  fresh : IsFresh (target_of l.ranges) (l.range.page + l.done);
  counted : IsCounted (target_of l.ranges) (l.range.page + l.done) 1 l.sweep;
}

abbrev pub decreases-loop-done : goal.decreases-loop-done
decreases-loop-done l = l.range.count - l.done
