use Rattle.std.proofs.Common.{◌≡◌, ◌+◌, ◌-◌, ◌≤◌}
use Rattle.described.specs.Maps.{target_of}
use Rattle.stage2_walk.specs.Pages.{frames_of}
use Rattle.stage2_tables.specs.PrivateLeaves.{IsFresh}
use Rattle.stage2_tables.specs.Sweeps.{IsSweptTo}
use Rattle.stage2_tables.proofs.spread.spread_range.Given as goal

abbrev pub invariant-loop-done : goal.invariant-loop-done
invariant-loop-done l = record {
  within : l.done ≤ l.range.count;
  fresh : IsFresh (target_of l.ranges) (l.range.page + l.done);
  same_root : l.image.root ≡ l.initial.image.root;
  same_frames : frames_of l.image.pages ≡ frames_of l.initial.image.pages;
  swept : IsSweptTo (target_of l.ranges) l.image l.sweep (l.range.page + l.done);
}

abbrev pub decreases-loop-done : goal.decreases-loop-done
decreases-loop-done l = l.range.count - l.done
