use Rattle.std.proofs.Common.{◌≡◌, ◌+◌}
use Rattle.described.specs.Maps.{target_of}
use Rattle.stage2_walk.specs.Pages.{frames_of}
use Rattle.stage2_tables.specs.PrivateLeaves.{IsFresh}
use Rattle.stage2_tables.specs.Sweeps.{IsSweptTo}
use Rattle.stage2_tables.proofs.spread.spread_pages.Given as goal

abbrev pub invariant-loop-k : goal.invariant-loop-k
invariant-loop-k l = record {
  fresh : IsFresh (target_of l.ranges) (l.range.page + l.k);
  same_root : l.image.root ≡ l.initial.image.root;
  same_frames : frames_of l.image.pages ≡ frames_of l.initial.image.pages;
  swept : IsSweptTo (target_of l.ranges) l.image l.sweep (l.range.page + l.k);
}
