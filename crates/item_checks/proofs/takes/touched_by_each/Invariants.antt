use Rattle.std.proofs.Common.{◌≡◌, ◌+◌, ◌^◌, ◌≤◌, take, map, All}
use Rattle.texts.specs.declared.ranges.FrameRange.{FrameRange}
use Rattle.frame_alloc.specs.Ranges.{touched}
use Rattle.item_checks.proofs.takes.touched_by_each.Given as goal

-- the entries before the index were added
abbrev pub invariant-loop-entry : goal.invariant-loop-entry
invariant-loop-entry l = record {
  touched : l.ranges.items ≡ map touched (take l.entry-index l.entries);
  low : All (λ (one : FrameRange). one.first + one.count ≤ 2 ^ 28) l.ranges.items;
}
