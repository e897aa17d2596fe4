use Rattle.std.proofs.Common.{◌≡◌, ◌≤◌, ◌^◌, List, map, take, drop}
use Rattle.item_checks.specs.Taken.{Passed, all_passed}
use Rattle.item_checks.specs.Refusals.{first_refused}
use Rattle.item_checks.specs.Standing.{Stands, entry_of}
use Rattle.item_checks.proofs.passing.check_items.Given as goal

-- no item before the index has a reason against it, and the state stands for those items
abbrev pub invariant-loop-described : goal.invariant-loop-described
invariant-loop-described l = record {
  stands : (before : List Passed) → Stands l.owner.guest before l.initial.state → Stands l.owner.guest (all_passed before (map (entry_of l.owner) (take l.described-index l.items))) l.state;
  clear : (before : List Passed) → Stands l.owner.guest before l.initial.state →
      first_refused l.host before (map (entry_of l.owner) l.items) ≡ first_refused l.host (all_passed before (map (entry_of l.owner) (take l.described-index l.items))) (map (entry_of l.owner) (drop l.described-index l.items));
}
