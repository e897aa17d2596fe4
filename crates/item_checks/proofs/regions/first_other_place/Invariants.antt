use Rattle.std.proofs.Common.{◌≡◌, drop}
use Rattle.std.specs.List.{find}
use Rattle.item_checks.proofs.RegionLemmas.{other_at}
use Rattle.item_checks.proofs.regions.first_other_place.Given as goal

-- what was looked at so far is of the id, or has no frame of the ranges
abbrev pub invariant-loop-one : goal.invariant-loop-one
invariant-loop-one l = find (other_at l.id l.regions l.ranges) (drop l.one-index l.taken) ≡ find (other_at l.id l.regions l.ranges) l.taken
