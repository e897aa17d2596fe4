use Rattle.std.proofs.Common.{◌≡◌, drop}
use Rattle.std.specs.List.{find}
use Rattle.item_checks.specs.PrivateStanding.{is_sought}
use Rattle.item_checks.proofs.regions.first_region.Given as goal

-- what was looked at so far is not sought
abbrev pub invariant-loop-region : goal.invariant-loop-region
invariant-loop-region l = find (is_sought l.id l.guest l.in_any l.owners) (drop l.region-index l.regions) ≡ find (is_sought l.id l.guest l.in_any l.owners) l.regions
