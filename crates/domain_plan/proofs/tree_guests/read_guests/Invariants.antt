use Rattle.std.proofs.Common.{◌≡◌, map}
use Rattle.domain_plan.specs.Descriptions.{trees_in}
use Rattle.domain_plan.specs.PrivateHeldGuests.{held_guest}
use Rattle.domain_plan.proofs.tree_guests.read_guests.Given as goal

-- the guests of the domains so far
abbrev pub invariant-loop-domain : goal.invariant-loop-domain
invariant-loop-domain l = l.guests ≡ map (held_guest l.tree (trees_in l.partials)) l.yielded
