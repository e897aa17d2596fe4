use Rattle.std.proofs.Common.{List, None}
use Rattle.item_checks.specs.Taken.{Passed}
use Rattle.item_checks.specs.Standing.{Stands}
use Rattle.item_checks.specs.PrivateStanding.{AreOfHost}
use Rattle.item_checks.proofs.GuestSteps.{IsAtGuest}
use Rattle.item_checks.proofs.checking.check_guests.Given as goal

-- the guests before the index were passed
abbrev pub invariant-loop-i : goal.invariant-loop-i
invariant-loop-i l = (before : List Passed) → Stands None before l.initial.state → AreOfHost before → IsAtGuest l.host before l.guests l.i l.state
