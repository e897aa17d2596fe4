use Rattle.std.proofs.Common.{◌≡◌, drop}
use Rattle.item_checks.specs.Standing.{first_other}
use Rattle.item_checks.proofs.irqs.first_other.Given as goal

-- what was looked at so far is another number's, or the guest's own
abbrev pub invariant-loop-taker : goal.invariant-loop-taker
invariant-loop-taker l = first_other l.number l.guest (drop l.taker-index l.takers) ≡ first_other l.number l.guest l.takers
