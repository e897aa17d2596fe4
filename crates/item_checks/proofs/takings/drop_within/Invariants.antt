use Rattle.std.proofs.Common.{◌<◌, ◌≤◌, ◌⊎◌, ℕ, length}
use Rattle.item_checks.specs.PrivateTakings.{Has, AreRisingPast}
use Rattle.item_checks.proofs.takings.drop_within.Given as goal

-- only ranges within were dropped
abbrev pub invariant-loop-next : goal.invariant-loop-next
invariant-loop-next l = record {
  rising : AreRisingPast l.first l.ends;
  fewer : (one last : ℕ) → Has l.ends one last → Has l.initial.ends one last;
  kept : (one last : ℕ) → Has l.initial.ends one last → Has l.ends one last ⊎ ((l.first < one) × (last ≤ l.end));
}

abbrev pub decreases-loop-next : goal.decreases-loop-next
decreases-loop-next l = length l.ends.entries
