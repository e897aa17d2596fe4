use Rattle.std.proofs.Common.{◌≡◌, ◌≤◌, ◌*◌, ◌^◌}
use Rattle.ib_script.specs.Phandles.{groups_before as groups_ahead}
use Rattle.ib_script.proofs.phandles.groups_before.Given as goal

-- the groups of the guests so far, each of which has fewer than 2^64
abbrev pub invariant-loop-earlier : goal.invariant-loop-earlier
invariant-loop-earlier l = record {
  counted : l.count ≡ groups_ahead l.config.guests l.earlier;
  few : l.count ≤ l.earlier * 2 ^ 64;
}
