use Rattle.std.proofs.Common.{◌≡◌, drop}
use Rattle.std.specs.List.{find}
use Rattle.domain_plan.specs.PrivateRuns.{is_run_of}
use Rattle.domain_plan.proofs.runs.run_host.Given as goal

-- the runs so far were drawn for others
abbrev pub invariant-loop-run : goal.invariant-loop-run
invariant-loop-run l = find (is_run_of l.id) (drop l.run-index l.runs) ≡ find (is_run_of l.id) l.runs
