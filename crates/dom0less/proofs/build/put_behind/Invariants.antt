use Rattle.std.proofs.Common.{◌≡◌, ◌++◌}
use Rattle.dom0less.proofs.build.put_behind.Given as goal

-- the outputs so far stand behind those that come before
abbrev pub invariant-loop-output : goal.invariant-loop-output
invariant-loop-output l = l.all ≡ l.fn.before ++ l.yielded
