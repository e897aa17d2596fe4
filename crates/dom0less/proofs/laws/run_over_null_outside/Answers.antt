use Rattle.std.proofs.Common.{inl, inr}
use Rattle.run_steps.proofs.Due.{never_rises}
use Rattle.dom0less.proofs.laws.run_over_null_outside.Goals as goal

pub returns : goal.returns
returns g c = λ is. elim (c.run.ensures.ran.write is) [
  | inl output ↦ elim output.5 [
    | inl file ↦ never_rises file.0
    | inr report ↦ never_rises report.1
  ]
  | inr list ↦ never_rises list.4
]
