use Rattle.std.proofs.Common.{inl, inr, refl, codes}
use Rattle.run_steps.proofs.writing.write_all.Goals as goal

pub returns-in-Some-clause-write : goal.returns-in-Some-clause-write
returns-in-Some-clause-write g c = λ _. (
  c.in-Some.output.now.name,
  rw (← c.as_str.ensures) c.say_of_file.ensures,
  inl (c.in-Some.ensures.failed, rw c.as_slice.ensures at c.in-Some.ensures.part, refl),
)

pub returns-in-Err-clause-write : goal.returns-in-Err-clause-write
returns-in-Err-clause-write g c = λ _. (
  codes "standard output",
  c.say_of_file-in-Err.ensures,
  inr (
    refl,
    c.in-Err.ensures.failed,
    rw c.as_slice.ensures at c.in_default.ensures.all,
    rw c.in-Some-report.is (rw c.as_slice-in-Some-report.ensures at c.in-Err.ensures.part),
  ),
)
