use Rattle.std.proofs.Common.{ℕ, List, Some, map, string_bytes, subst, inl, inr}
use Rattle.run_steps.specs.Endings.{Refuses, Said}
use Rattle.dom0less.specs.Job.{IsJob}
use Rattle.dom0less.specs.Lines.{line}
use Rattle.run_steps.proofs.Due.{never_rises}
use Rattle.dom0less.proofs.Absences.{names_absent}
use Rattle.dom0less.proofs.laws.run_over_sure_files.Goals as goal

pub returns-clause-absent : goal.returns-clause-absent
returns-clause-absent g c = λ is.
    let words : List (List ℕ) = map string_bytes c.args.words.now in
    let said = c.run.ensures.ran.read is in
    elim said.2 [
      | inl failed ↦ absurd (never_rises failed.0)
      | inr missed ↦
          let absent = names_absent words (Some c.args.files.now.files) c.run.result said.0 is missed.1 in (
            absent.0,
            subst (λ (message : List ℕ). Said g.E.Sink.taken g.E.Sink.faults c.args.err.now c.run.new.err (line message)) absent.1 said.1,
            subst (λ (message : List ℕ). IsJob words c.args.files.now.files (Refuses c.run.result message)) absent.1 missed.1,
          )
    ]

pub returns-clause-exact : goal.returns-clause-exact
returns-clause-exact g c = λ outcome job.
    elim (c.run.ensures.ran.exact outcome job) [
      | inl rose ↦ absurd (never_rises rose)
      | inr answered ↦ inr answered
    ]
