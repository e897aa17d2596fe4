use Rattle.std.proofs.Common.{◌≡◌, subst, refl, inl, inr, map, string_bytes}
use Rattle.outside.specs.declared.status.Status.{Status}
use Rattle.outside.specs.declared.status.Status.TheVariants as statuses
use Rattle.run_steps.specs.Endings.{Refuses, Finds}
use Rattle.program.specs.Programs.{usage_line}
use Rattle.guest_load.specs.Job.{CallsFor}
use Rattle.guest_load.specs.Lines.{program_name}
use Rattle.guest_load.proofs.top.run.Goals as goal

pub returns-clause-words : goal.returns-clause-words
returns-clause-words g c = (
  λ is. let said = c.run.ensures.ran.words is in said.2.0,
  λ none. elim (c.run.ensures.ran.unasked (usage_line program_name) (none, refl)) [
    | inl is ↦ is
    | inr memory ↦ elim memory.0 [ ]
  ],
)

pub returns-clause-no_audit : goal.returns-clause-no_audit
returns-clause-no_audit g c = λ is.
    let words = map string_bytes c.args.words.now in
    let told = g.F.Files.held c.args.files.now in
    elim (c.run.ensures.ran.found (inr (inr is))) [
      | inl said ↦ c.audits_nothing.ensures words told said.0 (subst (λ (s : Status). CallsFor words told (Refuses s said.0)) is said.2)
      | inr put ↦ c.finds_nothing.ensures words told _ put.0 put.1
    ]
