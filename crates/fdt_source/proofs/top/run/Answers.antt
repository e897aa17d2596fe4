use Rattle.std.proofs.Common.{◌∙◌, ap, subst, refl, inl, inr, map, string_bytes}
use Rattle.outside.specs.Outside.{and_bytes}
use Rattle.outside.specs.declared.status.Status.{Status}
use Rattle.run_steps.specs.Endings.{Refuses, and_files}
use Rattle.run_steps.proofs.Taken.{and_files-none, and_bytes-none}
use Rattle.program.specs.Programs.{usage_line}
use Rattle.fdt_source.specs.Job.{CallsFor}
use Rattle.fdt_source.specs.Messages.{program_name}
use Rattle.fdt_source.proofs.top.run.Goals as goal

pub returns-clause-headline_print : goal.returns-clause-headline_print
returns-clause-headline_print g c = λ name asks is.
    let done = c.run.ensures.ran.built is in
    let promised = rw asks at done.3 in
    (promised.tree, promised.read, promised.named, done.4 ∙ (ap (and_files _) promised.alone ∙ and_files-none _), done.5 ∙ ap (and_bytes _) promised.reported)

pub returns-clause-headline_build : goal.returns-clause-headline_build
returns-clause-headline_build g c = λ text out_name asks is.
    let done = c.run.ensures.ran.built is in
    let promised = rw asks at done.3 in
    (promised.tree, promised.read, done.4 ∙ ap (and_files _) promised.written, done.5 ∙ (ap (and_bytes _) promised.unreported ∙ and_bytes-none _))

pub returns-clause-words : goal.returns-clause-words
returns-clause-words g c = (
  λ is. let said = c.run.ensures.ran.words is in said.2.0,
  λ none. elim (c.run.ensures.ran.unasked (usage_line program_name) (none, refl)) [
    | inl is ↦ is
    | inr memory ↦ elim memory.0 [ ]
  ],
)

pub returns-clause-no_audit : goal.returns-clause-no_audit
returns-clause-no_audit g c = λ is.
    let words = map string_bytes c.args.words.now in
    let told = g.F.Files.held c.args.files.now in
    elim (c.run.ensures.ran.found (inr (inr is))) [
      | inl said ↦ c.audits_nothing.ensures words told said.0 (subst (λ (s : Status). CallsFor words told (Refuses s said.0)) is said.2)
      | inr put ↦ c.finds_nothing.ensures words told _ put.0 put.1
    ]
