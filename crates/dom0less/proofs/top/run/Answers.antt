use Rattle.std.proofs.Common.{◌∙◌, ap, refl, map, string_bytes, codes, inl, inr}
use Rattle.run_steps.specs.Endings.{and_files}
use Rattle.run_steps.proofs.Taken.{and_files-none}
use Rattle.dom0less.specs.Lines.{line}
use Rattle.dom0less.proofs.Absences.{nothing_found}
use Rattle.dom0less.proofs.FirstRefused.{first_refused}
use Rattle.dom0less.proofs.top.run.Goals as goal

pub returns-clause-first_refused : goal.returns-clause-first_refused
returns-clause-first_refused g c = λ source folder asks is.
    let told = g.F.Files.held c.args.files.now in
    let words = map string_bytes c.args.words.now in
    elim (c.run.ensures.ran.found (inl is)) [
      | inl said ↦ (said.0, said.1, first_refused told words source folder c.run.result said.0 asks is said.2)
      | inr list ↦ absurd (nothing_found words told c.run.result list.0 list.1)
    ]

pub returns-clause-audit : goal.returns-clause-audit
returns-clause-audit g c = λ source folder asks is.
    let done = c.run.ensures.ran.built is in
    let promised = rw asks at done.3 in
    (done.1, promised.1, done.4 ∙ ap (and_files _) promised.0 ∙ and_files-none _, done.5)

pub returns-clause-listing : goal.returns-clause-listing
returns-clause-listing g c = λ tree asks is.
    let done = c.run.ensures.ran.built is in
    let promised = rw asks at done.3 in
    (done.1, promised.1, done.4 ∙ ap (and_files _) promised.0 ∙ and_files-none _, done.5)

pub returns-clause-unasked : goal.returns-clause-unasked
returns-clause-unasked g c = λ none. elim (c.run.ensures.ran.unasked (line (codes "usage")) (none, λ taken. refl)) [
  | inl is ↦ inl is
  | inr memory ↦ inr memory.1
]

pub returns-clause-no_list : goal.returns-clause-no_list
returns-clause-no_list g c = nothing_found (map string_bytes c.args.words.now) (g.F.Files.held c.args.files.now)
