use Rattle.std.proofs.Common.{◌≡◌, subst, refl, inl, inr, List, ℕ, map, string_bytes}
use Rattle.outside.specs.declared.status.Status.{Status}
use Rattle.run_steps.specs.Endings.{Refuses, Said}
use Rattle.run_steps.specs.Messages.{line}
use Rattle.program.specs.Programs.{usage_line}
use Rattle.ib_config_show.specs.Job.{program_name, CallsFor}
use Rattle.ib_config_show.proofs.Called.{faulty}
use Rattle.ib_config_show.proofs.top.run.Goals as goal

pub returns-clause-words : goal.returns-clause-words
returns-clause-words g c = (
  λ is. let said = c.run.ensures.ran.words is in said.2.0,
  λ none. elim (c.run.ensures.ran.unasked (usage_line program_name) (none, refl)) [
    | inl is ↦ is
    | inr memory ↦ elim memory.0 [ ]
  ],
)

pub returns-clause-out_kept : goal.returns-clause-out_kept
returns-clause-out_kept g c = c.run.ensures.ran.out_kept (λ list job. c.finds_nothing.ensures (map string_bytes c.args.words.now) (g.F.Files.held c.args.files.now) c.run.result list job)

pub returns-clause-fault : goal.returns-clause-fault
returns-clause-fault g c =
    let words = map string_bytes c.args.words.now in
    let told = g.F.Files.held c.args.files.now in
    λ is. elim (c.run.ensures.ran.found (inr (inl is))) [
      | inl said ↦
          let file = faulty told words said.0 (subst (λ (s : Status). CallsFor words told (Refuses s said.0)) is said.2) in (
            file.0,
            file.2.bytes,
            file.2.fault,
            file.1,
            file.2.read,
            file.2.faulty,
            subst (λ (m : List ℕ). Said g.E.Sink.taken g.E.Sink.faults c.args.err.now c.run.new.err (line program_name m)) file.2.said said.1,
          )
      | inr found ↦ absurd (c.finds_nothing.ensures words told c.run.result found.0 found.1)
    ]
