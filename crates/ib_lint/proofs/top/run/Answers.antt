use Rattle.std.proofs.Common.{◌≡◌, subst, refl, inl, inr, List, ℕ, map, string_bytes}
use Rattle.outside.specs.Outside.{and_bytes}
use Rattle.outside.specs.declared.status.Status.{Status}
use Rattle.outside.specs.declared.status.Status.TheVariants as statuses
use Rattle.run_steps.specs.Endings.{Refuses, Finds, Said}
use Rattle.run_steps.specs.Messages.{line}
use Rattle.program.specs.Programs.{usage_line}
use Rattle.ib_lint.specs.Job.{program_name, CallsFor}
use Rattle.ib_lint.proofs.Called.{differs_none, faulty, listed}
use Rattle.ib_lint.proofs.top.run.Goals as goal

pub returns-clause-words : goal.returns-clause-words
returns-clause-words g c = (
  λ is. let said = c.run.ensures.ran.words is in said.2.0,
  λ none. elim (c.run.ensures.ran.unasked (usage_line program_name) (none, refl)) [
    | inl is ↦ is
    | inr memory ↦ elim memory.0 [ ]
  ],
)

pub returns-clause-warned : goal.returns-clause-warned
returns-clause-warned g c =
    let words = map string_bytes c.args.words.now in
    let told = g.F.Files.held c.args.files.now in
    λ is. elim (c.run.ensures.ran.found (inr (inr is))) [
      | inl said ↦ absurd (differs_none told words said.0 (subst (λ (s : Status). CallsFor words told (Refuses s said.0)) is said.2))
      | inr found ↦
          let file = listed told words c.run.result found.0 found.1 in (
            file.0,
            file.2.settings,
            file.1,
            file.2.read,
            file.2.warned,
            subst (λ (list : List ℕ). g.S.Sink.taken c.run.new.out ≡ and_bytes (g.S.Sink.taken c.args.out.now) list) file.2.said found.2,
            found.3,
          )
    ]

format_is_none : (status : Status) → status ≡ statuses.Format → status ≡ statuses.Differs → ⊥
format_is_none status format differs = cc

pub returns-clause-fault : goal.returns-clause-fault
returns-clause-fault g c =
    let words = map string_bytes c.args.words.now in
    let told = g.F.Files.held c.args.files.now in
    λ is. elim (c.run.ensures.ran.found (inr (inl is))) [
      | inl said ↦
          let file = faulty told words said.0 (subst (λ (s : Status). CallsFor words told (Refuses s said.0)) is said.2) in (
            file.0,
            file.2.bytes,
            file.2.fault,
            file.1,
            file.2.read,
            file.2.faulty,
            subst (λ (m : List ℕ). Said g.E.Sink.taken g.E.Sink.faults c.args.err.now c.run.new.err (line program_name m)) file.2.said said.1,
            said.3,
          )
      | inr found ↦ absurd (format_is_none c.run.result is (listed told words c.run.result found.0 found.1).2.differs)
    ]
