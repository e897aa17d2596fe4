use Rattle.std.proofs.Common.{subst, refl, inl, inr, map, string_bytes}
use Rattle.outside.specs.declared.status.Status.{Status}
use Rattle.run_steps.specs.Endings.{Refuses}
use Rattle.run_steps.proofs.Due.{never_rises}
use Rattle.program.specs.Programs.{usage_line}
use Rattle.fdt_overlay.specs.Job.{AreRefused, CallsFor}
use Rattle.fdt_overlay.specs.Lines.{program_name}
use Rattle.fdt_overlay.specs.Promises.{IsPromised}
use Rattle.fdt_overlay.proofs.Quiet.{no_bytes, over_any}
use Rattle.fdt_overlay.proofs.top.run.Goals as goal

pub returns-clause-words : goal.returns-clause-words
returns-clause-words g c = (
  λ is. let said = c.run.ensures.ran.words is in said.2.0,
  λ none. elim (c.run.ensures.ran.unasked (usage_line program_name) (none, refl)) [
    | inl is ↦ is
    | inr memory ↦ elim memory.0 [ ]
  ],
)

pub returns-clause-write : goal.returns-clause-write
returns-clause-write g c = λ is. elim (c.run.ensures.ran.write is) [
  | inl build ↦ elim build.5 [
    | inl output ↦ (build.0, build.1, build.2, build.3, build.4, output.0, output.1)
    | inr report ↦ absurd (never_rises report.1)
  ]
  | inr list ↦ absurd (never_rises list.4)
]

pub returns-clause-room : goal.returns-clause-room
returns-clause-room g c = λ is.
    let words = map string_bytes c.args.words.now in
    let told = g.F.Files.held c.args.files.now in
    elim (c.run.ensures.ran.room is) [
      | inl build ↦ (build.0, build.1, build.2, λ room. build.3 (room, no_bytes build.1 (c.reports_nothing.ensures words told build.0 build.1 build.2)))
      | inr list ↦ absurd (c.finds_nothing.ensures words told list.0 list.1 list.2)
    ]

pub returns-clause-no_audit : goal.returns-clause-no_audit
returns-clause-no_audit g c = λ is.
    let words = map string_bytes c.args.words.now in
    let told = g.F.Files.held c.args.files.now in
    elim (c.run.ensures.ran.found (inr (inr is))) [
      | inl said ↦ c.audits_nothing.ensures words told said.0 (subst (λ (s : Status). CallsFor words told (Refuses s said.0)) is said.2)
      | inr put ↦ c.finds_nothing.ensures words told _ put.0 put.1
    ]

pub returns-clause-ran : goal.returns-clause-ran
returns-clause-ran g c =
    let words = map string_bytes c.args.words.now in
    let told = g.F.Files.held c.args.files.now in
    over_any g.F.Files.held g.F.Files.counts g.O.Outs.written g.O.Outs.room g.O.Outs.faults g.S.Sink.taken g.S.Sink.room g.S.Sink.faults g.E.Sink.taken g.E.Sink.faults
    program_name (AreRefused words) (⊥) (CallsFor words told) (IsPromised words told)
    (c.reports_nothing.ensures words told) (c.finds_nothing.ensures words told)
    _ _ _ _ _ _ _ _ _ _ c.run.ensures.ran
