-- A run that reports nothing and finds no list ends over any stream as over one that has room for no byte, and leaves it as it is.
use Rattle.std.proofs.Common.{◌≡◌, ◌∙◌, refl, sym, ap, subst, arith, ℕ, List, [], Some, None, inl, inr}
use Rattle.std.specs.Prelude.{Option, IfSome}
use Rattle.outside.specs.Outside.{File, and_bytes}
use Rattle.outside.specs.Reads.{Counts}
use Rattle.outside.specs.declared.status.Status.{Status}
use Rattle.outside.specs.declared.status.Status.TheVariants as statuses
use Rattle.run_steps.specs.Endings.{Outcome, Builds, Finds, and_files, TakesBytes}
use Rattle.run_steps.proofs.Taken.{and_bytes-none}
use Rattle.run_steps.proofs.Due.{never_rises}
use Rattle.program.specs.Runs.{Ran}

-- nothing has room where there is none
pub no_bytes : (said : List ℕ) → said ≡ [] → TakesBytes (Some 0) said
no_bytes said none_said = subst (λ (bytes : List ℕ). TakesBytes (Some 0) bytes) (sym none_said) (omega arith)

nothing_put : (taken : Option (List ℕ)) (report : List ℕ) → report ≡ [] → taken ≡ and_bytes taken report
nothing_put taken report none_said = sym (ap (and_bytes taken) none_said ∙ and_bytes-none taken)

module _ {F O S E : Type 0}
    (held : F → Option (List File)) (counts : F → Counts)
    (written : O → Option (List File)) (outs_room : O → Option (ℕ × ℕ)) (outs_faults : O → ℕ)
    (taken : S → Option (List ℕ)) (out_room : S → Option ℕ) (out_faults : S → ℕ)
    (said : E → Option (List ℕ)) (err_faults : E → ℕ)
    (name : List ℕ) (refuses : List ℕ → Type 0) (words_take_memory : Type 0) (called : Outcome → Type 0) (promised : List File → List ℕ → Type 0)
    (unreported : (outputs : List File) (report : List ℕ) → called (Builds outputs report) → report ≡ [])
    (no_list : (status : Status) (list : List ℕ) → called (Finds status list) → ⊥)
    (files_old files_new : F) (outs_old outs_new : O) (out : S) (err_old err_new : E) (status : Status) where
  complete_over : (told : Option (List File))
      → IfSome told (λ files. (outputs : List File) (report : List ℕ) → called (Builds outputs report) → status ≡ statuses.Built → (written outs_new ≡ and_files (written outs_old) outputs) × (None ≡ and_bytes None report))
      → IfSome told (λ files. (outputs : List File) (report : List ℕ) → called (Builds outputs report) → status ≡ statuses.Built → (written outs_new ≡ and_files (written outs_old) outputs) × (taken out ≡ and_bytes (taken out) report))
  complete_over None done = tt
  complete_over (Some files) done = λ outputs report calls is. ((done outputs report calls is).0, nothing_put (taken out) report (unreported outputs report calls))

  pub over_any : {N : Type 0} (before after : N)
      → Ran held counts written outs_room outs_faults (λ (n : N). None) (λ (n : N). Some 0) (λ (n : N). 0) said err_faults name refuses words_take_memory called promised files_old files_new outs_old outs_new before after err_old err_new status
      → Ran held counts written outs_room outs_faults taken out_room out_faults said err_faults name refuses words_take_memory called promised files_old files_new outs_old outs_new out out err_old err_new status
  over_any {N} before after ran = record {
    built = λ is. let done = ran.built is in (done.0, done.1, done.2, done.3, done.4, nothing_put (taken out) done.1 (unreported done.0 done.1 done.2), done.6);
    memory = ran.memory;
    words = ran.words;
    unasked = ran.unasked;
    found = λ is. elim (ran.found is) [
      | inl refused ↦ inl (refused.0, refused.1, refused.2, refl)
      | inr list ↦ absurd (no_list status list.0 list.1)
    ];
    longer = ran.longer;
    read = ran.read;
    write = λ is. elim (ran.write is) [
      | inl build ↦ elim build.5 [
        | inl output ↦ inl (build.0, build.1, build.2, build.3, build.4, inl (output.0, output.1, refl))
        | inr report ↦ absurd (never_rises report.1)
      ]
      | inr list ↦ absurd (never_rises list.4)
    ];
    room = λ is. elim (ran.room is) [
      | inl build ↦ inl (build.0, build.1, build.2, λ room. build.3 (room.0, no_bytes build.1 (unreported build.0 build.1 build.2)))
      | inr list ↦ absurd (no_list list.0 list.1 list.2)
    ];
    exact = ran.exact;
    complete = complete_over (held files_old) ran.complete;
    outs_kept = ran.outs_kept;
    out_kept = λ never not_built not_write. refl;
    files_kept = ran.files_kept;
  }
