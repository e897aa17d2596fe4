-- How a run of a program ends: a named fact for each answer, and what each leaves in the outputs and the streams.
use Rattle.std.specs.Prelude.{◌≡◌, ◌≢◌, ℕ, ◌⊎◌, List, Option, IfSome, codes}
use Rattle.outside.specs.Outside.{File, Rose, and_bytes, TookPrefix}
use Rattle.outside.specs.Reads.{Counts}
use Rattle.outside.specs.declared.status.Status.{Status}
use Rattle.outside.specs.declared.status.Status.TheVariants as statuses
use Rattle.run_steps.specs.Messages.{line, memory_message, file_message}
use Rattle.run_steps.specs.Endings.{Outcome, Refuses, Builds, Finds, Said, and_files, TookUpTo, HasRoom, TakesBytes}
use Rattle.run_steps.specs.Laws.{AnswersUnless}
use Rattle.run_steps.specs.Stops.{IsReadFailure}

-- the run of the program of this name ended so, over files, outputs, standard output and the stream of messages, of which each tells what
-- the functions say; `refuses`, `called` and `promised` are the program's relations at its words and at what the files told before, and
-- `words_take_memory` whether reading words may take memory
pub record Ran {F O S E : Type 0}
    (held : F → Option (List File)) (counts : F → Counts)
    (written : O → Option (List File)) (outs_room : O → Option (ℕ × ℕ)) (outs_faults : O → ℕ)
    (taken : S → Option (List ℕ)) (out_room : S → Option ℕ) (out_faults : S → ℕ)
    (said : E → Option (List ℕ)) (err_faults : E → ℕ)
    (name : List ℕ) (refuses : List ℕ → Type 0) (words_take_memory : Type 0) (called : Outcome → Type 0) (promised : List File → List ℕ → Type 0)
    (files_old files_new : F) (outs_old outs_new : O) (out_old out_new : S) (err_old err_new : E) (status : Status) : Type 0 where
  -- Built: what the words and the files call for was taken, with all that the program promises of it, and nothing was said.
  pub built : status ≡ statuses.Built → (outputs : List File) × (report : List ℕ)
      × called (Builds outputs report)
      × promised outputs report
      × (written outs_new ≡ and_files (written outs_old) outputs)
      × (taken out_new ≡ and_bytes (taken out_old) report)
      × (err_new ≡ err_old)
  -- Want of memory is answered freely, and said.
  pub memory : status ≡ statuses.Memory → Said said err_faults err_old err_new (line name memory_message)
  -- Words are refused with their text; words that are refused have this answer, or want of memory where reading them may take some.
  pub words : status ≡ statuses.Words → (text : List ℕ) × Said said err_faults err_old err_new text × refuses text
  pub unasked : (text : List ℕ) → refuses text → (status ≡ statuses.Words) ⊎ (words_take_memory × (status ≡ statuses.Memory))
  -- What is described is refused, a file's bytes are, or an audit found something: as the files call for, with a line on the stream of
  -- messages and nothing on standard output, or with a list that was taken whole, and nothing said.
  pub found : (status ≡ statuses.Refused) ⊎ ((status ≡ statuses.Format) ⊎ (status ≡ statuses.Differs)) →
      ((message : List ℕ)
      × Said said err_faults err_old err_new (line name message)
      × called (Refuses status message)
      × (out_new ≡ out_old))
      ⊎ ((list : List ℕ)
      × called (Finds status list)
      × (taken out_new ≡ and_bytes (taken out_old) list)
      × (err_new ≡ err_old))
  -- A file is too long: only where that count rose, and as the files call for.
  pub longer : status ≡ statuses.Longer → (message : List ℕ)
      × Said said err_faults err_old err_new (line name message)
      × Rose (counts files_old).overlong (counts files_new).overlong
      × called (Refuses status message)
  -- A read failed: the faults rose, and the run comes to this call, so no step before it refuses; or a name is not held: that count rose,
  -- and it is called for.
  pub read : status ≡ statuses.Read → (message : List ℕ)
      × Said said err_faults err_old err_new (line name message)
      × ((Rose (counts files_old).failed (counts files_new).failed × IsReadFailure called message)
      ⊎ (Rose (counts files_old).absent (counts files_new).absent × called (Refuses status message)))
  -- A write failed: of the named output, before which all were taken whole, or of the report, before which all outputs were; or of a list.
  pub write : status ≡ statuses.Write → ((outputs : List File) × (report : List ℕ) × (file : List ℕ)
      × called (Builds outputs report)
      × Said said err_faults err_old err_new (line name (file_message file (codes "write failed")))
      × ((Rose (outs_faults outs_old) (outs_faults outs_new)
      × TookUpTo (written outs_old) (written outs_new) outputs file
      × (out_new ≡ out_old))
      ⊎ ((file ≡ codes "standard output")
      × Rose (out_faults out_old) (out_faults out_new)
      × (written outs_new ≡ and_files (written outs_old) outputs)
      × TookPrefix (taken out_old) (taken out_new) report)))
      ⊎ ((wanted : Status) × (list : List ℕ)
      × called (Finds wanted list)
      × Said said err_faults err_old err_new (line name (file_message (codes "standard output") (codes "write failed")))
      × Rose (out_faults out_old) (out_faults out_new)
      × TookPrefix (taken out_old) (taken out_new) list
      × (outs_new ≡ outs_old))
  -- A write fails only where the outputs and the report that are called for, or the list, find no room that is told.
  pub room : status ≡ statuses.Write → ((outputs : List File) × (report : List ℕ)
      × called (Builds outputs report)
      × (HasRoom (outs_room outs_old) (out_room out_old) outputs report → ⊥))
      ⊎ ((wanted : Status) × (list : List ℕ)
      × called (Finds wanted list)
      × (TakesBytes (out_room out_old) list → ⊥))
  -- Where the files tell what they hold and no read failed, the answer is what they call for, or want of memory.
  pub exact : IfSome (held files_old) (λ files. (outcome : Outcome) → called outcome → AnswersUnless (Rose (counts files_old).failed (counts files_new).failed) status outcome)
  -- Where the files tell what they hold and a build is called for, Built says that just its outputs and its report were taken.
  pub complete : IfSome (held files_old) (λ files. (outputs : List File) → (report : List ℕ) → called (Builds outputs report) → status ≡ statuses.Built →
      (written outs_new ≡ and_files (written outs_old) outputs)
      × (taken out_new ≡ and_bytes (taken out_old) report))
  -- Every other answer leaves the outputs as they were, and standard output where nothing can be found.
  pub outs_kept : status ≢ statuses.Built → status ≢ statuses.Write → outs_new ≡ outs_old
  pub out_kept : ((list : List ℕ) → called (Finds status list) → ⊥) → status ≢ statuses.Built → status ≢ statuses.Write → out_new ≡ out_old
  -- The files hold what they held.
  pub files_kept : held files_new ≡ held files_old
