-- Words and files call for no list, and for no audit.
use Rattle.std.proofs.Common.{ℕ, List, Option, Some, None, inl, inr}
use Rattle.outside.specs.Outside.{File}
use Rattle.outside.specs.declared.status.Status.{Status}
use Rattle.outside.specs.declared.status.Status.TheVariants as statuses
use Rattle.run_steps.specs.Endings.{Refuses, Finds}
use Rattle.run_steps.proofs.Step.{found_before}
use Rattle.program.specs.Laws.{FindsNothing, AuditsNothing}
use Rattle.tree_files.specs.Trees.{FlatTree, AfterTreeFile, IsTreeFile}
use Rattle.tree_files.proofs.TreeSteps.{tree_file_step}
use Rattle.source_text.specs.BadNames.{first_bad}
use Rattle.fdt_source.specs.Texts.{SourceTree, AfterTextFile, IsTextFile}
use Rattle.fdt_source.specs.Words.{Asked, Print, Build, asked}
use Rattle.fdt_source.specs.Job.{OnBadName, IsPrinting, IsBuilding, IsAskedJob, IsWordsJob, CallsFor}
use Rattle.fdt_source.proofs.TextSteps.{text_file_step}
use Rattle.fdt_source.proofs.Avoided.{job_avoids}

printing_finds_none : (name : List ℕ) (tree : FlatTree) (found : Option (List ℕ)) (status : Status) (list : List ℕ) → OnBadName name tree found (Finds status list) → ⊥
printing_finds_none name tree (Some path) status list p = p
printing_finds_none name tree None status list p = p

building_finds_none : (out : List ℕ) (tree : SourceTree) (status : Status) (list : List ℕ) → IsBuilding out tree (Finds status list) → ⊥
building_finds_none out tree status list (inl refused) = refused.1
building_finds_none out tree status list (inr written) = written.1

job_finds_none : (told : Option (List File)) (asked : Asked) (status : Status) (list : List ℕ) → IsAskedJob told asked (Finds status list) → ⊥
job_finds_none told (Print name) status list job =
    let found = found_before (IsTreeFile told name) (AfterTreeFile told name) (tree_file_step told name) (IsPrinting name) status list job in
    printing_finds_none name found.0 (first_bad found.0.root) status list found.2
job_finds_none told (Build text out) status list job =
    let found = found_before (IsTextFile told text) (AfterTextFile told text) (text_file_step told text) (IsBuilding out) status list job in
    building_finds_none out found.0 status list found.2

words_find_none : (told : Option (List File)) (asked : Option Asked) (status : Status) (list : List ℕ) → IsWordsJob told asked (Finds status list) → ⊥
words_find_none told None status list job = job
words_find_none told (Some asked) status list job = job_finds_none told asked status list job

words_audit_none : (told : Option (List File)) (asked : Option Asked) (message : List ℕ) → IsWordsJob told asked (Refuses statuses.Differs message) → ⊥
words_audit_none told None message job = job
words_audit_none told (Some asked) message job = job_avoids told asked message job

pub finds_nothing : FindsNothing CallsFor
finds_nothing words told status list job = words_find_none told (asked words) status list job

pub audits_nothing : AuditsNothing CallsFor
audits_nothing words told message job = words_audit_none told (asked words) message job
