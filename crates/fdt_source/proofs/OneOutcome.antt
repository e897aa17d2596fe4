-- The words and files that tell what they hold call for one outcome.
use Rattle.std.proofs.Common.{◌≤◌, ◌<◌, ℕ, List, Option, Some, None, inl, inr, arith}
use Rattle.std.specs.Prelude.{IsNone}
use Rattle.outside.specs.Outside.{File}
use Rattle.run_steps.specs.Endings.{Outcome}
use Rattle.run_steps.specs.Laws.{IsDetermined}
use Rattle.tree_files.specs.Trees.{FlatTree}
use Rattle.run_steps.proofs.OneOutcome.{never_agrees, refusals_agree, writings_agree}
use Rattle.tree_files.proofs.TreeSteps.{tree_file_decides}
use Rattle.program.specs.Laws.{IsOneOutcome, AsksNothing}
use Rattle.source_text.specs.BadNames.{first_bad}
use Rattle.fdt_source.specs.Texts.{SourceTree}
use Rattle.fdt_source.specs.Words.{Asked, Print, Build, asked}
use Rattle.fdt_source.specs.Job.{OnBadName, IsPrinting, IsBuilding, IsAskedJob, AreRefused, IsWordsJob, CallsFor}
use Rattle.fdt_source.proofs.TextSteps.{text_file_decides}

bad_name_agrees : (name : List ℕ) (tree : FlatTree) (found : Option (List ℕ)) → IsDetermined (OnBadName name tree found)
bad_name_agrees name tree (Some path) = refusals_agree _ _
bad_name_agrees name tree None = writings_agree _ _

printing_agrees : (name : List ℕ) (tree : FlatTree) → IsDetermined (IsPrinting name tree)
printing_agrees name tree = bad_name_agrees name tree (first_bad tree.root)

apart : (a b : ℕ) → a ≤ b → b < a → ⊥
apart a b le lt = grind (arith)

building_agrees : (out : List ℕ) (tree : SourceTree) → IsDetermined (IsBuilding out tree)
building_agrees out tree a b (inl p) (inl q) = refusals_agree _ _ a b p.1 q.1
building_agrees out tree a b (inl p) (inr q) = absurd (apart _ _ q.0 p.0)
building_agrees out tree a b (inr p) (inl q) = absurd (apart _ _ p.0 q.0)
building_agrees out tree a b (inr p) (inr q) = writings_agree _ _ a b p.1 q.1

job_agrees : (held : List File) (asked : Asked) → IsDetermined (IsAskedJob (Some held) asked)
job_agrees held (Print name) = tree_file_decides held name (IsPrinting name) (printing_agrees name)
job_agrees held (Build text out) = text_file_decides held text (IsBuilding out) (building_agrees out)

words_agree : (held : List File) (asked : Option Asked) → IsDetermined (IsWordsJob (Some held) asked)
words_agree held None = never_agrees
words_agree held (Some asked) = job_agrees held asked

-- no words and files call for two outcomes that differ
pub one_outcome : IsOneOutcome CallsFor
one_outcome words held = words_agree held (asked words)

never_none : (asked : Asked) → IsNone (Some asked) → ⊥
never_none asked none = cc

none_job : (told : Option (List File)) (asked : Option Asked) (outcome : Outcome) → IsNone asked → IsWordsJob told asked outcome → ⊥
none_job told None outcome none job = job
none_job told (Some asked) outcome none job = absurd (never_none asked none)

-- words that are refused call for nothing
pub asks_nothing : AsksNothing AreRefused CallsFor
asks_nothing words text told outcome refused job = none_job told (asked words) outcome refused.0 job
