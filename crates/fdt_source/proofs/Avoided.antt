-- A tree and a text call for no audit: neither reading them nor what is made of them refuses because images differ.
use Rattle.std.proofs.Common.{◌≡◌, ℕ, List, inl, inr}
use Rattle.std.specs.Prelude.{Option, Some, None}
use Rattle.outside.specs.Outside.{File}
use Rattle.outside.specs.declared.status.Status.TheVariants as statuses
use Rattle.run_steps.specs.Endings.{Refuses}
use Rattle.tree_files.specs.Trees.{FlatTree}
use Rattle.tree_files.proofs.TreeSteps.{tree_file_step}
use Rattle.run_steps.proofs.Avoided.{IsOfNoFile}
use Rattle.tree_files.proofs.TreeSteps.{tree_avoids}
use Rattle.source_text.specs.BadNames.{first_bad}
use Rattle.fdt_source.specs.Texts.{SourceTree}
use Rattle.fdt_source.specs.Words.{Asked, Print, Build}
use Rattle.fdt_source.specs.Job.{OnBadName, IsPrinting, IsBuilding, IsAskedJob}
use Rattle.fdt_source.proofs.TextSteps.{text_file_step, text_avoids}

-- that images differ is none of the statuses of reading files, and none of a name or a length
difference_of_no_file : IsOfNoFile statuses.Differs
difference_of_no_file = record { read = λ e. cc; longer = λ e. cc; format = λ e. cc }

no_item : statuses.Differs ≡ statuses.Refused → ⊥
no_item e = cc

printing_avoids : (name : List ℕ) (tree : FlatTree) (found : Option (List ℕ)) (message : List ℕ) → OnBadName name tree found (Refuses statuses.Differs message) → ⊥
printing_avoids name tree (Some path) message p = no_item p.0
printing_avoids name tree None message p = p

building_avoids : (out : List ℕ) (tree : SourceTree) (message : List ℕ) → IsBuilding out tree (Refuses statuses.Differs message) → ⊥
building_avoids out tree message (inl refused) = no_item refused.1.0
building_avoids out tree message (inr written) = written.1

-- so what is asked for calls for no such refusal
pub job_avoids : (told : Option (List File)) (asked : Asked) (message : List ℕ) → IsAskedJob told asked (Refuses statuses.Differs message) → ⊥
job_avoids told (Print name) message job = elim ((tree_file_step told name).splits (IsPrinting name) (Refuses statuses.Differs message) job) [
  | inl given ↦ printing_avoids name given.0 (first_bad given.0.root) message given.2
  | inr refused ↦ tree_avoids statuses.Differs difference_of_no_file told name message refused
]
job_avoids told (Build text out) message job = elim ((text_file_step told text).splits (IsBuilding out) (Refuses statuses.Differs message) job) [
  | inl given ↦ building_avoids out given.0 message given.2
  | inr refused ↦ text_avoids statuses.Differs difference_of_no_file told text message refused
]
