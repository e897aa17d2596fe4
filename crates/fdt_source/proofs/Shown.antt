-- What a run that ends with status 0 has printed or written.
use Rattle.std.proofs.Common.{◌≡◌, refl, ℕ, List, [], ◌∷◌, Option, Some, None, inl, inr}
use Rattle.outside.specs.Outside.{File}
use Rattle.run_steps.specs.Endings.{Builds}
use Rattle.tree_files.specs.Trees.{FlatTree, AfterTreeFile, IsTreeFile}
use Rattle.run_steps.proofs.Step.{found_by}
use Rattle.tree_files.proofs.TreeSteps.{tree_file_step}
use Rattle.source_text.specs.BadNames.{first_bad}
use Rattle.source_text.specs.Printed.{printed}
use Rattle.fdt_source.specs.Texts.{SourceTree, AfterTextFile, IsTextFile}
use Rattle.fdt_source.specs.Job.{OnBadName, IsPrinting, tree_of, IsBuilding}
use Rattle.fdt_source.proofs.TextSteps.{text_file_step}

by_name : (name : List ℕ) (tree : FlatTree) (outputs : List File) (said : List ℕ) (found : Option (List ℕ)) → OnBadName name tree found (Builds outputs said)
    → (found ≡ None) × (outputs ≡ []) × (said ≡ printed tree.reserves tree.root)
by_name name tree outputs said (Some path) refused = elim refused [ ]
by_name name tree outputs said None written = (refl, written.0, written.1)

-- no output, and the text
pub shown : (told : Option (List File)) (name : List ℕ) (outputs : List File) (said : List ℕ) → AfterTreeFile told name (IsPrinting name) (Builds outputs said)
    → (tree : FlatTree) × IsTreeFile told name tree × (first_bad tree.root ≡ None) × (outputs ≡ []) × (said ≡ printed tree.reserves tree.root)
shown told name outputs said job =
    let found = found_by (IsTreeFile told name) (AfterTreeFile told name) (tree_file_step told name) (IsPrinting name) outputs said job in
    let written = by_name name found.0 outputs said (first_bad found.0.root) found.2 in
    (found.0, found.1, written.0, written.1, written.2)

by_length : (out : List ℕ) (tree : SourceTree) (outputs : List File) (said : List ℕ) → IsBuilding out tree (Builds outputs said) → (outputs ≡ (out, tree_of tree) ∷ []) × (said ≡ [])
by_length out tree outputs said (inl too_long) = elim too_long.1 [ ]
by_length out tree outputs said (inr fits) = fits.1

-- the one output, and no report
pub wrote : (told : Option (List File)) (text out : List ℕ) (outputs : List File) (said : List ℕ) → AfterTextFile told text (IsBuilding out) (Builds outputs said)
    → (tree : SourceTree) × IsTextFile told text tree × (outputs ≡ (out, tree_of tree) ∷ []) × (said ≡ [])
wrote told text out outputs said job =
    let found = found_by (IsTextFile told text) (AfterTextFile told text) (text_file_step told text) (IsBuilding out) outputs said job in
    let written = by_length out found.0 outputs said found.2 in
    (found.0, found.1, written.0, written.1)
