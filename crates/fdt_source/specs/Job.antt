-- What a run is called to do by its words and by the files.
use Rattle.std.specs.Prelude.{◌≡◌, ℕ, ◌≤◌, ◌⊎◌, List, [], ◌∷◌, length, Option, Some, None, IsNone}
use Rattle.outside.specs.Outside.{File}
use Rattle.outside.specs.declared.status.Status.TheVariants as statuses
use Rattle.fdt_write.specs.Flattened.{flattened, length_limit}
use Rattle.run_steps.specs.Endings.{Outcome}
use Rattle.run_steps.specs.Steps.{IsRefusal, IsWriting}
use Rattle.program.specs.Programs.{usage_line}
use Rattle.tree_files.specs.Lengths.{IsLengthRefusal}
use Rattle.tree_files.specs.Trees.{FlatTree, AfterTreeFile}
use Rattle.source_text.specs.BadNames.{first_bad}
use Rattle.source_text.specs.Printed.{printed}
use Rattle.fdt_source.specs.Messages.{program_name, bad_name_message}
use Rattle.fdt_source.specs.Texts.{SourceTree, AfterTextFile}
use Rattle.fdt_source.specs.Words.{Asked, Print, Build, asked}

-- the first node with a name that cannot be printed is refused; where there is none, the tree's text is the report
abbrev pub OnBadName : List ℕ → FlatTree → Option (List ℕ) → Outcome → Type 0
OnBadName name tree (Some path) outcome = IsRefusal statuses.Refused (bad_name_message name path) outcome
OnBadName name tree None outcome = IsWriting [] (printed tree.reserves tree.root) outcome

-- what a tree of this name calls for
abbrev pub IsPrinting : List ℕ → FlatTree → Outcome → Type 0
IsPrinting name tree outcome = OnBadName name tree (first_bad tree.root) outcome

-- the bytes of a tree that a text says: processor 0 boots
abbrev pub tree_of : SourceTree → List ℕ
tree_of tree = flattened tree.reserves 0 tree.root

-- what the tree of a text calls for that is written under a name: it is the one output, or it is too long and refused
abbrev pub IsBuilding : List ℕ → SourceTree → Outcome → Type 0
IsBuilding out tree outcome =
    IsLengthRefusal out (length (tree_of tree)) outcome ⊎ ((length (tree_of tree) ≤ length_limit) × IsWriting ((out, tree_of tree) ∷ []) [] outcome)

-- what is asked for: a tree is read, and printed; or a text is read, and its tree is written
abbrev pub IsAskedJob : Option (List File) → Asked → Outcome → Type 0
IsAskedJob told (Print tree) outcome = AfterTreeFile told tree (IsPrinting tree) outcome
IsAskedJob told (Build text out) outcome = AfterTextFile told text (IsBuilding out) outcome

-- the words ask for nothing, and the line of usage is said
abbrev pub AreRefused : List (List ℕ) → List ℕ → Type 0
AreRefused words text = IsNone (asked words) × (text ≡ usage_line program_name)

-- what is asked for is done; other words call for nothing
abbrev pub IsWordsJob : Option (List File) → Option Asked → Outcome → Type 0
IsWordsJob told None outcome = ⊥
IsWordsJob told (Some asked) outcome = IsAskedJob told asked outcome

-- the words and the files call for this outcome, by what the files hold where that is told, and else by some answers of theirs
abbrev pub CallsFor : List (List ℕ) → Option (List File) → Outcome → Type 0
CallsFor words told outcome = IsWordsJob told (asked words) outcome
