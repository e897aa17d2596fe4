-- What status 0 promises, by what is asked for.
use Rattle.std.specs.Prelude.{◌≡◌, ℕ, List, [], ◌∷◌, Option, Some, None}
use Rattle.outside.specs.Outside.{File}
use Rattle.tree_files.specs.Trees.{FlatTree, IsTreeFile}
use Rattle.source_text.specs.BadNames.{first_bad}
use Rattle.source_text.specs.Printed.{printed}
use Rattle.fdt_source.specs.Texts.{SourceTree, IsTextFile}
use Rattle.fdt_source.specs.Words.{Asked, Print, Build, asked}
use Rattle.fdt_source.specs.Job.{tree_of}

-- the tree that the file of this name spells can be printed, its text is the report, and there is no output
pub record IsPrinted (told : Option (List File)) (name : List ℕ) (outputs : List File) (report : List ℕ) : Type 0 where
  pub tree : FlatTree
  pub read : IsTreeFile told name tree
  pub named : first_bad tree.root ≡ None
  pub alone : outputs ≡ []
  pub reported : report ≡ printed tree.reserves tree.root

-- the tree that the text of this name says is the one output, and nothing is reported
pub record IsWritten (told : Option (List File)) (text out : List ℕ) (outputs : List File) (report : List ℕ) : Type 0 where
  pub tree : SourceTree
  pub read : IsTextFile told text tree
  pub written : outputs ≡ (out, tree_of tree) ∷ []
  pub unreported : report ≡ []

-- of a print, that the tree's text is put; of a build, that the text's tree is written
abbrev pub IsAskedPromise : Option (List File) → Asked → List File → List ℕ → Type 0
IsAskedPromise told (Print tree) outputs report = IsPrinted told tree outputs report
IsAskedPromise told (Build text out) outputs report = IsWritten told text out outputs report

-- words that ask for nothing have no promise
abbrev pub IsWordsPromise : Option (List File) → Option Asked → List File → List ℕ → Type 0
IsWordsPromise told None outputs report = ⊥
IsWordsPromise told (Some asked) outputs report = IsAskedPromise told asked outputs report

-- what status 0 promises of the outputs and the report, by the words and by what the files hold
abbrev pub IsPromised : List (List ℕ) → Option (List File) → List File → List ℕ → Type 0
IsPromised words told outputs report = IsWordsPromise told (asked words) outputs report
