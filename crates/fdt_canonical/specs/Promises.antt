-- What status 0 promises.
use Rattle.std.specs.Prelude.{◌≡◌, ℕ, List, [], Option, Some, Ok}
use Rattle.outside.specs.Outside.{File}
use Rattle.run_steps.specs.Steps.{IsReading}
use Rattle.tree_files.specs.Trees.{tree_limit}
use Rattle.filters.specs.Words.{asked_file}
use Rattle.fdt_canonical.specs.Canonical.{IsOneSpelling}

-- the report is the one canonical spelling of the file of this name, by what the files hold where that is told, and there is no output
pub record IsRespelledFile (told : Option (List File)) (name : List ℕ) (outputs : List File) (report : List ℕ) : Type 0 where
  pub file : List ℕ
  pub read : IsReading told name tree_limit (Ok file)
  pub spelling : IsOneSpelling file report
  pub alone : outputs ≡ []

-- the words ask for such a file
pub record IsRespelled (words : List (List ℕ)) (told : Option (List File)) (outputs : List File) (report : List ℕ) : Type 0 where
  pub name : List ℕ
  pub named : asked_file words ≡ Some name
  pub respelled : IsRespelledFile told name outputs report
