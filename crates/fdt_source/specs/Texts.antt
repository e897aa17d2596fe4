-- A text of source is read.
use Rattle.std.specs.Prelude.{ℕ, ◌⊎◌, List, Option, Ok}
use Rattle.outside.specs.Outside.{File}
use Rattle.outside.specs.declared.status.Status.TheVariants as statuses
use Rattle.fdt_tree.specs.Tree.{Tree}
use Rattle.fdt_tree.specs.declared.reserve.Reserve.{Reserve}
use Rattle.run_steps.specs.Endings.{Outcome}
use Rattle.run_steps.specs.Steps.{IsRefusal, IsReading, AfterReading}
use Rattle.fdt_source.specs.Messages.{syntax_message}
use Rattle.source_text.specs.Source.{IsSource, DepartsAt}

-- the longest text that is read, in bytes
abbrev pub text_limit : ℕ
text_limit = 1048576

-- what a text says: reservations and a tree
pub record SourceTree : Type 0 where
  pub reserves : List Reserve
  pub root : Tree

-- the bytes say something, which is handed on; or they depart from every source at an offset, which is refused
abbrev pub AfterText : List ℕ → List ℕ → (SourceTree → Outcome → Type 0) → Outcome → Type 0
AfterText name bytes next outcome =
    ((offset : ℕ) × DepartsAt bytes offset × IsRefusal statuses.Format (syntax_message name offset) outcome)
    ⊎ ((tree : SourceTree) × IsSource bytes tree.reserves tree.root × next tree outcome)

-- a text's file is read, and what it says is handed on
abbrev pub AfterTextFile : Option (List File) → List ℕ → (SourceTree → Outcome → Type 0) → Outcome → Type 0
AfterTextFile told name next outcome = AfterReading told name text_limit (λ bytes. AfterText name bytes next) outcome

-- a file of this name is read, by what the files hold where that is told, and its bytes say the tree and its reservations
pub record IsTextFile (told : Option (List File)) (name : List ℕ) (tree : SourceTree) : Type 0 where
  pub file : List ℕ
  pub read : IsReading told name text_limit (Ok file)
  pub says : IsSource file tree.reserves tree.root
