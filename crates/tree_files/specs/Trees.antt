-- A flattened tree is read (Devicetree Specification 0.4, chapter 5).
use Rattle.std.specs.Prelude.{◌≡◌, ℕ, ◌⊎◌, List, length, Option, Some, Ok}
use Rattle.outside.specs.Outside.{File}
use Rattle.outside.specs.declared.status.Status.TheVariants as statuses
use Rattle.fdt_tree.specs.Tree.{Tree}
use Rattle.fdt_tree.specs.declared.reserve.Reserve.{Reserve}
use Rattle.fdt_read.specs.declared.fault.FdtFault.{FdtFault}
use Rattle.fdt_read.specs.FaultTexts.{fault_text}
use Rattle.fdt_read.specs.Refusals.{refusal}
use Rattle.fdt_read.specs.Spells.{Spells}
use Rattle.run_steps.specs.Messages.{file_message}
use Rattle.run_steps.specs.Endings.{Outcome}
use Rattle.run_steps.specs.Steps.{IsRefusal, IsReading, AfterReading}
use Rattle.tree_files.specs.declared.reading.TreeFile.{TreeFile}

-- the longest tree that is read, in bytes
abbrev pub tree_limit : ℕ
tree_limit = 1048576

-- a flattened tree: its reservations, the processor that boots, its root, and how many bytes its file has
pub record FlatTree : Type 0 where
  pub reserves : List Reserve
  pub boot : ℕ
  pub root : Tree
  pub length : ℕ

-- the tree that the code keeps
abbrev pub flat_tree : TreeFile → FlatTree
flat_tree file = record { reserves = file.flat.reserves; boot = file.flat.boot; root = file.flat.tree.tree; length = file.length }

-- the bytes are those of the tree
pub record IsFlattened (bytes : List ℕ) (tree : FlatTree) : Type 0 where
  pub spelled : Spells bytes tree.reserves tree.boot tree.root
  pub measured : tree.length ≡ length bytes

-- the bytes have a first fault, which is refused; or they spell a tree, which is handed on
abbrev pub AfterTree : List ℕ → List ℕ → (FlatTree → Outcome → Type 0) → Outcome → Type 0
AfterTree name bytes next outcome =
    ((fault : FdtFault) × (refusal bytes ≡ Some fault) × IsRefusal statuses.Format (file_message name (fault_text fault)) outcome)
    ⊎ ((tree : FlatTree) × IsFlattened bytes tree × next tree outcome)

-- a tree's file is read, and its tree is handed on
abbrev pub AfterTreeFile : Option (List File) → List ℕ → (FlatTree → Outcome → Type 0) → Outcome → Type 0
AfterTreeFile told name next outcome = AfterReading told name tree_limit (λ bytes. AfterTree name bytes next) outcome

-- a file of this name is read, by what the files hold where that is told, and its bytes are those of the tree
pub record IsTreeFile (told : Option (List File)) (name : List ℕ) (tree : FlatTree) : Type 0 where
  pub file : List ℕ
  pub read : IsReading told name tree_limit (Ok file)
  pub flattened : IsFlattened file tree
