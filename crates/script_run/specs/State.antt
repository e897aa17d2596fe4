-- A machine as its callers see it.
use Rattle.std.specs.Prelude.{ℕ, List}
use Rattle.fdt_tree.specs.Document.{Document}
use Rattle.described.specs.declared.loaded.Loaded.{Loaded}

-- the device tree, the files loaded so far, and the length of the tree's file in bytes
pub record State : Type 0 where
  pub tree : Document
  pub loads : List Loaded
  pub tree_length : ℕ
