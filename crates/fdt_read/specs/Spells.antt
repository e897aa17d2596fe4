-- What a flattened tree says.
use Rattle.std.specs.Prelude.{◌≡◌, ℕ, suc, ◌≤◌, ◌&&◌, List, [], None, IsTrue}
use Rattle.fdt_tree.specs.Tree.{Bytes, Tree, depth_limit}
use Rattle.fdt_tree.specs.declared.reserve.Reserve.{Reserve}
use Rattle.fdt_read.specs.Header.{boot_processor}
use Rattle.fdt_read.specs.Reservations.{reservations}
use Rattle.fdt_read.specs.Tokens.{tokens}
use Rattle.fdt_tree.specs.Whole.{height}
use Rattle.fdt_read.specs.Spelling.{spelled_whole, counting, are_named, are_names}
use Rattle.fdt_read.specs.Refusals.{header_fault}

-- The file is a flattened tree: it spells these reservations, this boot processor and this tree.
pub record Spells (bytes : Bytes) (reserves : List Reserve) (boot : ℕ) (t : Tree) : Type 0 where
  pub header : header_fault bytes ≡ None
  pub reserved : reservations bytes ≡ reserves
  pub processor : boot_processor bytes ≡ boot
  pub unnamed : t.name ≡ []
  pub structure : counting (tokens bytes) ≡ spelled_whole t
  pub names : IsTrue (are_named t.properties && are_names t.children)
  pub depth : suc (height t.children) ≤ depth_limit
