-- What is described: a host's device tree, what is reserved beside it, the files that were loaded, and the partial device
-- trees of the guests (Xen, docs/misc/arm/device-tree/booting.txt).
use Rattle.std.specs.Prelude.{List, Option, option_map, map}
use Rattle.described.specs.declared.loaded.Loaded.{Loaded}
use Rattle.fdt_tree.specs.Tree.{Tree}
use Rattle.fdt_tree.specs.Document.{Document}
use Rattle.fdt_tree.specs.declared.reserve.Reserve.{Reserve}

-- the host's tree, its reservations, the loaded files, and for each guest its partial tree, where it was read
pub record Description : Type 0 where
  pub root : Tree
  pub reserves : List Reserve
  pub loads : List Loaded
  pub partials : List (Option Tree)

-- partial trees in memory as trees
abbrev pub trees_in : List (Option Document) → List (Option Tree)
trees_in partials = map (λ (partial : Option Document). option_map (λ (document : Document). document.tree) partial) partials

-- what trees in memory describe
abbrev pub description_of : Document → List Reserve → List Loaded → List (Option Document) → Description
description_of document reserves loads partials = record { root = document.tree; reserves = reserves; loads = loads; partials = trees_in partials }
