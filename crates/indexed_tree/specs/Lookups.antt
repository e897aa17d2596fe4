-- Nodes that are found by a name or by a phandle.
use Rattle.std.specs.Prelude.{ℕ, ◌==◌, [], ◌∷◌, ◌++◌, Option, option_map, find}
use Rattle.fdt_tree.specs.Tree.{Bytes, Tree, Place, first_named}
use Rattle.fdt_tree.specs.Document.{Document, place_of, children_of}
use Rattle.fdt_tree.specs.Phandles.{phandle_places}

-- the place of the first child of a node that has a name
abbrev pub child_place : Document → ℕ → Bytes → Option Place
child_place document above name = option_map (λ found. place_of document above ++ found.0 ∷ []) (first_named name (children_of document above))

-- the place of the first node in document order that has a phandle
abbrev pub place_of_phandle : Tree → ℕ → Option Place
place_of_phandle whole phandle = option_map (λ held. held.1) (find (λ held. held.0 == phandle) (phandle_places whole))
