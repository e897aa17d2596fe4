-- The cells of a node, by the node above it.
use Rattle.std.proofs.Common.{◌≡◌, ap, sym, subst, ℕ, Some}
use Rattle.std.specs.Prelude.{Option, option_and_then, IfSome}
use Rattle.fdt_tree.specs.Document.{Document, place_of, parent_place, properties_of}
use Rattle.fdt_tree.specs.Values.{cells_of}
use Rattle.fdt_nodes.specs.Nodes.{properties_at}
use Rattle.fdt_nodes.specs.Held.{node_of}
use Rattle.passthrough_dtb.specs.PrivateCounts.{AreCells}

-- the node above says them
pub said_above : (document : Document) (node above : ℕ) → Some (place_of document above) ≡ parent_place (place_of document node) → cells_of (properties_of document above) ≡ (node_of document node).cells
said_above document node above place = ap (option_and_then (λ p. cells_of (properties_at document.tree p))) place

-- what is kept of the node above
pub kept : (document : Document) (above : ℕ) (cells : Option (ℕ × ℕ)) (found : Option (Option (ℕ × ℕ))) → Some cells ≡ found → IfSome found (AreCells document above) → AreCells document above cells
kept document above cells found is are = subst (λ (f : Option (Option (ℕ × ℕ))). IfSome f (AreCells document above)) (sym is) are
