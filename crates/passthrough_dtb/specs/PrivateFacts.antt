-- For proofs and private contracts alone: what the code keeps of the host's nodes.
use Rattle.std.specs.Prelude.{◌≡◌, ℕ, Bool, false, codes, Option, Some, IfSome, is_some}
use Rattle.std.specs.Option.{option_map_or}
use Rattle.std.specs.BTreeMap.{BTreeMap, get}
use Rattle.std.specs.Ordering.{nat_cmp}
use Rattle.fdt_tree.specs.Tree.{Tree}
use Rattle.fdt_tree.specs.Document.{Document}
use Rattle.fdt_nodes.specs.Nodes.{Node}
use Rattle.fdt_nodes.specs.Held.{node_of}
use Rattle.fdt_nodes.specs.Values.{has}
use Rattle.passthrough_dtb.specs.Gic.{is_on_gic}
use Rattle.passthrough_dtb.specs.Devices.{properties_of, has_bad_interrupts}
use Rattle.passthrough_dtb.specs.declared.facts.Facts.{Facts}
use Rattle.passthrough_dtb.specs.declared.facts.Known.{Known}

-- these are the facts of a host's node that may be missing
pub record AreFacts (host : Tree) (found : Option Node) (facts : Facts) : Type 0 where
  pub there : facts.is_there ≡ is_some found
  pub iommus : facts.has_iommus ≡ has (properties_of found) (codes "iommus")
  pub extended : facts.is_extended ≡ has (properties_of found) (codes "interrupts-extended")
  pub interrupts : facts.has_bad_interrupts ≡ has_bad_interrupts (properties_of found)
  pub gic : facts.is_on_gic ≡ option_map_or (is_on_gic host) found false

-- of each node it is known whether its interrupts go to the host's GIC
abbrev pub AreOnGic : Document → BTreeMap ℕ Bool → Type 0
AreOnGic host known = (node : ℕ) → IfSome (get nat_cmp known node) (λ is. is ≡ is_on_gic host.tree (node_of host node))

-- what is known of each node is so
pub record AreKnown (host : Document) (known : Known) : Type 0 where
  pub facts : (node : ℕ) → IfSome (get nat_cmp known.facts node) (AreFacts host.tree (Some (node_of host node)))
  pub on_gic : AreOnGic host known.on_gic
