-- That written trees are read back. Only private contracts and proofs use this file.
use Rattle.std.specs.Prelude.{◌≡◌, ℕ, List, [], Option, Some, slice_get}
use Rattle.domain_plan.specs.declared.planned.GuestPlan.{GuestPlan}
use Rattle.fdt_read.specs.Spells.{Spells}
use Rattle.fdt_tree.specs.Tree.{Tree}
use Rattle.guest_fdt.specs.GuestTree.{guest_tree}
use Rattle.domain_plan.specs.Descriptions.{partial_at}
use Rattle.build_outputs.specs.Outputs.{tree_output}

-- the bytes that are written for a guest's tree spell it
abbrev pub IsSpelled : GuestPlan → Option Tree → Type 0
IsSpelled guest partial = Spells (tree_output guest partial).1 [] 0 (guest_tree guest partial)

-- those of each guest do
abbrev pub AreSpelled : List (Option Tree) → List GuestPlan → Type 0
AreSpelled partials guests = (number : ℕ) (guest : GuestPlan) → slice_get guests number ≡ Some guest → IsSpelled guest (partial_at partials number)
