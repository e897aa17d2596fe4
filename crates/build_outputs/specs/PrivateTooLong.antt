-- Only private contracts and proofs use this file: the stop at the first of some trees that is too long.
use Rattle.std.specs.Prelude.{◌≡◌, ◌<◌, ◌⊎◌, List, length, Some}
use Rattle.outside.specs.Outside.{File}
use Rattle.item_checks.specs.Refusals.{Refusal}
use Rattle.fdt_write.specs.Flattened.{length_limit}
use Rattle.run_steps.specs.Stops.{IsOwnDue}
use Rattle.run_steps.specs.declared.stop.Stop.{Stop}
use Rattle.run_steps.specs.declared.stop.Stop.TheVariants.{Memory}
use Rattle.build_outputs.specs.Builds.{IsItemRefusal}
use Rattle.build_outputs.specs.Lengths.{refused_trees, tree_item, too_long}

-- memory ran out, or this tree is too long, which is said
abbrev pub IsLengthStop : File → Stop → Type 0
IsLengthStop tree stop = (stop ≡ Memory) ⊎ ((length_limit < length tree.1) × IsOwnDue (IsItemRefusal (tree_item tree.0, too_long (length tree.1))) stop)

-- memory ran out, or the first of these trees that is too long is said
abbrev pub IsFirstLengthStop : List File → Stop → Type 0
IsFirstLengthStop trees stop = (stop ≡ Memory) ⊎ ((refusal : Refusal) × (refused_trees trees ≡ Some refusal) × IsOwnDue (IsItemRefusal refusal) stop)
