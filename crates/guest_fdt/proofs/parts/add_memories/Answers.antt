use Rattle.std.proofs.Common.{refl}
use Rattle.guest_fdt.specs.Machine.{memory}
use Rattle.tree_parts.proofs.Growing.{Grows-nothing, Grows-step}
use Rattle.guest_fdt.proofs.parts.add_memories.Goals as goal

pub loop-page-init : goal.loop-page-init
loop-page-init c = Grows-nothing c.args.tree.now c.args.tree.now c.args.root refl

pub loop-page-preserved : goal.loop-page-preserved
loop-page-preserved c =
    Grows-step c.args.tree.now c.loop-page.tree c.add_memory.new.tree c.args.root c.loop-page.page-index memory c.args.memories.now _ c.requires.live c.loop-page.invariant c.loop-page-test.true c.in_ok-add_memory.ensures
