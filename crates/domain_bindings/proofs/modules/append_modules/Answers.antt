use Rattle.std.proofs.Common.{◌∙◌, ap, map}
use Rattle.fdt_nodes.specs.Held.{node_of}
use Rattle.domain_bindings.specs.Modules.{module_item}
use Rattle.domain_bindings.proofs.FirstLemmas.{one_more_module}
use Rattle.domain_bindings.proofs.modules.append_modules.Goals as goal

pub loop-node-preserved : goal.loop-node-preserved
loop-node-preserved c = (
  one_more_module c.args.tree.now c.args.modules.now c.loop-node.node-index c.node-item.result c.args.items.now c.loop-node.items c.push.new.self c.in_ok-item.item c.loop-node.firsts.items c.note_kind.new.firsts.items
      c.loop-node.invariant.0 c.loop-node-test.true c.node-item.is
      (c.in_ok-item.ensures ∙ ap (λ kept. module_item (map (node_of c.args.tree.now) kept) (node_of c.args.tree.now c.node-item.result)) c.deref.ensures.value)
      c.in_ok-push.ensures.ok c.in_ok-note_kind.ensures.firsts,
  c.in_ok-note_kind.ensures.lives,
)
