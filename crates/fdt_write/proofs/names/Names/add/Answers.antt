use Rattle.fdt_write.proofs.NamesLemmas.{added}
use Rattle.fdt_write.proofs.names.Names.add.Goals as goal

pub invariant_of-self-2 : goal.invariant_of-self-2
invariant_of-self-2 c =
    let before = c.args.self.now in
    let h = added before.order.items c.push.new.self.items before.offsets c.insert.new.self c.args.name before.size c.saturating_add.result c.saturating_add-self.result c.offset.result c.if-is_some.ensures c.offset.ensures c.in_ok-push.ensures.items c.in-Ok.ensures.updates before.indexed before.sized c.saturating_add.ensures c.saturating_add-self.ensures in
    record { indexed = h.indexed; sized = h.sized }

pub returns-clause-ok : goal.returns-clause-ok
returns-clause-ok c =
    let before = c.args.self.now in
    (added before.order.items c.push.new.self.items before.offsets c.insert.new.self c.args.name before.size c.saturating_add.result c.saturating_add-self.result c.offset.result c.if-is_some.ensures c.offset.ensures c.in_ok-push.ensures.items c.in-Ok.ensures.updates before.indexed before.sized c.saturating_add.ensures c.saturating_add-self.ensures).names
