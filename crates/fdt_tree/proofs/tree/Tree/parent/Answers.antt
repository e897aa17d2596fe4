use Rattle.std.proofs.Common.{sym, ◌∙◌, arith}
use Rattle.fdt_tree.proofs.Links.{reads}
use Rattle.fdt_tree.proofs.tree.Tree.parent.Goals as goal

pub returns-else-node-eq0-clause-live : goal.returns-else-node-eq0-clause-live
returns-else-node-eq0-clause-live c =
    let f = reads _ _ _ _ _ _ _ c.self.invariant c.self.view_is c.node.view_is c.requires c.index.ensures in omega (arith, f.earlier (λ z. c.if-node-eq0.false (c.node.view_is ∙ z)), c.requires)

pub returns-else-node-eq0-clause-place : goal.returns-else-node-eq0-clause-place
returns-else-node-eq0-clause-place c =
    let f = reads _ _ _ _ _ _ _ c.self.invariant c.self.view_is c.node.view_is c.requires c.index.ensures in sym (f.above (λ z. c.if-node-eq0.false (c.node.view_is ∙ z)))

pub returns-else-node-eq0-clause-earlier : goal.returns-else-node-eq0-clause-earlier
returns-else-node-eq0-clause-earlier c =
    let f = reads _ _ _ _ _ _ _ c.self.invariant c.self.view_is c.node.view_is c.requires c.index.ensures in f.earlier (λ z. c.if-node-eq0.false (c.node.view_is ∙ z))
