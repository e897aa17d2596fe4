use Rattle.std.proofs.Common.{◌∙◌, subst}
use Rattle.fdt_tree.proofs.Names.{not_empty}
use Rattle.fdt_nodes.specs.ChildMaps.{HasAllChildren}
use Rattle.fdt_nodes.proofs.PathSteps.{map_found, map_missing, leads, alive}
use Rattle.fdt_nodes.proofs.path_index.PathIndex.child.Goals as goal

pub returns-in-None-clause-place : goal.returns-in-None-clause-place
returns-in-None-clause-place c = absurd (map_missing c.args.self.now c.self.inside.children c.args.above (subst (λ d. HasAllChildren d c.self.inside.children) c.self.view_is c.self.invariant) c.requires c.in-None.ensures.value)

pub returns-in-Some-clause-live : goal.returns-in-Some-clause-live
returns-in-Some-clause-live c =
    alive c.args.self.now c.args.above c.in-Some.named.now c.args.name.now c.copied.result (map_found c.args.self.now c.self.inside.children c.args.above c.in-Some.named (subst (λ d. HasAllChildren d c.self.inside.children) c.self.view_is c.self.invariant) c.requires c.in-Some.ensures.value)
    (c.copied.ensures ∙ c.get-in-Some.ensures.value)

pub returns-in-Some-clause-place : goal.returns-in-Some-clause-place
returns-in-Some-clause-place c =
    leads c.args.self.now c.args.above c.in-Some.named.now c.args.name.now c.copied.result (map_found c.args.self.now c.self.inside.children c.args.above c.in-Some.named (subst (λ d. HasAllChildren d c.self.inside.children) c.self.view_is c.self.invariant) c.requires c.in-Some.ensures.value)
    (c.copied.ensures ∙ c.get-in-Some.ensures.value) (not_empty c.args.name.now c.is_empty.result c.is_empty.ensures c.if-is_empty.false)
