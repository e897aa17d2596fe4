use Rattle.std.proofs.Common.{◌≡◌, ◌++◌, [], length, sym, ap, ◌∙◌, arith, subst, refl, IsTrue}
use Rattle.fdt_tree.specs.Assembled.{document, IsLinked}
use Rattle.fdt_tree.specs.PrivateLinks.{fresh, linked}
use Rattle.fdt_tree.specs.Tree.{Bytes, is_node_name}
use Rattle.fdt_tree.specs.Document.{Document, place_of, with_node}
use Rattle.fdt_tree.proofs.Lists.{length-last}
use Rattle.fdt_tree.proofs.Links.{held, reads, after_link, child_of, leads_on}
use Rattle.fdt_tree.proofs.tree.Tree.add_node.Goals as goal
use Rattle.fdt_tree.proofs.tree.Tree.add_node.Goals.{in-Ok-link, in-Err-link}

pub link-requires-clause-last : goal.link-requires-clause-last
link-requires-clause-last c =
    let f = reads _ _ _ _ _ _ _ c.self.invariant c.self.view_is c.parent.view_is c.requires.live c.index.ensures in leads_on c.index.result.now.last_child f.last_on (λ k a. held _ _ _ _ k c.self.invariant c.self.view_is a.1)

linked_in : (c : goal.Joined-link) → c.link.new.nodes.items ≡ linked c.self.inside.nodes.items c.parent.inside.number c.index.result.now.last_child (fresh c.parent.inside.number c.append.new.self) → IsLinked (document c.link.new.nodes.items c.self.inside.slots.items) c.link.new.nodes.items c.self.inside.slots.items × (document c.link.new.nodes.items c.self.inside.slots.items ≡ with_node c.args.self.now (place_of c.args.self.now c.args.parent) c.append.new.self [])
linked_in c e =
    after_link _ _ _ _ _ _ c.index.result.now _ _ c.self.invariant c.self.view_is c.parent.view_is c.requires.live c.index.ensures refl (λ z. c.if-depth-eq-DEPTH_LIMIT.false (c.depth.ensures.depth ∙ z)) (subst (λ (z : Bytes). IsTrue (is_node_name z)) (sym (c.in-Ok.ensures.ok ∙ ap (λ z. z ++ c.args.name.now) c.new-held.ensures)) c.requires.node_name) e

of_fresh : (c : goal.Joined-link) → c.link.new.nodes.items ≡ linked c.self.inside.nodes.items c.parent.inside.number c.index.result.now.last_child c.alone-node.result → c.link.new.nodes.items ≡ linked c.self.inside.nodes.items c.parent.inside.number c.index.result.now.last_child (fresh c.parent.inside.number c.append.new.self)
of_fresh c e = e ∙ ap (linked c.self.inside.nodes.items c.parent.inside.number c.index.result.now.last_child) c.alone-node.ensures

pub invariant_of-self : goal.invariant_of-self
invariant_of-self c =
    elim c.match-link.branch [
      | in-Ok-link w ↦ (linked_in c (of_fresh c w.in-Ok-link.ensures.ok)).0
      | in-Err-link w ↦ subst (λ z. IsLinked (document z c.self.inside.slots.items) z c.self.inside.slots.items) (sym w.in-Err-link.ensures.err) c.self.invariant
    ]

pub returns-clause-ok : goal.returns-clause-ok
returns-clause-ok c =
    elim c.match-link.branch [
      | in-Ok-link w ↦ rw w.result-is (child_of c.args.self.now _ c.args.parent c.args.name.now c.append.new.self (λ z. c.if-depth-eq-DEPTH_LIMIT.false (c.depth.ensures.depth ∙ z)) (linked_in c (of_fresh c w.in-Ok-link.ensures.ok)).1 (c.in-Ok.ensures.ok ∙ ap (λ z. z ++ c.args.name.now) c.new-held.ensures))
      | in-Err-link w ↦ rw w.result-is tt
    ]

pub returns-clause-longer : goal.returns-clause-longer
returns-clause-longer c =
    elim c.match-link.branch [
      | in-Ok-link w ↦ rw w.result-is (omega (arith, ap (λ (d : Document). length d.places) (linked_in c (of_fresh c w.in-Ok-link.ensures.ok)).1, length-last c.args.self.now.places))
      | in-Err-link w ↦ rw w.result-is tt
    ]
