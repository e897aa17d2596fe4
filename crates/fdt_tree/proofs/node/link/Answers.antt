use Rattle.std.proofs.Common.{◌≡◌, ◌<◌, ◌++◌, ◌∷◌, [], ℕ, List, Option, IfSome, length, get_or, set, sym, ap, ◌∙◌, subst, arith, Vec}
use Rattle.fdt_tree.specs.PrivateLinks.{followed, modified, with_first_child, with_next_sibling, with_last_child}
use Rattle.fdt_tree.specs.declared.node.Node.{Node}
use Rattle.fdt_tree.proofs.Lists.{set-modified, length-followed, length-last}
use Rattle.fdt_tree.proofs.node.link.Goals as goal
use Rattle.fdt_tree.proofs.node.link.Goals.{in-None, in-Some}

-- A link that is set in the longer list.
set_in : (f : ℕ → Node → Node) (items nodes : List Node) (node n : Node) (p number : ℕ) → items ≡ nodes ++ node ∷ [] → number ≡ length nodes → p < length nodes → n ≡ get_or items p n → set items p (f number n) ≡ modified (f (length nodes)) p (nodes ++ node ∷ [])
set_in f items nodes node n p number e q h g =
    set-modified (f number) items p n (omega (arith, h, ap length e, length-last nodes node)) g ∙ (ap (λ k. modified (f k) p items) q ∙ ap (modified (f (length nodes)) p) e)

behind : (c : goal.After-nodes-2-1) → c.match-last.nodes.items ≡ followed c.args.last c.args.parent (length c.args.nodes.now.items) (c.args.nodes.now.items ++ c.args.node ∷ [])
behind c =
    elim c.match-last.branch [
      | in-None w ↦ ap (λ (v : Vec Node _). v.items) w.nodes-is ∙ (set_in with_first_child _ c.args.nodes.now.items c.args.node _ c.args.parent _ c.in_ok-push.ensures.items (c.len-number.ensures ∙ c.args.nodes.now.ok.0) c.requires.live w.index_mut-above.ensures.value ∙ ap (λ o. followed o c.args.parent (length c.args.nodes.now.items) (c.args.nodes.now.items ++ c.args.node ∷ [])) (sym w.in-None.is))
      | in-Some w ↦ ap (λ (v : Vec Node _). v.items) w.nodes-is ∙ (set_in with_next_sibling _ c.args.nodes.now.items c.args.node _ w.in-Some.before _ c.in_ok-push.ensures.items (c.len-number.ensures ∙ c.args.nodes.now.ok.0) (subst (λ (o : Option ℕ). IfSome o (λ k. k < length c.args.nodes.now.items)) w.in-Some.is c.requires.last) w.index_mut-sibling.ensures.value ∙ ap (λ o. followed o c.args.parent (length c.args.nodes.now.items) (c.args.nodes.now.items ++ c.args.node ∷ [])) (sym w.in-Some.is))
    ]

pub returns-clause-ok : goal.returns-clause-ok
returns-clause-ok c =
    let b = behind c in let w : c.args.parent < length c.match-last.nodes.items = omega (arith, c.requires.live, ap length b, length-followed c.args.last c.args.parent (length c.args.nodes.now.items) (c.args.nodes.now.items ++ c.args.node ∷ []), length-last c.args.nodes.now.items c.args.node) in set-modified (with_last_child c.len-number.result) c.match-last.nodes.items c.args.parent c.index_mut-above-2.result.now w c.index_mut-above-2.ensures.value ∙ (ap (λ k. modified (with_last_child k) c.args.parent c.match-last.nodes.items) (c.len-number.ensures ∙ c.args.nodes.now.ok.0) ∙ ap (modified (with_last_child (length c.args.nodes.now.items)) c.args.parent) b)
