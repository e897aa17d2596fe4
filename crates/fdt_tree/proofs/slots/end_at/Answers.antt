use Rattle.std.proofs.Common.{◌≡◌, ◌<◌, ◌+◌, ◌-◌, ℕ, List, Some, Option, length, get_or, unwrap_or, sym, ap, ◌∙◌, set}
use Rattle.fdt_tree.specs.PrivateLinks.{modified, with_last_slot, run_with}
use Rattle.fdt_tree.specs.declared.node.Node.{Node}
use Rattle.fdt_tree.proofs.Lists.{set-modified}
use Rattle.fdt_tree.proofs.slots.end_at.Goals as goal
use Rattle.fdt_tree.proofs.slots.end_at.Goals.{in-None, in-Some}

ended : (nodes : List Node) (p k run : ℕ) (first : Option ℕ) (n held : Node) → p < length nodes → n ≡ get_or nodes p n → held ≡ record n { first_property = first; run = run } → first ≡ Some (unwrap_or n.first_property k) → run ≡ run_with k n.first_property n.run → set nodes p (record held { last_property = Some k; property_count = held.property_count + 1 }) ≡ modified (with_last_slot k) p nodes
ended nodes p k run first n held h e q a b =
    ap (λ (v : Node). set nodes p (record v { last_property = Some k; property_count = v.property_count + 1 })) q ∙ (ap (λ z. set nodes p (record n { first_property = z; run = run; last_property = Some k; property_count = n.property_count + 1 })) a ∙ (ap (λ z. set nodes p (record n { first_property = Some (unwrap_or n.first_property k); run = z; last_property = Some k; property_count = n.property_count + 1 })) b ∙ set-modified (with_last_slot k) nodes p n h e))

pub returns : goal.returns
returns c =
    let n = c.index_mut-holder.result.now in elim c.match-holder.branch [
      | in-None w ↦ ended _ _ (c.args.count - 1) c.run_with-holder.result (Some (c.args.count - 1)) n c.match-holder.holder c.requires.live c.index_mut-holder.ensures.value w.holder-is (ap (λ o. Some (unwrap_or o (c.args.count - 1))) (sym w.in-None.is)) c.run_with-holder.ensures
      | in-Some w ↦ ended _ _ (c.args.count - 1) c.run_with-holder.result n.first_property n c.match-holder.holder c.requires.live c.index_mut-holder.ensures.value w.holder-is (w.in-Some.is ∙ ap (λ o. Some (unwrap_or o (c.args.count - 1))) (sym w.in-Some.is)) c.run_with-holder.ensures
    ]
