use Rattle.std.proofs.Common.{◌<◌, ℕ, Option, IfSome, length, sym, ap, ◌∙◌, subst, arith}
use Rattle.fdt_tree.specs.PrivateLinks.{modified, with_next, chained_after}
use Rattle.fdt_tree.proofs.Lists.{set-modified, length-last}
use Rattle.fdt_tree.proofs.slots.follow.Goals as goal

pub returns-in-Some-clause-ok : goal.returns-in-Some-clause-ok
returns-in-Some-clause-ok c =
    let w : c.in-Some.before < length c.args.slots.now.items = subst (λ (o : Option ℕ). IfSome o (λ k. k < length c.args.slots.now.items)) c.in-Some.is c.requires in set-modified (with_next c.len-number.result) c.push.new.self.items c.in-Some.before c.index_mut-held.result.now (omega (arith, w, ap length c.in_ok-push.ensures.items, length-last c.args.slots.now.items c.args.slot)) c.index_mut-held.ensures.value ∙ (ap (λ k. modified (with_next k) c.in-Some.before c.push.new.self.items) (c.len-number.ensures ∙ c.args.slots.now.ok.0) ∙ (ap (modified (with_next (length c.args.slots.now.items)) c.in-Some.before) c.in_ok-push.ensures.items ∙ ap (λ o. chained_after o c.args.slots.now.items c.args.slot) (sym c.in-Some.is)))
