use Rattle.std.proofs.Common.{◌≡◌, true, cond, Some, None, sym, ap, ◌∙◌}
use Rattle.std.specs.List.{list_any}
use Rattle.std.specs.Option.{option_or}
use Rattle.described.specs.declared.item.Item.{Item}
use Rattle.described.specs.declared.item.What.TheVariants as whats
use Rattle.item_checks.specs.declared.state.Taker.{Taker}
use Rattle.item_checks.specs.Standing.{first_other}
use Rattle.item_checks.specs.PrivateStanding.{is_irq_of_other}
use Rattle.item_checks.proofs.IrqLemmas.{is_taker, taker_kept, taker_more}
use Rattle.item_checks.proofs.passing.push_taker.Goals as goal

pub returns-then-has_taker : goal.returns-then-has_taker
returns-then-has_taker c number other =
    let some : list_any (is_taker c.in-Irq.number c.in-Some.guest) c.args.takers.now.items ≡ true = rw (sym c.as_slice.ensures.value) (sym c.has_taker.ensures ∙ c.if-has_taker.true) in
    rw (c.in-Some.is, c.in-Irq.is) (taker_kept c.in-Irq.number c.in-Some.guest number other c.args.described.now.item c.args.takers.now.items some)

pub returns-in_ok-push-in-Irq : goal.returns-in_ok-push-in-Irq
returns-in_ok-push-in-Irq c number other =
    let t : Taker = record { item = c.in_ok-item-in-Irq.item; guest = c.in-Some.guest; number = c.in-Irq.number } in
    ap (first_other number other) c.in_ok-push-in-Irq.ensures.items ∙ taker_more number other t c.args.takers.now.items
    ∙ rw (c.in-Some.is, c.in-Irq.is) (ap (λ (item : Item). option_or (first_other number other c.args.takers.now.items) (cond (is_irq_of_other number other (Some c.in-Some.guest) (whats.Irq c.in-Irq.number)) (Some item) None)) c.in_ok-item-in-Irq.ensures)
