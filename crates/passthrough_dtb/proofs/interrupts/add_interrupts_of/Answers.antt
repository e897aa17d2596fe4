use Rattle.std.proofs.Common.{◌∙◌, ap, arith}
use Rattle.std.specs.Prelude.{Option}
use Rattle.described.specs.declared.item.Item.{Item}
use Rattle.described.specs.declared.item.Part.TheVariants as parts
use Rattle.described.specs.declared.item.What.TheVariants as whats
use Rattle.described.specs.declared.why.Why.{Why}
use Rattle.described.specs.Reasons.{described}
use Rattle.passthrough_dtb.specs.Whole.{item_in}
use Rattle.passthrough_dtb.proofs.Noted.{one_described}
use Rattle.passthrough_dtb.proofs.interrupts.add_interrupts_of.Goals as goal

pub loop-rest-preserved : goal.loop-rest-preserved
loop-rest-preserved c = (
  omega (arith, c.split_at.ensures.back_len, c.loop-rest.invariant.0),
  λ guest path held first told. one_described guest path held c.loop-rest.number c.loop-rest.items c.push.new.self _ c.described.result c.loop-rest.rest.now c.split_at.result.0.now c.split_at.result.1.now c.interrupt_in-interrupt.result
      c.loop-rest-test.true c.split_at.ensures.front c.split_at.ensures.back c.interrupt_in-interrupt.ensures
      (c.described.ensures
      ∙ ap (λ (i : Item). described i c.interrupt_reason-own.result (whats.Irq c.interrupt_in-interrupt.result.number)) (c.in_ok-item.ensures ∙ ap (λ (i : Item). record i { index = c.loop-rest.number }) first)
      ∙ ap (λ (o : Option Why). described (item_in parts.Irq guest path c.loop-rest.number) o (whats.Irq c.interrupt_in-interrupt.result.number)) (c.interrupt_reason-own.ensures held told))
      c.in_ok-push.ensures.ok (c.loop-rest.invariant.1 guest path held first told),
)
