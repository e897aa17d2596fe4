use Rattle.std.proofs.Common.{ℕ, ◌+◌, ◌-◌, Bool, List, ◌++◌, sym, ap, ◌∙◌}
use Rattle.std.specs.Prelude.{◌==◌, filter}
use Rattle.std.specs.List.{list_any}
use Rattle.texts.specs.Consecutive.{numbers}
use Rattle.domain_plan.proofs.SpiLemmas.{spis_step, spis_end}
use Rattle.domain_plan.proofs.guest_plan.spis_of.Goals as goal

pub loop-spi-preserved : goal.loop-spi-preserved
loop-spi-preserved c =
    let test : ℕ → Bool = λ spi. list_any (λ (irq : ℕ). irq == spi) c.args.irqs.now in
    let i : ℕ = c.loop-spi.spi in
    ap (λ (xs : List ℕ). xs ++ filter test (numbers (i + 1) (988 - (i + 1)))) c.in_ok-push_if.ensures
    ∙ spis_step test c.loop-spi.spis 988 i c.is_among.result c.loop-spi-test.true c.is_among.ensures ∙ c.loop-spi.invariant

pub returns : goal.returns
returns c =
    let test : ℕ → Bool = λ spi. list_any (λ (irq : ℕ). irq == spi) c.args.irqs.now in
    sym (spis_end test c.loop-spi.spis 988 c.loop-spi.spi c.loop-spi-test.false) ∙ c.loop-spi.invariant
