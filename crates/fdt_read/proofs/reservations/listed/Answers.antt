use Rattle.std.proofs.Common.{List, sym, ◌∙◌, subst, arith}
use Rattle.fdt_tree.specs.declared.reserve.Reserve.{Reserve}
use Rattle.fdt_read.proofs.Reserved.{Listed, none_listed, zeros, one_listed, unended}
use Rattle.fdt_read.proofs.reservations.listed.Goals as goal

pub pairs-init : goal.pairs-init
pairs-init c = subst (λ (z : List Reserve). Listed c.args.block.now z 0) (sym c.new-reserves.ensures) (none_listed c.args.block.now)

pub returns-then-is_zeros-clause-ends : goal.returns-then-is_zeros-clause-ends
returns-then-is_zeros-clause-ends c = (zeros c.args.block.now c.pairs.reserves c.pairs.at c.pair_at-pair.result c.pairs.invariant (omega arith) c.pair_at-pair.ensures (sym c.is_zeros.ensures ∙ c.if-is_zeros.true)).0

pub returns-then-is_zeros-clause-listed : goal.returns-then-is_zeros-clause-listed
returns-then-is_zeros-clause-listed c = (zeros c.args.block.now c.pairs.reserves c.pairs.at c.pair_at-pair.result c.pairs.invariant (omega arith) c.pair_at-pair.ensures (sym c.is_zeros.ensures ∙ c.if-is_zeros.true)).1

pub pairs-preserved : goal.pairs-preserved
pairs-preserved c = one_listed c.args.block.now c.pairs.reserves c.pairs.at c.pair_at-pair.result c.push.new.self c.pairs.invariant (omega arith) c.pair_at-pair.ensures (sym c.is_zeros.ensures ∙ c.if-is_zeros.false) c.in_ok-push.ensures.ok

pub returns-clause-ends : goal.returns-clause-ends
returns-clause-ends c = sym (unended c.args.block.now c.pairs.reserves c.pairs.at c.pairs.invariant (omega arith))
