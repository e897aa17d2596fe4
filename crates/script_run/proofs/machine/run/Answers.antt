use Rattle.std.proofs.Common.{◌≡◌, suc, ◌+◌, length, Ok, Err, ap, subst, ◌∙◌, arith}
use Rattle.script_run.specs.Effect.{tree_size, has_good_name, has_good_names}
use Rattle.script_run.specs.PrivateMoves.{IsAt, IsMoved}
use Rattle.script_run.proofs.MachineLemmas.{all_at, indexed, IsAt-next, ended, IsAt-first, IsAt-last}
use Rattle.script_run.proofs.machine.run.Goals as goal

pub loop-index-init : goal.loop-index-init
loop-index-init c = IsAt-first c.args.commands.now c.args.sizes.now c.args.machine.now c.requires.fresh

pub run_one-requires : goal.run_one-requires
unfolding has_good_names
run_one-requires c = record {
  named = all_at has_good_name c.args.commands.now c.loop-index.index c.index-script-index.result c.requires.named
      (indexed c.args.commands.now c.as_slice-script.result.now c.loop-index.index c.index-script-index.result c.as_slice-script.ensures c.loop-index-test.true c.index-script-index.is);
}

pub loop-index-preserved : goal.loop-index-preserved
loop-index-preserved c =
    let there = indexed c.args.commands.now c.as_slice-script.result.now c.loop-index.index c.index-script-index.result c.as_slice-script.ensures c.loop-index-test.true c.index-script-index.is in
    let size : c.tree_size-size.result ≡ tree_size c.args.commands.now c.args.machine.now.tree_length = c.tree_size-size.ensures ∙ ap (λ n. tree_size c.as_slice-script.result.now n) c.tree_length.ensures ∙ ap (λ cs. tree_size cs c.args.machine.now.tree_length) c.as_slice-script.ensures in
    let moved = subst (λ o. IsMoved c.tree_load-load.result c.tree_size-size.result c.loop-index.index c.loop-index.first c.index-script-index.result o c.loop-index.machine (Ok c.in-Ok.field-0) c.run_one.new.self)
    c.own_size.ensures c.in-Ok.ensures in
    let next : suc c.loop-index.index ≡ c.loop-index.index + 1 = omega arith in
    subst (λ k. IsAt k c.args.commands.now c.args.sizes.now c.args.machine.now c.run_one.new.self c.left_after-left.result.now c.first_after-first.result) next
    (IsAt-next c.args.commands.now c.args.sizes.now c.args.machine.now c.loop-index.machine c.run_one.new.self c.loop-index.index c.index-script-index.result c.loop-index.left.now c.left_after-left.result.now
    c.loop-index.first c.first_after-first.result c.tree_load-load.result c.tree_size-size.result c.in-Ok.field-0 c.loop-index.invariant c.requires.sized there c.tree_load-load.ensures size moved
    c.left_after-left.ensures c.first_after-first.ensures)

pub returns-in-Err-clause-stopped : goal.returns-in-Err-clause-stopped
returns-in-Err-clause-stopped c =
    let there = indexed c.args.commands.now c.as_slice-script.result.now c.loop-index.index c.index-script-index.result c.as_slice-script.ensures c.loop-index-test.true c.index-script-index.is in
    let moved = subst (λ o. IsMoved c.tree_load-load.result c.tree_size-size.result c.loop-index.index c.loop-index.first c.index-script-index.result o c.loop-index.machine (Err c.in-Err.stop) c.run_one.new.self)
    c.own_size.ensures c.in-Err.ensures in
    ended c.args.commands.now c.args.sizes.now c.args.machine.now c.loop-index.machine c.run_one.new.self c.loop-index.index c.index-script-index.result c.loop-index.left.now c.loop-index.first
    c.tree_load-load.result c.tree_size-size.result c.in-Err.stop c.fault_at.result c.loop-index.invariant there c.tree_load-load.ensures moved c.fault_at.ensures

pub returns-clause-effect : goal.returns-clause-effect
returns-clause-effect c = IsAt-last c.args.commands.now c.args.sizes.now c.args.machine.now c.loop-index.machine c.loop-index.index c.loop-index.left.now c.loop-index.first c.loop-index.invariant
    (omega (arith, c.loop-index.invariant.within, c.loop-index-test.false, ap length c.as_slice-script.ensures))
