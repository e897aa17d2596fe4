use Rattle.std.proofs.Common.{◌≡◌, length, refl, arith, ◌∙◌}
use Rattle.std.specs.Prelude.{min}
use Rattle.ib_script.specs.Phandles.{groups_before as groups_ahead}
use Rattle.ib_script.proofs.PhandleLemmas.{one_more, before_end}
use Rattle.ib_script.proofs.phandles.groups_before.Goals as goal

pub loop-earlier-init : goal.loop-earlier-init
unfolding groups_ahead
loop-earlier-init c = record { counted = refl; few = omega arith }

pub loop-earlier-preserved : goal.loop-earlier-preserved
loop-earlier-preserved c = record {
  counted = rw c.len.ensures (one_more c.args.config.now.guests c.loop-earlier.earlier c.loop-earlier.count c.evtchns.result.now (omega arith) c.evtchns.ensures c.loop-earlier.invariant.counted);
  few = omega arith;
}

pub returns-clause-value : goal.returns-clause-value
returns-clause-value c =
    let last : c.loop-earlier.earlier ≡ min c.args.guest (length c.args.config.now.guests) = omega arith in
    c.loop-earlier.invariant.counted ∙ rw last (before_end c.args.config.now.guests c.args.guest)
