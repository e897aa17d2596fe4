use Rattle.std.proofs.Common.{◌∙◌, sym, arith, refl}
use Rattle.ib_config.specs.PrivateScan.{held}
use Rattle.ib_config.specs.Settings.{is_tested, shown_key, unused_names}
use Rattle.ib_config.proofs.UnusedLemmas.{names_start, names_skip, names_add, names_end}
use Rattle.ib_config.proofs.unused.read_unused.Goals.{then-not-branch+in_ok-shown+in_ok-push, else-not-branch}
use Rattle.ib_config.proofs.unused.read_unused.Goals as goal

pub loop-place-init : goal.loop-place-init
loop-place-init c = names_start (is_tested (held c.args.assigned.now) c.args.count) shown_key (held c.args.assigned.now).keys (unused_names (held c.args.assigned.now) c.args.count) c.new-unused.result c.new-unused.ensures refl

pub loop-place-preserved : goal.loop-place-preserved
loop-place-preserved c =
    elim c.if-not-branch.branch [
      | then-not-branch+in_ok-shown+in_ok-push w ↦ rw w.unused-is (names_add (is_tested (held c.args.assigned.now) c.args.count) shown_key (held c.args.assigned.now).keys (unused_names (held c.args.assigned.now) c.args.count)
          c.loop-place.place c.loop-place.unused w.push.new.self c.key-key.result.now c.key-key.ensures (sym c.in_ok-is_tested.ensures ∙ w.if-not-branch.true) (w.in_ok-push.ensures.ok ∙ rw w.in_ok-shown.ensures refl) c.loop-place.invariant)
      | else-not-branch w ↦ rw w.unused-is (names_skip (is_tested (held c.args.assigned.now) c.args.count) shown_key (held c.args.assigned.now).keys (unused_names (held c.args.assigned.now) c.args.count)
          c.loop-place.place c.loop-place.unused c.key-key.result.now c.key-key.ensures (sym c.in_ok-is_tested.ensures ∙ w.if-not-branch.false) c.loop-place.invariant)
    ]

pub returns : goal.returns
returns c = names_end (is_tested (held c.args.assigned.now) c.args.count) shown_key (held c.args.assigned.now).keys (unused_names (held c.args.assigned.now) c.args.count) c.loop-place.place c.loop-place.unused (omega arith) c.loop-place.invariant
