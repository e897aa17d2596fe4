use Rattle.std.proofs.Common.{◌≡◌, true, sym, ◌∙◌}
use Rattle.ib_config.specs.PrivateScan.{held}
use Rattle.ib_config.specs.Settings.{is_static}
use Rattle.ib_config.proofs.guests.direct_map.Goals as goal

pub returns-then-branch : goal.returns-then-branch
returns-then-branch c = let static : is_static (held c.args.assigned.now) c.args.guest ≡ true = sym c.in_ok-is_static.ensures ∙ c.if-branch.true in rw static c.flag_or_set.ensures
