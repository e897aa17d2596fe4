use Rattle.std.proofs.Common.{arith, rules, ◌≡◌, Err}
use Rattle.ib_config.specs.PrivateScan.{held}
use Rattle.ib_config.specs.Settings.{guest_settings}
use Rattle.ib_config.proofs.GuestLemmas.{each_start, each_on, each_bad, each_end, guest_number}
use Rattle.ib_config.proofs.guests.read_guests.Goals as goal

pub loop-guest-init : goal.loop-guest-init
loop-guest-init c = each_start (guest_settings (held c.args.assigned.now) c.args.count) c.args.count c.new-guests.result c.new-guests.ensures

pub returns-in_err-settings-clause-value : goal.returns-in_err-settings-clause-value
returns-in_err-settings-clause-value c =
    let handed : c.from_residual-in_err-settings.result ≡ Err (c.in_err-settings.field-0.0) = search rules in
    rw handed (each_bad (guest_settings (held c.args.assigned.now) c.args.count) c.args.count _ c.loop-guest.guest c.loop-guest.guests (c.in_err-settings.field-0.0) (omega arith) c.loop-guest.invariant c.in_err-settings.ensures)

pub loop-guest-preserved : goal.loop-guest-preserved
loop-guest-preserved c = each_on (guest_settings (held c.args.assigned.now) c.args.count) c.args.count _ c.loop-guest.guest c.loop-guest.guests c.push.new.self c.in_ok-settings.settings (omega arith) c.loop-guest.invariant
    c.in_ok-settings.ensures c.in_ok-push.ensures.ok

pub returns-clause-value : goal.returns-clause-value
returns-clause-value c = each_end (guest_settings (held c.args.assigned.now) c.args.count) c.args.count _ c.loop-guest.guest c.loop-guest.guests (omega arith) c.loop-guest.invariant

pub returns-clause-count : goal.returns-clause-count
returns-clause-count c = guest_number (guest_settings (held c.args.assigned.now) c.args.count) c.args.count c.loop-guest.guests (returns-clause-value c)
