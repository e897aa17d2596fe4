use Rattle.std.proofs.Common.{arith, rules, ◌≡◌, ◌∙◌, Err, refl}
use Rattle.ib_config.specs.PrivateScan.{held, file_read}
use Rattle.ib_config.specs.Settings.{settings_of, config_of}
use Rattle.ib_config.proofs.ConfigLemmas.{config_is}
use Rattle.ib_config.proofs.GuestLemmas.{hand_on}
use Rattle.ib_config.proofs.config.read_config.Goals as goal

pub returns-in_err-assigned : goal.returns-in_err-assigned
returns-in_err-assigned c =
    let handed : c.from_residual.result ≡ Err (c.in_err-assigned.field-0.0) = search rules in
    rw handed (hand_on (c.in_err-assigned.field-0.0) (file_read c.args.bytes.now) (config_of c.args.bytes.now) (λ e bad. config_is c.args.bytes.now ∙ rw bad refl) c.in_err-assigned.ensures)

pub returns-in_err-settings : goal.returns-in_err-settings
returns-in_err-settings c =
    let handed : c.from_residual-in_err-settings.result ≡ Err (c.in_err-settings.field-0.0) = search rules in
    rw handed (hand_on (c.in_err-settings.field-0.0) (settings_of (held c.in_ok-assigned.assigned)) (config_of c.args.bytes.now)
    (λ e bad. config_is c.args.bytes.now ∙ rw (c.in_ok-assigned.ensures, bad) refl) c.in_err-settings.ensures.value)

pub invariant_of-result : goal.invariant_of-result
invariant_of-result c = (c.in_ok-settings.ensures.few, (c.args.bytes.now, omega arith, config_is c.args.bytes.now ∙ rw c.in_ok-assigned.ensures c.in_ok-settings.ensures.value))

pub returns : goal.returns
returns c = config_is c.args.bytes.now ∙ rw c.in_ok-assigned.ensures c.in_ok-settings.ensures.value
