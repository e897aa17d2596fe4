use Rattle.std.proofs.Common.{◌+◌, arith}
use Rattle.ib_script.specs.Script.{made_of}
use Rattle.ib_script.proofs.PhandleLemmas.{phandles_fit, phandles_past}
use Rattle.ib_script.proofs.make.commands.Goals as goal

pub returns-then-last-gt-LAST_PHANDLE : goal.returns-then-last-gt-LAST_PHANDLE
unfolding made_of
returns-then-last-gt-LAST_PHANDLE c =
    let guests = c.args.config.now.guests in
    rw (phandles_past guests c.args.facts.highest (c.from.result + c.groups_before.result) (rw (c.from.ensures, c.groups_before.ensures.value, c.guests.ensures.count)) (omega arith))

pub returns : goal.returns
unfolding made_of
returns c =
    let guests = c.args.config.now.guests in
    rw (
      phandles_fit guests c.args.facts.highest (c.from.result + c.groups_before.result) (rw (c.from.ensures, c.groups_before.ensures.value, c.guests.ensures.count)) (omega arith),
      c.in_ok-put_script.ensures,
      c.new-script.ensures,
      c.as_slice.ensures,
    )
