use Rattle.std.proofs.Common.{◌≡◌, append_assoc, length-drop, arith}
use Rattle.std.specs.Prelude.{is_some}
use Rattle.ib_script.specs.Script.{domains_commands}
use Rattle.ib_script.proofs.GuestLemmas.{is_set}
use Rattle.ib_script.proofs.PlaceCounts.{dom0_counted}
use Rattle.ib_script.proofs.script.put_domains.Goals as goal

pub places_behind-guests-requires : goal.places_behind-guests-requires
places_behind-guests-requires c =
    let s = c.args.config.now in
    let kernel : c.is_some-kernel.result ≡ is_some s.dom0_kernel = is_set c.dom0_kernel.result s.dom0_kernel c.is_some-kernel.result c.is_some-kernel.ensures c.dom0_kernel.ensures in
    let ramdisk : c.is_some-ramdisk.result ≡ is_some s.dom0_ramdisk = is_set c.dom0_ramdisk.result s.dom0_ramdisk c.is_some-ramdisk.result c.is_some-ramdisk.ensures c.dom0_ramdisk.ensures in
    rw (c.one_if.ensures.value, c.one_if-2.ensures.value, kernel, ramdisk, ← dom0_counted s) (omega arith)

pub put_dom0-requires : goal.put_dom0-requires
put_dom0-requires c =
    let s = c.args.config.now in
    let kernel : c.is_some-kernel.result ≡ is_some s.dom0_kernel = is_set c.dom0_kernel.result s.dom0_kernel c.is_some-kernel.result c.is_some-kernel.ensures c.dom0_kernel.ensures in
    let ramdisk : c.is_some-ramdisk.result ≡ is_some s.dom0_ramdisk = is_set c.dom0_ramdisk.result s.dom0_ramdisk c.is_some-ramdisk.result c.is_some-ramdisk.ensures c.dom0_ramdisk.ensures in
    rw (kernel, ramdisk, ← dom0_counted s) (omega arith)

pub put_guests-requires-clause-places : goal.put_guests-requires-clause-places
put_guests-requires-clause-places c =
    let s = c.args.config.now in
    let kernel : c.is_some-kernel.result ≡ is_some s.dom0_kernel = is_set c.dom0_kernel.result s.dom0_kernel c.is_some-kernel.result c.is_some-kernel.ensures c.dom0_kernel.ensures in
    let ramdisk : c.is_some-ramdisk.result ≡ is_some s.dom0_ramdisk = is_set c.dom0_ramdisk.result s.dom0_ramdisk c.is_some-ramdisk.result c.is_some-ramdisk.ensures c.dom0_ramdisk.ensures in
    rw (c.places_behind-guests.ensures, c.one_if.ensures.value, c.one_if-2.ensures.value, kernel, ramdisk, ← dom0_counted s, length-drop) (omega arith)

pub returns : goal.returns
unfolding domains_commands
returns c =
    let s = c.args.config.now in
    let kernel : c.is_some-kernel.result ≡ is_some s.dom0_kernel = is_set c.dom0_kernel.result s.dom0_kernel c.is_some-kernel.result c.is_some-kernel.ensures c.dom0_kernel.ensures in
    let ramdisk : c.is_some-ramdisk.result ≡ is_some s.dom0_ramdisk = is_set c.dom0_ramdisk.result s.dom0_ramdisk c.is_some-ramdisk.result c.is_some-ramdisk.ensures c.dom0_ramdisk.ensures in
    rw (c.in_ok-put_guests.ensures, c.in_ok-put_dom0.ensures, c.places_behind-guests.ensures, c.one_if.ensures.value, c.one_if-2.ensures.value, kernel, ramdisk, c.dom0_cmd.ensures, dom0_counted s)
    (simp append_assoc)
