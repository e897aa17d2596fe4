use Rattle.std.proofs.Common.{◌++◌, arith}
use Rattle.ib_script.specs.Guests.{guests_commands}
use Rattle.ib_script.proofs.GuestLemmas.{enough_here, enough_there, next_guest, all_guests}
use Rattle.ib_script.proofs.guests.put_guests.Goals as goal

pub put_guest-requires-clause-places : goal.put_guest-requires-clause-places
put_guest-requires-clause-places c = enough_here c.args.config.now.guests c.loop-guest.guest c.loop-guest.left.now (omega arith) c.loop-guest.invariant.enough

pub places_behind-left-requires : goal.places_behind-left-requires
places_behind-left-requires c =
    (enough_there c.args.config.now.guests c.loop-guest.guest c.loop-guest.left.now (omega arith) c.loop-guest.invariant.enough c.guest_file_count.result c.guest_file_count.ensures.value).0

pub loop-guest-preserved : goal.loop-guest-preserved
loop-guest-preserved c = record {
  same = rw c.places_behind-left.ensures (next_guest c.args.config.now.guests c.args.highest c.loop-guest.guest c.guest_file_count.result c.loop-guest.left.now
      (c.args.out.now ++ guests_commands c.args.config.now.guests c.args.highest 0 c.args.config.now.guests c.args.places.now) c.loop-guest.out c.put_guest.new.out (omega arith)
      c.in_ok-put_guest.ensures c.guest_file_count.ensures.value c.loop-guest.invariant.same);
  enough = rw c.places_behind-left.ensures
      (enough_there c.args.config.now.guests c.loop-guest.guest c.loop-guest.left.now (omega arith) c.loop-guest.invariant.enough c.guest_file_count.result c.guest_file_count.ensures.value).1;
}

pub returns : goal.returns
returns c =
    all_guests c.args.config.now.guests c.args.highest c.loop-guest.guest c.loop-guest.left.now (c.args.out.now ++ guests_commands c.args.config.now.guests c.args.highest 0 c.args.config.now.guests c.args.places.now)
    c.loop-guest.out (omega arith) c.loop-guest.invariant.same
