use Rattle.std.proofs.Common.{arith, ◌≡◌, ◌∷◌, ◌+◌, length, get_or, refl, ap}
use Rattle.std.specs.VecDeque.{deque_len}
use Rattle.std.proofs.lemmas.Bool.Decides.{nat_tests}
use Rattle.ib_placement.specs.Placement.{end_of, room_of}
use Rattle.ib_placement.proofs.PlaceLemmas.{room_is, place_on, place_past, places_end}
use Rattle.ib_placement.proofs.places.place_from.Goals as goal

pub loop-size-preserved : goal.loop-size-preserved
loop-size-preserved c =
    let size = get_or c.args.sizes.now c.loop-size.size-index 0 in
    let later = c.pop_front.new.self.items in
    let names : c.loop-size.later.items ≡ c.in-Some.name ∷ later = c.in-Some.ensures.items in
    let held : deque_len c.pop_front.new.self ≡ length later = omega (arith, ap length names, c.in-Some.ensures.len) in
    let room : c.room.result ≡ room_of later size = room_is later size c.room.result c.is_empty.result (grind (arith, nat_tests)) c.room.ensures.last c.room.ensures.earlier in
    let end : c.round_up-address.result + c.room.result ≡ end_of c.loop-size.end later size = rw (c.round_up-address.ensures.value, room) refl in
    record {
      same = place_on _ _ c.loop-size.places c.loop-size.end (c.round_up-address.result + c.room.result) c.in-Some.name c.loop-size.later.items later size c.args.sizes.now c.loop-size.size-index
          c.loop-size.invariant.same names (omega arith) refl end c.push.new.self (omega arith) (rw (← c.round_up-address.ensures.value) c.in_ok-push.ensures.ok);
      left = omega (arith, ap length names);
      held = held;
      low = omega arith;
    }

pub returns-then-limit-end : goal.returns-then-limit-end
returns-then-limit-end c =
    let size = get_or c.args.sizes.now c.loop-size.size-index 0 in
    let later = c.pop_front.new.self.items in
    let names : c.loop-size.later.items ≡ c.in-Some.name ∷ later = c.in-Some.ensures.items in
    let held : deque_len c.pop_front.new.self ≡ length later = omega (arith, ap length names, c.in-Some.ensures.len) in
    let room : c.room.result ≡ room_of later size = room_is later size c.room.result c.is_empty.result (grind (arith, nat_tests)) c.room.ensures.last c.room.ensures.earlier in
    let end : c.round_up-address.result + c.room.result ≡ end_of c.loop-size.end later size = rw (c.round_up-address.ensures.value, room) refl in
    place_past _ _ c.loop-size.places c.loop-size.end (c.round_up-address.result + c.room.result) c.in-Some.name c.loop-size.later.items later size c.args.sizes.now c.loop-size.size-index
    c.loop-size.invariant.same names (omega arith) refl end (omega arith)

pub returns : goal.returns
returns c = places_end _ _ c.loop-size.places c.loop-size.end c.loop-size.later.items _ c.loop-size.invariant.same (omega arith)
