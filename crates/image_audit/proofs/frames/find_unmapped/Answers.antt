use Rattle.std.proofs.Common.{◌≡◌, ◌∙◌, ap, flat_map}
use Rattle.std.proofs.lemmas.List.{take_all}
use Rattle.std.proofs.lemmas.List.Elements.{All-same}
use Rattle.image_audit.proofs.LeftFrames.{IsLow, hosts_of, plans_low, unmapped_left, both_ok}
use Rattle.image_audit.proofs.frames.find_unmapped.Goals as goal

pub frames_left-requires-clause-low : goal.frames_left-requires-clause-low
frames_left-requires-clause-low c =
    let all : c.loop-guest.taken.items ≡ flat_map hosts_of c.args.guests.now = c.loop-guest.invariant ∙ ap (flat_map hosts_of) (take_all _ c.args.guests.now c.loop-guest-test.false) in
    All-same IsLow c.loop-guest.taken.items (flat_map hosts_of c.args.guests.now) all (plans_low c.args.guests.now c.requires)

pub returns : goal.returns
returns c =
    let all : c.loop-guest.taken.items ≡ flat_map hosts_of c.args.guests.now = c.loop-guest.invariant ∙ ap (flat_map hosts_of) (take_all _ c.args.guests.now c.loop-guest-test.false) in
    both_ok _ _ _ (λ left apart is. unmapped_left c.args.guests.now c.loop-guest.taken.items left all apart is) c.frames_left.result c.frames_left.ensures.apart c.frames_left.ensures.left
