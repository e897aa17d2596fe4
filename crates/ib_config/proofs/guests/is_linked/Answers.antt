use Rattle.std.proofs.Common.{◌≡◌, Some, slice_get, refl, sym, ap, ◌∙◌}
use Rattle.std.proofs.lemmas.Option.{slice_get-get_or}
use Rattle.ib_config.proofs.guests.is_linked.Goals as goal

pub returns : goal.returns
returns c =
    let there : slice_get c.args.ports.now c.args.group.peer ≡ Some c.index-ports-peer.result = slice_get-get_or c.args.ports.now c.args.group.peer c.index-ports-peer.result c.if-peer-ports.false
    ∙ ap (λ x. Some x) (sym c.index-ports-peer.is) in
    c.has_port.ensures ∙ rw (c.as_slice.ensures, there) refl
