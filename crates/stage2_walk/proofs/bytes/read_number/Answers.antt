use Rattle.std.proofs.Common.{ap, ◌∙◌}
use Rattle.std.proofs.lemmas.List.{take_rest}
use Rattle.byteorder.specs.Endian.{little_from}
use Rattle.stage2_walk.proofs.Numbers.{number_at_drop}
use Rattle.stage2_walk.proofs.bytes.read_number.Goals as goal

pub returns : goal.returns
returns c =
    let bytes = c.args.bytes.now in
    let place = c.args.place in
    c.read_u64.ensures ∙ ap (λ part. little_from 0 8 part) (take_rest bytes place) ∙ number_at_drop place bytes
