use Rattle.std.proofs.Common.{◌∙◌, ap, Some}
use Rattle.outside.proofs.KeptPlaces.{AreWithin-at, files_at-at}
use Rattle.outside.proofs.places.file_of.Goals as goal

pub parts_at-requires : goal.parts_at-requires
parts_at-requires c = AreWithin-at _ c.args.places.now c.args.index _ c.requires.within c.requires.index

pub returns : goal.returns
returns c = files_at-at c.args.bytes.now c.args.places.now c.args.index _ c.requires.index ∙ ap Some c.parts_at.ensures
