use Rattle.std.proofs.Common.{◌≡◌, ◌∙◌, length}
use Rattle.outside.proofs.KeptPlaces.{files-added, AreWithin-added}
use Rattle.outside.proofs.places.append_file.Goals as goal

pub returns-clause-files : goal.returns-clause-files
returns-clause-files c =
    let start : c.len-start.result ≡ length c.args.bytes.now.items = c.len-start.ensures ∙ c.args.bytes.now.ok.0 in
    rw (c.push_reserved.ensures.items, c.in-Ok-extend_from_slice.ensures.items, c.in-Ok.ensures.items, start)
    (files-added c.args.bytes.now.items c.args.name.now c.args.contents.now c.args.places.now.items c.requires.within)

pub returns-clause-within : goal.returns-clause-within
returns-clause-within c =
    let start : c.len-start.result ≡ length c.args.bytes.now.items = c.len-start.ensures ∙ c.args.bytes.now.ok.0 in
    rw (c.push_reserved.ensures.items, c.in-Ok-extend_from_slice.ensures.items, c.in-Ok.ensures.items, start)
    (AreWithin-added c.args.bytes.now.items c.args.name.now c.args.contents.now c.args.places.now.items c.requires.within)
