use Rattle.std.proofs.Common.{◌≡◌, ◌∙◌, ap, map}
use Rattle.std.specs.List.{zip}
use Rattle.std.specs.Option.{option_copied}
use Rattle.std.proofs.lemmas.Iterator.{YieldsList-from_slice, YieldsList-from_zip}
use Rattle.std.proofs.lemmas.Iterator.Consumers.{YieldsList-at, YieldsList-end}
use Rattle.std.proofs.lemmas.Iterator.Adapters.{YieldsList-from_vec}
use Rattle.build_outputs.specs.Outputs.{in_folder}
use Rattle.build_outputs.proofs.Zipped.{seen, all_images}
use Rattle.build_outputs.proofs.written.name_images.Goals as goal

-- all guests have their images
pub returns : goal.returns
returns c =
    let zipped = YieldsList-from_zip {s = c.zip-guest-items.result} (YieldsList-at c.zip-guest-items.ensures.first (YieldsList-from_slice c.args.guests.now c.iter.ensures.rest))
    (YieldsList-from_vec {s = c.zip-guest-items.result.b} c.into_vec.result.items c.zip-guest-items.ensures.second.0 (c.zip-guest-items.ensures.second.1 ∙ c.into_vec.result.ok.0)) in
    let road = YieldsList-at c.into_iter-guest-iterator.ensures.into_iter_gives zipped in
    let end = YieldsList-end road c.loop-guest.yielded c.loop-guest.guest-iterator c.loop-guest.yielded_by c.next.result c.next.new.self c.in-None.is c.next.ensures.steps in
    let all : map seen c.loop-guest.yielded ≡ zip c.args.guests.now c.args.images = end.0 ∙ ap (zip c.args.guests.now) c.into_vec.ensures in
    c.loop-guest.invariant ∙ ap (in_folder (option_copied c.args.folder)) (all_images c.loop-guest.yielded c.args.guests.now c.args.images all)
