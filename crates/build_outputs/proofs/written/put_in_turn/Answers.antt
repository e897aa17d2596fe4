use Rattle.std.proofs.Common.{◌≡◌, ◌∙◌, ◌∷◌, ap, ap₂, flat_map}
use Rattle.std.proofs.lemmas.List.{map-id}
use Rattle.std.specs.List.{zip}
use Rattle.std.specs.Option.{option_copied}
use Rattle.std.proofs.lemmas.Iterator.{YieldsList-from_zip}
use Rattle.std.proofs.lemmas.Iterator.Consumers.{YieldsList-at, YieldsList-end}
use Rattle.std.proofs.lemmas.Iterator.Adapters.{YieldsList-from_vec}
use Rattle.run_steps.specs.Names.{joined}
use Rattle.build_outputs.specs.Names.{host_name}
use Rattle.build_outputs.proofs.Zipped.{two, turned}
use Rattle.build_outputs.proofs.written.put_in_turn.Goals as goal

-- all guests have their files
pub returns : goal.returns
returns c =
    let zipped = YieldsList-from_zip {s = c.zip-tree-items.result}
    (YieldsList-at c.zip-tree-items.ensures.first (YieldsList-from_vec {s = c.into_iter.result} c.into_vec.result.items c.into_iter.ensures.rest (c.into_iter.ensures.len ∙ c.into_vec.result.ok.0)))
    (YieldsList-from_vec {s = c.zip-tree-items.result.b} c.into_vec-2.result.items c.zip-tree-items.ensures.second.0 (c.zip-tree-items.ensures.second.1 ∙ c.into_vec-2.result.ok.0)) in
    let road = YieldsList-at c.into_iter-tree-iterator.ensures.into_iter_gives zipped in
    let end = YieldsList-end road c.loop-tree.yielded c.loop-tree.tree-iterator c.loop-tree.yielded_by c.next.result c.next.new.self c.in-None.is c.next.ensures.steps in
    let all : c.loop-tree.yielded ≡ zip c.args.trees c.args.images = (rw map-id at end.0) ∙ ap₂ zip c.into_vec.ensures c.into_vec-2.ensures in
    c.loop-tree.invariant ∙ ap (λ more. (joined (option_copied c.args.folder) host_name, c.args.host) ∷ more) (ap (flat_map two) all ∙ turned c.args.trees c.args.images)
