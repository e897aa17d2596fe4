use Rattle.std.proofs.Common.{◌≡◌, refl}
use Rattle.fdt_tree.specs.Document.{place_of, with_property}
use Rattle.fdt_read.proofs.Kept.{on_ok}
use Rattle.source_text.proofs.Grown.{grown_give}
use Rattle.source_text.proofs.growing.give.Goals as goal

pub returns-in-None : goal.returns-in-None
returns-in-None c = λ tokens depth i.
    let g = c.args.growing.now in
    on_ok c.add_prop.result (c.add_prop.new.self ≡ with_property g.tree (place_of g.tree g.current) c.args.name.now c.args.value.now) _
    (λ e. grown_give tokens depth g i c.args.name.now c.args.value.now _ e refl c.in-None.ensures.place) c.add_prop.ensures.ok
