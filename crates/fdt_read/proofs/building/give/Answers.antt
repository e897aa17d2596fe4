use Rattle.std.proofs.Common.{◌≡◌, sym, ◌∙◌, Some, ◌++◌, ◌∷◌, []}
use Rattle.fdt_tree.specs.Document.{place_of, with_property}
use Rattle.fdt_read.specs.Built.{IsBuilding}
use Rattle.fdt_read.specs.Tokens.{property}
use Rattle.fdt_read.proofs.Progress.{after_child-last}
use Rattle.fdt_read.proofs.Counted.{level-property, node-property}
use Rattle.fdt_read.proofs.Steps.{shape-property}
use Rattle.fdt_read.proofs.Kept.{no_fault, shape_at, on_ok}
use Rattle.fdt_read.proofs.building.give.Goals as goal

pub returns : goal.returns
returns c done i =
    let b = c.args.building.now in let x = property (Some c.args.name.now) c.args.value.now in let s = shape_at done b _ i c.in-Some.is in let f = no_fault done b 0 x i c.requires.fine in on_ok c.add_shared_prop.result (c.add_shared_prop.new.self ≡ with_property b.tree (place_of b.tree c.in-Some.node) c.args.name.now c.args.value.now) (IsBuilding (done ++ x ∷ []) (record b { tree = c.add_shared_prop.new.self })) (λ e. record {
      level = i.level ∙ level-property done (Some c.args.name.now) c.args.value.now;
      shallow = i.shallow;
      started = i.started ∙ node-property done (Some c.args.name.now) c.args.value.now;
      past_child = i.past_child ∙ sym (after_child-last _ done x);
      live = rw e i.live;
      shape = rw (e, c.in-Some.is) (shape-property done _ _ 0 c.args.name.now c.args.value.now s f);
    }) c.add_shared_prop.ensures.ok
