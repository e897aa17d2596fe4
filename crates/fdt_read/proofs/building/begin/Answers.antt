use Rattle.std.proofs.Common.{sym, ◌∙◌, arith, lit≤}
use Rattle.fdt_read.specs.Refusals.{after_child}
use Rattle.fdt_read.specs.Tokens.{begin_node}
use Rattle.fdt_read.proofs.Progress.{after_child-last}
use Rattle.fdt_read.proofs.Counted.{level-child, node-begin}
use Rattle.fdt_read.proofs.Fine.{fine_child}
use Rattle.fdt_read.proofs.Steps.{shape-root, root_level, open_node, open_level}
use Rattle.fdt_read.proofs.Kept.{no_fault, shape_at, nothing_open, added_live, shape_added, named_node}
use Rattle.fdt_read.proofs.building.begin.Goals as goal

pub returns-in-Ok : goal.returns-in-Ok
returns-in-Ok c done i =
    let b = c.args.building.now in let s = shape_at done b _ i c.in-Some.is in let e = no_fault done b 0 (begin_node c.args.name.now) i c.requires.fine in let f = fine_child _ _ (after_child done) 0 c.args.name.now (open_node done _ _ s) e in record {
      level = omega (arith, i.level, i.shallow, level-child done c.args.name.now (open_level done _ _ s), c.saturating_add-building.ensures);
      shallow = omega (arith, i.level, i.shallow, f.1, c.saturating_add-building.ensures);
      started = i.started ∙ (open_node done _ _ s ∙ node-begin done c.args.name.now);
      past_child = sym (after_child-last _ done (begin_node c.args.name.now));
      live = added_live b.tree _ _ _ c.args.name.now c.in-Ok.ensures.ok c.in-Ok.ensures.newest;
      shape = shape_added done b.tree _ _ _ 0 c.args.name.now s c.in-Ok.ensures.ok c.in-Ok.ensures.newest e (omega (arith, i.level, i.shallow));
    }

pub returns-in_default : goal.returns-in_default
returns-in_default c done i =
    let b = c.args.building.now in let s = shape_at done b _ i (nothing_open b.current c.in_default.not-Some) in let e = no_fault done b 0 (begin_node c.args.name.now) i c.requires.fine in record {
      level = root_level done _ 0 c.args.name.now s e;
      shallow = lit≤ tt;
      started = node-begin done c.args.name.now;
      past_child = sym (after_child-last _ done (begin_node c.args.name.now));
      live = c.root.ensures.live;
      shape = rw c.root.ensures.place (shape-root done _ 0 c.args.name.now s e);
    }

pub add_node-requires-clause-node_name : goal.add_node-requires-clause-node_name
add_node-requires-clause-node_name c =
    let b = c.args.building.now in let done = c.requires.built.0 in let i = c.requires.built.1 in let s = shape_at done b _ i c.in-Some.is in let e = no_fault done b 0 (begin_node c.args.name.now) i c.requires.fine in named_node _ _ _ (fine_child _ _ (after_child done) 0 c.args.name.now (open_node done _ _ s) e).0 c.requires.no_nul
