use Rattle.std.proofs.Common.{sym, ◌∙◌, arith}
use Rattle.fdt_read.specs.Tokens.{end_node}
use Rattle.fdt_read.proofs.Progress.{after_child-last}
use Rattle.fdt_read.proofs.Counted.{level-end, node-end}
use Rattle.fdt_read.proofs.Steps.{shape-end, closed_end}
use Rattle.fdt_read.proofs.Kept.{no_fault, shape_at, nothing_open}
use Rattle.fdt_read.proofs.building.close.Goals as goal

pub returns : goal.returns
returns c done i =
    let b = c.args.building.now in let s = shape_at done b _ i c.in-Some.is in record {
      level = omega (arith, i.level, level-end done, c.saturating_sub-building.ensures);
      shallow = omega (arith, i.shallow, c.saturating_sub-building.ensures);
      started = i.started ∙ node-end done;
      past_child = sym (after_child-last _ done end_node);
      live = c.parent-above.ensures.live;
      shape = rw c.parent-above.ensures.place (shape-end done _ _ s);
    }

pub returns-in_default : goal.returns-in_default
returns-in_default c done i =
    let b = c.args.building.now in absurd (closed_end done _ 0 (shape_at done b _ i (nothing_open b.current c.in_default.not-Some)) (no_fault done b 0 end_node i c.requires.fine))
