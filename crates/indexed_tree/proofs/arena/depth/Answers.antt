use Rattle.std.proofs.Common.{◌≡◌, ◌∙◌, ap, sym, ◌+◌, vec_len, arith}
use Rattle.indexed_tree.specs.declared.entry.Entry.{Entry}
use Rattle.fdt_tree.specs.Tree.{depth}
use Rattle.fdt_tree.specs.Document.{place_of}
use Rattle.indexed_tree.specs.PrivateArena.{held}
use Rattle.indexed_tree.proofs.Settings.{depth-at}
use Rattle.indexed_tree.proofs.arena.depth.Goals as goal

counted : (c : goal.After-len) → c.len.result + 1 ≡ depth (place_of (held c.args.entries.now) c.args.node)
counted c =
    ap (λ n. n + 1) (c.len.ensures ∙ (ap (λ (e : Entry). vec_len e.place) (sym c.index-entries-node.is) ∙ c.index-entries-node.result.place.ok.0)) ∙ depth-at (held c.args.entries.now) c.args.entries.now c.args.node c.index-entries-node.result c.requires.held c.requires.live c.index-entries-node.is

pub returns-clause-depth : goal.returns-clause-depth
returns-clause-depth c = counted c

pub returns-clause-shallow : goal.returns-clause-shallow
returns-clause-shallow c = omega (arith, counted c, c.requires.held.kept.shallow c.args.node c.requires.live)
