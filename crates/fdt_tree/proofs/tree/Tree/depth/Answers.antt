use Rattle.std.proofs.Common.{refl, arith}
use Rattle.fdt_tree.specs.Document.{place_of}
use Rattle.fdt_tree.proofs.Links.{reads, shallow_at, length-above}
use Rattle.fdt_tree.proofs.tree.Tree.depth.Goals as goal

pub overflow_add-depth : goal.overflow_add-depth
overflow_add-depth c =
    omega (arith, c.loop-above.invariant.way, shallow_at _ _ _ _ _ c.self.invariant c.self.view_is c.requires)

pub loop-above-smaller : goal.loop-above-smaller
loop-above-smaller c =
    let f = reads _ _ _ _ _ _ _ c.self.invariant c.self.view_is refl c.loop-above.invariant.live c.index.ensures in f.earlier c.loop-above-test.true

pub loop-above-preserved : goal.loop-above-preserved
loop-above-preserved c =
    let f = reads _ _ _ _ _ _ _ c.self.invariant c.self.view_is refl c.loop-above.invariant.live c.index.ensures in record {
      live = omega (arith, f.earlier c.loop-above-test.true, c.loop-above.invariant.live);
      way = omega (arith, length-above (place_of c.args.self.now c.loop-above.above) (place_of c.args.self.now c.index.result.now.parent) (f.above c.loop-above-test.true), c.loop-above.invariant.way);
    }

pub returns-clause-shallow : goal.returns-clause-shallow
returns-clause-shallow c =
    omega (arith, c.loop-above.invariant.way, shallow_at _ _ _ _ _ c.self.invariant c.self.view_is c.requires)
