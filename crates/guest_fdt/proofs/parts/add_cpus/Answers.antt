use Rattle.std.proofs.Common.{◌≡◌, ◌∷◌, [], refl, subst, map, codes, arith}
use Rattle.texts.specs.Consecutive.{numbers}
use Rattle.tree_parts.specs.Grown.{Grows}
use Rattle.guest_fdt.specs.Machine.{cpu, cpus}
use Rattle.tree_parts.specs.Nodes.{trees_of, cells}
use Rattle.tree_parts.proofs.Growing.{Grows-nothing, Grows-number, Grows-open}
use Rattle.guest_fdt.proofs.parts.add_cpus.Goals as goal

pub loop-number-init : goal.loop-number-init
unfolding numbers
loop-number-init c = Grows-nothing c.add_open.new.tree c.add_open.new.tree c.in_ok-cpus.cpus refl

pub loop-number-preserved : goal.loop-number-preserved
loop-number-preserved c =
    Grows-number c.add_open.new.tree c.loop-number.tree c.add_cpu.new.tree c.in_ok-cpus.cpus c.loop-number.number cpu c.in_ok-cpus.ensures.longer c.loop-number.invariant c.in_ok-add_cpu.ensures

pub returns : goal.returns
unfolding cpus
returns c =
    let end : c.loop-number.number ≡ c.args.count = omega arith in
    let all : Grows c.add_open.new.tree c.loop-number.tree c.in_ok-cpus.cpus (trees_of (map cpu (numbers 0 c.args.count))) = subst (λ n. Grows c.add_open.new.tree c.loop-number.tree c.in_ok-cpus.cpus (trees_of (map cpu (numbers 0 n)))) end c.loop-number.invariant in
    Grows-open c.args.tree.now c.add_open.new.tree c.loop-number.tree c.args.root c.in_ok-cpus.cpus (codes "cpus") (cells (codes "#address-cells") (1 ∷ []) ∷ cells (codes "#size-cells") (0 ∷ []) ∷ []) (map cpu (numbers 0 c.args.count)) c.numbering.ensures c.requires.live c.in_ok-cpus.ensures.ok c.in_ok-cpus.ensures.newest all
