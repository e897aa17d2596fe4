use Rattle.std.proofs.Common.{◌≡◌, ◌∙◌, ℕ, get_or, ◌∷◌, ◌++◌, [], refl, ap, subst, take, map, length, codes, arith}
use Rattle.std.proofs.Math.Seq.{take-length}
use Rattle.fdt_tree.specs.Tree.{Bytes}
use Rattle.tree_parts.specs.Grown.{Grows}
use Rattle.guest_fdt.specs.Machine.{region, reserved_memory}
use Rattle.tree_parts.specs.Nodes.{two_and_two}
use Rattle.tree_parts.specs.Nodes.{trees_of, flag}
use Rattle.tree_parts.proofs.Growing.{Grows-nothing, Grows-step, Grows-open}
use Rattle.guest_fdt.proofs.parts.add_reserved.Goals as goal

pub loop-id-init : goal.loop-id-init
loop-id-init c = Grows-nothing c.add_open.new.tree c.add_open.new.tree c.in_ok-parent.parent refl

pub loop-id-preserved : goal.loop-id-preserved
loop-id-preserved c =
    let item : Bytes × ℕ × ℕ = c.loop-id-item.result in
    let same : (c.as_slice.result.now, item.1, item.2) ≡ get_or c.args.shared.now c.loop-id.id-index item = ap (λ (id : Bytes). (id, item.1, item.2)) c.as_slice.ensures ∙ c.loop-id-item.is in
    Grows-step c.add_open.new.tree c.loop-id.tree c.add_region.new.tree c.in_ok-parent.parent c.loop-id.id-index region c.args.shared.now item c.in_ok-parent.ensures.longer c.loop-id.invariant c.loop-id-test.true (subst (λ (s : Bytes × ℕ × ℕ). Grows c.loop-id.tree c.add_region.new.tree c.in_ok-parent.parent (trees_of (region s ∷ []))) same c.in_ok-add_region.ensures)

pub returns : goal.returns
unfolding reserved_memory
returns c =
    let shared = c.args.shared.now in
    let end : c.loop-id.id-index ≡ length shared = omega arith in
    let all : Grows c.add_open.new.tree c.loop-id.tree c.in_ok-parent.parent (trees_of (map region shared)) = subst (λ xs. Grows c.add_open.new.tree c.loop-id.tree c.in_ok-parent.parent (trees_of (map region xs))) (ap (λ n. take n shared) end ∙ take-length shared) c.loop-id.invariant in
    Grows-open c.args.tree.now c.add_open.new.tree c.loop-id.tree c.args.root c.in_ok-parent.parent (codes "reserved-memory") (two_and_two ++ flag (codes "ranges") ∷ []) (map region shared) c.numbering.ensures c.requires.live c.in_ok-parent.ensures.ok c.in_ok-parent.ensures.newest all
