use Rattle.std.proofs.Common.{◌≡◌, ◌+◌, ◌%◌, ◌<◌, ℕ, List, get_or, refl, sym, subst, ◌∙◌, arith}
use Rattle.std.proofs.lemmas.Option.{same_Some}
use Rattle.described.specs.Maps.{target_of}
use Rattle.described.specs.declared.map_range.Kind.TheVariants.{Ram}
use Rattle.described.specs.declared.map_range.MapRange.{MapRange}
use Rattle.stage2_tables.specs.Sweeps.{IsSweptTo}
use Rattle.stage2_tables.proofs.LeafChoice.{IsRange}
use Rattle.stage2_tables.proofs.SpreadSteps.{range_at, bounds}
use Rattle.stage2_tables.proofs.StretchSteps.{fresh_page, swept_page, last_there}
use Rattle.stage2_tables.proofs.spread.spread_pages.Goals as goal

abbrev none : MapRange
none = record { page = 0; first = 0; count = 0; kind = Ram }

pub loop-k-init : goal.loop-k-init
loop-k-init c =
    let at = range_at c.args.ranges.now c.args.index none c.requires.within in
    record {
      fresh = c.requires.fresh (get_or c.args.ranges.now c.args.index none) at;
      same_root = refl;
      same_frames = refl;
      swept = c.requires.swept (get_or c.args.ranges.now c.args.index none) at;
    }

pub overflow_add-range : goal.overflow_add-range
overflow_add-range c =
    let at = range_at c.args.ranges.now c.args.index none c.requires.within in
    let range = bounds c.args.ranges.now 0 c.args.index (get_or c.args.ranges.now c.args.index none) c.requires.sorted at in
    let frames = range.frames in
    let less = c.loop-k-test.true in
    let inside = c.requires.inside (get_or c.args.ranges.now c.args.index none) at in
    omega arith

pub overflow_add-range-in-loop-k : goal.overflow_add-range-in-loop-k
overflow_add-range-in-loop-k c =
    let at = range_at c.args.ranges.now c.args.index none c.requires.within in
    let range = bounds c.args.ranges.now 0 c.args.index (get_or c.args.ranges.now c.args.index none) c.requires.sorted at in
    let pages = range.pages in
    let less = c.loop-k-test.true in
    let inside = c.requires.inside (get_or c.args.ranges.now c.args.index none) at in
    omega arith

pub leaf_word-word-requires : goal.leaf_word-word-requires
leaf_word-word-requires c =
    let at = range_at c.args.ranges.now c.args.index none c.requires.within in
    let range = bounds c.args.ranges.now 0 c.args.index (get_or c.args.ranges.now c.args.index none) c.requires.sorted at in
    let frames = range.frames in
    let less = c.loop-k-test.true in
    let inside = c.requires.inside (get_or c.args.ranges.now c.args.index none) at in
    record { low = omega arith }

pub put_at-requires : goal.put_at-requires
put_at-requires c =
    let range : MapRange = get_or c.args.ranges.now c.args.index none in
    let at = range_at c.args.ranges.now c.args.index none c.requires.within in
    let k : ℕ = c.loop-k.k in
    let linked = c.requires.linked range k at c.loop-k.auto.k c.loop-k-test.true in
    record {
      there = last_there (target_of c.args.ranges.now) c.loop-k.image c.args.sweep.now (range.page + k) (range.page + k) c.loop-k.invariant.swept linked;
      within = small (range.page + k);
    }
  where
    small : (n : ℕ) → n % 512 < 512
    small n = omega arith

pub loop-k-preserved : goal.loop-k-preserved
loop-k-preserved c =
    let ranges : List MapRange = c.args.ranges.now in
    let range : MapRange = get_or ranges c.args.index none in
    let at = range_at ranges c.args.index none c.requires.within in
    let is : IsRange ranges c.args.index range = record { sorted = c.requires.sorted; merged = c.requires.merged; at = at } in
    let now = c.loop-k.invariant in
    let k : ℕ = c.loop-k.k in
    let linked = c.requires.linked range k at c.loop-k.auto.k c.loop-k-test.true in
    let less = c.loop-k-test.true in
    let inside = c.requires.inside range at in
    let some : k < range.count = omega arith in
    let swept = swept_page ranges c.args.index range is k c.leaf_word-word.result c.loop-k.image c.put_at.new.self c.args.sweep.now now.fresh some linked now.swept c.leaf_word-word.ensures c.put_at.ensures in
    record {
      fresh = fresh_page ranges c.args.index range is k c.args.sweep.now now.fresh some linked;
      same_root = swept.2 ∙ now.same_root;
      same_frames = swept.1 ∙ now.same_frames;
      swept = swept.0;
    }

pub returns-clause-swept : goal.returns-clause-swept
returns-clause-swept c = λ range at.
    let found : get_or c.args.ranges.now c.args.index none ≡ range = same_Some (get_or c.args.ranges.now c.args.index none) range (sym (range_at c.args.ranges.now c.args.index none c.requires.within) ∙ at) in
    let past = c.loop-k-test.false in
    let upto = c.loop-k.auto.k-end c.requires.order in
    let end : c.loop-k.k ≡ c.args.end = omega arith in
    subst (λ (r : MapRange). IsSweptTo (target_of c.args.ranges.now) c.loop-k.image c.args.sweep.now (r.page + c.args.end)) found
    (subst (λ (k : ℕ). IsSweptTo (target_of c.args.ranges.now) c.loop-k.image c.args.sweep.now ((get_or c.args.ranges.now c.args.index none).page + k)) end c.loop-k.invariant.swept)
