use Rattle.std.proofs.Common.{◌≡◌, ◌+◌, ◌-◌, ◌<◌, ◌≤◌, ℕ, List, get_or, Some, refl, sym, subst, ◌∙◌, arith}
use Rattle.std.specs.List.{slice_get}
use Rattle.std.proofs.lemmas.Option.{same_Some}
use Rattle.described.specs.Maps.{target_of}
use Rattle.described.specs.Regions.{span}
use Rattle.described.specs.declared.map_range.Kind.TheVariants.{Ram}
use Rattle.described.specs.declared.map_range.MapRange.{MapRange}
use Rattle.stage2_tables.specs.Leaves.{stretch}
use Rattle.stage2_tables.specs.PrivateLeaves.{IsFresh}
use Rattle.stage2_tables.specs.PrivateSteps.{IsInLinked}
use Rattle.stage2_tables.specs.Sweeps.{IsSweptTo}
use Rattle.stage2_tables.specs.declared.sweep.Sweep.{Sweep}
use Rattle.stage2_tables.proofs.LeafChoice.{IsRange, fresh_first}
use Rattle.stage2_tables.proofs.SpreadSteps.{range_at, bounds, next_leaf, swept_more, room_for}
use Rattle.stage2_tables.proofs.StretchSteps.{stretch_within, linked_behind, fresh_behind}
use Rattle.stage2_tables.proofs.spread.spread_range.Goals as goal

abbrev none : MapRange
none = record { page = 0; first = 0; count = 0; kind = Ram }

pub loop-done-init : goal.loop-done-init
loop-done-init c =
    let ranges : List MapRange = c.args.ranges.now in
    let range : MapRange = get_or ranges c.args.index none in
    let at = range_at ranges c.args.index none c.requires.within in
    let is : IsRange ranges c.args.index range = record { sorted = c.requires.sorted; merged = c.requires.merged; at = at } in
    let start : range.page ≡ range.page + 0 = omega arith in
    record {
      within = omega arith;
      fresh = subst (IsFresh (target_of ranges)) start (fresh_first ranges c.args.index range is (bounds ranges 0 c.args.index range c.requires.sorted at).some);
      same_root = refl;
      same_frames = refl;
      swept = subst (IsSweptTo (target_of ranges) c.args.image.now c.args.sweep.now) start (c.requires.swept range at);
    }

pub overflow_add-page : goal.overflow_add-page
overflow_add-page c =
    let range = bounds c.args.ranges.now 0 c.args.index (get_or c.args.ranges.now c.args.index none) c.requires.sorted (range_at c.args.ranges.now c.args.index none c.requires.within) in
    let pages = range.pages in
    let within = c.loop-done.invariant.within in
    omega arith

pub overflow_add-frame : goal.overflow_add-frame
overflow_add-frame c =
    let range = bounds c.args.ranges.now 0 c.args.index (get_or c.args.ranges.now c.args.index none) c.requires.sorted (range_at c.args.ranges.now c.args.index none c.requires.within) in
    let frames = range.frames in
    let within = c.loop-done.invariant.within in
    omega arith

pub leaf_word-requires : goal.leaf_word-requires
leaf_word-requires c =
    let range = bounds c.args.ranges.now 0 c.args.index (get_or c.args.ranges.now c.args.index none) c.requires.sorted (range_at c.args.ranges.now c.args.index none c.requires.within) in
    let frames = range.frames in
    let more = c.loop-done-test.true in
    record { low = omega arith }

pub add_leaf-requires-clause-low : goal.add_leaf-requires-clause-low
add_leaf-requires-clause-low c =
    let range = bounds c.args.ranges.now 0 c.args.index (get_or c.args.ranges.now c.args.index none) c.requires.sorted (range_at c.args.ranges.now c.args.index none c.requires.within) in
    let pages = range.pages in
    let more = c.loop-done-test.true in
    omega arith

pub add_leaf-requires-clause-room : goal.add_leaf-requires-clause-room
add_leaf-requires-clause-room c =
    let ranges : List MapRange = c.args.ranges.now in
    let range : MapRange = get_or ranges c.args.index none in
    let at = range_at ranges c.args.index none c.requires.within in
    let is : IsRange ranges c.args.index range = record { sorted = c.requires.sorted; merged = c.requires.merged; at = at } in
    let now = c.loop-done.invariant in
    let step = next_leaf ranges c.args.index range c.loop-done.done c.leaf_level-level.result is now.fresh c.loop-done-test.true c.leaf_level-level.ensures.level in
    room_for ranges range c.loop-done.done c.leaf_level-level.result c.loop-done.image c.loop-done.sweep step now.swept

pub spread_pages-requires : goal.spread_pages-requires
spread_pages-requires c =
    let ranges : List MapRange = c.args.ranges.now in
    let range : MapRange = get_or ranges c.args.index none in
    let at = range_at ranges c.args.index none c.requires.within in
    let is : IsRange ranges c.args.index range = record { sorted = c.requires.sorted; merged = c.requires.merged; at = at } in
    let now = c.loop-done.invariant in
    let done : ℕ = c.loop-done.done in
    let level : ℕ = c.leaf_level-level.result in
    let chosen = c.leaf_level-level.ensures in
    let more = c.loop-done-test.true in
    let sweep : Sweep = c.loop-done.sweep in
    let step = next_leaf ranges c.args.index range done level is now.fresh more chosen.level in
    let span_is = c.pages_spanned.ensures.value in
    let length_is = c.stretch.ensures.value in
    let swept = swept_more ranges range done level c.leaf_word.result c.loop-done.image c.add_leaf.new.image sweep c.add_leaf.new.sweep step now.swept c.leaf_word.ensures c.add_leaf.ensures.image c.add_leaf.ensures.sweep in
    let bounded = stretch_within ranges c.args.index range is done level sweep now.fresh more chosen.at_least chosen.at_most chosen.level in
    let low = bounded.0 in
    let high = bounded.1 in
    let linked : (k : ℕ) → done + span level ≤ k → k < done + stretch level (range.page + done) (range.count - done) → IsInLinked c.add_leaf.new.sweep (range.page + k) =
    λ k from upto. subst (λ (s : Sweep). IsInLinked s (range.page + k)) (sym c.add_leaf.ensures.sweep)
    (linked_behind ranges c.args.index range is done level sweep now.fresh more chosen.at_least chosen.at_most chosen.level k from upto) in
    let same : (r : MapRange) → slice_get ranges c.args.index ≡ Some r → range ≡ r = λ r there. same_Some range r (sym at ∙ there) in
    record {
      sorted = c.requires.sorted;
      merged = c.requires.merged;
      within = c.requires.within;
      order = omega arith;
      inside = λ r there. subst (λ (x : MapRange). done + c.stretch.result ≤ x.count) (same r there) (omega arith);
      linked = λ r k there from upto. subst (λ (x : MapRange). IsInLinked c.add_leaf.new.sweep (x.page + k)) (same r there) (linked k (omega arith) (omega arith));
      fresh = λ r there. subst (λ (x : MapRange). IsFresh (target_of ranges) (x.page + (done + c.pages_spanned.result))) (same r there)
          (subst (λ (n : ℕ). IsFresh (target_of ranges) (range.page + (done + n))) (sym span_is) step.fresh);
      swept = λ r there. subst (λ (x : MapRange). IsSweptTo (target_of ranges) c.add_leaf.new.image c.add_leaf.new.sweep (x.page + (done + c.pages_spanned.result))) (same r there)
          (subst (λ (n : ℕ). IsSweptTo (target_of ranges) c.add_leaf.new.image c.add_leaf.new.sweep (range.page + (done + n))) (sym span_is) swept.0);
    }

pub loop-done-preserved : goal.loop-done-preserved
loop-done-preserved c =
    let ranges : List MapRange = c.args.ranges.now in
    let range : MapRange = get_or ranges c.args.index none in
    let at = range_at ranges c.args.index none c.requires.within in
    let is : IsRange ranges c.args.index range = record { sorted = c.requires.sorted; merged = c.requires.merged; at = at } in
    let now = c.loop-done.invariant in
    let done : ℕ = c.loop-done.done in
    let level : ℕ = c.leaf_level-level.result in
    let chosen = c.leaf_level-level.ensures in
    let more = c.loop-done-test.true in
    let step = next_leaf ranges c.args.index range done level is now.fresh more chosen.level in
    let length_is = c.stretch.ensures.value in
    let swept = swept_more ranges range done level c.leaf_word.result c.loop-done.image c.add_leaf.new.image c.loop-done.sweep c.add_leaf.new.sweep step now.swept c.leaf_word.ensures c.add_leaf.ensures.image c.add_leaf.ensures.sweep in
    let within = (stretch_within ranges c.args.index range is done level c.loop-done.sweep now.fresh more chosen.at_least chosen.at_most chosen.level).1 in
    record {
      within = omega arith;
      fresh = subst (λ (n : ℕ). IsFresh (target_of ranges) (range.page + (done + n))) (sym length_is)
          (fresh_behind ranges c.args.index range is done level c.loop-done.sweep now.fresh more chosen.at_least chosen.at_most chosen.level);
      same_root = c.spread_pages.ensures.root ∙ swept.2 ∙ now.same_root;
      same_frames = c.spread_pages.ensures.frames ∙ swept.1 ∙ now.same_frames;
      swept = c.spread_pages.ensures.swept range at;
    }

pub returns-clause-swept : goal.returns-clause-swept
returns-clause-swept c = λ range at.
    let found : get_or c.args.ranges.now c.args.index none ≡ range = same_Some (get_or c.args.ranges.now c.args.index none) range (sym (range_at c.args.ranges.now c.args.index none c.requires.within) ∙ at) in
    let past = c.loop-done-test.false in
    let within = c.loop-done.invariant.within in
    let end : (get_or c.args.ranges.now c.args.index none).page + c.loop-done.done ≡ (get_or c.args.ranges.now c.args.index none).page + (get_or c.args.ranges.now c.args.index none).count = omega arith in
    subst (λ (r : MapRange). IsSweptTo (target_of c.args.ranges.now) c.loop-done.image c.loop-done.sweep (r.page + r.count)) found
    (subst (IsSweptTo (target_of c.args.ranges.now) c.loop-done.image c.loop-done.sweep) end c.loop-done.invariant.swept)
