use Rattle.std.proofs.Common.{refl, ◌∙◌, arith}
use Rattle.described.specs.Maps.{target_of}
use Rattle.described.specs.declared.map_range.Kind.TheVariants.{Ram}
use Rattle.described.specs.declared.map_range.MapRange.{MapRange}
use Rattle.stage2_walk.specs.Pages.{frames_of}
use Rattle.stage2_tables.proofs.SpreadSteps.{range_at, between_first, between_more, skip_swept}
use Rattle.stage2_tables.proofs.SpreadEnds.{swept_first, swept_last}
use Rattle.stage2_tables.proofs.spread.spread.Goals as goal

abbrev none : MapRange
none = record { page = 0; first = 0; count = 0; kind = Ram }

pub loop-index-init : goal.loop-index-init
loop-index-init c = record {
  page = 0;
  between = between_first c.args.ranges.now;
  same_root = refl;
  same_frames = refl;
  swept = swept_first (target_of c.args.ranges.now) c.args.image.now c.begin-sweep.result c.requires.blank c.requires.tables c.requires.count c.begin-sweep.ensures;
}

pub spread_range-requires-clause-swept : goal.spread_range-requires-clause-swept
spread_range-requires-clause-swept c = λ range at.
    let now = c.loop-index.invariant in
    skip_swept c.args.ranges.now c.loop-index.index now.page range c.loop-index.image c.loop-index.sweep at c.requires.sorted now.between now.swept

pub loop-index-preserved : goal.loop-index-preserved
loop-index-preserved c =
    let now = c.loop-index.invariant in
    let at = range_at c.args.ranges.now c.loop-index.index none c.loop-index-test.true in
    record {
      page = _;
      between = between_more c.args.ranges.now c.loop-index.index now.page _ c.requires.sorted at now.between;
      same_root = c.spread_range.ensures.root ∙ now.same_root;
      same_frames = c.spread_range.ensures.frames ∙ now.same_frames;
      swept = c.spread_range.ensures.swept _ at;
    }

pub returns-clause-least : goal.returns-clause-least
returns-clause-least c =
    let now = c.loop-index.invariant in
    let past = c.loop-index-test.false in
    let end = c.loop-index.auto.index-end in
    swept_last c.args.ranges.now (frames_of c.args.image.now.pages) c.loop-index.image c.loop-index.sweep c.loop-index.index now.page now.between (omega arith) now.same_frames now.swept
