use Rattle.std.proofs.Common.{ℕ, ◌+◌, ◌-◌, ◌/◌, ◌<◌, ◌≤◌, length, arith}
use Rattle.texts.specs.declared.ranges.FrameRange.{FrameRange}
use Rattle.frame_alloc.proofs.LaterLemmas.{end_at, end_low, ends_rise}
use Rattle.frame_alloc.proofs.ranges.ended_by.Goals as goal

abbrev none : FrameRange
none = record { first = 0; count = 0 }

pub overflow_add-range : goal.overflow_add-range
overflow_add-range c =
    let middle : ℕ = c.loop-low.low + (c.loop-low.high - c.loop-low.low) / 2 in
    let within : middle < length c.args.ranges.now = omega (arith, c.loop-low-test.true, c.loop-low.invariant.within) in
    let low = end_low c.args.ranges.now 0 middle none c.requires.sorted within in
    omega (arith, low.1)

pub loop-low-preserved-then-range-frame : goal.loop-low-preserved-then-range-frame
loop-low-preserved-then-range-frame c =
    let middle : ℕ = c.loop-low.low + (c.loop-low.high - c.loop-low.low) / 2 in
    let within : middle < length c.args.ranges.now = omega (arith, c.loop-low-test.true, c.loop-low.invariant.within) in
    record {
      order = omega (arith, c.loop-low-test.true);
      within = c.loop-low.invariant.within;
      ended = λ k d less.
          (let up : end_at c.args.ranges.now k d ≤ end_at c.args.ranges.now middle none = ends_rise c.args.ranges.now 0 k middle d none c.requires.sorted (omega (arith, less)) within in
          omega (arith, up, c.if-range-frame.true));
    }
