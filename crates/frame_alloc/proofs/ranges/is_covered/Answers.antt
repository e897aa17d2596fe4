use Rattle.std.proofs.Common.{◌≡◌, ℕ, ◌+◌, max, get_or, drop, List, ◌∷◌, sym, subst, ap, ◌∙◌, arith}
use Rattle.std.proofs.lemmas.List.{drop_more, drop_all}
use Rattle.texts.specs.declared.ranges.FrameRange.{FrameRange}
use Rattle.frame_alloc.specs.Frames.{AreFrameRangesFrom}
use Rattle.frame_alloc.proofs.CoverLemmas.{covers, covers_done, covers_short, covers_next, covers_end, lie_in-covers}
use Rattle.frame_alloc.proofs.ranges.is_covered.Goals as goal

pub returns-then-end-next : goal.returns-then-end-next
returns-then-end-next c =
    let done = covers_done (drop c.loop-one.one-index c.args.ranges.now) c.loop-one.next (c.args.range.first + c.args.range.count) c.if-end-next.true in
    sym done ∙ c.loop-one.invariant.rest ∙ sym (lie_in-covers c.args.ranges.now c.args.range c.requires.sorted)

pub returns-then-next-one : goal.returns-then-next-one
returns-then-next-one c =
    let d : FrameRange = record { first = 0; count = 0 } in
    let es = c.args.ranges.now in
    let i = c.loop-one.one-index in
    let short = covers_short (get_or es i d) (drop (i + 1) es) c.loop-one.next (c.args.range.first + c.args.range.count) c.if-end-next.false c.if-next-one.true in
    sym short ∙ ap (λ (ranges : List FrameRange). covers ranges c.loop-one.next (c.args.range.first + c.args.range.count)) (sym (drop_more es i d c.loop-one-test.true))
    ∙ c.loop-one.invariant.rest ∙ sym (lie_in-covers c.args.ranges.now c.args.range c.requires.sorted)

pub loop-one-preserved : goal.loop-one-preserved
loop-one-preserved c =
    let d : FrameRange = record { first = 0; count = 0 } in
    let es = c.args.ranges.now in
    let i = c.loop-one.one-index in
    let end : ℕ = c.args.range.first + c.args.range.count in
    let later : c.loop-one.next + c.saturating_sub-next.result ≡ max c.loop-one.next ((get_or es i d).first + (get_or es i d).count) = omega (arith, c.saturating_sub-next.ensures) in
    let sorted : AreFrameRangesFrom c.loop-one.invariant.sorted.0 (get_or es i d ∷ drop (i + 1) es) = subst (AreFrameRangesFrom c.loop-one.invariant.sorted.0) (drop_more es i d c.loop-one-test.true) c.loop-one.invariant.sorted.1 in
    let next = covers_next (get_or es i d) (drop (i + 1) es) c.loop-one.next end c.if-end-next.false c.if-next-one.false in
    record {
      end = c.loop-one.invariant.end;
      rest = ap (λ n. covers (drop (i + 1) es) n end) later ∙ sym next ∙ ap (λ (ranges : List FrameRange). covers ranges c.loop-one.next end) (sym (drop_more es i d c.loop-one-test.true)) ∙ c.loop-one.invariant.rest;
      low = omega (arith, later, sorted.1, c.loop-one.invariant.low);
      sorted = ((get_or es i d).first + (get_or es i d).count, sorted.2);
    }

pub returns : goal.returns
returns c =
    let end = c.args.range.first + c.args.range.count in
    sym (covers_end c.loop-one.next end) ∙ ap (λ (ranges : List FrameRange). covers ranges c.loop-one.next end) (sym (drop_all c.loop-one.one-index c.args.ranges.now c.loop-one-test.false))
    ∙ c.loop-one.invariant.rest ∙ sym (lie_in-covers c.args.ranges.now c.args.range c.requires.sorted)
