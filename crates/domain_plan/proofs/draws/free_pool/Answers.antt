use Rattle.std.proofs.Common.{◌≡◌, ◌^◌, ◌+◌, ◌≤◌, ◌∙◌, All, List, not, filter, sym, ap, subst}
use Rattle.std.proofs.lemmas.List.Elements.{All-map}
use Rattle.texts.specs.declared.ranges.FrameRange.{FrameRange}
use Rattle.frame_alloc.specs.Frames.{frames_in}
use Rattle.frame_alloc.specs.Ranges.{holds}
use Rattle.item_checks.specs.declared.state.Taken.{Taken}
use Rattle.domain_plan.proofs.GuestDraws.{left_free}
use Rattle.domain_plan.proofs.draws.free_pool.Goals as goal

pub frames_left-requires-clause-low : goal.frames_left-requires-clause-low
frames_left-requires-clause-low c = subst (All (λ (range : FrameRange). range.first + range.count ≤ 2 ^ 28)) (sym c.in_ok-taken.ensures) (All-map (λ (range : FrameRange). range.first + range.count ≤ 2 ^ 28) (λ (taken : Taken). taken.range) c.args.claims.now c.requires.low)

pub returns : goal.returns
returns c = λ passed is.
    (let left : frames_in c.in_ok-free.free ≡ filter (λ frame. not (holds c.in_ok-taken.taken.items frame)) (frames_in c.args.ram.now) = c.in_ok-free.ensures.left ∙ ap (λ (ram : List FrameRange). filter (λ frame. not (holds c.in_ok-taken.taken.items frame)) (frames_in ram)) c.as_slice.ensures in
    c.in_ok-pool.ensures ∙ left ∙ left_free c.args.ram.now c.in_ok-taken.taken.items c.args.claims.now passed c.in_ok-taken.ensures is)
