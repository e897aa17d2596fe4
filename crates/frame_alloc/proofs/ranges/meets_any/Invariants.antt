use Rattle.std.proofs.Common.{◌≡◌, drop, ◌∷◌, []}
use Rattle.frame_alloc.specs.Ranges.{have_common}
use Rattle.frame_alloc.proofs.ranges.meets_any.Given as goal

-- the ranges before the index have no frame of the one
abbrev pub invariant-loop-other : goal.invariant-loop-other
invariant-loop-other l = have_common (l.one ∷ []) (drop l.other-index l.others) ≡ have_common (l.one ∷ []) l.others
