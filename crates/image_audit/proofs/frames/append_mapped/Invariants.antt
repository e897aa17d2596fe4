use Rattle.std.proofs.Common.{◌≡◌, ◌++◌, map, take}
use Rattle.image_audit.specs.PrivateRests.{host_frames}
use Rattle.image_audit.proofs.frames.append_mapped.Given as goal

-- the frames of the ranges so far are added
abbrev pub invariant-loop-range : goal.invariant-loop-range
invariant-loop-range l = l.taken.items ≡ l.initial.taken.items ++ map host_frames (take l.range-index l.ranges)
