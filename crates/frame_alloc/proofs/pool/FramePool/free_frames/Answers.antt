use Rattle.std.proofs.Common.{subst}
use Rattle.frame_alloc.specs.Frames.{AreFrames}
use Rattle.frame_alloc.specs.Pools.{Pool}
use Rattle.frame_alloc.specs.Slots.{extents_in}
use Rattle.frame_alloc.proofs.AscendingFrames.{AreFrames-frames_of}
use Rattle.frame_alloc.proofs.pool.FramePool.free_frames.Goals as goal

pub returns-clause-ascending : goal.returns-clause-ascending
returns-clause-ascending c =
    subst (λ (pool : Pool). AreFrames pool.free) c.self.view_is (AreFrames-frames_of (extents_in c.self.inside.extents) c.self.invariant.whole.apart)
