use Rattle.std.proofs.Common.{◌≡◌, map, take, All}
use Rattle.stage2_walk.specs.Pages.{frames_of}
use Rattle.image_audit.specs.PrivateRests.{one_frame}
use Rattle.image_audit.proofs.LeftFrames.{IsLow}
use Rattle.image_audit.proofs.frames.leave_tables.Given as goal

-- the frames of the tables so far are taken
abbrev pub invariant-loop-index : goal.invariant-loop-index
invariant-loop-index l = record {
  so_far : l.taken.items ≡ map one_frame (take l.index (frames_of l.image.pages));
  low : All IsLow l.taken.items;
}
