use Rattle.std.proofs.Common.{◌≡◌, drop}
use Rattle.std.specs.Prelude.{find}
use Rattle.stage2_walk.specs.Pages.{frames_of}
use Rattle.image_audit.specs.PrivateRests.{is_outside}
use Rattle.image_audit.proofs.frames.find_outside.Given as goal

-- the first table outside is the first of those that are left
abbrev pub invariant-loop-index : goal.invariant-loop-index
invariant-loop-index l = find (is_outside l.ranges) (frames_of l.image.pages) ≡ find (is_outside l.ranges) (drop l.index (frames_of l.image.pages))
