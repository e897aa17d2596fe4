use Rattle.std.proofs.Common.{◌≡◌, sum_by, take}
use Rattle.guest_images.specs.declared.images.GuestImage.{GuestImage}
use Rattle.build_outputs.proofs.totals.count_tables.Given as goal

-- the tables so far are counted
abbrev pub invariant-loop-image : goal.invariant-loop-image
invariant-loop-image l = l.tables ≡ sum_by (λ (image : GuestImage). image.tables) (take l.image-index l.images)
