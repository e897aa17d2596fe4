use Rattle.std.proofs.Common.{◌≡◌, flat_map, map, take}
use Rattle.domain_plan.specs.declared.planned.GuestPlan.{GuestPlan}
use Rattle.image_audit.specs.PrivateRests.{host_frames}
use Rattle.image_audit.proofs.frames.find_unmapped.Given as goal

-- the frames of the guests so far are taken
abbrev pub invariant-loop-guest : goal.invariant-loop-guest
invariant-loop-guest l = l.taken.items ≡ flat_map (λ (guest : GuestPlan). map host_frames guest.ranges) (take l.guest-index l.guests)
