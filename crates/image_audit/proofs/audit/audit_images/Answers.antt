use Rattle.std.proofs.Common.{◌∙◌, subst, List, []}
use Rattle.std.proofs.lemmas.List.{take_all}
use Rattle.std.specs.Option.{option_copied}
use Rattle.domain_plan.specs.declared.planned.GuestPlan.{GuestPlan}
use Rattle.run_steps.specs.Steps.{nothing}
use Rattle.run_steps.proofs.Due.{due_later, grew_twice}
use Rattle.image_audit.specs.Audits.{AfterAudit, AreAudited}
use Rattle.image_audit.specs.PrivateRests.{is_outside}
use Rattle.image_audit.proofs.AuditLoop.{audited_next, refused_next}
use Rattle.image_audit.proofs.Isolated.{audit_of}
use Rattle.image_audit.proofs.audit.audit_images.Goals as goal

-- an image is refused
pub returns-in-Err-clause-stopped : goal.returns-in-Err-clause-stopped
returns-in-Err-clause-stopped g c =
    let told = g.F.Files.held c.args.files.now in
    let folder = option_copied c.args.folder in
    due_later (AfterAudit told folder (is_outside c.in_ok-unmapped.unmapped) (is_outside c.loop-guest.free) c.guest-item.result nothing) _
    (refused_next told folder c.args.guests.now c.in_ok-unmapped.unmapped c.in_ok-unmapped.ensures c.loop-guest.guest-index c.guest-item.result c.loop-guest-test.true c.guest-item.is c.loop-guest.free c.loop-guest.invariant.audited)
    _ _ _ c.loop-guest.invariant.grew c.in-Err.stop (rw (c.loop-guest.invariant.kept, c.as_slice.ensures, c.as_slice-in-loop-guest.ensures) at c.in-Err.ensures.stopped)

-- or it is audited, and the next is read
pub loop-guest-preserved : goal.loop-guest-preserved
loop-guest-preserved g c =
    let told = g.F.Files.held c.args.files.now in
    let folder = option_copied c.args.folder in
    record {
      audited = audited_next told folder c.args.guests.now c.in_ok-unmapped.unmapped c.in_ok-unmapped.ensures c.loop-guest.guest-index c.guest-item.result c.loop-guest-test.true c.guest-item.is c.loop-guest.free c.loop-guest.invariant.audited
          c.in-Ok.left (rw (c.loop-guest.invariant.kept, c.as_slice.ensures, c.as_slice-in-loop-guest.ensures) at c.in-Ok.ensures.audited);
      kept = c.audit_image.ensures.only_read.held_kept ∙ c.loop-guest.invariant.kept;
      grew = grew_twice _ _ _ c.loop-guest.invariant.grew c.audit_image.ensures.only_read.counted;
    }

-- all are audited
pub returns-clause-audited : goal.returns-clause-audited
returns-clause-audited g c =
    let told = g.F.Files.held c.args.files.now in
    let folder = option_copied c.args.folder in
    audit_of told folder c.args.guests.now c.loop-guest.invariant.audited.images c.requires.sorted c.requires.merged
    (subst (λ (front : List GuestPlan). AreAudited told folder c.args.guests.now [] front c.loop-guest.invariant.audited.images) (take_all _ c.args.guests.now c.loop-guest-test.false) c.loop-guest.invariant.audited.audited)
