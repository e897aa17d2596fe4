use Rattle.std.specs.Option.{option_copied}
use Rattle.run_steps.specs.Outputs.{report_of}
use Rattle.domain_plan.specs.Descriptions.{description_of}
use Rattle.domain_plan.specs.TreePlans.{TreePlan}
use Rattle.dom0less.proofs.Checks.{audit_due, checked, audited, put_report}
use Rattle.dom0less.proofs.check.audit_described.Goals as goal

pub returns-in-Ok-audit_images-clause-built : goal.returns-in-Ok-audit_images-clause-built
returns-in-Ok-audit_images-clause-built g c =
    let plan : TreePlan = record { guests = c.in-Ok.plan.guests; free = c.in-Ok.plan.pool.free } in
    checked (g.F.Files.held c.args.files.now) (option_copied c.args.folder) (description_of c.args.stand.now.tree c.args.stand.now.reserves c.args.stand.now.loads c.args.partials.now) plan
    (rw c.as_slice.ensures at c.in-Ok.ensures.planned) (rw c.as_slice-guests.ensures at c.in-Ok-audit_images.ensures.audited) c.in_ok-put_checked-in-Ok-audit_images.field-0
    (rw c.as_slice-guests.ensures at c.in_ok-put_checked-in-Ok-audit_images.ensures)

pub returns-in-Ok-audit_images-clause-promised : goal.returns-in-Ok-audit_images-clause-promised
returns-in-Ok-audit_images-clause-promised g c =
    let plan : TreePlan = record { guests = c.in-Ok.plan.guests; free = c.in-Ok.plan.pool.free } in
    audited (g.F.Files.held c.args.files.now) (option_copied c.args.folder) (description_of c.args.stand.now.tree c.args.stand.now.reserves c.args.stand.now.loads c.args.partials.now) plan
    (rw c.as_slice.ensures at c.in-Ok.ensures.planned) (rw c.as_slice.ensures at c.in-Ok.ensures.apart) (rw c.as_slice-guests.ensures at c.in-Ok-audit_images.ensures.audited) (report_of c.in_ok-put_checked-in-Ok-audit_images.field-0)
    (put_report c.in_ok-put_checked-in-Ok-audit_images.field-0 _ (rw c.as_slice-guests.ensures at c.in_ok-put_checked-in-Ok-audit_images.ensures))

pub returns-clause-stopped : goal.returns-clause-stopped
returns-clause-stopped g c =
    let plan : TreePlan = record { guests = c.in-Ok.plan.guests; free = c.in-Ok.plan.pool.free } in
    audit_due (g.F.Files.held c.args.files.now) (option_copied c.args.folder) (description_of c.args.stand.now.tree c.args.stand.now.reserves c.args.stand.now.loads c.args.partials.now) plan
    (rw c.as_slice.ensures at c.in-Ok.ensures.planned) _ _ c.in-Err-audit_images.stop (rw c.as_slice-guests.ensures at c.in-Err-audit_images.ensures.stopped)
