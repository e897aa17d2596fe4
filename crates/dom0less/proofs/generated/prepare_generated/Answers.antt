use Rattle.std.proofs.Common.{refl, sym, ap, subst, []}
use Rattle.std.specs.Prelude.{None}
use Rattle.run_steps.specs.Endings.{Builds}
use Rattle.run_steps.specs.Steps.{nothing}
use Rattle.run_steps.proofs.Due.{own_due}
use Rattle.build_outputs.specs.Builds.{AfterItems}
use Rattle.build_outputs.specs.Promises.{IsBuildOf}
use Rattle.build_outputs.specs.Made.{files_in}
use Rattle.dom0less.specs.Generated.{generated_description, totals_line, IsTotalsWriting, IsGeneratedJob}
use Rattle.dom0less.proofs.Stands.{items_step}
use Rattle.dom0less.proofs.generated.prepare_generated.Goals as goal

pub returns-in-Err-clause-stopped : goal.returns-in-Err-clause-stopped
returns-in-Err-clause-stopped c =
    let description = generated_description c.args.number in
    own_due (AfterItems 0 description nothing) (IsGeneratedJob c.args.number) ((items_step 0 description).stays (IsTotalsWriting c.args.number)) c.in-Err.stop
    (rw (c.in_ok-tree.ensures, c.new-loads.ensures) at c.in-Err.ensures.stopped)

pub returns-clause-built : goal.returns-clause-built
returns-clause-built c =
    let number = c.args.number in
    let description = generated_description number in
    let built : IsBuildOf 0 description None (files_in c.in-Ok.built.outputs) c.in-Ok.built.report c.in-Ok.built.totals = (rw (c.in_ok-tree.ensures, c.new-loads.ensures) at c.in-Ok.ensures.built) in
    subst (IsGeneratedJob number) (sym c.in_ok-put_totals.ensures)
    ((items_step 0 description).gives built.plan built.planned (IsTotalsWriting number) (Builds [] (totals_line number c.in-Ok.built.totals)) (refl, ap (totals_line number) built.counted))
