use Rattle.std.proofs.Common.{◌∙◌, ap, ap₂, ◌++◌, ◌∷◌, [], sym, List}
use Rattle.std.proofs.lemmas.List.{map-append}
use Rattle.std.specs.Option.{option_copied}
use Rattle.outside.specs.Outside.{File}
use Rattle.run_steps.specs.Outputs.{file_of}
use Rattle.domain_plan.specs.Descriptions.{trees_in}
use Rattle.build_outputs.specs.Made.{files_in}
use Rattle.build_outputs.specs.Outputs.{in_folder}
use Rattle.build_outputs.proofs.TreeFiles.{outputs_more, fits_more, spelled_more, first_stop, all_spelled}
use Rattle.build_outputs.proofs.Folders.{one_more_in}
use Rattle.build_outputs.proofs.trees.write_trees.Goals as goal

pub returns-in-Err-clause-stopped : goal.returns-in-Err-clause-stopped
returns-in-Err-clause-stopped c =
    first_stop (trees_in c.args.partials.now) c.args.guests.now c.loop-number.number c.index-guests-number.result c.loop-number-test.true c.index-guests-number.is c.in-Err.stop c.loop-number.invariant.fit c.in-Err.ensures.stopped

-- the tree of one more guest
pub loop-number-preserved : goal.loop-number-preserved
loop-number-preserved c =
    let partials = trees_in c.args.partials.now in
    let guests = c.args.guests.now in
    let i = c.loop-number.number in
    let guest = c.index-guests-number.result in
    record {
      written = ap files_in c.in_ok-push-in-Ok.ensures.ok ∙ map-append file_of c.loop-number.trees (c.in-Ok.tree ∷ [])
          ∙ ap₂ (λ (before : List File) (this : File). before ++ this ∷ []) c.loop-number.invariant.written c.in-Ok.ensures.written
          ∙ one_more_in (option_copied c.args.folder) _ _ ∙ ap (in_folder (option_copied c.args.folder)) (sym (outputs_more partials guests i guest c.loop-number-test.true c.index-guests-number.is));
      spelled = spelled_more partials guests i guest c.loop-number-test.true c.index-guests-number.is c.loop-number.invariant.spelled c.in-Ok.ensures.spelled;
      fit = fits_more partials guests i guest c.loop-number-test.true c.index-guests-number.is c.loop-number.invariant.fit c.in-Ok.ensures.fits;
    }

pub returns-clause-spelled : goal.returns-clause-spelled
returns-clause-spelled c = all_spelled (trees_in c.args.partials.now) c.args.guests.now c.loop-number.number c.loop-number-test.false c.loop-number.invariant.spelled
