use Rattle.std.proofs.Common.{◌≡◌, ◌<◌, ◌≤◌, ◌+◌, ◌*◌, ◌^◌, ◌∙◌, ◌∷◌, sym, ap, ap₂, subst, arith, length, ℕ, List, All}
use Rattle.std.specs.Option.{option_copied}
use Rattle.build_outputs.specs.Report.{report}
use Rattle.outside.specs.Outside.{File}
use Rattle.guest_fdt.specs.Bounds.{IsBounded}
use Rattle.guest_fdt.specs.GuestTree.{guest_tree}
use Rattle.guest_images.specs.Built.{files_in as images_in}
use Rattle.run_steps.specs.Names.{joined}
use Rattle.build_outputs.specs.Made.{files_in}
use Rattle.guest_images.specs.Walks.{AllWalk, MeetOnlyIn, AreApart}
use Rattle.domain_plan.specs.Descriptions.{description_of, partial_at}
use Rattle.domain_plan.specs.TreePlans.{TreePlan, is_common}
use Rattle.build_outputs.specs.Names.{host_name}
use Rattle.build_outputs.specs.Outputs.{host_output, tree_outputs, image_outputs, images_of, in_turn, in_folder, frames_left, with_tables}
use Rattle.build_outputs.specs.Totals.{all_pages, all_tables}
use Rattle.build_outputs.specs.declared.totals.Totals.{Totals}
use Rattle.build_outputs.proofs.build.build_described.Goals as goal
use Rattle.build_outputs.proofs.Counts.{pages_at_most, frames_at_most, tables_at_most}
use Rattle.build_outputs.proofs.Refused.{plan_due, images_due, length_due, trees_due, nothing_refused}
use Rattle.build_outputs.proofs.Zipped.{turned_in}

pub returns-in-Err-clause-stopped : goal.returns-in-Err-clause-stopped
returns-in-Err-clause-stopped c =
    plan_due c.args.boot (description_of c.args.tree.now c.args.reserves.now c.args.loads.now c.args.partials.now) c.in-Err.fault c.plan_stop.result c.in-Err.ensures.refused c.plan_stop.ensures.said c.plan_stop.ensures.memory

pub returns-in-Err-build_images-clause-stopped : goal.returns-in-Err-build_images-clause-stopped
returns-in-Err-build_images-clause-stopped c =
    let description = description_of c.args.tree.now c.args.reserves.now c.args.loads.now c.args.partials.now in
    let plan : TreePlan = record { guests = c.in-Ok.plan.guests; free = c.in-Ok.plan.pool.free } in
    images_due c.args.boot description plan c.in-Ok.ensures.planned c.in-Err-build_images.fault c.images_stop.result (rw c.as_slice-guests.ensures at c.in-Err-build_images.ensures.refused) c.images_stop.ensures.said c.images_stop.ensures.memory

pub returns-in-Err-write_tree-clause-stopped : goal.returns-in-Err-write_tree-clause-stopped
returns-in-Err-write_tree-clause-stopped c =
    let description = description_of c.args.tree.now c.args.reserves.now c.args.loads.now c.args.partials.now in
    let plan : TreePlan = record { guests = c.in-Ok.plan.guests; free = c.in-Ok.plan.pool.free } in
    length_due c.args.boot description plan c.in-Ok.ensures.planned (rw c.as_slice-guests.ensures at c.in-Ok-build_images.ensures.met) c.in-Err-write_tree.stop c.in-Err-write_tree.ensures.stopped

-- each guest has what its tree can hold
pub write_trees-requires : goal.write_trees-requires
write_trees-requires c =
    let description = description_of c.args.tree.now c.args.reserves.now c.args.loads.now c.args.partials.now in
    let plan : TreePlan = record { guests = c.in-Ok.plan.guests; free = c.in-Ok.plan.pool.free } in
    subst (All IsBounded) (sym c.as_slice-guests.ensures) (c.plans_are_bounded.ensures description plan c.in-Ok.ensures.planned)

-- few guests have few pages and few tables
pub count_totals-totals-requires-clause-few_pages : goal.count_totals-totals-requires-clause-few_pages
count_totals-totals-requires-clause-few_pages c =
    let description = description_of c.args.tree.now c.args.reserves.now c.args.loads.now c.args.partials.now in
    let guests = c.in-Ok.plan.guests in
    let few : length guests ≤ 16 = c.plans_are_few.ensures description (record { guests = guests; free = c.in-Ok.plan.pool.free }) c.in-Ok.ensures.planned in
    let pages : all_pages guests ≤ 2 ^ 28 * length guests = pages_at_most guests c.in-Ok.ensures.sorted in
    rw c.as_slice-guests.ensures (let low : all_pages guests < 2 ^ 64 = omega arith in low)

pub count_totals-totals-requires-clause-few_tables : goal.count_totals-totals-requires-clause-few_tables
count_totals-totals-requires-clause-few_tables c =
    let description = description_of c.args.tree.now c.args.reserves.now c.args.loads.now c.args.partials.now in
    let guests = c.in-Ok.plan.guests in
    let free = c.in-Ok.plan.pool.free in
    let few : length guests ≤ 16 = c.plans_are_few.ensures description (record { guests = guests; free = free }) c.in-Ok.ensures.planned in
    let frames : 0 + length free ≤ 2 ^ 28 = frames_at_most free 0 (omega arith) c.in-Ok.ensures.apart.ascending in
    let tables : all_tables guests ≤ 2 ^ 28 * length guests = tables_at_most guests free (omega arith) (rw c.as_slice-guests.ensures at c.in-Ok-build_images.ensures.met) in
    rw c.as_slice-guests.ensures (let low : all_tables guests < 2 ^ 64 = omega arith in low)

pub returns-in-Err-write_trees-clause-stopped : goal.returns-in-Err-write_trees-clause-stopped
returns-in-Err-write_trees-clause-stopped c =
    let description = description_of c.args.tree.now c.args.reserves.now c.args.loads.now c.args.partials.now in
    let plan : TreePlan = record { guests = c.in-Ok.plan.guests; free = c.in-Ok.plan.pool.free } in
    trees_due c.args.boot description plan c.in-Ok.ensures.planned (rw c.as_slice-guests.ensures at c.in-Ok-build_images.ensures.met) c.in-Ok-write_tree.ensures.fits c.in-Err-write_trees.stop
    (rw c.as_slice-guests.ensures at c.in-Err-write_trees.ensures.stopped)

pub returns-clause-built : goal.returns-clause-built
returns-clause-built c =
    let description = description_of c.args.tree.now c.args.reserves.now c.args.loads.now c.args.partials.now in
    let plan : TreePlan = record { guests = c.in-Ok.plan.guests; free = c.in-Ok.plan.pool.free } in
    let folder = option_copied c.args.folder in
    let trees = tree_outputs description.partials 0 plan.guests in
    let files : images_in c.in-Ok-build_images.images ≡ images_of plan = (rw c.as_slice-guests.ensures at c.in-Ok-build_images.ensures.files) in
    let trees_are : files_in c.in-Ok-write_trees.trees ≡ in_folder folder trees = (rw c.as_slice-guests.ensures at c.in-Ok-write_trees.ensures.written) in
    let images_are : files_in c.in_ok-images.images ≡ in_folder folder (image_outputs plan.guests (images_of plan)) =
    (rw c.as_slice-guests.ensures at c.in_ok-images.ensures) ∙ ap (λ (images : List (List ℕ)). in_folder folder (image_outputs plan.guests images)) files in
    let left : c.free_frames-left.result ≡ frames_left plan = c.free_frames-left.ensures.count ∙ ap length (rw c.as_slice-guests.ensures at c.in-Ok-build_images.ensures.left) in
    let totals : ℕ → Totals = λ free. record { guests = length plan.guests; ram = all_pages plan.guests; tables = all_tables plan.guests; free = free } in
    record {
      plan = plan;
      planned = nothing_refused c.args.boot description plan c.in-Ok.ensures.planned (rw c.as_slice-guests.ensures at c.in-Ok-build_images.ensures.met) c.in-Ok-write_tree.ensures.fits
          (rw c.as_slice-guests.ensures at c.in-Ok-write_trees.ensures.fit);
      written = c.in_ok-outputs.ensures
          ∙ ap (λ (host : List ℕ). (joined folder host_name, host) ∷ in_turn (files_in c.in-Ok-write_trees.trees) (files_in c.in_ok-images.images)) c.in-Ok-write_tree.ensures.written
          ∙ ap (λ (more : List File). (joined folder host_name, (host_output c.args.boot description).1) ∷ more) (ap₂ in_turn trees_are images_are ∙ turned_in folder trees (image_outputs plan.guests (images_of plan)));
      reported = (rw c.as_slice-guests.ensures at c.in_ok-report.ensures) ∙ ap (report (with_tables plan.guests)) left;
      counted = (rw c.as_slice-guests.ensures at c.count_totals-totals.ensures) ∙ ap totals left;
      walks = subst (AllWalk plan.guests) files (rw c.as_slice-guests.ensures at c.in-Ok-build_images.ensures.walk);
      meet = subst (MeetOnlyIn (is_common description)) files ((rw c.as_slice-guests.ensures at c.in-Ok-build_images.ensures.meet) (is_common description) c.in-Ok.ensures.apart);
      apart = subst AreApart files ((rw c.as_slice-guests.ensures at c.in-Ok-build_images.ensures.apart) (is_common description) c.in-Ok.ensures.apart);
      lists = λ number guest at.
          let listed = c.trees_list_the_guests.ensures description plan c.in-Ok.ensures.planned number guest at in
          record {
            root = guest_tree guest (partial_at description.partials number);
            spelled = (rw c.as_slice-guests.ensures at c.in-Ok-write_trees.ensures.spelled) number guest at;
            lists = listed.lists;
            pages = listed.pages;
          };
    }
