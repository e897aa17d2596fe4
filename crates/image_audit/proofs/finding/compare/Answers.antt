use Rattle.std.proofs.Common.{◌∙◌, sym, ap, Some, None, ℕ, List}
use Rattle.image_audit.specs.PrivateRests.{is_outside}
use Rattle.image_audit.proofs.PlannedRanges.{page_low, differs, is_mapped_table, is_shared_table, not_some}
use Rattle.image_audit.proofs.finding.compare.Goals as goal

pub walked_goal-goal-requires : goal.walked_goal-goal-requires
walked_goal-goal-requires c =
    page_low c.args.image.now.pages c.args.image.now.root c.args.ranges.now (is_outside c.args.unmapped.now) (is_outside c.args.free.now) c.args.runs.now c.requires.sorted c.requires.merged c.requires.runs c.in-Some.page (sym c.in-Some.ensures)

pub make_difference_text-requires-clause-page : goal.make_difference_text-requires-clause-page
make_difference_text-requires-clause-page c =
    page_low c.args.image.now.pages c.args.image.now.root c.args.ranges.now (is_outside c.args.unmapped.now) (is_outside c.args.free.now) c.args.runs.now c.requires.sorted c.requires.merged c.requires.runs c.in-Some.page (sym c.in-Some.ensures)

pub returns-in-Some : goal.returns-in-Some
returns-in-Some c =
    ap (λ (text : List ℕ). Some text) c.in_ok-text.ensures
    ∙ differs c.args.image.now.pages c.args.image.now.root c.args.ranges.now (is_outside c.args.unmapped.now) (is_outside c.args.free.now) c.args.runs.now c.requires.sorted c.requires.merged c.requires.runs c.in-Some.page
    c.walked_goal-goal.result c.planned_goal-planned.result (sym c.in-Some.ensures) c.walked_goal-goal.ensures.goal c.planned_goal-planned.ensures.goal

pub returns-in-Some-find_outside : goal.returns-in-Some-find_outside
returns-in-Some-find_outside c =
    ap (λ (text : List ℕ). Some text) c.in_ok-make_frame_text.ensures
    ∙ is_mapped_table c.args.image.now.pages c.args.image.now.root c.args.ranges.now (is_outside c.args.unmapped.now) (is_outside c.args.free.now) c.args.runs.now c.requires.sorted c.requires.merged c.requires.runs
    (sym c.find_parting.ensures ∙ not_some c.find_parting.result c.in_default.not-Some) c.in-Some-find_outside.frame (sym c.in-Some-find_outside.ensures)

pub returns-in-Some-find_outside-2 : goal.returns-in-Some-find_outside-2
returns-in-Some-find_outside-2 c =
    ap (λ (text : List ℕ). Some text) c.in_ok-make_frame_text-2.ensures
    ∙ is_shared_table c.args.image.now.pages c.args.image.now.root c.args.ranges.now (is_outside c.args.unmapped.now) (is_outside c.args.free.now) c.args.runs.now c.requires.sorted c.requires.merged c.requires.runs
    (sym c.find_parting.ensures ∙ not_some c.find_parting.result c.in_default.not-Some) (Some c.in-Some-find_outside-2.frame)
    (sym c.find_outside.ensures ∙ not_some c.find_outside.result c.in_default-find_outside.not-Some) (sym c.in-Some-find_outside-2.ensures)

pub returns : goal.returns
returns c =
    is_shared_table c.args.image.now.pages c.args.image.now.root c.args.ranges.now (is_outside c.args.unmapped.now) (is_outside c.args.free.now) c.args.runs.now c.requires.sorted c.requires.merged c.requires.runs
    (sym c.find_parting.ensures ∙ not_some c.find_parting.result c.in_default.not-Some) None
    (sym c.find_outside.ensures ∙ not_some c.find_outside.result c.in_default-find_outside.not-Some) (sym c.find_outside-2.ensures ∙ not_some c.find_outside-2.result c.in_default-find_outside-2.not-Some)
