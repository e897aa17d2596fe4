use Rattle.std.proofs.Common.{◌∙◌, sym, ap}
use Rattle.stage2_walk.specs.Runs.{page_goal}
use Rattle.stage2_walk.specs.Walks.{reached}
use Rattle.stage2_walk.specs.declared.walk.Step.{Step}
use Rattle.image_audit.proofs.PlannedRanges.{map_of-at}
use Rattle.image_audit.proofs.differences.walked_goal.Goals as goal

pub returns-in-Mapped-clause-goal : goal.returns-in-Mapped-clause-goal
returns-in-Mapped-clause-goal c =
    ap (λ (step : Step). page_goal (reached step)) c.in-Mapped.ensures ∙ sym (map_of-at c.args.image.now.pages c.args.image.now.root c.args.page c.requires)

pub returns-in-Fault-clause-goal : goal.returns-in-Fault-clause-goal
returns-in-Fault-clause-goal c =
    ap (λ (step : Step). page_goal (reached step)) c.in-Fault.ensures ∙ sym (map_of-at c.args.image.now.pages c.args.image.now.root c.args.page c.requires)

pub returns-in-NoPage-clause-goal : goal.returns-in-NoPage-clause-goal
returns-in-NoPage-clause-goal c =
    ap (λ (step : Step). page_goal (reached step)) c.in-NoPage.ensures ∙ sym (map_of-at c.args.image.now.pages c.args.image.now.root c.args.page c.requires)
