use Rattle.item_checks.proofs.passing.check_item.Goals as goal

pub returns-clause-passed : goal.returns-clause-passed
returns-clause-passed c before stands =
    c.in_ok-add-in-None.ensures before stands (c.in_ok-takes.ensures.claims c.args.owner before stands) (c.in_ok-takes.ensures.pages c.args.owner before stands)
