use Rattle.item_checks.proofs.TakingsLemmas.{index_more}
use Rattle.item_checks.proofs.takings.Takings.add.Goals as goal

pub invariant_of-self-2 : goal.invariant_of-self-2
invariant_of-self-2 c =
    index_more c.self.inside.ends c.cover.new.ends c.self.inside.all.items c.push.new.self.items c.args.taken c.self.invariant c.cover.ensures.rising c.cover.ensures.kept c.in_ok-cover.ensures.covered c.in_ok-push.ensures.items
