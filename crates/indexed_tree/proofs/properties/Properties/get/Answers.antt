use Rattle.std.proofs.Common.{◌∙◌, sym}
use Rattle.indexed_tree.proofs.PropertyIndex.{at-within, at-value, at-none, got-or}
use Rattle.indexed_tree.proofs.properties.Properties.get.Goals as goal

pub at-requires : goal.at-requires
at-requires c = at-within c.args.name.now c.args.self.now c.in-Some.index (sym c.place.ensures ∙ c.in-Some.is)

pub returns-in-None : goal.returns-in-None
returns-in-None c = sym (at-none c.args.name.now c.args.self.now (sym c.place.ensures ∙ c.in-None.is))

pub returns-in-Some : goal.returns-in-Some
returns-in-Some c =
    sym (at-value c.args.name.now c.args.self.now c.in-Some.index (c.at.result.0.now, c.at.result.1.now) (sym c.place.ensures ∙ c.in-Some.is) (got-or c.args.self.now c.in-Some.index _ c.at.ensures))
