use Rattle.std.proofs.Common.{refl, sym, ◌∙◌}
use Rattle.item_checks.proofs.RegionLemmas.{regions_none}
use Rattle.item_checks.specs.Standing.{taken_from}
use Rattle.item_checks.proofs.state.State.new.Goals as goal

pub returns : goal.returns
unfolding taken_from
returns c = record {
  items = c.new.ensures.items;
  claims = c.new-2.ensures;
  loads = c.new-3.ensures.items;
  pages = c.new-6.ensures;
  direct = refl;
  static_pages = refl;
  spis = λ number. refl;
  console = refl;
  takers = λ number other. rw c.new-5.ensures.items refl;
  regions = c.new-4.ensures.items ∙ sym regions_none;
  triples = λ host size page. rw c.new-7.ensures.items refl;
}
