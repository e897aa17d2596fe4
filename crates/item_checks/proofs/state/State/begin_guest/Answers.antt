use Rattle.std.proofs.Common.{sym, ap, ◌∙◌}
use Rattle.item_checks.specs.Standing.{has_triple, is_past}
use Rattle.item_checks.proofs.StandingLemmas.{fresh_pages, fresh_direct, fresh_static, fresh_triples}
use Rattle.item_checks.proofs.IrqLemmas.{fresh_spis, fresh_console}
use Rattle.item_checks.proofs.state.State.begin_guest.Goals as goal

pub returns : goal.returns
returns c guest before number stands none = record {
  items = stands.items;
  claims = stands.claims;
  loads = stands.loads;
  pages = c.clear.ensures.pages ∙ sym (fresh_pages number 0 before none);
  direct = c.clear.ensures.direct ∙ sym (fresh_direct number before none);
  spis = λ irq. ap (is_past irq) c.clear.ensures.spis ∙ sym (fresh_spis number irq before none);
  console = c.clear.ensures.console ∙ sym (fresh_console number before none);
  takers = stands.takers;
  regions = stands.regions;
  static_pages = c.clear.ensures.static_pages ∙ sym (fresh_static number before none);
  triples = λ host size page. ap (has_triple host size page) c.clear.ensures.triples ∙ sym (fresh_triples number host size page before none);
}
