use Rattle.std.proofs.Common.{◌≡◌, ◌∙◌, ap, sym, subst, ◌<◌, List, All, length, map, map-id, rules}
use Rattle.std.proofs.lemmas.Iterator.Consumers.{YieldsList-turn, YieldsList-end}
use Rattle.std.proofs.lemmas.Iterator.Adapters.{YieldsList-from_vec}
use Rattle.domain_bindings.specs.declared.domain.Domain.{Domain}
use Rattle.domain_plan.specs.Descriptions.{trees_in}
use Rattle.domain_plan.specs.PrivateHeldGuests.{held_guest, unheld}
use Rattle.domain_plan.proofs.HeldLemmas.{each_live, held_guests}
use Rattle.domain_plan.proofs.tree_guests.read_guests.Goals as goal

-- the node of the next guest is live
pub read_guest-requires : goal.read_guest-requires
read_guest-requires c =
    let all : All (λ (domain : Domain). domain.node < length c.args.tree.now.places) c.into_vec-domain-items.result.items =
    subst (λ (domains : List Domain). All (λ (domain : Domain). domain.node < length c.args.tree.now.places) domains) (sym c.into_vec-domain-items.ensures)
    (each_live (length c.args.tree.now.places) c.in_ok-domains.domains c.in_ok-domains.ensures.domains.nodes.live) in
    let turn = YieldsList-turn (YieldsList-from_vec {s = c.into_iter-domain-iterator.result} c.into_vec-domain-items.result.items (search rules) (search rules))
    c.loop-domain.yielded c.loop-domain.domain-iterator c.loop-domain.yielded_by c.next.result c.next.new.self c.in-Some.domain c.in-Some.is c.next.ensures.steps in
    subst (λ (domain : Domain). domain.node < length c.args.tree.now.places) (sym turn.1) (all (length c.loop-domain.yielded) c.in-Some.domain turn.0)

-- all guests were read
pub returns : goal.returns
returns c =
    let end = YieldsList-end (YieldsList-from_vec {s = c.into_iter-domain-iterator.result} c.into_vec-domain-items.result.items (search rules) (search rules))
    c.loop-domain.yielded c.loop-domain.domain-iterator c.loop-domain.yielded_by c.next.result c.next.new.self c.in-None.is c.next.ensures.steps in
    let whole : c.loop-domain.yielded ≡ c.in_ok-domains.domains = (rw map-id at end.0) ∙ c.into_vec-domain-items.ensures in
    ap (map unheld) c.loop-domain.invariant
    ∙ ap (λ (domains : List Domain). map unheld (map (held_guest c.args.tree.now (trees_in c.args.partials.now)) domains)) whole
    ∙ held_guests c.args.tree.now (trees_in c.args.partials.now) c.in_ok-domains.domains c.in_ok-domains.ensures.domains
