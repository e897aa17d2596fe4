use Rattle.domain_plan.specs.Descriptions.{description_of}
use Rattle.domain_plan.proofs.Answered.{planned, refused, sorted, merged, apart}
use Rattle.domain_plan.proofs.Determined.{are_of, are_read}
use Rattle.domain_plan.proofs.HeldLemmas.{described_guests}
use Rattle.domain_plan.proofs.tree_plans.plan_tree.Goals as goal

pub plan-requires : goal.plan-requires
plan-requires c =
    let description = description_of c.args.tree.now c.args.reserves.now c.args.loads.now c.args.partials.now in
    let same = described_guests c.args.tree.now c.args.reserves.now c.args.loads.now c.args.partials.now c.in_ok-guests.guests c.in_ok-guests.ensures in
    are_read description c.in_ok-host.host c.in_ok-guests.guests
    (are_of description c.in_ok-host.host c.in_ok-guests.guests c.in_ok-host.ensures.items c.in_ok-host.ensures.modules c.in_ok-host.ensures.ram c.in_ok-host.ensures.areas c.in_ok-host.ensures.console same)

pub returns-clause-planned : goal.returns-clause-planned
returns-clause-planned c =
    let description = description_of c.args.tree.now c.args.reserves.now c.args.loads.now c.args.partials.now in
    let same = described_guests c.args.tree.now c.args.reserves.now c.args.loads.now c.args.partials.now c.in_ok-guests.guests c.in_ok-guests.ensures in
    planned description c.in_ok-host.host c.in_ok-guests.guests
    (are_of description c.in_ok-host.host c.in_ok-guests.guests c.in_ok-host.ensures.items c.in_ok-host.ensures.modules c.in_ok-host.ensures.ram c.in_ok-host.ensures.areas c.in_ok-host.ensures.console same) c.plan.result c.plan.ensures.planned

pub returns-clause-refused : goal.returns-clause-refused
returns-clause-refused c =
    let description = description_of c.args.tree.now c.args.reserves.now c.args.loads.now c.args.partials.now in
    let same = described_guests c.args.tree.now c.args.reserves.now c.args.loads.now c.args.partials.now c.in_ok-guests.guests c.in_ok-guests.ensures in
    refused description c.in_ok-host.host c.in_ok-guests.guests
    (are_of description c.in_ok-host.host c.in_ok-guests.guests c.in_ok-host.ensures.items c.in_ok-host.ensures.modules c.in_ok-host.ensures.ram c.in_ok-host.ensures.areas c.in_ok-host.ensures.console same) c.plan.result c.plan.ensures.refused

pub returns-clause-sorted : goal.returns-clause-sorted
returns-clause-sorted c =
    let description = description_of c.args.tree.now c.args.reserves.now c.args.loads.now c.args.partials.now in
    let same = described_guests c.args.tree.now c.args.reserves.now c.args.loads.now c.args.partials.now c.in_ok-guests.guests c.in_ok-guests.ensures in
    sorted description c.in_ok-host.host c.in_ok-guests.guests
    (are_of description c.in_ok-host.host c.in_ok-guests.guests c.in_ok-host.ensures.items c.in_ok-host.ensures.modules c.in_ok-host.ensures.ram c.in_ok-host.ensures.areas c.in_ok-host.ensures.console same) c.plan.result c.plan.ensures.planned

pub returns-clause-merged : goal.returns-clause-merged
returns-clause-merged c =
    let description = description_of c.args.tree.now c.args.reserves.now c.args.loads.now c.args.partials.now in
    let same = described_guests c.args.tree.now c.args.reserves.now c.args.loads.now c.args.partials.now c.in_ok-guests.guests c.in_ok-guests.ensures in
    merged description c.in_ok-host.host c.in_ok-guests.guests
    (are_of description c.in_ok-host.host c.in_ok-guests.guests c.in_ok-host.ensures.items c.in_ok-host.ensures.modules c.in_ok-host.ensures.ram c.in_ok-host.ensures.areas c.in_ok-host.ensures.console same) c.plan.result c.plan.ensures.planned

pub returns-clause-apart : goal.returns-clause-apart
returns-clause-apart c =
    let description = description_of c.args.tree.now c.args.reserves.now c.args.loads.now c.args.partials.now in
    let same = described_guests c.args.tree.now c.args.reserves.now c.args.loads.now c.args.partials.now c.in_ok-guests.guests c.in_ok-guests.ensures in
    apart description c.in_ok-host.host c.in_ok-guests.guests
    (are_of description c.in_ok-host.host c.in_ok-guests.guests c.in_ok-host.ensures.items c.in_ok-host.ensures.modules c.in_ok-host.ensures.ram c.in_ok-host.ensures.areas c.in_ok-host.ensures.console same) c.plan.result c.plan.ensures.planned
