use Rattle.std.proofs.Common.{◌≡◌, Option, Some, None, sym, ◌∙◌}
use Rattle.std.proofs.lemmas.Result.{IfOk-weaker}
use Rattle.described.specs.declared.why.Why.{Why}
use Rattle.item_checks.specs.Taken.{Passed}
use Rattle.item_checks.specs.Reasons.{partial_unread}
use Rattle.item_checks.specs.PrivateStanding.{mine_of, naming_reasons, landing_reasons}
use Rattle.item_checks.proofs.ReasonLemmas.{landing, filling, load_reasons, module_reasons, static_reasons, claiming, range_reasons, shared_reasons, irq_reasons_are, first_some, first_none}
use Rattle.item_checks.proofs.state.State.reason_against.Goals as goal

pub returns-in-Load : goal.returns-in-Load
returns-in-Load c = IfOk-weaker c.land.result _ _
    (λ why told before stands. told c.args.owner.guest before stands ∙ rw c.as_slice.ensures.value (load_reasons c.args.host.now before (mine_of c.args.owner c.args.described.now c.args.takes.now) c.in-Load.at c.in-Load.is))
    c.land.ensures

pub returns-in-Some : goal.returns-in-Some
returns-in-Some c before stands =
    let mine : Passed = mine_of c.args.owner c.args.described.now c.args.takes.now in
    let told : Some c.in-Some.why ≡ landing c.args.host.now before mine.claims = sym c.in-Some.is ∙ rw (sym c.as_slice-in-Module.ensures.value) (c.in_ok-why-in-Module.ensures c.args.owner.guest before stands) in
    first_some _ (partial_unread c.in-Module.kind mine) c.in-Some.why told ∙ module_reasons c.args.host.now before mine c.in-Module.kind c.in-Module.at c.in-Module.is

pub returns-in-Some-2 : goal.returns-in-Some-2
returns-in-Some-2 c before stands =
    let mine : Passed = mine_of c.args.owner c.args.described.now c.args.takes.now in
    let told : Some c.in-Some-2.why ≡ landing c.args.host.now before mine.claims = sym c.in-Some-2.is ∙ rw (sym c.as_slice-in-Static.ensures.value) (c.in_ok-why-in-Static.ensures c.args.owner.guest before stands) in
    first_some _ (filling c.args.host.now before mine) c.in-Some-2.why told ∙ static_reasons c.args.host.now before mine c.in-Static.at c.in-Static.is

pub returns-in-None-2 : goal.returns-in-None-2
returns-in-None-2 c = IfOk-weaker c.guest_overlap.result _ _
    (λ why told before stands.
    let mine : Passed = mine_of c.args.owner c.args.described.now c.args.takes.now in
    let first : None ≡ landing c.args.host.now before mine.claims = sym c.in-None-2.is ∙ rw (sym c.as_slice-in-Static.ensures.value) (c.in_ok-why-in-Static.ensures c.args.owner.guest before stands) in
    let second : why ≡ filling c.args.host.now before mine = rw (sym c.as_slice-in-None-2.ensures.value) (told c.args.owner.guest before stands) in
    first_none _ (filling c.args.host.now before mine) why first second ∙ static_reasons c.args.host.now before mine c.in-Static.at c.in-Static.is)
    c.guest_overlap.ensures

pub returns-in-Some-3 : goal.returns-in-Some-3
returns-in-Some-3 c before stands =
    let mine : Passed = mine_of c.args.owner c.args.described.now c.args.takes.now in
    let told : Some c.in-Some-3.why ≡ claiming before mine.claims = sym c.in-Some-3.is ∙ rw (sym c.as_slice-in-Range.ensures.value) (c.in_ok-why-in-Range.ensures c.args.owner.guest before stands) in
    first_some _ (filling c.args.host.now before mine) c.in-Some-3.why told ∙ range_reasons c.args.host.now before mine c.in-Range.host c.in-Range.size c.in-Range.guest c.in-Range.is

pub returns-in-None-3 : goal.returns-in-None-3
returns-in-None-3 c = IfOk-weaker c.guest_overlap-in-None-3.result _ _
    (λ why told before stands.
    let mine : Passed = mine_of c.args.owner c.args.described.now c.args.takes.now in
    let first : None ≡ claiming before mine.claims = sym c.in-None-3.is ∙ rw (sym c.as_slice-in-Range.ensures.value) (c.in_ok-why-in-Range.ensures c.args.owner.guest before stands) in
    let second : why ≡ filling c.args.host.now before mine = rw (sym c.as_slice-in-None-3.ensures.value) (told c.args.owner.guest before stands) in
    first_none _ (filling c.args.host.now before mine) why first second ∙ range_reasons c.args.host.now before mine c.in-Range.host c.in-Range.size c.in-Range.guest c.in-Range.is)
    c.guest_overlap-in-None-3.ensures

pub returns-in-Some-4 : goal.returns-in-Some-4
returns-in-Some-4 c before stands =
    let mine : Passed = mine_of c.args.owner c.args.described.now c.args.takes.now in
    let named : Option Why = naming_reasons c.args.owner.guest c.in-Shared.id c.in-Shared.base c.in-Shared.size c.in-Shared.owns before in
    let told : Some c.in-Some-4.why ≡ named = sym c.in-Some-4.is ∙ rw (sym c.as_slice-in-Shared.ensures) (c.in_ok-why-in-Shared.ensures before stands) in
    first_some _ (landing_reasons c.args.owner.guest c.args.host.now c.in-Shared.id mine.claims mine.pages before) c.in-Some-4.why told
    ∙ shared_reasons c.args.host.now before mine c.in-Shared.id c.in-Shared.base c.in-Shared.guest c.in-Shared.size c.in-Shared.owns c.in-Shared.is

pub returns-in-None-4 : goal.returns-in-None-4
returns-in-None-4 c = IfOk-weaker c.region_lands.result _ _
    (λ why told before stands.
    let mine : Passed = mine_of c.args.owner c.args.described.now c.args.takes.now in
    let first : None ≡ naming_reasons c.args.owner.guest c.in-Shared.id c.in-Shared.base c.in-Shared.size c.in-Shared.owns before = sym c.in-None-4.is ∙ rw (sym c.as_slice-in-Shared.ensures) (c.in_ok-why-in-Shared.ensures before stands) in
    let second : why ≡ landing_reasons c.args.owner.guest c.args.host.now c.in-Shared.id mine.claims mine.pages before = rw (sym c.as_slice-in-None-4.ensures) (told c.args.owner.guest before stands) in
    first_none _ (landing_reasons c.args.owner.guest c.args.host.now c.in-Shared.id mine.claims mine.pages before) why first second
    ∙ shared_reasons c.args.host.now before mine c.in-Shared.id c.in-Shared.base c.in-Shared.guest c.in-Shared.size c.in-Shared.owns c.in-Shared.is)
    c.region_lands.ensures

pub returns-in-Irq : goal.returns-in-Irq
returns-in-Irq c = IfOk-weaker c.irq_reason.result _ _
    (λ why told before stands. told before stands ∙ irq_reasons_are c.args.host.now before (mine_of c.args.owner c.args.described.now c.args.takes.now) c.in-Irq.number c.in-Irq.is)
    c.irq_reason.ensures

pub returns-in-None : goal.returns-in-None
returns-in-None c before stands =
    let mine : Passed = mine_of c.args.owner c.args.described.now c.args.takes.now in
    let first : None ≡ landing c.args.host.now before mine.claims = sym c.in-None.is ∙ rw (sym c.as_slice-in-Module.ensures.value) (c.in_ok-why-in-Module.ensures c.args.owner.guest before stands) in
    first_none _ (partial_unread c.in-Module.kind mine) c.partial_unread.result first c.partial_unread.ensures
    ∙ module_reasons c.args.host.now before mine c.in-Module.kind c.in-Module.at c.in-Module.is
