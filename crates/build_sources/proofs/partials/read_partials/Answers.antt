use Rattle.std.specs.Option.{option_copied}
use Rattle.domain_bindings.specs.Descriptions.{trees_in}
use Rattle.run_steps.specs.Steps.{AfterEach, nothing}
use Rattle.build_sources.specs.Handed.{HandsOn}
use Rattle.build_sources.specs.Meant.{meant_stand}
use Rattle.build_sources.specs.Partials.{AfterPartial, AfterPartials, partial_addresses}
use Rattle.build_sources.proofs.Handing.{ok_as, err_as}
use Rattle.build_sources.proofs.PartialLemmas.{described}
use Rattle.build_sources.proofs.partials.read_partials.Goals as goal

pub returns-clause-read : goal.returns-clause-read
returns-clause-read g c =
    let told = g.F.Files.held c.args.files.now in
    let folder = option_copied c.args.folder in
    let stand = meant_stand c.args.stand.now in
    ok_as (λ partials. HandsOn (AfterEach (AfterPartial told folder stand.loads) (partial_addresses stand.root)) (trees_in partials.items)) _
    (λ partials. described told folder stand (trees_in partials.items)) c.read_at.result (rw (c.deref.ensures.value, c.in_ok-addresses.ensures, c.as_slice.ensures) at c.read_at.ensures.read)

pub returns-clause-stopped : goal.returns-clause-stopped
returns-clause-stopped g c =
    let told = g.F.Files.held c.args.files.now in
    let folder = option_copied c.args.folder in
    let stand = meant_stand c.args.stand.now in
    err_as (AfterEach (AfterPartial told folder stand.loads) (partial_addresses stand.root) nothing) (AfterPartials told folder stand nothing) (λ outcome refused. refused) _ _ c.read_at.result
    (rw (c.deref.ensures.value, c.in_ok-addresses.ensures, c.as_slice.ensures) at c.read_at.ensures.stopped)
