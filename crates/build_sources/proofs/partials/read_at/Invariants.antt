use Rattle.std.proofs.Common.{◌≡◌, take}
use Rattle.std.specs.Option.{option_copied}
use Rattle.outside.specs.Reads.{Grew}
use Rattle.domain_bindings.specs.Descriptions.{trees_in}
use Rattle.run_steps.specs.Steps.{GiveEach}
use Rattle.build_sources.specs.Handed.{HandsOn}
use Rattle.build_sources.specs.Partials.{AfterPartial}
use Rattle.build_sources.proofs.partials.read_at.Given as goal

-- the partial trees so far were read
abbrev pub invariant-loop-address : goal.invariant-loop-address
invariant-loop-address g l = record {
  read : GiveEach (λ address. HandsOn (AfterPartial (g.F.Files.held l.initial.files) (option_copied l.folder) l.loads address)) (take l.address-index l.addresses) (trees_in l.partials.items);
  kept : g.F.Files.held l.files ≡ g.F.Files.held l.initial.files;
  grew : Grew (g.F.Files.counts l.initial.files) (g.F.Files.counts l.files);
}
