use Rattle.std.proofs.Common.{◌∙◌, [], ◌∷◌, refl}
use Rattle.std.proofs.lemmas.List.{map-append}
use Rattle.std.specs.Prelude.{option_map}
use Rattle.std.specs.Option.{option_copied}
use Rattle.fdt_tree.specs.Document.{Document}
use Rattle.domain_bindings.specs.Descriptions.{trees_in}
use Rattle.run_steps.specs.Steps.{nothing}
use Rattle.run_steps.proofs.Due.{due_later, grew_twice}
use Rattle.build_sources.specs.Partials.{AfterPartial}
use Rattle.build_sources.proofs.PartialLemmas.{read_more, read_refuses, all_read}
use Rattle.build_sources.proofs.partials.read_at.Goals as goal

pub returns-in-Err-clause-stopped : goal.returns-in-Err-clause-stopped
returns-in-Err-clause-stopped g c =
    due_later (AfterPartial (g.F.Files.held c.args.files.now) (option_copied c.args.folder) c.args.loads.now _ nothing) _
    (read_refuses (g.F.Files.held c.args.files.now) (option_copied c.args.folder) c.args.loads.now c.args.addresses.now c.loop-address.address-index _ _ c.loop-address-test.true refl
    (trees_in c.loop-address.partials.items) c.loop-address.invariant.read)
    _ _ _ c.loop-address.invariant.grew c.in-Err.stop (rw c.loop-address.invariant.kept at c.in-Err.ensures.stopped)

pub loop-address-preserved : goal.loop-address-preserved
loop-address-preserved g c = record {
  read = rw (c.in_ok-push-in-Ok.ensures.items, map-append (option_map (λ (document : Document). document.tree)) c.loop-address.partials.items (c.in-Ok.partial ∷ []))
      (read_more (g.F.Files.held c.args.files.now) (option_copied c.args.folder) c.args.loads.now c.args.addresses.now c.loop-address.address-index _ _ c.loop-address-test.true refl
      (trees_in c.loop-address.partials.items) c.loop-address.invariant.read
      _ (rw c.loop-address.invariant.kept at c.in-Ok.ensures.read));
  kept = c.read_partial.ensures.only_read.held_kept ∙ c.loop-address.invariant.kept;
  grew = grew_twice _ _ _ c.loop-address.invariant.grew c.read_partial.ensures.only_read.counted;
}

pub returns-clause-read : goal.returns-clause-read
returns-clause-read g c =
    all_read (g.F.Files.held c.args.files.now) (option_copied c.args.folder) c.args.loads.now c.args.addresses.now c.loop-address.address-index (trees_in c.loop-address.partials.items) c.loop-address-test.false c.loop-address.invariant.read
