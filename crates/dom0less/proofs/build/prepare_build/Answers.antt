use Rattle.std.specs.Option.{option_copied}
use Rattle.domain_plan.specs.Descriptions.{description_of}
use Rattle.dom0less_words.specs.Meant.{meant_source}
use Rattle.build_sources.specs.Meant.{meant_stand}
use Rattle.build_sources.proofs.Pairs.{stand_has_no_last}
use Rattle.dom0less.proofs.Stands.{source_due, partials_due, build_made, build_promised, build_stopped}
use Rattle.dom0less.proofs.build.prepare_build.Goals as goal

pub returns-in-Err-clause-stopped : goal.returns-in-Err-clause-stopped
returns-in-Err-clause-stopped g c =
    source_due (g.F.Files.held c.args.files.now) (meant_source c.args.source.now) (option_copied c.args.folder) _ _ c.in-Err.stop c.in-Err.ensures.stopped

pub returns-in-Err-read_partials-clause-stopped : goal.returns-in-Err-read_partials-clause-stopped
returns-in-Err-read_partials-clause-stopped g c =
    partials_due (g.F.Files.held c.args.files.now) (meant_source c.args.source.now) (option_copied c.args.folder) (meant_stand c.in-Ok.stand) c.in-Ok.ensures.stands _ _ _ c.in-Ok.ensures.only_read.counted
    c.in-Err-read_partials.stop (rw (c.folder_of.ensures, c.in-Ok.ensures.only_read.held_kept) at c.in-Err-read_partials.ensures.stopped)

pub make_build-requires : goal.make_build-requires
make_build-requires g c =
    stand_has_no_last (g.F.Files.held c.args.files.now) (meant_stand c.in-Ok.stand) (meant_source c.args.source.now) (option_copied c.args.folder) c.in-Ok.ensures.stands

pub returns-clause-built : goal.returns-clause-built
returns-clause-built g c =
    build_made (g.F.Files.held c.args.files.now) (meant_source c.args.source.now) (option_copied c.args.folder) (meant_stand c.in-Ok.stand) c.in-Ok.ensures.stands
    (description_of c.in-Ok.stand.tree c.in-Ok.stand.reserves c.in-Ok.stand.loads c.in-Ok-read_partials.partials.items)
    (rw (c.folder_of.ensures, c.in-Ok.ensures.only_read.held_kept) at c.in-Ok-read_partials.ensures.read) c.make_build.result (rw c.deref.ensures.value at c.make_build.ensures.built)

pub returns-clause-promised : goal.returns-clause-promised
returns-clause-promised g c =
    build_promised (g.F.Files.held c.args.files.now) (meant_source c.args.source.now) (option_copied c.args.folder) (meant_stand c.in-Ok.stand) c.in-Ok.ensures.stands
    (description_of c.in-Ok.stand.tree c.in-Ok.stand.reserves c.in-Ok.stand.loads c.in-Ok-read_partials.partials.items)
    (rw (c.folder_of.ensures, c.in-Ok.ensures.only_read.held_kept) at c.in-Ok-read_partials.ensures.read) c.in-Ok.ensures.edited c.make_build.result (rw c.deref.ensures.value at c.make_build.ensures.promised)

pub returns-clause-stopped : goal.returns-clause-stopped
returns-clause-stopped g c =
    build_stopped (g.F.Files.held c.args.files.now) (meant_source c.args.source.now) (option_copied c.args.folder) (meant_stand c.in-Ok.stand) c.in-Ok.ensures.stands
    (description_of c.in-Ok.stand.tree c.in-Ok.stand.reserves c.in-Ok.stand.loads c.in-Ok-read_partials.partials.items)
    (rw (c.folder_of.ensures, c.in-Ok.ensures.only_read.held_kept) at c.in-Ok-read_partials.ensures.read) _ _ c.make_build.result (rw c.deref.ensures.value at c.make_build.ensures.stopped)
