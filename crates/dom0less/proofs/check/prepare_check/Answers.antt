use Rattle.std.specs.Option.{option_copied}
use Rattle.run_steps.proofs.Due.{grew_twice}
use Rattle.domain_plan.specs.Descriptions.{description_of}
use Rattle.dom0less_words.specs.Meant.{meant_source}
use Rattle.build_sources.specs.Meant.{meant_stand}
use Rattle.dom0less.proofs.Checks.{check_source_due, check_partials_due, check_made, check_promised, check_stopped}
use Rattle.dom0less.proofs.check.prepare_check.Goals as goal

pub returns-in-Err-clause-stopped : goal.returns-in-Err-clause-stopped
returns-in-Err-clause-stopped g c =
    check_source_due (g.F.Files.held c.args.files.now) (meant_source c.args.source.now) (option_copied c.args.folder) _ _ c.in-Err.stop c.in-Err.ensures.stopped

pub returns-in-Err-read_partials-clause-stopped : goal.returns-in-Err-read_partials-clause-stopped
returns-in-Err-read_partials-clause-stopped g c =
    check_partials_due (g.F.Files.held c.args.files.now) (meant_source c.args.source.now) (option_copied c.args.folder) (meant_stand c.in-Ok.stand) c.in-Ok.ensures.stands _ _ _ c.in-Ok.ensures.only_read.counted
    c.in-Err-read_partials.stop (rw (c.folder_of.ensures, c.in-Ok.ensures.only_read.held_kept) at c.in-Err-read_partials.ensures.stopped)

pub returns-clause-built : goal.returns-clause-built
returns-clause-built g c =
    check_made (g.F.Files.held c.args.files.now) (meant_source c.args.source.now) (option_copied c.args.folder) (meant_stand c.in-Ok.stand) c.in-Ok.ensures.stands
    (description_of c.in-Ok.stand.tree c.in-Ok.stand.reserves c.in-Ok.stand.loads c.in-Ok-read_partials.partials.items)
    (rw (c.folder_of.ensures, c.in-Ok.ensures.only_read.held_kept) at c.in-Ok-read_partials.ensures.read) c.audit_described.result
    (rw (c.deref.ensures.value, c.in-Ok-read_partials.ensures.only_read.held_kept, c.in-Ok.ensures.only_read.held_kept) at c.audit_described.ensures.built)

pub returns-clause-promised : goal.returns-clause-promised
returns-clause-promised g c =
    check_promised (g.F.Files.held c.args.files.now) (meant_source c.args.source.now) (option_copied c.args.folder) (meant_stand c.in-Ok.stand) c.in-Ok.ensures.stands
    (description_of c.in-Ok.stand.tree c.in-Ok.stand.reserves c.in-Ok.stand.loads c.in-Ok-read_partials.partials.items)
    (rw (c.folder_of.ensures, c.in-Ok.ensures.only_read.held_kept) at c.in-Ok-read_partials.ensures.read) c.audit_described.result
    (rw (c.deref.ensures.value, c.in-Ok-read_partials.ensures.only_read.held_kept, c.in-Ok.ensures.only_read.held_kept) at c.audit_described.ensures.promised)

pub returns-clause-stopped : goal.returns-clause-stopped
returns-clause-stopped g c =
    check_stopped (g.F.Files.held c.args.files.now) (meant_source c.args.source.now) (option_copied c.args.folder) (meant_stand c.in-Ok.stand) c.in-Ok.ensures.stands
    (description_of c.in-Ok.stand.tree c.in-Ok.stand.reserves c.in-Ok.stand.loads c.in-Ok-read_partials.partials.items)
    (rw (c.folder_of.ensures, c.in-Ok.ensures.only_read.held_kept) at c.in-Ok-read_partials.ensures.read) _ _ _ (grew_twice _ _ _ c.in-Ok.ensures.only_read.counted c.in-Ok-read_partials.ensures.only_read.counted) c.audit_described.result
    (rw (c.deref.ensures.value, c.in-Ok-read_partials.ensures.only_read.held_kept, c.in-Ok.ensures.only_read.held_kept) at c.audit_described.ensures.stopped)
