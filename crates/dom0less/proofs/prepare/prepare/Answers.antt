use Rattle.dom0less.proofs.prepare.prepare.Goals as goal

pub returns-in-Build-clause-stopped : goal.returns-in-Build-clause-stopped
returns-in-Build-clause-stopped g c = rw c.in-Build.is (c.prepare_build.ensures.stopped)

pub returns-in-Check-clause-stopped : goal.returns-in-Check-clause-stopped
returns-in-Check-clause-stopped g c = rw c.in-Check.is (c.prepare_check.ensures.stopped)
