use Rattle.build_sources.proofs.source.run_made.Goals as goal

pub returns-clause-stands : goal.returns-clause-stands
returns-clause-stands c = rw (c.deref.ensures.value, c.in_ok-announced.ensures.before, c.in_ok-announced.ensures.lines) at c.run_announced.ensures.stands

pub returns-clause-stopped : goal.returns-clause-stopped
returns-clause-stopped c = rw (c.deref.ensures.value, c.in_ok-announced.ensures.before, c.in_ok-announced.ensures.lines) at c.run_announced.ensures.stopped
