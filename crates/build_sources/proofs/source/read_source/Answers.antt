use Rattle.build_sources.proofs.source.read_source.Goals as goal

pub returns-in-Config-clause-stands : goal.returns-in-Config-clause-stands
returns-in-Config-clause-stands g c = rw c.in-Config.is c.read_configuration.ensures.stands

pub returns-in-Config-clause-stopped : goal.returns-in-Config-clause-stopped
returns-in-Config-clause-stopped g c = rw c.in-Config.is c.read_configuration.ensures.stopped

pub returns-in-Replay-clause-stopped : goal.returns-in-Replay-clause-stopped
returns-in-Replay-clause-stopped g c = rw c.in-Replay.is c.replay.ensures.stopped

pub returns-in-Config-clause-edited : goal.returns-in-Config-clause-edited
returns-in-Config-clause-edited g c = rw c.in-Config.is c.read_configuration.ensures.edited
