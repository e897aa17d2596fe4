use Rattle.build_sources.proofs.configuration.make_placed.Goals as goal

pub returns-in-Ok-clause-spoken : goal.returns-in-Ok-clause-spoken
returns-in-Ok-clause-spoken c = record { settings = c.known.ensures; placed = c.requires.placed; wide = c.requires.wide; made = c.in-Ok.ensures }
