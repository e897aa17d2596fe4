use Rattle.domain_bindings.proofs.domain.partial_of.Goals as goal

pub place_of-requires-clause-cells : goal.place_of-requires-clause-cells
place_of-requires-clause-cells c = c.in_ok-first.ensures.cells _ c.requires.cells
