use Rattle.std.proofs.Common.{refl}
use Rattle.domain_bindings.proofs.roles.cells_below.Goals as goal

pub returns-in-None-cell_count-clause-cells : goal.returns-in-None-cell_count-clause-cells
returns-in-None-cell_count-clause-cells c = rw (← c.in-Some.ensures.count, ← c.in-None-cell_count.ensures.count) refl

pub returns-in-Some-cell_count-clause-cells : goal.returns-in-Some-cell_count-clause-cells
returns-in-Some-cell_count-clause-cells c = rw (← c.in-Some.ensures.count, ← c.in-Some-cell_count.ensures.count) refl
