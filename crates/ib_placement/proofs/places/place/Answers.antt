use Rattle.std.proofs.Common.{arith, rules}
use Rattle.ib_placement.specs.Placement.{places_of}
use Rattle.ib_placement.proofs.ConfigBounds.{config_bounds}
use Rattle.ib_placement.proofs.Laws.{answer_named, answer_sized, answer_wide, answer_apart}
use Rattle.ib_placement.proofs.places.place.Goals as goal

pub overflow_add-memory_start : goal.overflow_add-memory_start
overflow_add-memory_start c = omega (arith, config_bounds c.args.config.now c.known.ensures)

pub place_from-requires-clause-start : goal.place_from-requires-clause-start
place_from-requires-clause-start c = omega (arith, config_bounds c.args.config.now c.known.ensures)

pub place_from-requires-clause-limit : goal.place_from-requires-clause-limit
place_from-requires-clause-limit c = omega (arith, config_bounds c.args.config.now c.known.ensures)

pub returns-clause-value : goal.returns-clause-value
unfolding places_of
returns-clause-value c = search rules

pub returns-clause-names : goal.returns-clause-names
returns-clause-names c = answer_named c.args.config.now c.args.sizes.now c.place_from.result c.requires (returns-clause-value c)

pub returns-clause-sizes : goal.returns-clause-sizes
returns-clause-sizes c = answer_sized c.args.config.now c.args.sizes.now c.place_from.result c.requires (returns-clause-value c)

pub returns-clause-apart : goal.returns-clause-apart
returns-clause-apart c = answer_apart c.args.config.now c.args.sizes.now c.place_from.result (returns-clause-value c)

pub returns-clause-wide : goal.returns-clause-wide
returns-clause-wide c =
    let bounds = config_bounds c.args.config.now c.known.ensures in
    answer_wide c.args.config.now c.args.sizes.now c.place_from.result c.requires (omega (arith, bounds)) (λ k. omega (arith, c.type_inv.sizes k)) (returns-clause-value c)
