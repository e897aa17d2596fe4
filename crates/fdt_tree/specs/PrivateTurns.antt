-- What a turn of a walk gives, for private contracts and proofs alone.
use Rattle.std.specs.Prelude.{◌≡◌, ◌<◌, ℕ, zero, suc, ◌∷◌, Option, Some, None, length}
use Rattle.fdt_tree.specs.Document.{Document}
use Rattle.fdt_tree.specs.Visits.{seen, IsLive}
use Rattle.fdt_tree.specs.declared.walk.Step.{Step}
use Rattle.fdt_tree.specs.declared.walk.Turn.{Turn}
use Rattle.fdt_tree.specs.declared.walk.Visit.{Visit}
use Rattle.fdt_tree.specs.declared.walk.Visit.TheVariants.{Enter, Leave}
use Rattle.fdt_tree.specs.Upcoming.{visits_left, nodes_open}

-- How many nodes are entered and not yet left after a visit, where so many were before it; none where it leaves a node that was not entered.
abbrev pub opened_after : Visit → ℕ → Option ℕ
opened_after (Enter node) opened = Some (suc opened)
opened_after Leave zero = None
opened_after Leave (suc opened) = Some opened

-- The turn gives the first of what is to be seen, and leaves the others.
pub record IsTurn (d : Document) (node : ℕ) (step : Step) (turn : Turn) : Type 0 where
  pub first : visits_left d node step ≡ seen d turn.visit ∷ visits_left d turn.node turn.step
  pub visit : IsLive d turn.visit
  pub live : turn.node < length d.places
  pub opened : opened_after turn.visit (nodes_open d node step) ≡ Some (nodes_open d turn.node turn.step)
