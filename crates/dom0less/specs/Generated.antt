-- The build of a generated tree, of which nothing is written.
use Rattle.std.specs.Prelude.{ℕ, List, []}
use Rattle.build_outputs.specs.ReportLines.{generated_line}
use Rattle.run_steps.specs.Endings.{Outcome}
use Rattle.run_steps.specs.Steps.{IsWriting}
use Rattle.tree_generator.specs.Generated.{generated_tree}
use Rattle.domain_plan.specs.Descriptions.{Description}
use Rattle.domain_plan.specs.TreePlans.{TreePlan}
use Rattle.build_outputs.specs.Builds.{AfterItems}
use Rattle.build_outputs.specs.Totals.{totals_of}
use Rattle.build_outputs.specs.declared.totals.Totals.{Totals}

-- what the tree that is generated for a number describes: it has no reservations, and nothing is loaded beside it
abbrev pub generated_description : ℕ → Description
generated_description number = record { root = generated_tree number; reserves = []; loads = []; partials = [] }

-- the line of these totals
abbrev pub totals_line : ℕ → Totals → List ℕ
totals_line number totals = generated_line number totals.guests totals.ram totals.tables totals.free

-- nothing is written, and the line of the plan's totals is put
abbrev pub IsTotalsWriting : ℕ → TreePlan → Outcome → Type 0
IsTotalsWriting number plan outcome = IsWriting [] (totals_line number (totals_of plan)) outcome

-- the generated tree is built as a ready tree is
abbrev pub IsGeneratedJob : ℕ → Outcome → Type 0
IsGeneratedJob number outcome = AfterItems 0 (generated_description number) (IsTotalsWriting number) outcome
