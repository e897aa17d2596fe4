-- Runs with a leaf behind them.
use Rattle.std.specs.Prelude.{◌+◌, ◌==◌, ◌&&◌, Bool, if◌then◌else◌, List, [], ◌∷◌}
use Rattle.stage2_walk.specs.declared.run.Run.{Run}

-- a leaf runs on where a run ends: in page, frame and attributes
abbrev pub runs_on : Run → Run → Bool
runs_on run leaf = (run.page + run.count == leaf.page) && (run.first + run.count == leaf.first) && (run.attr == leaf.attr)

-- a last run with a leaf behind it: one longer run where the leaf runs on
abbrev pub join : Run → Run → List Run
join run leaf =
    if runs_on run leaf then record { page = run.page; first = run.first; count = run.count + leaf.count; attr = run.attr } ∷ []
    else run ∷ leaf ∷ []

-- runs with a leaf behind them
abbrev pub with_leaf : List Run → Run → List Run
with_leaf [] leaf = leaf ∷ []
with_leaf (run ∷ []) leaf = join run leaf
with_leaf (run ∷ next ∷ runs) leaf = run ∷ with_leaf (next ∷ runs) leaf
