use Rattle.std.proofs.Common.{◌≡◌, ◌≤◌, drop}
use Rattle.ib_config_lint.specs.Rows.{crosses_behind}
use Rattle.ib_config_lint.proofs.rows.crosses.Given as goal

-- the ranges so far fit, and the others are laid behind them
abbrev pub invariant-loop-range : goal.invariant-loop-range
invariant-loop-range l = record {
  fit : l.used ≤ 0xc0000000;
  same : crosses_behind 0 l.ranges ≡ crosses_behind l.used (drop l.range-index l.ranges);
}
