-- How often files failed.
use Rattle.std.specs.Prelude.{ℕ}

-- how often a call failed, met a name that is not held, and met a file longer than its limit
pub record FailureCounts : Type 0 where
  pub faults : ℕ
  pub absents : ℕ
  pub overlong : ℕ
