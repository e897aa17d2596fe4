-- Files that are only read, and what is counted of their calls.
use Rattle.std.specs.Prelude.{◌≡◌, ℕ, ◌≤◌, List, Option}
use Rattle.outside.specs.Outside.{File}

-- how often calls failed, met a name that is not held, and met a file that is longer than its limit
pub record Counts : Type 0 where
  pub failed : ℕ
  pub absent : ℕ
  pub overlong : ℕ

-- no count fell
abbrev pub Grew : Counts → Counts → Type 0
Grew before after = (before.failed ≤ after.failed) × (before.absent ≤ after.absent) × (before.overlong ≤ after.overlong)

-- files that are only read: they hold what they held, and no count fell
pub record Reads {F : Type 0} (held : F → Option (List File)) (counts : F → Counts) (old new : F) : Type 0 where
  pub held_kept : held new ≡ held old
  pub counted : Grew (counts old) (counts new)
