-- Trees that are too long to be written.
use Rattle.std.specs.Prelude.{ℕ, ◌<◌, ◌-◌, ◌^◌, min, List, ◌++◌, codes, decimal}
use Rattle.outside.specs.declared.status.Status.TheVariants as statuses
use Rattle.fdt_write.specs.Flattened.{length_limit}
use Rattle.run_steps.specs.Endings.{Outcome}
use Rattle.run_steps.specs.Messages.{file_message}
use Rattle.run_steps.specs.Steps.{IsRefusal}

-- the tree of so many bytes is too long to be written under this name
abbrev pub too_long_message : List ℕ → ℕ → List ℕ
too_long_message name length = file_message name (codes "TreeTooLong " ++ decimal (min length (2 ^ 64 - 1)))

-- a tree of so many bytes is too long to be written under a name, and is refused
abbrev pub IsLengthRefusal : List ℕ → ℕ → Outcome → Type 0
IsLengthRefusal out length outcome = (length_limit < length) × IsRefusal statuses.Refused (too_long_message out length) outcome
