-- When no tables can be built.
use Rattle.std.specs.Prelude.{◌≡◌, ℕ, ◌<◌, ◌≤◌, List, length, None}
use Rattle.frame_alloc.specs.Frames.{lowest_pair}
use Rattle.stage2_tables.specs.declared.fault.TableFault.{TableFault}
use Rattle.stage2_tables.specs.declared.fault.TableFault.TheVariants.{NoFrame, NoPair, Memory}

-- the fault tells how many tables are needed and how many frames are free: too few, or enough but no pair
abbrev pub FaultAsStated : ℕ → List ℕ → TableFault → Type 0
FaultAsStated count free (NoFrame needed available) = (needed ≡ count) × (available ≡ length free) × (length free < count)
FaultAsStated count free (NoPair needed available) = (needed ≡ count) × (available ≡ length free) × (count ≤ length free) × (lowest_pair free ≡ None)
FaultAsStated count free Memory = Unit {0}
