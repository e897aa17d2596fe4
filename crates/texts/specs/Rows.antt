-- Tables of causes, of which the first that applies counts.
use Rattle.std.specs.Prelude.{Bool, List, [], ◌∷◌, if◌then◌else◌, Option, Some, None}

-- of rows of a test and a cause, the cause of the first row whose test holds. A cause that its test finds, as a reason that names
-- another item, stands in a list of options in place of rows: `first_reason`
abbrev pub first_that_applies : {A : Type 0} → List (Bool × A) → Option A
first_that_applies [] = None
first_that_applies (row ∷ rows) = if row.0 then Some row.1 else first_that_applies rows
