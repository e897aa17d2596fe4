-- What the words and the files never call for.
use Rattle.std.specs.Prelude.{◌≡◌, ℕ, List, [], Option}
use Rattle.outside.specs.Outside.{File}
use Rattle.run_steps.specs.Endings.{Builds}
use Rattle.fdt_overlay.specs.Job.{CallsFor}

-- nothing is reported: what is built is outputs alone
abbrev pub ReportsNothing : Type 0
ReportsNothing = (words : List (List ℕ)) (told : Option (List File)) (outputs : List File) (report : List ℕ) → CallsFor words told (Builds outputs report) → report ≡ []
