-- What status 0 promises.
use Rattle.std.specs.Prelude.{◌≡◌, ℕ, List, [], ◌∷◌, Option, Some}
use Rattle.outside.specs.Outside.{File}
use Rattle.fdt_overlay.specs.Asked.{Asked, asked}
use Rattle.fdt_overlay.specs.Overlays.{Overlaid, IsOverlaid}
use Rattle.fdt_overlay.specs.Job.{bytes_of}

-- the one output is the base with the overlays applied one after the other, where all are those of the files that the words name, and nothing is reported
pub record IsPromised (words : List (List ℕ)) (told : Option (List File)) (outputs : List File) (report : List ℕ) : Type 0 where
  pub names : Asked
  pub named : asked words ≡ Some names
  pub made : Overlaid
  pub overlaid : IsOverlaid told names made
  pub written : outputs ≡ (names.out, bytes_of made) ∷ []
  pub unreported : report ≡ []
