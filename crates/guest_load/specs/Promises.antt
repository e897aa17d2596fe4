-- What status 0 promises.
use Rattle.std.specs.Prelude.{◌≡◌, ℕ, List, [], ◌∷◌, Option, Some}
use Rattle.outside.specs.Outside.{File}
use Rattle.guest_load.specs.Lines.{report}
use Rattle.guest_load.specs.LoadPlaces.{FitIn}
use Rattle.guest_load.specs.Words.{Asked, asked}
use Rattle.guest_load.specs.Parts.{Parts, AreParts}
use Rattle.guest_load.specs.Job.{tree_of, plan_of}

-- the parts are those of the files that the words name, they lie in the bank and apart, the one output is the tree, and the report says where they lie
pub record IsLoaded (words : List (List ℕ)) (told : Option (List File)) (outputs : List File) (said : List ℕ) : Type 0 where
  pub names : Asked
  pub named : asked words ≡ Some names
  pub parts : Parts
  pub read : AreParts told names parts
  pub fit : FitIn parts.bank (plan_of parts)
  pub written : outputs ≡ (names.out, tree_of parts) ∷ []
  pub reported : said ≡ report (plan_of parts)
