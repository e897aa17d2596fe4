-- What status 0 promises, by what is asked for.
use Rattle.std.specs.Prelude.{◌≡◌, ℕ, List, [], ◌∷◌, Option, Some, None}
use Rattle.outside.specs.Outside.{File}
use Rattle.dom0less_words.specs.Words.{ScriptAsked, Asked, Build, Check, Script, Show, Generate}
use Rattle.dom0less_words.specs.Settings.{settings}
use Rattle.build_sources.specs.Configs.{Made, IsMade}
use Rattle.build_sources.specs.Scripts.{script_file, unused_lines}
use Rattle.dom0less.specs.Headline.{IsDescribedBuild, IsDescribedAudit, IsListing}

-- The configuration is read and made into a script, which is the one output; the report is the names that have no effect.
pub record IsScripted (told : Option (List File)) (ask : ScriptAsked) (outputs : List File) (report : List ℕ) : Type 0 where
  pub made : Made
  pub read : IsMade told ask.config ask.files ask.kind made
  pub written : outputs ≡ script_file ask.outputs made ∷ []
  pub reported : report ≡ unused_lines made.settings.unused

-- of a build, what its images and trees are; of an audit, what the images are; of a script and of a listing, what is written; of a generated tree, nothing beyond the job
abbrev pub IsAskedPromise : Option (List File) → Asked → List File → List ℕ → Type 0
IsAskedPromise told (Build source folder) outputs report = IsDescribedBuild told source folder outputs report
IsAskedPromise told (Check source folder) outputs report = (outputs ≡ []) × IsDescribedAudit told source folder report
IsAskedPromise told (Script ask) outputs report = IsScripted told ask outputs report
IsAskedPromise told (Show tree) outputs report = (outputs ≡ []) × IsListing told tree report
IsAskedPromise told (Generate number) outputs report = Unit {0}

-- words that ask for nothing have no promise
abbrev pub IsSettingsPromise : Option (List File) → Option Asked → List File → List ℕ → Type 0
IsSettingsPromise told None outputs report = ⊥
IsSettingsPromise told (Some asked) outputs report = IsAskedPromise told asked outputs report

-- what status 0 promises of the outputs and the report, by the words and by what the files hold
abbrev pub IsPromised : List (List ℕ) → Option (List File) → List File → List ℕ → Type 0
IsPromised words told outputs report = IsSettingsPromise told (settings words) outputs report
