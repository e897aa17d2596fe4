-- What a run is called to do by its words and by the files.
use Rattle.std.specs.Prelude.{◌≡◌, ◌≤◌, ℕ, ◌⊎◌, List, [], ◌∷◌, length, Option, Some, None, IsNone}
use Rattle.outside.specs.Outside.{File}
use Rattle.fdt_write.specs.Flattened.{flattened, length_limit}
use Rattle.run_steps.specs.Endings.{Outcome}
use Rattle.run_steps.specs.Steps.{IsWriting}
use Rattle.program.specs.Programs.{usage_line}
use Rattle.tree_files.specs.Lengths.{IsLengthRefusal}
use Rattle.fdt_overlay.specs.Lines.{program_name}
use Rattle.fdt_overlay.specs.Asked.{Asked, asked}
use Rattle.fdt_overlay.specs.Overlays.{Overlaid, AfterAll}

-- the tree that was made, as it is written (Devicetree Specification 0.4, chapter 5)
abbrev pub bytes_of : Overlaid → List ℕ
bytes_of made = flattened made.reserves made.boot made.root

-- the tree that was made is written, where it is not too long; nothing is reported
abbrev pub IsOutput : List ℕ → Overlaid → Outcome → Type 0
IsOutput out made outcome =
    IsLengthRefusal out (length (bytes_of made)) outcome ⊎ ((length (bytes_of made) ≤ length_limit) × IsWriting ((out, bytes_of made) ∷ []) [] outcome)

-- what is asked for: the tree is made, and written
abbrev pub IsAskedJob : Option (List File) → Asked → Outcome → Type 0
IsAskedJob told asked outcome = AfterAll told asked (IsOutput asked.out) outcome

-- the words ask for nothing, and the line of usage is said
abbrev pub AreRefused : List (List ℕ) → List ℕ → Type 0
AreRefused words text = IsNone (asked words) × (text ≡ usage_line program_name)

-- what is asked for is done; other words call for nothing
abbrev pub IsWordsJob : Option (List File) → Option Asked → Outcome → Type 0
IsWordsJob told None outcome = ⊥
IsWordsJob told (Some asked) outcome = IsAskedJob told asked outcome

-- the words and the files call for this outcome, by what the files hold where that is told, and else by some answers of theirs
abbrev pub CallsFor : List (List ℕ) → Option (List File) → Outcome → Type 0
CallsFor words told outcome = IsWordsJob told (asked words) outcome
