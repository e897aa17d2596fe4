-- The steps of a run that read files: each refuses, or hands on what it found to what follows, which is left open.
use Rattle.std.specs.Prelude.{◌≡◌, ◌≤◌, ◌⊎◌, ℕ, ⊤, List, [], ◌∷◌, codes, length, Option, Some, None, Result, Ok, Err, option_map}
use Rattle.outside.specs.Outside.{File, reading, bytes_of}
use Rattle.outside.specs.declared.files.FileError.{FileError}
use Rattle.outside.specs.declared.files.FileError.TheVariants as read_errors
use Rattle.outside.specs.declared.status.Status.{Status}
use Rattle.outside.specs.declared.status.Status.TheVariants as statuses
use Rattle.run_steps.specs.Messages.{file_message, longer_message}
use Rattle.run_steps.specs.Endings.{Outcome, Refuses, Builds, Finds, Fails}

-- the outcome is this refusal
abbrev pub IsRefusal : Status → List ℕ → Outcome → Type 0
IsRefusal status message (Refuses other_status other_message) = (other_status ≡ status) × (other_message ≡ message)
IsRefusal status message outcome = ⊥

-- the outcome is to write these outputs and to put this report
abbrev pub IsWriting : List File → List ℕ → Outcome → Type 0
IsWriting outputs report (Builds other_outputs other_report) = (other_outputs ≡ outputs) × (other_report ≡ report)
IsWriting outputs report outcome = ⊥

-- the outcome is to put this list, and to answer this status
abbrev pub IsFinding : Status → List ℕ → Outcome → Type 0
IsFinding status list (Finds other_status other_list) = (other_status ≡ status) × (other_list ≡ list)
IsFinding status list outcome = ⊥

-- nothing follows
abbrev pub nothing : {A : Type 0} → A → Outcome → Type 0
nothing x outcome = ⊥

-- a fault is refused; a value is handed on
abbrev pub OnResult : {A E : Type 0} → (E → Outcome → Type 0) → (A → Outcome → Type 0) → Result A E → Outcome → Type 0
OnResult refusal next (Ok value) outcome = next value outcome
OnResult refusal next (Err fault) outcome = refusal fault outcome

-- what is missing is refused; a value is handed on
abbrev pub OnOption : {A : Type 0} → (Outcome → Type 0) → (A → Outcome → Type 0) → Option A → Outcome → Type 0
OnOption refusal next (Some value) outcome = next value outcome
OnOption refusal next None outcome = refusal outcome

-- what reading a file gives: what the files say, where they are told, and else any bytes within the limit or that it is not there or longer
abbrev pub IsReading : Option (List File) → List ℕ → ℕ → Result (List ℕ) FileError → Type 0
IsReading (Some held) name limit result = reading held name limit ≡ result
IsReading None name limit (Ok bytes) = length bytes ≤ limit
IsReading None name limit (Err error) = ⊤

-- a file that is not there or too long is refused
abbrev pub IsReadRefusal : List ℕ → ℕ → FileError → Outcome → Type 0
IsReadRefusal name limit read_errors.Absent outcome = IsRefusal statuses.Read (file_message name (codes "not found")) outcome
IsReadRefusal name limit read_errors.Longer outcome = IsRefusal statuses.Longer (longer_message name limit) outcome
IsReadRefusal name limit error outcome = ⊥

-- the call for the file of this name fails; or what comes else
abbrev pub OrFails : List ℕ → Type 0 → Outcome → Type 0
OrFails name other outcome = (outcome ≡ Fails name) ⊎ other

-- a file is read within a limit, in bytes, and its bytes are handed on
abbrev pub AfterReading : Option (List File) → List ℕ → ℕ → (List ℕ → Outcome → Type 0) → Outcome → Type 0
AfterReading told name limit next outcome =
    OrFails name ((result : Result (List ℕ) FileError) × IsReading told name limit result × OnResult (IsReadRefusal name limit) next result outcome) outcome

-- the size of a file in bytes, which is not there where it has none: what the files say, where they are told
abbrev pub IsSize : Option (List File) → List ℕ → Option ℕ → Type 0
IsSize (Some held) name size = option_map (λ bytes. length bytes) (bytes_of held name) ≡ size
IsSize None name size = ⊤

-- a file is measured, and its size is handed on
abbrev pub AfterSize : Option (List File) → List ℕ → (ℕ → Outcome → Type 0) → Outcome → Type 0
AfterSize told name next outcome =
    OrFails name ((size : Option ℕ) × IsSize told name size × OnOption (IsRefusal statuses.Read (file_message name (codes "not found"))) next size outcome) outcome

-- a step for each element of a list in its order, and all that they handed on is handed on
abbrev pub AfterEach : {A B : Type 0} → (A → (B → Outcome → Type 0) → Outcome → Type 0) → List A → (List B → Outcome → Type 0) → Outcome → Type 0
AfterEach step [] next outcome = next [] outcome
AfterEach step (x ∷ xs) next outcome = step x (λ y. AfterEach step xs (λ ys. next (y ∷ ys))) outcome

-- files are measured in their order, and their sizes are handed on
abbrev pub AfterSizes : Option (List File) → List (List ℕ) → (List ℕ → Outcome → Type 0) → Outcome → Type 0
AfterSizes told names next outcome = AfterEach (AfterSize told) names next outcome

-- what each element of a list gives, in the order of the list
abbrev pub GiveEach : {A B : Type 0} → (A → B → Type 0) → List A → List B → Type 0
GiveEach Gives [] ys = ys ≡ []
GiveEach {A} {B} Gives (x ∷ xs) ys = (y : B) × (later : List B) × Gives x y × GiveEach Gives xs later × (ys ≡ y ∷ later)

-- the sizes of files in their order, in bytes
abbrev pub AreSizes : Option (List File) → List (List ℕ) → List ℕ → Type 0
AreSizes told names sizes = GiveEach (λ name size. IsSize told name (Some size)) names sizes
