-- Which statuses the steps that read files never refuse with: reading and measuring files refuse with the statuses of reading files alone.
use Rattle.std.proofs.Common.{◌≡◌, ℕ, List, inl, inr, codes}
use Rattle.std.specs.Prelude.{Option, Some, None, Result, Ok, Err}
use Rattle.outside.specs.Outside.{File}
use Rattle.outside.specs.declared.files.FileError.{FileError}
use Rattle.outside.specs.declared.files.FileError.TheVariants as read_errors
use Rattle.outside.specs.declared.status.Status.{Status}
use Rattle.outside.specs.declared.status.Status.TheVariants as statuses
use Rattle.run_steps.specs.Endings.{Refuses}
use Rattle.run_steps.specs.Messages.{file_message}
use Rattle.run_steps.specs.Steps.{IsRefusal, IsReadRefusal, IsSize, OnResult, OnOption, AfterReading, AfterSize, AfterSizes, nothing}
use Rattle.run_steps.proofs.Step.{Next, Avoids, each_avoids}
use Rattle.run_steps.proofs.ReadingSteps.{size_step}

-- the status is none of those that reading files refuses with
pub record IsOfNoFile (status : Status) : Type 0 where
  pub read : status ≡ statuses.Read → ⊥
  pub longer : status ≡ statuses.Longer → ⊥
  pub format : status ≡ statuses.Format → ⊥

-- as that of an item
pub item_of_no_file : IsOfNoFile statuses.Refused
item_of_no_file = record { read = λ e. cc; longer = λ e. cc; format = λ e. cc }

module _ (status : Status) (other : IsOfNoFile status) where
  -- a result whose faults are refused for their format
  pub format_avoids : {A E : Type 0} (text : E → List ℕ) (result : Result A E) → Avoids status (λ (next : Next A). OnResult (λ fault. IsRefusal statuses.Format (text fault)) next result)
  format_avoids text (Ok value) message p = p
  format_avoids text (Err fault) message p = other.format p.0

  -- reading a file
  reading_avoids_in : (name : List ℕ) (limit : ℕ) (result : Result (List ℕ) FileError) (message : List ℕ) → OnResult (IsReadRefusal name limit) nothing result (Refuses status message) → ⊥
  reading_avoids_in name limit (Ok bytes) message p = p
  reading_avoids_in name limit (Err read_errors.Absent) message p = other.read p.0
  reading_avoids_in name limit (Err read_errors.Longer) message p = other.longer p.0
  reading_avoids_in name limit (Err read_errors.Failed) message p = p
  reading_avoids_in name limit (Err read_errors.Memory) message p = p

  pub reading_avoids : (told : Option (List File)) (name : List ℕ) (limit : ℕ) → Avoids status (AfterReading told name limit)
  reading_avoids told name limit message (inl fails) = cc
  reading_avoids told name limit message (inr p) = reading_avoids_in name limit p.0 message p.2

  -- measuring files
  size_avoids_in : (name : List ℕ) (size : Option ℕ) (message : List ℕ) → OnOption (IsRefusal statuses.Read (file_message name (codes "not found"))) nothing size (Refuses status message) → ⊥
  size_avoids_in name (Some size) message p = p
  size_avoids_in name None message p = other.read p.0

  pub size_avoids : (told : Option (List File)) (name : List ℕ) → Avoids status (AfterSize told name)
  size_avoids told name message (inl fails) = cc
  size_avoids told name message (inr p) = size_avoids_in name p.0 message p.2

  pub sizes_avoid : (told : Option (List File)) (names : List (List ℕ)) → Avoids status (AfterSizes told names)
  sizes_avoid told names = each_avoids (λ name size. IsSize told name (Some size)) (AfterSize told) (size_step told) status (size_avoids told) names
