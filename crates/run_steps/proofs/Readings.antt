-- What reads answer, whether or not the files are told.
use Rattle.std.proofs.Common.{ℕ, List, Some, None}
use Rattle.std.specs.Prelude.{Option, Err, IfSome}
use Rattle.outside.specs.Outside.{File, reading, ReadGives}
use Rattle.outside.specs.declared.files.FileError.TheVariants as read_errors
use Rattle.run_steps.specs.Steps.{IsReading}

-- a read that met no file
pub is_absent : (told : Option (List File)) (name : List ℕ) (limit : ℕ)
    → IfSome told (λ files. ReadGives (reading files name limit) (Err read_errors.Absent)) → IsReading told name limit (Err read_errors.Absent)
is_absent (Some files) name limit gives = gives
is_absent None name limit gives = tt

-- a read that met a longer one
pub is_longer : (told : Option (List File)) (name : List ℕ) (limit : ℕ)
    → IfSome told (λ files. ReadGives (reading files name limit) (Err read_errors.Longer)) → IsReading told name limit (Err read_errors.Longer)
is_longer (Some files) name limit gives = gives
is_longer None name limit gives = tt
