-- What outputs and streams took.
use Rattle.std.proofs.Common.{◌≡◌, ◌∙◌, sym, ap, subst, refl, arith, ℕ, ◌+◌, ◌<◌, ◌≤◌, length, map, take, drop, get_or, List, [], ◌∷◌, ◌++◌, append-nil, append_assoc, Some, None}
use Rattle.std.specs.Prelude.{Option, min, true, IsTrue, IfSome}
use Rattle.std.specs.List.{flat_map}
use Rattle.std.proofs.Math.Seq.{take-append-add}
use Rattle.std.proofs.lemmas.Grind.{flat_map-append}
use Rattle.std.proofs.lemmas.List.{take-append-drop, take-append-le, take_min, map-append, drop_more}
use Rattle.outside.specs.Outside.{File, TookPart, TookPrefix, and_bytes, fits_file, less_file}
use Rattle.outside.specs.declared.status.Status.{Status}
use Rattle.outside.specs.declared.status.Status.TheVariants as statuses
use Rattle.run_steps.specs.Endings.{and_files, TookUpTo, TakesFiles, fits_files}
use Rattle.run_steps.specs.Outputs.{file_of}
use Rattle.run_steps.specs.declared.output.Output.{Output}

-- nothing was taken
pub and_files-none : (taken : Option (List File)) → and_files taken [] ≡ taken
and_files-none None = refl
and_files-none (Some files) = ap Some (append-nil files)

pub and_bytes-none : (taken : Option (List ℕ)) → and_bytes taken [] ≡ taken
and_bytes-none None = refl
and_bytes-none (Some bytes) = ap Some (append-nil bytes)

-- bytes that were taken in two parts
pub and_bytes-both : (taken : Option (List ℕ)) (first second : List ℕ) → and_bytes (and_bytes taken first) second ≡ and_bytes taken (first ++ second)
and_bytes-both None first second = refl
and_bytes-both (Some bytes) first second = ap Some (append_assoc bytes first second)

-- an output of a list was not taken whole
pub TookUpTo-output : (old new : Option (List File)) (outputs : List Output) (index : ℕ) (output : Output) → index < length outputs → output ≡ get_or outputs index output
    → TookPart (and_files old (map file_of (take index outputs))) new output.name output.bytes → TookUpTo old new (map file_of outputs) output.name
TookUpTo-output old new outputs index output below is part =
    let split : map file_of outputs ≡ map file_of (take index outputs) ++ file_of output ∷ map file_of (drop (index + 1) outputs) =
    ap (map file_of) (sym (take-append-drop index outputs)) ∙ map-append file_of (take index outputs) (drop index outputs)
    ∙ ap (λ (left : List Output). map file_of (take index outputs) ++ map file_of left) (drop_more outputs index output below)
    ∙ ap (λ (first : Output). map file_of (take index outputs) ++ file_of first ∷ map file_of (drop (index + 1) outputs)) (sym is) in
    (map file_of (take index outputs), output.bytes, map file_of (drop (index + 1) outputs), split, part)

-- bytes were not taken whole that stand between others
TookPrefix-between : (old new : Option (List ℕ)) (before part after : List ℕ) → TookPrefix (and_bytes old before) new part → TookPrefix old new (before ++ (part ++ after))
TookPrefix-between old new before part after took =
    let count : ℕ = min took.0 (length part) in
    let within : count ≤ length part = omega arith in
    let cut : take (length before + count) (before ++ (part ++ after)) ≡ before ++ take took.0 part =
    take-append-add before (part ++ after) count ∙ ap (λ (front : List ℕ). before ++ front) (take-append-le count part after within ∙ take_min took.0 part) in
    (length before + count, took.1 ∙ and_bytes-both old before (take took.0 part) ∙ ap (and_bytes old) (sym cut))

-- one of several parts was not taken whole
pub TookPrefix-parts : {X : Type 0} (f : X → List ℕ) (parts : List X) (i : ℕ) (default : X) → i < length parts → (old new : Option (List ℕ))
    → TookPrefix (and_bytes old (flat_map f (take i parts))) new (f (get_or parts i default)) → TookPrefix old new (flat_map f parts)
TookPrefix-parts {X} f parts i default below old new took =
    let split : flat_map f parts ≡ flat_map f (take i parts) ++ (f (get_or parts i default) ++ flat_map f (drop (i + 1) parts)) =
    ap (flat_map f) (sym (take-append-drop i parts)) ∙ flat_map-append f (take i parts) (drop i parts)
    ∙ ap (λ (rest : List X). flat_map f (take i parts) ++ flat_map f rest) (drop_more parts i default below) in
    subst (TookPrefix old new) (sym split) (TookPrefix-between old new (flat_map f (take i parts)) (f (get_or parts i default)) (flat_map f (drop (i + 1) parts)) took)

-- outputs that have room for those that are left take the first of them, and then have room for the others
takes_first : (old new : Option (ℕ × ℕ)) (file : File) (rest : List File) (Done : Type 0)
    → IfSome old (λ room. IsTrue (fits_file room file.0 file.1) → Done × (new ≡ Some (less_file room file.0 file.1)))
    → TakesFiles old (file ∷ rest) → Done × TakesFiles new rest
takes_first None new file rest Done took takes = elim takes [ ]
takes_first (Some room) new file rest Done took takes =
    let first : fits_file room file.0 file.1 ≡ true = grind arith in
    let later : fits_files (less_file room file.0 file.1) rest ≡ true = grind arith in
    let done = took first in
    (done.0, subst (λ (left : Option (ℕ × ℕ)). TakesFiles left rest) (sym done.1) later)

pub takes_output : (old new : Option (ℕ × ℕ)) (outputs : List Output) (index : ℕ) (output : Output) (Done : Type 0) → index < length outputs → output ≡ get_or outputs index output
    → IfSome old (λ room. IsTrue (fits_file room output.name output.bytes) → Done × (new ≡ Some (less_file room output.name output.bytes)))
    → TakesFiles old (map file_of (drop index outputs)) → Done × TakesFiles new (map file_of (drop (index + 1) outputs))
takes_output old new outputs index output Done below is took takes =
    takes_first old new (file_of output) (map file_of (drop (index + 1) outputs)) Done took
    (subst (λ (left : List Output). TakesFiles old (map file_of left)) (drop_more outputs index output below ∙ ap (λ (first : Output). first ∷ drop (index + 1) outputs) (sym is)) takes)

-- what was built did not fail to be written
pub built_or_not : (status : Status) → status ≡ statuses.Built → status ≡ statuses.Write → ⊥
built_or_not status built failed = cc
