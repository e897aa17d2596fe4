-- Reading and measuring files are steps.
use Rattle.std.proofs.Common.{◌≡◌, ◌∙◌, ◌+◌, ◌<◌, refl, sym, ap, subst, List, [], ◌∷◌, ◌++◌, inl, inr, codes, length, map, take, drop, get_or}
use Rattle.std.proofs.lemmas.List.{take_more, take-append-drop, drop_more, map-append}
use Rattle.std.specs.Prelude.{ℕ, Option, Some, None, Result, Ok, Err}
use Rattle.outside.specs.Outside.{File}
use Rattle.outside.specs.declared.files.FileError.{FileError}
use Rattle.outside.specs.declared.files.FileError.TheVariants as read_errors
use Rattle.outside.specs.declared.status.Status.{Status}
use Rattle.outside.specs.declared.status.Status.TheVariants as statuses
use Rattle.run_steps.specs.Messages.{file_message}
use Rattle.run_steps.specs.Endings.{Outcome, Refuses, Builds, Finds}
use Rattle.run_steps.specs.Steps.{IsRefusal, IsReading, IsReadRefusal, OnResult, OnOption, AfterReading, IsSize, AfterSize, AfterSizes, AreSizes, nothing}
use Rattle.run_steps.proofs.Step.{IsStep, Avoids, said_as, on_result_step, on_option_step, asked_step, may_fail_step, each_step, each_avoids, each_refuses, give_more}

-- reading a file
read_never : (name : List ℕ) (limit : ℕ) (error : FileError) (outputs : List File) (report : List ℕ) → IsReadRefusal name limit error (Builds outputs report) → ⊥
read_never name limit read_errors.Absent outputs report p = p
read_never name limit read_errors.Longer outputs report p = p
read_never name limit read_errors.Failed outputs report p = p
read_never name limit read_errors.Memory outputs report p = p

read_finds_none : (name : List ℕ) (limit : ℕ) (error : FileError) (status : Status) (list : List ℕ) → IsReadRefusal name limit error (Finds status list) → ⊥
read_finds_none name limit read_errors.Absent status list p = p
read_finds_none name limit read_errors.Longer status list p = p
read_finds_none name limit read_errors.Failed status list p = p
read_finds_none name limit read_errors.Memory status list p = p

same_bytes : (told : Option (List File)) (name : List ℕ) (limit : ℕ) (bytes : List ℕ) (result : Result (List ℕ) FileError) → IsReading told name limit result → result ≡ Ok bytes → IsReading told name limit (Ok bytes)
same_bytes told name limit bytes result read is = subst (IsReading told name limit) is read

pub reading_step : (told : Option (List File)) (name : List ℕ) (limit : ℕ) → IsStep (λ bytes. IsReading told name limit (Ok bytes)) (AfterReading told name limit)
reading_step told name limit =
    said_as (λ bytes. (result : Result (List ℕ) FileError) × IsReading told name limit result × (result ≡ Ok bytes)) _ (AfterReading told name limit)
    (may_fail_step _ name _ (asked_step (IsReading told name limit) (λ result bytes. result ≡ Ok bytes) (λ result next. OnResult (IsReadRefusal name limit) next result) (on_result_step (IsReadRefusal name limit) (read_never name limit) (read_finds_none name limit))))
    (λ bytes given. same_bytes told name limit bytes given.0 given.1 given.2)
    (λ bytes read. (Ok bytes, read, refl))

-- measuring a file, and all files of a list
pub size_step : (told : Option (List File)) (name : List ℕ) → IsStep (λ size. IsSize told name (Some size)) (AfterSize told name)
size_step told name =
    said_as (λ size. (found : Option ℕ) × IsSize told name found × (found ≡ Some size)) _ (AfterSize told name)
    (may_fail_step _ name _ (asked_step (IsSize told name) (λ found size. found ≡ Some size) (λ found next. OnOption (IsRefusal statuses.Read (file_message name (codes "not found"))) next found)
    (on_option_step (IsRefusal statuses.Read (file_message name (codes "not found"))) (λ outputs report p. p) (λ status list p. p))))
    (λ size given. subst (IsSize told name) given.2 given.1)
    (λ size is. (Some size, is, refl))

pub sizes_step : (told : Option (List File)) (names : List (List ℕ)) → IsStep (AreSizes told names) (AfterSizes told names)
sizes_step told names = each_step (λ name size. IsSize told name (Some size)) (AfterSize told) (size_step told) names

-- ---- none of them refuses an item

no_item_read : statuses.Refused ≡ statuses.Read → ⊥
no_item_read e = cc

no_item_longer : statuses.Refused ≡ statuses.Longer → ⊥
no_item_longer e = cc

reading_names_none : (name : List ℕ) (limit : ℕ) (result : Result (List ℕ) FileError) (message : List ℕ) → OnResult (IsReadRefusal name limit) nothing result (Refuses statuses.Refused message) → ⊥
reading_names_none name limit (Ok bytes) message p = p
reading_names_none name limit (Err read_errors.Absent) message p = no_item_read p.0
reading_names_none name limit (Err read_errors.Longer) message p = no_item_longer p.0
reading_names_none name limit (Err read_errors.Failed) message p = p
reading_names_none name limit (Err read_errors.Memory) message p = p

pub reading_avoids : (told : Option (List File)) (name : List ℕ) (limit : ℕ) → Avoids statuses.Refused (AfterReading told name limit)
reading_avoids told name limit message (inl fails) = cc
reading_avoids told name limit message (inr p) = reading_names_none name limit p.0 message p.2

size_names_none : (name : List ℕ) (size : Option ℕ) (message : List ℕ) → OnOption (IsRefusal statuses.Read (file_message name (codes "not found"))) nothing size (Refuses statuses.Refused message) → ⊥
size_names_none name (Some size) message p = p
size_names_none name None message p = no_item_read p.0

size_avoids_items : (told : Option (List File)) (name : List ℕ) → Avoids statuses.Refused (AfterSize told name)
size_avoids_items told name message (inl fails) = cc
size_avoids_items told name message (inr p) = size_names_none name p.0 message p.2

pub sizes_avoid : (told : Option (List File)) (names : List (List ℕ)) → Avoids statuses.Refused (AfterSizes told names)
sizes_avoid told names =
    each_avoids (λ name size. IsSize told name (Some size)) (AfterSize told) (size_step told) statuses.Refused (size_avoids_items told) names

-- ---- one file after the other

module _ (told : Option (List File)) (f : List ℕ → List ℕ) (names : List (List ℕ)) (i : ℕ) (name : List ℕ) (below : i < length names) (is : name ≡ get_or names i name)
    (sizes : List ℕ) (measured : AreSizes told (map f (take i names)) sizes) where
  one_more_name : map f (take (i + 1) names) ≡ map f (take i names) ++ f name ∷ []
  one_more_name = ap (map f) (take_more names i name below ∙ ap (λ last. take i names ++ last ∷ []) (sym is)) ∙ map-append f (take i names) (name ∷ [])

  all_names : map f names ≡ map f (take i names) ++ f name ∷ map f (drop (i + 1) names)
  all_names =
      ap (map f) (sym (take-append-drop i names) ∙ ap (λ rest. take i names ++ rest) (drop_more names i name below ∙ ap (λ first. first ∷ drop (i + 1) names) (sym is)))
      ∙ map-append f (take i names) (name ∷ drop (i + 1) names)

  -- the next has a size
  pub measured_more : (size : ℕ) → IsSize told (f name) (Some size) → AreSizes told (map f (take (i + 1) names)) (sizes ++ size ∷ [])
  measured_more size is_size =
      subst (λ front. AreSizes told front (sizes ++ size ∷ [])) (sym one_more_name) (give_more (λ file size. IsSize told file (Some size)) (map f (take i names)) (f name) sizes size measured is_size)

  -- or it is refused
  pub measured_refuses : (outcome : Outcome) → AfterSize told (f name) nothing outcome → AfterSizes told (map f names) nothing outcome
  measured_refuses outcome refused =
      subst (λ all. AfterSizes told all nothing outcome) (sym all_names)
      (each_refuses (λ file size. IsSize told file (Some size)) (AfterSize told) (size_step told) (map f (take i names)) (f name) (map f (drop (i + 1) names)) sizes measured outcome refused)
