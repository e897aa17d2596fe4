-- Files in a folder.
use Rattle.std.proofs.Common.{◌≡◌, sym, ℕ, List, [], ◌∷◌, ◌++◌}
use Rattle.std.specs.Prelude.{Option}
use Rattle.std.proofs.lemmas.List.{map-append}
use Rattle.outside.specs.Outside.{File}
use Rattle.run_steps.specs.Names.{joined}
use Rattle.build_outputs.specs.Outputs.{in_folder}

-- one file more
pub one_more_in : (folder : Option (List ℕ)) (files : List File) (file : File) → in_folder folder files ++ (joined folder file.0, file.1) ∷ [] ≡ in_folder folder (files ++ file ∷ [])
one_more_in folder files file = sym (map-append (λ (f : File). (joined folder f.0, f.1)) files (file ∷ []))
