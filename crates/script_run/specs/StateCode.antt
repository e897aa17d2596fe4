-- Of proofs alone: a code of machines, by which they are told apart.
use Rattle.std.specs.Prelude.{ℕ, List, refl}
use Rattle.std.specs.Coded.{Coded, code_by, coded_list, coded×, coded_ℕ}
use Rattle.fdt_tree.specs.Document.{Document}
use Rattle.fdt_tree.specs.Assembled.{coded_document}
use Rattle.script_run.specs.State.{State}
use Rattle.described.specs.declared.loaded.Loaded.{Loaded}

-- a loaded file, by its name, its address and its size
abbrev coded_loaded : Coded Loaded
coded_loaded =
    code_by (List ℕ × (ℕ × ℕ)) (coded× (coded_list coded_ℕ) (coded× coded_ℕ coded_ℕ)) (λ (f : Loaded). (f.name, (f.address, f.size))) (λ p. record { name = p.0; address = p.1.0; size = p.1.1 }) (λ _. refl)

-- a machine, by its tree, its loads and its tree's length
abbrev pub coded_state : Coded State
coded_state =
    code_by (Document × (List Loaded × ℕ)) (coded× coded_document (coded× (coded_list coded_loaded) coded_ℕ)) (λ (s : State). (s.tree, (s.loads, s.tree_length)))
    (λ p. record { tree = p.0; loads = p.1.0; tree_length = p.1.1 }) (λ _. refl)
