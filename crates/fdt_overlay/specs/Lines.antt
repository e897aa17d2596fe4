-- What a run says on `err`: a message is one line behind the program's name.
use Rattle.std.specs.Prelude.{ℕ, List, ◌++◌, codes}
use Rattle.run_steps.specs.Messages.{file_message}
use Rattle.overlaid_trees.specs.declared.fault.OverlayFault.{OverlayFault}
use Rattle.overlaid_trees.specs.declared.fault.OverlayFault.TheVariants.{PhandleRange, BadLocal, Unresolved, BadFixup, NoTarget, Deep, Memory}

-- the program's name
abbrev pub program_name : List ℕ
program_name = codes "fdt_overlay"

-- a fault as it is shown: its name, and the path, label or name that it is about
abbrev pub fault_text : OverlayFault → List ℕ
fault_text PhandleRange = codes "PhandleRange"
fault_text (BadLocal path) = codes "BadLocal " ++ path
fault_text (Unresolved label) = codes "Unresolved " ++ label
fault_text (BadFixup label) = codes "BadFixup " ++ label
fault_text (NoTarget name) = codes "NoTarget " ++ name
fault_text (Deep name) = codes "Deep " ++ name
fault_text Memory = codes "out of memory"

-- the overlay of this name has this fault
abbrev pub fault_message : List ℕ → OverlayFault → List ℕ
fault_message name fault = file_message name (fault_text fault)
