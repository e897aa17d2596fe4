-- Of private contracts and proofs alone: the steps in which the machine runs a script.
use Rattle.std.specs.Prelude.{◌≡◌, ℕ, ◌≤◌, List, [], ◌∷◌, ◌++◌, take, drop, length, Option, Result, Ok, Err, if◌then◌else◌, is_some}
use Rattle.fdt_tree.specs.declared.edit_fault.EditFault.{EditFault}
use Rattle.fdt_tree.specs.declared.edit_fault.EditFault.TheVariants as edits
use Rattle.ib_script.specs.declared.command.Command.{Command}
use Rattle.script_run.specs.State.{State}
use Rattle.script_run.specs.declared.machine.StepWhy.TheVariants.{NoNode, Exists, Deep}
use Rattle.script_run.specs.declared.machine.StepFault.{StepFault}
use Rattle.script_run.specs.declared.machine.StepFault.TheVariants.{Step}
use Rattle.script_run.specs.declared.machine.StepFault.TheVariants as faults
use Rattle.script_run.specs.declared.machine.Stop.{Stop}
use Rattle.script_run.specs.declared.machine.Stop.TheVariants.{Refused, Memory}
use Rattle.script_run.specs.Effect.{step, loads_from, first_address, is_load, load_count, IsAfter}

-- why an edit was refused
abbrev pub stop_of : EditFault → Stop
stop_of edits.NoNode = Refused NoNode
stop_of edits.Exists = Refused Exists
stop_of edits.Deep = Refused Deep
stop_of edits.Memory = Memory

-- the fault of command n that was not run
abbrev pub fault_of : ℕ → Stop → StepFault
fault_of n (Refused why) = Step n why
fault_of n Memory = faults.Memory

-- one command, at an index and behind a first Addr, was run, was refused, or memory ran out
abbrev pub IsMoved : Option ℕ → ℕ → ℕ → Option ℕ → Command → ℕ → State → Result (Unit {0}) Stop → State → Type 0
IsMoved load size index first command own old (Ok _) new =
    (step (is_some load) first command old.tree.tree ≡ Ok new.tree.tree) × (new.loads ≡ old.loads ++ loads_from load size index (command ∷ []) (own ∷ [])) × (new.tree_length ≡ old.tree_length)
IsMoved load size index first command own old (Err (Refused why)) new = (step (is_some load) first command old.tree.tree ≡ Err why) × (new ≡ old)
IsMoved load size index first command own old (Err Memory) new = new ≡ old

-- the sizes that are left behind a command
abbrev pub left_behind : Command → List ℕ → List ℕ
left_behind command left = if is_load command then drop 1 left else left

-- the first of some sizes, or 0
abbrev pub first_or_0 : List ℕ → ℕ
first_or_0 [] = 0
first_or_0 (own ∷ others) = own

-- the machine before command k + 1, with the sizes that are left and the first Addr so far
pub record IsAt (k : ℕ) (script : List Command) (sizes : List ℕ) (old new : State) (left : List ℕ) (first : Option ℕ) : Type 0 where
  pub after : IsAfter k script sizes old new
  pub within : k ≤ length script
  pub left_is : drop (load_count (take k script)) sizes ≡ left
  pub first_is : first_address (take k script) ≡ first
