-- What a script does: the files that it loads, and the tree after its edits.
use Rattle.std.specs.Prelude.{◌≡◌, ℕ, suc, ◌+◌, ◌-◌, ◌^◌, ◌≤◌, min, Bool, true, false, List, [], ◌∷◌, ◌++◌, take, length, Option, Some, None, Result, Ok, Err, nat_eq, ◌==◌, if◌then◌else◌, is_some, not, IsTrue, option_map, option_and_then, sum_by}
use Rattle.std.specs.List.{list_all, flat_map}
use Rattle.std.specs.Option.{option_or, option_eq}
use Rattle.std.specs.Result.{result_map_both}
use Rattle.std.specs.Int.{w32, to_be_bytes}
use Rattle.fdt_tree.specs.Tree.{Tree, is_node_name, is_property_name}
use Rattle.fdt_tree.specs.PathEdits.{mknod, set}
use Rattle.fdt_tree.specs.declared.edit_fault.EditFault.{EditFault}
use Rattle.fdt_tree.specs.declared.edit_fault.EditFault.TheVariants as edits
use Rattle.ib_config.specs.Runs.{run_of}
use Rattle.ib_script.specs.declared.command.Command.{Command}
use Rattle.ib_script.specs.declared.command.Command.TheVariants.{Load, Addr, Resize, Mknod, Set}
use Rattle.ib_script.specs.declared.command.Piece.{Piece}
use Rattle.ib_script.specs.declared.command.Piece.TheVariants.{Cells, Bytes, Word}
use Rattle.described.specs.declared.loaded.Loaded.{Loaded}
use Rattle.script_run.specs.State.{State}
use Rattle.script_run.specs.declared.machine.StepWhy.{StepWhy}
use Rattle.script_run.specs.declared.machine.StepWhy.TheVariants.{NoNode, Exists, Deep, NoTree}
use Rattle.script_run.specs.declared.machine.StepFault.{StepFault}
use Rattle.script_run.specs.declared.machine.StepFault.TheVariants.{Step, Memory}

-- the bytes of a piece: cells as big-endian words, bytes as they are, a word with its NUL (Devicetree Specification 2.2.4)
abbrev pub piece_bytes : Piece → List ℕ
piece_bytes (Cells cells) = flat_map (to_be_bytes w32) cells
piece_bytes (Bytes bytes) = bytes
piece_bytes (Word text) = text ++ 0 ∷ []

-- the bytes of a value
abbrev pub value_bytes : List Piece → List ℕ
value_bytes value = flat_map piece_bytes value

-- the address that a command takes the tree at
abbrev pub taken_address : Command → Option ℕ
taken_address (Addr address) = Some address
taken_address _ = None

-- whether a command takes the tree
abbrev pub is_addr : Command → Bool
is_addr c = is_some (taken_address c)

-- whether a command loads a file to an address
abbrev pub loads_at : ℕ → Command → Bool
loads_at a (Load how address name) = address == a
loads_at a _ = false

-- whether a command loads a file
abbrev pub is_load : Command → Bool
is_load (Load how address name) = true
is_load _ = false

-- how many commands load a file
abbrev pub load_count : List Command → ℕ
load_count [] = 0
load_count (c ∷ cs) = if is_load c then suc (load_count cs) else load_count cs

-- by how much a command makes the tree larger
abbrev pub resized : Command → ℕ
resized (Resize bytes) = bytes
resized _ = 0

-- the address of the first command that takes the tree
abbrev pub first_address : List Command → Option ℕ
first_address [] = None
first_address (c ∷ cs) = option_or (taken_address c) (first_address cs)

-- the index of the last that passes
abbrev pub last_index : {A : Type 0} → (A → Bool) → List A → Option ℕ
last_index p [] = None
last_index p (x ∷ xs) = option_or (option_map suc (last_index p xs)) (if p x then Some 0 else None)

-- the tree's load: the last before the first Addr that loads to its address
abbrev pub tree_load_of : List Command → Option ℕ
tree_load_of cs = option_and_then (λ a. last_index (loads_at a) (run_of (λ c. not (is_addr c)) cs)) (first_address cs)

-- the size of the tree: that of its file and all Resize numbers, at most 2^64 - 1
abbrev pub tree_size : List Command → ℕ → ℕ
tree_size cs length = min (length + sum_by resized cs) (2 ^ 64 - 1)

-- The loads of the commands from index i on: each takes the next size, and the tree's load the size of the tree.
abbrev pub loads_from : Option ℕ → ℕ → ℕ → List Command → List ℕ → List Loaded
loads_from tree size i [] sizes = []
loads_from tree size i (Load how address name ∷ cs) [] = []
loads_from tree size i (Load how address name ∷ cs) (s ∷ sizes) =
    record { name = name; address = address; size = if option_eq nat_eq tree (Some i) then size else s } ∷ loads_from tree size (suc i) cs sizes
loads_from tree size i (c ∷ cs) sizes = loads_from tree size (suc i) cs sizes

-- the loads of a script
abbrev pub loads_of : List Command → List ℕ → ℕ → List Loaded
loads_of script sizes length = loads_from (tree_load_of script) (tree_size script length) 0 script sizes

-- the loads of the first k commands of a script, whose tree and its size are those of the whole script
abbrev pub loads_before : ℕ → List Command → List ℕ → ℕ → List Loaded
loads_before k script sizes length = loads_from (tree_load_of script) (tree_size script length) 0 (take k script) sizes

-- the cause of a refused edit; want of memory is none
abbrev pub why_of : EditFault → StepWhy
why_of edits.NoNode = NoNode
why_of edits.Exists = Exists
why_of edits.Deep = Deep
why_of edits.Memory = NoTree

-- an edit, with its cause
abbrev pub edited_tree : Result Tree EditFault → Result Tree StepWhy
edited_tree edited = result_map_both (λ t. t) why_of edited

-- an Addr is taken: a first one where the tree was loaded, a later one where it has the same address
abbrev pub is_taken : Bool → Option ℕ → ℕ → Bool
is_taken loaded None address = loaded
is_taken loaded (Some first) address = first == address

-- One command, where the script loads the tree or not, behind a first Addr of this address: the tree after it, or why it is refused.
abbrev pub step : Bool → Option ℕ → Command → Tree → Result Tree StepWhy
step loaded first (Addr address) t = if is_taken loaded first address then Ok t else Err NoTree
step loaded first (Mknod path name) t = if is_some first then edited_tree (mknod t path name) else Err NoTree
step loaded first (Set path prop value) t = if is_some first then edited_tree (set t path prop (value_bytes value)) else Err NoTree
step loaded first _ t = Ok t

-- what follows a value; a fault is handed on
infixl 10 ◌>>=◌
abbrev pub ◌>>=◌ : {A B : Type 0} → Result A StepFault → (A → Result B StepFault) → Result B StepFault
(Ok x) >>= f = f x
(Err e) >>= f = Err e

-- what command n does
abbrev pub in_step : {A : Type 0} → ℕ → Result A StepWhy → Result A StepFault
in_step n (Ok x) = Ok x
in_step n (Err why) = Err (Step n why)

-- The commands that follow those before them: the tree after them, or the number of the first refused command and why.
abbrev pub steps : Bool → List Command → List Command → Tree → Result Tree StepFault
steps loaded before [] t = Ok t
steps loaded before (c ∷ cs) t = do
  u ← in_step (length before + 1) (step loaded (first_address before) c t)
  steps loaded (before ++ c ∷ []) cs u

-- the tree after the first k commands
abbrev pub tree_after : ℕ → List Command → Tree → Result Tree StepFault
tree_after k script t = steps (is_some (tree_load_of script)) [] (take k script) t

-- the tree after the whole script
unfoldable pub tree_effect : List Command → Tree → Result Tree StepFault
tree_effect script t = steps (is_some (tree_load_of script)) [] script t

-- The effect of a script: its loads and the tree after it, or the first refused command and why.
abbrev pub effect_of : List Command → List ℕ → ℕ → Tree → Result (List Loaded × Tree) StepFault
effect_of script sizes length t = do
  u ← tree_effect script t
  Ok (loads_of script sizes length, u)

-- the machine as the first k commands leave it
pub record IsAfter (k : ℕ) (script : List Command) (sizes : List ℕ) (old new : State) : Type 0 where
  pub tree : tree_after k script old.tree.tree ≡ Ok new.tree.tree
  pub loads : new.loads ≡ loads_before k script sizes old.tree_length
  pub same_length : new.tree_length ≡ old.tree_length

-- the effect of the whole script on a machine
abbrev pub effect_on : List Command → List ℕ → State → Result (List Loaded × Tree) StepFault
effect_on script sizes old = effect_of script sizes old.tree_length old.tree.tree

-- All commands ran, and the machine has their effect.
abbrev pub HasEffect : List Command → List ℕ → State → State → Type 0
HasEffect script sizes old new = (effect_on script sizes old ≡ Ok (new.loads, new.tree.tree)) × (new.tree_length ≡ old.tree_length)

-- What a fault leaves: a refused command is that of the effect, and the machine is as the commands before it leave it; where memory ran out, it is as some of the first commands leave it.
abbrev pub IsStopped : List Command → List ℕ → State → State → StepFault → Type 0
IsStopped script sizes old new (Step n why) = (effect_on script sizes old ≡ Err (Step n why)) × IsAfter (n - 1) script sizes old new
IsStopped script sizes old new Memory = (k : ℕ) × (k ≤ length script) × IsAfter k script sizes old new

-- whether the names in a command are such as a tree takes
abbrev pub has_good_name : Command → Bool
has_good_name (Mknod path name) = is_node_name name
has_good_name (Set path prop value) = is_property_name prop
has_good_name _ = true

-- whether all names in a script are such
unfoldable pub has_good_names : List Command → Bool
has_good_names script = list_all has_good_name script

-- what running needs: no loads yet, one size per Load, and names that a tree takes
pub record CanRun (script : List Command) (sizes : List ℕ) (old : State) : Type 0 where
  pub fresh : old.loads ≡ []
  pub sized : length sizes ≡ load_count script
  pub named : IsTrue (has_good_names script)
