-- The variables of a configuration: for each its name, its rule and what stands where it is missing.
use Rattle.std.specs.Prelude.{ℕ, ◌^◌, Bool, true, false, not, ◌&&◌, List, [], ◌∷◌, filter, Option, Some, None, Result, Ok, Err, ok_or, unwrap_or, option_map, option_and_then, nat_lt, nat_eq, if◌then◌else◌, codes, bytes_eq}
use Rattle.std.specs.Option.{option_eq, option_or, option_map_or}
use Rattle.std.specs.Result.{result_map_both}
use Rattle.texts.specs.declared.ranges.BaseSize.{BaseSize}
use Rattle.ib_config.specs.Runs.{is_empty}
use Rattle.ib_config.specs.Line.{Assignment}
use Rattle.ib_config.specs.Rules.{number, number_between, flag, file_name, static_ranges, shared_regions, event_channels}
use Rattle.ib_config.specs.declared.assignments.Key.{Key}
use Rattle.ib_config.specs.declared.fault.ConfigFault.{ConfigFault}
use Rattle.ib_config.specs.declared.fault.ConfigFault.TheVariants.{Missing, BadValue, TooMany}
use Rattle.ib_config.specs.declared.groups.ShmGroup.{ShmGroup}
use Rattle.ib_config.specs.declared.groups.PortGroup.{PortGroup}

-- how a variable is at fault, given its name and its index
abbrev pub Wrong : Type 0
Wrong = List ℕ → ℕ → ConfigFault

-- a variable: its name, whether it names a file, and its value where it has a text and where it has none
pub record Variable (A : Type 0) : Type 0 where
  pub name : List ℕ
  pub is_file : Bool
  pub read : List ℕ → Result A Wrong
  pub missing : Result A Wrong

-- a value by a rule; outside the rule it is BadValue
abbrev pub by_rule : {A : Type 0} → (List ℕ → Option A) → List ℕ → Result A Wrong
by_rule rule text = ok_or (rule text) BadValue

-- the same of a value that may be left out
abbrev pub optional_by : {A : Type 0} → (List ℕ → Option A) → List ℕ → Result (Option A) Wrong
optional_by rule text = ok_or (option_map Some (rule text)) BadValue

-- a variable that has to be there
abbrev pub required : {A : Type 0} → List ℕ → (List ℕ → Option A) → Variable A
required name rule = record { name = name; is_file = false; read = by_rule rule; missing = Err Missing }

-- one that has this value where it is missing
abbrev pub with_default : {A : Type 0} → List ℕ → (List ℕ → Option A) → A → Variable A
with_default name rule value = record { name = name; is_file = false; read = by_rule rule; missing = Ok value }

-- one that may be left out
abbrev pub optional : {A : Type 0} → List ℕ → (List ℕ → Option A) → Option A → Variable (Option A)
optional name rule value = record { name = name; is_file = false; read = optional_by rule; missing = Ok value }

-- a file that has to be there
abbrev pub required_file : List ℕ → Variable (List ℕ)
required_file name = record { name = name; is_file = true; read = by_rule file_name; missing = Err Missing }

-- a file that may be left out
abbrev pub optional_file : List ℕ → Variable (Option (List ℕ))
optional_file name = record { name = name; is_file = true; read = optional_by file_name; missing = Ok None }

-- at most 16 guests
abbrev pub guest_count : List ℕ → Result ℕ Wrong
guest_count text = option_map_or (λ count. if nat_lt 16 count then Err (λ name index. TooMany count) else Ok count) (number text) (Err BadValue)

-- The table of ImageBuilder's variables that have an effect, in the order in which they are tested.

-- the first address of the memory that files are loaded in, in bytes
abbrev pub MEMORY_START : Variable ℕ
MEMORY_START = required (codes "MEMORY_START") (number_between 0 (2 ^ 40))

-- the end of that memory, in bytes: the first address behind it
abbrev pub MEMORY_END : Variable ℕ
MEMORY_END = required (codes "MEMORY_END") (number_between 0 (2 ^ 40))

-- the file of the host's device tree, as a DTB
abbrev pub DEVICE_TREE : Variable (List ℕ)
DEVICE_TREE = required_file (codes "DEVICE_TREE")

-- the file of Xen
abbrev pub XEN : Variable (List ℕ)
XEN = required_file (codes "XEN")

-- the command line that Xen starts with, `console=dtuart` by default
abbrev pub XEN_CMD : Variable (List ℕ)
XEN_CMD = with_default (codes "XEN_CMD") Some (codes "console=dtuart")

-- the file of dom0's kernel
abbrev pub DOM0_KERNEL : Variable (Option (List ℕ))
DOM0_KERNEL = optional_file (codes "DOM0_KERNEL")

-- the file of dom0's ramdisk
abbrev pub DOM0_RAMDISK : Variable (Option (List ℕ))
DOM0_RAMDISK = optional_file (codes "DOM0_RAMDISK")

-- the command line that dom0's kernel starts with
abbrev pub DOM0_CMD : Variable (Option (List ℕ))
DOM0_CMD = optional (codes "DOM0_CMD") Some None

-- how many guests Xen starts beside dom0, at most 16; none by default
abbrev pub NUM_DOMUS : Variable ℕ
NUM_DOMUS = record { name = codes "NUM_DOMUS"; is_file = false; read = guest_count; missing = Ok 0 }

-- the file of a guest's kernel
abbrev pub DOMU_KERNEL : Variable (List ℕ)
DOMU_KERNEL = required_file (codes "DOMU_KERNEL")

-- the file of a guest's ramdisk
abbrev pub DOMU_RAMDISK : Variable (Option (List ℕ))
DOMU_RAMDISK = optional_file (codes "DOMU_RAMDISK")

-- the command line that a guest's kernel starts with
abbrev pub DOMU_CMD : Variable (Option (List ℕ))
DOMU_CMD = optional (codes "DOMU_CMD") Some None

-- the size of a guest's memory in MiB, 512 by default; a guest with static memory need not have it
abbrev pub DOMU_MEM : Bool → Variable (Option ℕ)
DOMU_MEM static = optional (codes "DOMU_MEM") (number_between 1 1048576) (if static then None else Some 512)

-- how many virtual CPUs a guest has, 1 by default
abbrev pub DOMU_VCPUS : Variable ℕ
DOMU_VCPUS = with_default (codes "DOMU_VCPUS") (number_between 1 128) 1

-- whether a guest has a virtual UART, a PL011: 1, the default, or 0
abbrev pub DOMU_VPL011 : Variable Bool
DOMU_VPL011 = with_default (codes "DOMU_VPL011") flag true

-- the host ranges that are a guest's memory, each a base address and a size in bytes
abbrev pub DOMU_STATIC_MEM : Variable (List BaseSize)
DOMU_STATIC_MEM = with_default (codes "DOMU_STATIC_MEM") static_ranges []

-- whether a guest sees these ranges at their host addresses: 1, the default, or 0; read of a guest with static memory alone
abbrev pub DOMU_DIRECT_MAP : Variable Bool
DOMU_DIRECT_MAP = with_default (codes "DOMU_DIRECT_MAP") flag true

-- the file of the partial device tree with the host devices that a guest is given
abbrev pub DOMU_PASSTHROUGH_DTB : Variable (Option (List ℕ))
DOMU_PASSTHROUGH_DTB = optional_file (codes "DOMU_PASSTHROUGH_DTB")

-- the regions that a guest shares with others, each an id, a host address, a guest address and a size in bytes
abbrev pub DOMU_SHARED_MEM : Variable (List ShmGroup)
DOMU_SHARED_MEM = with_default (codes "DOMU_SHARED_MEM") shared_regions []

-- the event channels of a guest, each its port, its peer's number and the peer's port; of a number of guests, whose port groups are given
abbrev pub DOMU_EVTCHNS : (ℕ → List PortGroup) → ℕ → Variable (List PortGroup)
DOMU_EVTCHNS ports guests = with_default (codes "DOMU_EVTCHNS") (event_channels ports guests) []

-- whether two keys are one: a name with and one without index differ
abbrev pub same_key : Key → Key → Bool
same_key a b = bytes_eq a.name b.name && option_eq nat_eq a.index b.index

-- the text of the last assignment of a key
abbrev pub last_text : List Assignment → Key → Option (List ℕ)
last_text [] key = None
last_text (a ∷ later) key = option_or (last_text later key) (if same_key a.key key then Some a.text else None)

-- the keys that are assigned, each once, in the order of their first assignments
abbrev pub assigned_keys : List Assignment → List Key
assigned_keys [] = []
assigned_keys (a ∷ later) = a.key ∷ filter (λ key. not (same_key a.key key)) (assigned_keys later)

-- what is assigned: the text of each key that has one, and these keys
pub record Assigned : Type 0 where
  pub texts : Key → Option (List ℕ)
  pub keys : List Key

-- what a list of assignments comes to
abbrev pub assigned_in : List Assignment → Assigned
assigned_in assignments = record { texts = last_text assignments; keys = assigned_keys assignments }

-- the text of a name and an index
abbrev pub text_at : Assigned → List ℕ → Option ℕ → Option (List ℕ)
text_at assigned name index = assigned.texts (record { name = name; index = index })

-- the text that a file variable has: an empty one counts as missing
abbrev pub file_text_at : Assigned → List ℕ → Option ℕ → Option (List ℕ)
file_text_at assigned name index = option_and_then (λ text. if is_empty text then None else Some text) (text_at assigned name index)

-- the text that a variable has
abbrev pub text_of : {A : Type 0} → Assigned → Variable A → Option ℕ → Option (List ℕ)
text_of assigned v index = if v.is_file then file_text_at assigned v.name index else text_at assigned v.name index

-- a variable's value, or its fault
unfoldable pub value_of : {A : Type 0} → Assigned → Variable A → Option ℕ → Result A ConfigFault
value_of assigned v index = result_map_both (λ x. x) (λ wrong. wrong v.name (unwrap_or index 0)) (option_map_or v.read (text_of assigned v index) v.missing)
