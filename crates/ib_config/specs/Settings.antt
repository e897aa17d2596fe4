-- What a configuration says: each variable's value, or the first fault, and the names that have no effect.
use Rattle.std.specs.Prelude.{◌≡◌, ℕ, ◌<◌, ◌^◌, length, Bool, false, not, ◌&&◌, ◌||◌, List, [], ◌∷◌, ◌++◌, map, Some, None, Result, Ok, Err, if◌then◌else◌, codes, decimal, filter, is_some, nat_lt, bytes_eq}
use Rattle.std.specs.List.{list_any}
use Rattle.std.specs.Option.{option_map_or}
use Rattle.texts.specs.Consecutive.{numbers}
use Rattle.ib_config.specs.Line.{lines_of, first_line_fault, assignments_of}
use Rattle.ib_config.specs.Rules.{ports_of}
use Rattle.ib_config.specs.Variables as table
use Rattle.ib_config.specs.Variables.{Assigned, assigned_in, value_of, text_at}
use Rattle.ib_config.specs.declared.assignments.Key.{Key}
use Rattle.ib_config.specs.declared.fault.ConfigFault.{ConfigFault}
use Rattle.ib_config.specs.declared.fault.ConfigFault.TheVariants.{Memory}
use Rattle.ib_config.specs.declared.groups.PortGroup.{PortGroup}
use Rattle.ib_config.specs.declared.guests.Guest.{Guest}
use Rattle.ib_config.specs.declared.settings.Settings.{Settings}

-- what follows a value; a fault is handed on
infixl 10 ◌>>=◌
abbrev pub ◌>>=◌ : {A B : Type 0} → Result A ConfigFault → (A → Result B ConfigFault) → Result B ConfigFault
(Ok x) >>= f = f x
(Err e) >>= f = Err e

-- f of each, or the first fault
abbrev pub each : {A B : Type 0} → (A → Result B ConfigFault) → List A → Result (List B) ConfigFault
each f [] = Ok []
each f (x ∷ xs) = do
  y ← f x
  ys ← each f xs
  Ok (y ∷ ys)

-- whether guest n has static memory
abbrev pub is_static : Assigned → ℕ → Bool
is_static assigned n = is_some (text_at assigned (codes "DOMU_STATIC_MEM") (Some n))

-- the port groups of guest n
abbrev pub ports_at : Assigned → ℕ → List PortGroup
ports_at assigned n = ports_of (text_at assigned (codes "DOMU_EVTCHNS") (Some n))

-- whether guest n is mapped directly, which is read with static memory alone
abbrev pub direct_value : Assigned → Bool → ℕ → Result Bool ConfigFault
direct_value assigned static n = if static then value_of assigned table.DOMU_DIRECT_MAP (Some n) else Ok false

-- the variables of guest n, of so many guests, in the order in which they are tested
unfoldable pub guest_settings : Assigned → ℕ → ℕ → Result Guest ConfigFault
guest_settings assigned guests n = do
  kernel ← value_of assigned table.DOMU_KERNEL (Some n)
  ramdisk ← value_of assigned table.DOMU_RAMDISK (Some n)
  cmd ← value_of assigned table.DOMU_CMD (Some n)
  mem_mib ← value_of assigned (table.DOMU_MEM (is_static assigned n)) (Some n)
  vcpus ← value_of assigned table.DOMU_VCPUS (Some n)
  vpl011 ← value_of assigned table.DOMU_VPL011 (Some n)
  static_mem ← value_of assigned table.DOMU_STATIC_MEM (Some n)
  direct_map ← direct_value assigned (is_static assigned n) n
  passthrough_dtb ← value_of assigned table.DOMU_PASSTHROUGH_DTB (Some n)
  shared_mem ← value_of assigned table.DOMU_SHARED_MEM (Some n)
  evtchns ← value_of assigned (table.DOMU_EVTCHNS (ports_at assigned) guests) (Some n)
  Ok (record {
    kernel = kernel;
    ramdisk = ramdisk;
    cmd = cmd;
    mem_mib = mem_mib;
    vcpus = vcpus;
    vpl011 = vpl011;
    static_mem = static_mem;
    direct_map = direct_map;
    passthrough_dtb = passthrough_dtb;
    shared_mem = shared_mem;
    evtchns = evtchns;
  })

-- whether a name stands in a list of names
unfoldable pub is_one_of : List (List ℕ) → List ℕ → Bool
is_one_of names name = list_any (bytes_eq name) names

-- the variables without index
abbrev pub common_names : List (List ℕ)
common_names = codes "MEMORY_START" ∷ codes "MEMORY_END" ∷ codes "DEVICE_TREE" ∷ codes "XEN" ∷ codes "XEN_CMD" ∷ codes "DOM0_KERNEL" ∷ codes "DOM0_RAMDISK"
    ∷ codes "DOM0_CMD" ∷ codes "NUM_DOMUS" ∷ []

-- the variables that each guest has
abbrev pub guest_names : List (List ℕ)
guest_names = codes "DOMU_KERNEL" ∷ codes "DOMU_RAMDISK" ∷ codes "DOMU_CMD" ∷ codes "DOMU_MEM" ∷ codes "DOMU_VCPUS" ∷ codes "DOMU_VPL011" ∷ codes "DOMU_STATIC_MEM"
    ∷ codes "DOMU_PASSTHROUGH_DTB" ∷ codes "DOMU_SHARED_MEM" ∷ codes "DOMU_EVTCHNS" ∷ []

-- whether a name is tested of guest n, of so many guests; DOMU_DIRECT_MAP is with static memory alone
abbrev pub is_tested_at : Assigned → ℕ → List ℕ → ℕ → Bool
is_tested_at assigned guests name n = nat_lt n guests && (is_one_of guest_names name || (bytes_eq name (codes "DOMU_DIRECT_MAP") && is_static assigned n))

-- whether a key is tested
abbrev pub is_tested : Assigned → ℕ → Key → Bool
is_tested assigned guests key = option_map_or (is_tested_at assigned guests key.name) key.index (is_one_of common_names key.name)

-- a key as messages show it
abbrev pub shown_key : Key → List ℕ
shown_key key = key.name ++ option_map_or (λ n. codes "[" ++ decimal n ++ codes "]") key.index []

-- the assigned names that have no effect, in the order of their first assignments
abbrev pub unused_names : Assigned → ℕ → List (List ℕ)
unused_names assigned guests = map shown_key (filter (λ key. not (is_tested assigned guests key)) assigned.keys)

-- the variables in the order in which they are tested: each value, or the first fault
unfoldable pub settings_of : Assigned → Result Settings ConfigFault
settings_of assigned = do
  memory_start ← value_of assigned table.MEMORY_START None
  memory_end ← value_of assigned table.MEMORY_END None
  device_tree ← value_of assigned table.DEVICE_TREE None
  xen ← value_of assigned table.XEN None
  xen_cmd ← value_of assigned table.XEN_CMD None
  dom0_kernel ← value_of assigned table.DOM0_KERNEL None
  dom0_ramdisk ← value_of assigned table.DOM0_RAMDISK None
  dom0_cmd ← value_of assigned table.DOM0_CMD None
  count ← value_of assigned table.NUM_DOMUS None
  guests ← each (guest_settings assigned count) (numbers 0 count)
  Ok (record {
    memory_start = memory_start;
    memory_end = memory_end;
    device_tree = device_tree;
    xen = xen;
    xen_cmd = xen_cmd;
    dom0_kernel = dom0_kernel;
    dom0_ramdisk = dom0_ramdisk;
    dom0_cmd = dom0_cmd;
    guests = guests;
    unused = unused_names assigned count;
  })

-- what a file says: the first line at fault, else the settings or the first variable at fault
unfoldable pub config_of : List ℕ → Result Settings ConfigFault
config_of bytes = option_map_or Err (first_line_fault 1 (lines_of bytes)) (settings_of (assigned_in (assignments_of bytes)))

-- settings that some file says, of fewer than 2^64 bytes, as each file in memory is
abbrev pub IsConfig : Settings → Type 0
IsConfig settings = (bytes : List ℕ) × (length bytes < 2 ^ 64) × (config_of bytes ≡ Ok settings)

-- What a call answered is what the definition gives, unless memory ran out.
abbrev pub IsFault : {Y : Type 0} → ConfigFault → Result Y ConfigFault → Type 0
IsFault Memory found = Unit {0}
IsFault fault found = found ≡ Err fault

-- the value that the definition gives, or its fault
abbrev pub Gives : {X Y : Type 0} → (X → Y) → Result X ConfigFault → Result Y ConfigFault → Type 0
Gives view (Ok x) found = found ≡ Ok (view x)
Gives view (Err fault) found = IsFault fault found
