-- How the faults of a configuration are shown.
use Rattle.std.specs.Prelude.{ℕ, ◌-◌, List, [], ◌∷◌, ◌++◌, if◌then◌else◌, codes, decimal, nat_eq, slice_get}
use Rattle.std.specs.List.{starts_with}
use Rattle.std.specs.Option.{option_map_or}
use Rattle.ib_config.specs.Line.{lines_of, body_of, name_of}
use Rattle.ib_config.specs.declared.fault.ConfigFault.{ConfigFault}
use Rattle.ib_config.specs.declared.fault.ConfigFault.TheVariants.{NotUtf8, BadName, BadIndex, OpenQuote, NotPlain, Unsupported, Missing, BadValue, TooMany, Memory}

-- a variable: the index of those that each guest has stands behind the name
abbrev pub variable : List ℕ → ℕ → List ℕ
variable name index = if starts_with nat_eq name (codes "DOMU_") then name ++ (codes "[" ++ decimal index ++ codes "]") else name

-- a fault: its name, and the line, the variable or the count that it is of
abbrev pub fault_text : ConfigFault → List ℕ
fault_text (NotUtf8 line) = codes "NotUtf8 at " ++ decimal line
fault_text (BadName line) = codes "BadName at " ++ decimal line
fault_text (BadIndex line) = codes "BadIndex at " ++ decimal line
fault_text (OpenQuote line) = codes "OpenQuote at " ++ decimal line
fault_text (NotPlain line) = codes "NotPlain at " ++ decimal line
fault_text (Unsupported line) = codes "Unsupported at " ++ decimal line
fault_text (Missing name index) = codes "Missing " ++ variable name index
fault_text (BadValue name index) = codes "BadValue " ++ variable name index
fault_text (TooMany count) = codes "TooMany " ++ decimal count
fault_text Memory = codes "out of memory"

-- the NAME on line n of a file, the first line being 1; no bytes where the file has no such line
abbrev pub name_on_line : List ℕ → ℕ → List ℕ
name_on_line bytes n = option_map_or (λ line. name_of (body_of line)) (slice_get (lines_of bytes) (n - 1)) []

-- a fault of a file: behind that of a name without effect stands the name
abbrev pub named_fault_text : List ℕ → ConfigFault → List ℕ
named_fault_text bytes (Unsupported line) = fault_text (Unsupported line) ++ 32 ∷ name_on_line bytes line
named_fault_text bytes fault = fault_text fault
