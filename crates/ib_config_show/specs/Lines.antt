-- Lines that say the value of a variable.
use Rattle.std.specs.Prelude.{ℕ, Bool, List, [], ◌∷◌, ◌++◌, Option, if◌then◌else◌, codes}
use Rattle.std.specs.Option.{option_map_or}
use Rattle.ib_config.specs.Settings.{shown_key}
use Rattle.ib_config_show.specs.Words.{joined}

-- a line NAME=VALUE, or NAME[INDEX]=VALUE, with its line feed
unfoldable pub line : List ℕ → Option ℕ → List ℕ → List ℕ
line name index value = shown_key (record { name = name; index = index }) ++ (61 ∷ value ++ 10 ∷ [])

-- the line of a variable that has a value
unfoldable pub optional_line : List ℕ → Option ℕ → Option (List ℕ) → List ℕ
optional_line name index value = option_map_or (line name index) value []

-- the line of a variable that has groups of words
unfoldable pub groups_line : List ℕ → Option ℕ → List (List ℕ) → List ℕ
groups_line name index [] = []
groups_line name index (group ∷ groups) = line name index (joined (group ∷ groups))

-- a switch: 1 for on, 0 for off
abbrev pub switch : Bool → List ℕ
switch on = if on then codes "1" else codes "0"

-- a name that has no effect
abbrev pub unused_line : List ℕ → List ℕ
unused_line name = codes "unused " ++ name ++ 10 ∷ []
