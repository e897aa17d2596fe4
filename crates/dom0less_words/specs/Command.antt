-- The program's command, as `clap` reads it: ten options, each at most once, and no subcommand.
use Rattle.std.specs.Prelude.{ℕ, Bool, List, [], ◌∷◌, codes, Some, bytes_eq, fold, false}
use Rattle.std.specs.Option.{option_map_or}
use Rattle.clap.specs.Words.{App, Rule, Row, fault_of, first_of, matches_of, new_app, new_rule, with_rule}
use Rattle.clap.specs.Walk.{is_empty}
use Rattle.clap.specs.declared.builder.ArgAction.TheVariants.{SetTrue}
use Rattle.dom0less_words.specs.Words.{Word, Options}

-- an option of one letter with a value, as `-b TREE`
abbrev pub lettered : Word → ℕ → Rule
lettered id letter = record (new_rule id) { short = Some letter; value_names = 1 }

-- an option of a name with a value, as `--show TREE`
abbrev pub named : Word → Rule
named id = record (new_rule id) { long = Some id; value_names = 1 }

-- a flag, as `--script-only`
abbrev pub flag : Word → Rule
flag id = record (new_rule id) { long = Some id; action = Some SetTrue }

-- the options that have a letter: c, r, b, d, w and t
abbrev pub letters : List Rule
letters = lettered (codes "config") 99 ∷ lettered (codes "script") 114 ∷ lettered (codes "tree") 98
    ∷ lettered (codes "files") 100 ∷ lettered (codes "outputs") 119 ∷ lettered (codes "kind") 116 ∷ []

-- the options that have a name
abbrev pub names : List Rule
names = flag (codes "script-only") ∷ flag (codes "check") ∷ named (codes "show") ∷ named (codes "gen") ∷ []

-- the command, which takes each option at most once
abbrev pub command : App
command = fold with_rule (fold with_rule (new_app (codes "dom0less")) letters) names

-- `clap` takes the words, the program's name first: it states no kind of fault of them. A call for help counts as a fault
unfoldable pub is_taken : List Word → Bool
is_taken words = is_empty (fault_of command words)

-- the flag was given: `clap` then has the value `true` for it
abbrev pub is_set : Word → List Row → Bool
is_set id rows = option_map_or (λ value. bytes_eq value (codes "true")) (first_of id rows) false

-- the options in these matches, each by its name in the command
abbrev pub options_in : List Row → Options
options_in rows = record {
  config = first_of (codes "config") rows;
  script = first_of (codes "script") rows;
  tree = first_of (codes "tree") rows;
  files = first_of (codes "files") rows;
  outputs = first_of (codes "outputs") rows;
  kind = first_of (codes "kind") rows;
  script_only = is_set (codes "script-only") rows;
  check = is_set (codes "check") rows;
  show = first_of (codes "show") rows;
  generate = first_of (codes "gen") rows;
}

-- the options that the words give
unfoldable pub options : List Word → Options
options words = options_in (matches_of command words)
