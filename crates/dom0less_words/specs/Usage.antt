-- The rules of usage: which options may stand together, and what they ask for.
use Rattle.std.specs.Prelude.{ℕ, ◌&&◌, Bool, not, if◌then◌else◌, nat_le, bytes_eq, codes, Option, Some, None, is_none, Result, Ok, Err, option_and_then}
use Rattle.texts.specs.NumberTexts.{number_of}
use Rattle.texts.specs.declared.number.NumberFault.{NumberFault}
use Rattle.ib_script.specs.declared.make.LoadKind.{LoadKind}
use Rattle.ib_script.specs.declared.make.LoadKind.TheVariants.{Tftp, Sd, Scsi, Usb}
use Rattle.dom0less_words.specs.Words.{Word, Source, Config, Replay, Ready, Asked, Build, Check, Script, Show, Generate, Options}

-- the five modes, each with the words that stand with it
pub data Mode : Type 0 where
  OfConfig : Word → Mode
  OfReplay : Word → Word → Mode
  OfReady : Word → Mode
  OfShow : Word → Mode
  OfGenerate : Word → Mode

-- which of them is given, where it is exactly one: `-c`, `-r` with `-b`, `-b` alone, `--show`, `--gen`
abbrev pub mode_by : Option Word → Option Word → Option Word → Option Word → Option Word → Option Mode
mode_by (Some config) None None None None = Some (OfConfig config)
mode_by None (Some script) (Some tree) None None = Some (OfReplay script tree)
mode_by None None (Some tree) None None = Some (OfReady tree)
mode_by None None None (Some tree) None = Some (OfShow tree)
mode_by None None None None (Some number) = Some (OfGenerate number)
mode_by _ _ _ _ _ = None

-- the mode of the options, where exactly one is given
abbrev pub mode_of : Options → Option Mode
mode_of o = mode_by o.config o.script o.tree o.show o.generate

-- where the script loads files from: one of four words, and `tftp` where none is given
abbrev pub load_kind_of : Option Word → Option LoadKind
load_kind_of None = Some Tftp
load_kind_of (Some word) = if bytes_eq word (codes "tftp") then Some Tftp
    else (if bytes_eq word (codes "sd") then Some Sd
    else (if bytes_eq word (codes "scsi") then Some Scsi
    else (if bytes_eq word (codes "usb") then Some Usb else None)))

-- the greatest number that a tree is generated for
abbrev pub generated_limit : ℕ
generated_limit = 1000000

-- a number that was read, where it is within the limit
abbrev pub within : Result ℕ NumberFault → Option ℕ
within (Ok number) = if nat_le number generated_limit then Some number else None
within (Err fault) = None

-- the number that a word says, decimal or hexadecimal, where it is within the limit
abbrev pub generated_of : Word → Option ℕ
generated_of word = within (number_of word)

-- neither `-t` nor `--script-only` is given
abbrev pub has_no_script_options : Options → Bool
has_no_script_options o = is_none o.kind && not o.script_only

-- none of `-d`, `-w` and `--check` is given either
abbrev pub stands_alone : Options → Bool
stands_alone o = is_none o.files && (is_none o.outputs && (not o.check && has_no_script_options o))

-- the audit of a build's images, where `--check` is given, or else the build
abbrev pub built_or_checked : Bool → Source → Option Word → Asked
built_or_checked check source folder = if check then Check source folder else Build source folder

-- a configuration's script alone, of which there is no audit, or the build from it or the audit of that
abbrev pub of_config : Options → Word → LoadKind → Option Asked
of_config o config kind =
    if o.script_only
    then (if o.check then None else Some (Script (record { config = config; files = o.files; outputs = o.outputs; kind = kind })))
    else Some (built_or_checked o.check (Config config o.files kind) o.outputs)

-- what a mode and the other options ask for, where these may stand with it
abbrev pub of_mode : Options → Mode → Option Asked
of_mode o (OfConfig config) = option_and_then (of_config o config) (load_kind_of o.kind)
of_mode o (OfReplay script tree) = if has_no_script_options o then Some (built_or_checked o.check (Replay script tree o.files) o.outputs) else None
of_mode o (OfReady tree) = if is_none o.files && has_no_script_options o then Some (built_or_checked o.check (Ready tree) o.outputs) else None
of_mode o (OfShow tree) = if stands_alone o then Some (Show tree) else None
of_mode o (OfGenerate word) = option_and_then (λ number. if stands_alone o then Some (Generate number) else None) (generated_of word)

-- what the options ask for: nothing where they are not exactly one mode, or other options stand with it that may not
abbrev pub asked_of : Options → Option Asked
asked_of o = option_and_then (of_mode o) (mode_of o)
