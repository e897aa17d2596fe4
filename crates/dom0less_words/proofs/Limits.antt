-- A tree is generated for a number up to the limit alone.
use Rattle.std.proofs.Common.{◌≡◌, refl, arith, ℕ, ◌≤◌, Bool, true, false, Some, None, Ok, Err}
use Rattle.std.specs.Prelude.{Option, Result, nat_le, if◌then◌else◌, is_none, ◌&&◌, option_and_then}
use Rattle.std.proofs.lemmas.Bool.Decides.{nat_tests}
use Rattle.texts.specs.NumberTexts.{number_of}
use Rattle.texts.specs.declared.number.NumberFault.{NumberFault}
use Rattle.ib_script.specs.declared.make.LoadKind.{LoadKind}
use Rattle.dom0less_words.specs.Words.{Word, Asked, Options, Script, Show, Generate, Source, Config, Replay, Ready}
use Rattle.dom0less_words.specs.Usage.{Mode, OfConfig, OfReplay, OfReady, OfShow, OfGenerate, asked_of, built_or_checked, has_no_script_options, load_kind_of, mode_of, of_config, of_mode, stands_alone, within}

-- what is asked for is the build of a generated tree for such a number alone
abbrev IsWithin : Option Asked → Type 0
IsWithin asked = (number : ℕ) → asked ≡ Some (Generate number) → number ≤ 1000000

-- nothing is asked for
nothing : IsWithin None
nothing number is = absurd (cc)

-- a build or an audit
built : (check : Bool) (source : Source) (folder : Option Word) → IsWithin (Some (built_or_checked check source folder))
built true source folder number is = absurd (cc)
built false source folder number is = absurd (cc)

-- another thing, or nothing
built_or_nothing : (test check : Bool) (source : Source) (folder : Option Word) → IsWithin (if test then Some (built_or_checked check source folder) else None)
built_or_nothing true check source folder = built check source folder
built_or_nothing false check source folder = nothing

listing_or_nothing : (test : Bool) (tree : Word) → IsWithin (if test then Some (Show tree) else None)
listing_or_nothing true tree number is = absurd (cc)
listing_or_nothing false tree number is = absurd (cc)

-- a number that was read, where the other options may stand with it
generated : (alone : Bool) (n : ℕ) (low : Bool) → nat_le n 1000000 ≡ low → IsWithin (option_and_then (λ m. if alone then Some (Generate m) else None) (if low then Some n else None))
generated true n true test number is = let same : n ≡ number = cc in grind (arith, nat_tests)
generated false n true test number is = absurd (cc)
generated alone n false test number is = absurd (cc)

read : (alone : Bool) (number : Result ℕ NumberFault) → IsWithin (option_and_then (λ m. if alone then Some (Generate m) else None) (within number))
read alone (Ok n) = generated alone n (nat_le n 1000000) refl
read alone (Err fault) = nothing

-- a configuration asks for a build, an audit or a script
configured : (o : Options) (config : Word) (kind : Option LoadKind) → IsWithin (option_and_then (of_config o config) kind)
configured o config None = nothing
configured o config (Some kind) = by o.script_only o.check
  where
    by : (alone check : Bool) → IsWithin (if alone then (if check then None else Some (Script (record { config = config; files = o.files; outputs = o.outputs; kind = kind }))) else Some (built_or_checked check (Config config o.files kind) o.outputs))
    by true true number is = absurd (cc)
    by true false number is = absurd (cc)
    by false check number is = built check (Config config o.files kind) o.outputs number is

in_mode : (o : Options) (mode : Mode) → IsWithin (of_mode o mode)
in_mode o (OfConfig config) = configured o config (load_kind_of o.kind)
in_mode o (OfReplay script tree) = built_or_nothing (has_no_script_options o) o.check (Replay script tree o.files) o.outputs
in_mode o (OfReady tree) = built_or_nothing (is_none o.files && has_no_script_options o) o.check (Ready tree) o.outputs
in_mode o (OfShow tree) = listing_or_nothing (stands_alone o) tree
in_mode o (OfGenerate word) = read (stands_alone o) (number_of word)

-- so it is for all options
pub options_within : (o : Options) (number : ℕ) → asked_of o ≡ Some (Generate number) → number ≤ 1000000
options_within o = by (mode_of o)
  where
    by : (mode : Option Mode) → IsWithin (option_and_then (of_mode o) mode)
    by None = nothing
    by (Some mode) = in_mode o mode
