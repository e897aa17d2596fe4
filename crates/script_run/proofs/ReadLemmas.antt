-- Lines one after the other, and their commands.
use Rattle.std.proofs.Common.{◌≡◌, ℕ, ◌+◌, Bool, true, false, cond, not, List, [], ◌∷◌, ◌++◌, length, drop, refl, sym, ap, ◌∙◌, arith, map, Ok, Err, Some, None, append_assoc, append-nil}
use Rattle.std.specs.Prelude.{Result, Option, option_and_then, is_none, option_to_list}
use Rattle.std.specs.Option.{option_map_or}
use Rattle.std.specs.List.{list_all}
use Rattle.std.specs.Str.Lines.{strip_carriage_return}
use Rattle.texts.specs.Rows.{first_that_applies}
use Rattle.ib_config.specs.Runs.{after_run}
use Rattle.ib_config.specs.Line.{lines_of, body_of, says_nothing}
use Rattle.ib_config.specs.PrivateScan.{not_feed, line_at, after_line}
use Rattle.ib_script.specs.declared.command.Command.{Command}
use Rattle.script_run.specs.declared.script.LineWhy.TheVariants.{NotPlain, OpenQuote, BadCommand, BadNumber, BadPath}
use Rattle.script_run.specs.declared.script.ScriptFault.{ScriptFault}
use Rattle.script_run.specs.Words.{Word, all_plain, words_of_line}
use Rattle.script_run.specs.Commands.{Form, form_of, command_of, has_paths, words_read}
use Rattle.script_run.specs.declared.script.ScriptFault.TheVariants.{Line, Memory}
use Rattle.script_run.specs.Reading.{IsFault, ◌>>=◌, in_line, line_read, lines_read, commands_of}
use Rattle.script_run.specs.PrivateScan.{checked, form_read, words_steps, rest_read}
use Rattle.ib_config.proofs.AssignLemmas.{parts_after, parts_cut}

-- the two tests of words, and then their form
in_steps : (p c : Bool) (form : Option Form) → option_map_or Err (first_that_applies ((not p, NotPlain) ∷ (not c, OpenQuote) ∷ (is_none form, BadCommand) ∷ (is_none (option_and_then command_of form), BadNumber) ∷ (not (option_map_or has_paths form true), BadPath) ∷ []))
    (option_map_or Ok (option_and_then command_of form) (Err BadCommand)) ≡ (cond (not p) (Err NotPlain) (cond (not c) (Err OpenQuote) (form_read form)))
in_steps false c form = refl
in_steps true false form = refl
in_steps true true None = refl
in_steps true true (Some form) = by (command_of form) (has_paths form)
  where
    by : (o : Option Command) (b : Bool) → option_map_or Err (first_that_applies ((false, NotPlain) ∷ (false, OpenQuote) ∷ (false, BadCommand) ∷ (is_none o, BadNumber) ∷ (not b, BadPath) ∷ []))
        (option_map_or Ok o (Err BadCommand)) ≡ checked b o
    by None b = refl
    by (Some command) true = refl
    by (Some command) false = refl

pub words_read_is : (words : List Word) → words_read words ≡ words_steps words
unfolding words_read words_steps
words_read_is words = in_steps (all_plain words) (list_all (λ (w : Word). w.closed) words) (form_of words)

pub read_silent : (n : ℕ) (line : List ℕ) → says_nothing (body_of line) ≡ true → line_read n line ≡ Ok None
unfolding line_read
read_silent n line s = rw s refl

pub read_words : (n : ℕ) (line : List ℕ) → says_nothing (body_of line) ≡ false → line_read n line ≡ (in_line n (words_steps (words_of_line line)) >>= λ command. Ok (Some command))
unfolding line_read
read_words n line s = rw s (ap (λ r. in_line n r >>= λ command. Ok (Some command)) (words_read_is (words_of_line line)))

pub ruleset line_lemmas = (read_silent, read_words)

-- an empty line says nothing
empty_line : (n : ℕ) → line_read n [] ≡ Ok None
unfolding line_read says_nothing
empty_line n = refl

abbrev no_commands : Result (List Command) ScriptFault
no_commands = Ok []

-- what follows the first line, whether or not a line feed ends it
lines_behind : (n : ℕ) (rest : List ℕ) → lines_read n (map strip_carriage_return (parts_after rest)) ≡ lines_read n (lines_of (drop 1 rest))
unfolding parts_after
lines_behind n [] = sym (ap (λ r. r >>= λ here. no_commands >>= λ later. Ok (option_to_list here ++ later)) (empty_line n))
lines_behind n (x ∷ xs) = refl

abbrev joined_to : List Command → Result (List Command) ScriptFault → Result (List Command) ScriptFault
joined_to done r = r >>= λ later. Ok (done ++ later)

two_steps : (done : List Command) (found : Option Command) (later : Result (List Command) ScriptFault)
    → joined_to done (later >>= λ l. Ok (option_to_list found ++ l)) ≡ joined_to (done ++ option_to_list found) later
two_steps done found (Ok l) = ap (λ cs. Ok cs) (sym (append_assoc done (option_to_list found) l))
two_steps done found (Err e) = refl

-- one line, and then the others
one_line : (done : List Command) (n : ℕ) (rest : List ℕ) → rest_read done n (lines_of rest)
    ≡ joined_to done (line_read n (line_at rest) >>= λ here. lines_read (n + 1) (lines_of (after_line rest)) >>= λ later. Ok (option_to_list here ++ later))
unfolding rest_read
one_line done n rest =
    ap (λ ps. joined_to done (lines_read n (map strip_carriage_return ps))) (parts_cut rest)
    ∙ ap (λ ls. joined_to done (line_read n (line_at rest) >>= λ here. ls >>= λ later. Ok (option_to_list here ++ later))) (lines_behind (n + 1) (after_run not_feed rest))

pub read_start : (bytes : List ℕ) (done : List Command) → done ≡ [] → commands_of bytes ≡ rest_read done 1 (lines_of bytes)
unfolding commands_of rest_read
read_start bytes done none = rw none (by (lines_read 1 (lines_of bytes)))
  where
    by : (r : Result (List Command) ScriptFault) → r ≡ joined_to [] r
    by (Ok cs) = refl
    by (Err e) = refl

pub read_on : (all : Result (List Command) ScriptFault) (done new : List Command) (n : ℕ) (rest line more : List ℕ) (found : Option Command) → all ≡ rest_read done n (lines_of rest)
    → line ≡ line_at rest → more ≡ after_line rest → line_read n line ≡ Ok found → new ≡ done ++ option_to_list found → all ≡ rest_read new (n + 1) (lines_of more)
unfolding rest_read
read_on all done new n rest line more found same l m f w =
    same ∙ (one_line done n rest ∙ rw (sym l, sym m, f, w) (two_steps done found (lines_read (n + 1) (lines_of more))))

pub read_bad : (all : Result (List Command) ScriptFault) (done : List Command) (n : ℕ) (rest line : List ℕ) (e : ScriptFault) → all ≡ rest_read done n (lines_of rest) → line ≡ line_at rest
    → line_read n line ≡ Err e → all ≡ Err e
read_bad all done n rest line e same l f = same ∙ (one_line done n rest ∙ rw (sym l, f) refl)

pub read_end : (all : Result (List Command) ScriptFault) (done : List Command) (n : ℕ) (rest : List ℕ) → all ≡ rest_read done n (lines_of rest) → length rest ≡ 0 → all ≡ Ok done
unfolding rest_read
read_end all done n [] same none = same ∙ (ap (λ r. joined_to done (r >>= λ here. no_commands >>= λ later. Ok (option_to_list here ++ later))) (empty_line n) ∙ ap (λ cs. Ok cs) (append-nil done))
read_end all done n (x ∷ xs) same none = absurd (omega arith)

-- a call's fault is the definition's
pub gives_bad : (all : Result (List Command) ScriptFault) (done : List Command) (n : ℕ) (rest line : List ℕ) (fault : ScriptFault) → all ≡ rest_read done n (lines_of rest) → line ≡ line_at rest
    → IsFault fault (line_read n line) → IsFault fault all
gives_bad all done n rest line (Line k why) same l f = read_bad all done n rest line (Line k why) same l f
gives_bad all done n rest line Memory same l f = tt
