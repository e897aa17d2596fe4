-- A text word by word: the word that it begins with, and the text from its next word on.
use Rattle.std.specs.Prelude.{ℕ, Bool, not, List, ◌++◌, Option, option_map, ◌==◌}
use Rattle.ib_config.specs.Runs.{run_of, after_run}

-- words are separated by spaces alone
abbrev pub is_space : ℕ → Bool
is_space c = c == 32

-- a byte of a word
abbrev pub not_space : ℕ → Bool
not_space c = not (c == 32)

-- the text from its first word on
abbrev pub from_word : List ℕ → List ℕ
from_word text = after_run is_space text

-- the word that a text begins with
abbrev pub word_at : List ℕ → List ℕ
word_at text = run_of not_space text

-- the text from its next word on
abbrev pub after_word : List ℕ → List ℕ
after_word text = from_word (after_run not_space text)

-- the groups that were read, and those that follow
abbrev pub onto : {A : Type 0} → List A → Option (List A) → Option (List A)
onto read more = option_map (λ later. read ++ later) more
