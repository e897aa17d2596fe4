-- Words that are named by strings.
use Rattle.std.proofs.Common.{◌≡◌, ◌∙◌, ap, refl, ℕ, ◌+◌, ◌-◌, ◌*◌, ◌^◌, ◌<◌, ◌≤◌, ◌==◌, min, length, List, [], ◌∷◌, true, Option, Some, None, option_map, take, arith}
use Rattle.std.specs.Prelude.{option_and_then, is_some, MatchOption}
use Rattle.std.specs.List.{slice_split}
use Rattle.std.proofs.lemmas.List.Splits.{length-slice_split}
use Rattle.fdt_tree.specs.Tree.{Bytes, Tree, cell}
use Rattle.overlaid_trees.specs.Turns.{all}
use Rattle.indexed_tree.specs.Words.{with_word}
use Rattle.overlaid_trees.specs.Words.{word_at, replaced}
use Rattle.overlaid_trees.specs.Resolve.{Spot, decimal_of, spot_of_parts, spot_of, ended, strings_of, with_spot, with_string, with_strings}
use Rattle.overlaid_trees.proofs.LocalLemmas.{drop-past}

-- a number that is held down to the greatest, at each step
pub held-down : (v d most : ℕ) → min (min (min v most * 10) most + d) most ≡ min (v * 10 + d) most
held-down v d most = omega arith

-- one part
pub one-part : (string : Bytes) → slice_split (λ b. b == 58) string ≡ string ∷ [] → spot_of string ≡ None
one-part string is = ap spot_of_parts is ∙ by string
  where
    by : (a : Bytes) → spot_of_parts (a ∷ []) ≡ None
    by [] = refl
    by (x ∷ a) = refl

-- two parts
pub two-parts : (string path rest : Bytes) → slice_split (λ b. b == 58) string ≡ path ∷ slice_split (λ b. b == 58) rest → slice_split (λ b. b == 58) rest ≡ rest ∷ [] → spot_of string ≡ None
two-parts string path rest is next = ap spot_of_parts (is ∙ ap (λ parts. path ∷ parts) next) ∙ by path rest
  where
    by : (a b : Bytes) → spot_of_parts (a ∷ b ∷ []) ≡ None
    by [] b = refl
    by (x ∷ a) [] = refl
    by (x ∷ a) (y ∷ b) = refl

-- the parts of a string with two marks at least
three : (string path rest name digits : Bytes) → slice_split (λ b. b == 58) string ≡ path ∷ slice_split (λ b. b == 58) rest → slice_split (λ b. b == 58) rest ≡ name ∷ slice_split (λ b. b == 58) digits → spot_of string ≡ spot_of_parts (path ∷ name ∷ slice_split (λ b. b == 58) digits)
three string path rest name digits is next = ap spot_of_parts (is ∙ ap (λ parts. path ∷ parts) next)

-- what is known of a value that is there
pub match-some : {A : Type 0} (o : Option A) (P : Type 0) (Q : A → Type 0) → is_some o ≡ true → MatchOption o P Q → (x : A) × Q x
match-some None P Q there known = absurd (cc)
match-some (Some x) P Q there known = (x, known)

-- more than three parts
pub more-parts : (string path rest name digits first later : Bytes) → slice_split (λ b. b == 58) string ≡ path ∷ slice_split (λ b. b == 58) rest → slice_split (λ b. b == 58) rest ≡ name ∷ slice_split (λ b. b == 58) digits → slice_split (λ b. b == 58) digits ≡ first ∷ slice_split (λ b. b == 58) later → spot_of string ≡ None
more-parts string path rest name digits first later is next last =
    three string path rest name digits is next ∙ (ap (λ parts. spot_of_parts (path ∷ name ∷ parts)) last ∙ by path name first (slice_split (λ b. b == 58) later) (omega (arith, length-slice_split (λ (b : ℕ). b == 58) later)))
  where
    by : (a b c : Bytes) (parts : List Bytes) → 0 < length parts → spot_of_parts (a ∷ b ∷ c ∷ parts) ≡ None
    by a b c [] some = absurd (omega arith)
    by [] b c (d ∷ parts) some = refl
    by (x ∷ a) [] c (d ∷ parts) some = refl
    by (x ∷ a) (y ∷ b) [] (d ∷ parts) some = refl
    by (x ∷ a) (y ∷ b) (z ∷ c) (d ∷ parts) some = refl

-- the word that a path, a name and digits say
abbrev pub spot_said : Bytes → Bytes → Bytes → Option Spot
spot_said path name digits = option_map (λ offset. record { path = path; name = name; offset = offset }) (decimal_of digits)

-- three parts
module _ (string path rest name digits : Bytes) (is : slice_split (λ b. b == 58) string ≡ path ∷ slice_split (λ b. b == 58) rest) (next : slice_split (λ b. b == 58) rest ≡ name ∷ slice_split (λ b. b == 58) digits) (last : slice_split (λ b. b == 58) digits ≡ digits ∷ []) where
  from-parts : spot_of string ≡ spot_of_parts (path ∷ name ∷ digits ∷ [])
  from-parts = three string path rest name digits is next ∙ ap (λ parts. spot_of_parts (path ∷ name ∷ parts)) last

  -- the path is empty
  pub no-path : length path ≡ 0 → spot_of string ≡ None
  no-path empty = from-parts ∙ by path name digits empty
    where
      by : (a b c : Bytes) → length a ≡ 0 → spot_of_parts (a ∷ b ∷ c ∷ []) ≡ None
      by [] b c empty = refl
      by (x ∷ a) b c empty = absurd (omega arith)

  -- the name is empty
  pub no-name : length name ≡ 0 → spot_of string ≡ None
  no-name empty = from-parts ∙ by path name digits empty
    where
      by : (a b c : Bytes) → length b ≡ 0 → spot_of_parts (a ∷ b ∷ c ∷ []) ≡ None
      by [] b c empty = refl
      by (x ∷ a) [] c empty = refl
      by (x ∷ a) (y ∷ b) c empty = absurd (omega arith)

  -- there is no digit
  pub no-digits : length digits ≡ 0 → spot_of string ≡ None
  no-digits empty = from-parts ∙ by path name digits empty
    where
      by : (a b c : Bytes) → length c ≡ 0 → spot_of_parts (a ∷ b ∷ c ∷ []) ≡ None
      by [] b c empty = refl
      by (x ∷ a) [] c empty = refl
      by (x ∷ a) (y ∷ b) [] empty = refl
      by (x ∷ a) (y ∷ b) (z ∷ c) empty = absurd (omega arith)

  -- no part is empty
  pub three-parts : 0 < length path → 0 < length name → 0 < length digits → spot_of string ≡ spot_said path name digits
  three-parts one two three = from-parts ∙ by path name digits one two three
    where
      by : (a b c : Bytes) → 0 < length a → 0 < length b → 0 < length c → spot_of_parts (a ∷ b ∷ c ∷ []) ≡ spot_said a b c
      by [] b c one two three = absurd (omega arith)
      by (x ∷ a) [] c one two three = absurd (omega arith)
      by (x ∷ a) (y ∷ b) [] one two three = absurd (omega arith)
      by (x ∷ a) (y ∷ b) (z ∷ c) one two three = refl

-- no word lies behind the end
word-past : (bytes : Bytes) (offset : ℕ) → length bytes ≤ offset → word_at bytes offset ≡ None
word-past bytes offset past = ap (λ rest. cell (take 4 rest)) (drop-past bytes offset past)

-- so none is put there
pub replaced-past : (number : ℕ) (bytes : Bytes) (offset wanted most : ℕ) → offset ≡ min wanted most → length bytes ≤ offset → replaced number bytes wanted ≡ None
replaced-past number bytes offset wanted most is past =
    let far : length bytes ≤ wanted = omega arith in ap (option_map (λ _. with_word bytes wanted number)) (word-past bytes wanted far)

-- an offset below a length is the one that is wanted
pub replaced-within : (number : ℕ) (bytes : Bytes) (offset wanted most : ℕ) → offset ≡ min wanted most → offset < length bytes → length bytes ≤ most → replaced number bytes wanted ≡ replaced number bytes offset
replaced-within number bytes offset wanted most is within small =
    let same : wanted ≡ offset = omega arith in ap (replaced number bytes) same

-- the word that a string names, by an offset that is held down
pub record IsSaid (number : ℕ) (whole : Tree) (string path name : Bytes) (offset : ℕ) : Type 0 where
  pub wanted : ℕ
  pub held : offset ≡ min wanted (2 ^ 64 - 1)
  pub is : with_string number whole string ≡ with_spot number whole (record { path = path; name = name; offset = wanted })

pub said : (number : ℕ) (whole : Tree) (string path name digits : Bytes) (offset : ℕ) → spot_of string ≡ spot_said path name digits → Some offset ≡ option_map (λ n. min n (2 ^ 64 - 1)) (decimal_of digits) → IsSaid number whole string path name offset
said number whole string path name digits offset spot is = by (decimal_of digits) spot is
  where
    by : (o : Option ℕ) → spot_of string ≡ option_map (λ offset. record { path = path; name = name; offset = offset }) o → Some offset ≡ option_map (λ n. min n (2 ^ 64 - 1)) o → IsSaid number whole string path name offset
    by None spot is = absurd (cc)
    by (Some wanted) spot is = record { wanted = wanted; held = cc; is = ap (option_and_then (with_spot number whole)) spot }

-- a string that names no word
pub unsaid : (number : ℕ) (whole : Tree) (string : Bytes) → spot_of string ≡ None → with_string number whole string ≡ None
unsaid number whole string is = ap (option_and_then (with_spot number whole)) is

-- digits that are none
pub undecimal : (number : ℕ) (whole : Tree) (string path name digits : Bytes) → spot_of string ≡ spot_said path name digits → None ≡ option_map (λ n. min n (2 ^ 64 - 1)) (decimal_of digits) → with_string number whole string ≡ None
undecimal number whole string path name digits spot is = unsaid number whole string (spot ∙ by (decimal_of digits) is)
  where
    by : (o : Option ℕ) → None ≡ option_map (λ n. min n (2 ^ 64 - 1)) o → option_map {U = Spot} (λ offset. record { path = path; name = name; offset = offset }) o ≡ None
    by None is = refl
    by (Some n) is = absurd (cc)

ended-cons : (string : Bytes) (strings : List Bytes) → 0 < length strings → ended (string ∷ strings) ≡ option_map (λ later. string ∷ later) (ended strings)
ended-cons string [] some = absurd (omega arith)
ended-cons string (next ∷ strings) some = refl

-- a string, and then those after it
cut-strings : (rest string after : Bytes) → slice_split (λ b. b == 0) rest ≡ string ∷ slice_split (λ b. b == 0) after → strings_of rest ≡ option_map (λ later. string ∷ later) (strings_of after)
cut-strings rest string after is =
    ap ended is ∙ ended-cons string (slice_split (λ b. b == 0) after) (omega (arith, length-slice_split (λ (b : ℕ). b == 0) after))

-- one string more is done
pub strings-next : (number : ℕ) (whole next : Tree) (rest string after : Bytes) → slice_split (λ b. b == 0) rest ≡ string ∷ slice_split (λ b. b == 0) after → with_string number whole string ≡ Some next → with_strings number whole rest ≡ with_strings number next after
strings-next number whole next rest string after is done =
    ap (option_and_then (all (with_string number) whole)) (cut-strings rest string after is) ∙ by (strings_of after)
  where
    by : (o : Option (List Bytes)) → option_and_then (all (with_string number) whole) (option_map (λ later. string ∷ later) o) ≡ option_and_then (all (with_string number) next) o
    by None = refl
    by (Some strings) = ap (λ o. elim o [ Some state ↦ all (with_string number) state strings | None ↦ None ]) done

-- a string is at fault
pub strings-stop : (number : ℕ) (whole : Tree) (rest string after : Bytes) → slice_split (λ b. b == 0) rest ≡ string ∷ slice_split (λ b. b == 0) after → with_string number whole string ≡ None → with_strings number whole rest ≡ None
strings-stop number whole rest string after is fault =
    ap (option_and_then (all (with_string number) whole)) (cut-strings rest string after is) ∙ by (strings_of after)
  where
    by : (o : Option (List Bytes)) → option_and_then (all (with_string number) whole) (option_map (λ later. string ∷ later) o) ≡ None
    by None = refl
    by (Some strings) = ap (λ o. elim o [ Some state ↦ all (with_string number) state strings | None ↦ None ]) fault

-- no string is left
pub strings-end : (number : ℕ) (whole : Tree) (rest : Bytes) → length rest ≡ 0 → with_strings number whole rest ≡ Some whole
strings-end number whole [] empty = refl
strings-end number whole (b ∷ rest) empty = absurd (omega arith)

-- a rest is left that no NUL ends
pub strings-left : (number : ℕ) (whole : Tree) (rest : Bytes) → slice_split (λ b. b == 0) rest ≡ rest ∷ [] → 0 < length rest → with_strings number whole rest ≡ None
strings-left number whole rest is some = ap (λ parts. option_and_then (all (with_string number) whole) (ended parts)) is ∙ by rest some
  where
    by : (rest : Bytes) → 0 < length rest → option_and_then (all (with_string number) whole) (ended (rest ∷ [])) ≡ None
    by [] some = absurd (omega arith)
    by (b ∷ rest) some = refl
