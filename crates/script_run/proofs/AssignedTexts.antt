-- The texts that a file assigns to variables have plain characters alone, and none is longer than the file.
use Rattle.std.proofs.Common.{◌≡◌, ℕ, zero, suc, ◌+◌, ◌-◌, ◌≤◌, ◌==◌, Bool, true, false, cond, not, ◌&&◌, List, [], ◌∷◌, map, drop, take, Option, Some, None, length, refl, subst, arith, length-drop}
use Rattle.std.specs.Prelude.{slice_index, option_and_then}
use Rattle.std.specs.Option.{option_or}
use Rattle.std.specs.List.{list_all, slice_split, onto_first, filter_map, cons_option}
use Rattle.std.specs.Str.{is_utf8}
use Rattle.std.specs.Str.Lines.{strip_carriage_return}
use Rattle.std.proofs.lemmas.Bool.{and_parts}
use Rattle.texts.specs.Rows.{first_that_applies}
use Rattle.ib_config.specs.Runs.{run_of, after_run, is_empty}
use Rattle.ib_config.specs.Line.{lines_of, is_plain, is_bare, body_of, says_nothing, has_name, has_index, is_open, after_name, is_digit, is_blank, is_name_byte, after_index, value_part, has_bracket, is_quoted, quote_of, until, not_blank, value_of_part, tail_of_part, is_tail, is_plain_part, body_faults, line_fault, Assignment, assigned_by, assignment_of, first_line_fault, assignments_of}
use Rattle.ib_config.specs.Variables.{Assigned, Variable, assigned_in, same_key, text_at, file_text_at, text_of}
use Rattle.ib_config.specs.declared.fault.ConfigFault.{ConfigFault}
use Rattle.ib_config.specs.declared.fault.ConfigFault.TheVariants.{NotUtf8, BadName, BadIndex, OpenQuote, NotPlain}
use Rattle.script_run.proofs.CommandLemmas.{weaker}

-- a text of plain characters, of at most so many bytes
pub record IsText (limit : ℕ) (text : List ℕ) : Type 0 where
  pub plain : list_all is_plain text ≡ true
  pub short : length text ≤ limit

-- No part of a line is longer than the line.
run_short : (p : ℕ → Bool) (xs : List ℕ) → length (run_of p xs) ≤ length xs
run_short p [] = omega arith
run_short p (x ∷ xs) = by (p x) (run_short p xs)
  where
    by : (b : Bool) → length (run_of p xs) ≤ length xs → length (cond b (x ∷ run_of p xs) []) ≤ suc (length xs)
    by true h = omega arith
    by false h = omega arith

rest_short : (p : ℕ → Bool) (xs : List ℕ) → length (after_run p xs) ≤ length xs
rest_short p [] = omega arith
rest_short p (x ∷ xs) = by (p x) (rest_short p xs)
  where
    by : (b : Bool) → length (after_run p xs) ≤ length xs → length (cond b (after_run p xs) (x ∷ xs)) ≤ suc (length xs)
    by true h = omega arith
    by false h = omega arith

drop_short : (k : ℕ) (xs : List ℕ) → length (drop k xs) ≤ length xs
drop_short k xs = omega (arith, length-drop k xs)

take_short : (k : ℕ) (xs : List ℕ) → length (take k xs) ≤ length xs
take_short zero xs = omega arith
take_short (suc k) [] = omega arith
take_short (suc k) (x ∷ xs) = omega (arith, take_short k xs)

strip_short : (xs : List ℕ) → length (strip_carriage_return xs) ≤ length xs
strip_short xs = by (slice_index xs (length xs - 1) == 13)
  where
    by : (b : Bool) → length (cond b (take (length xs - 1) xs) xs) ≤ length xs
    by true = take_short (length xs - 1) xs
    by false = omega arith

value_short : (part : List ℕ) → length (value_of_part part) ≤ length part
value_short part = by (is_quoted part)
  where
    by : (b : Bool) → length (cond b (run_of (until (quote_of part)) (drop 1 part)) (run_of not_blank part)) ≤ length part
    by true = omega (arith, run_short (until (quote_of part)) (drop 1 part), drop_short 1 part)
    by false = run_short not_blank part

part_short : (after : List ℕ) → length (value_part after) ≤ length after
part_short after = by (has_bracket after)
  where
    by : (b : Bool) → length (cond b (drop 2 (after_index after)) (drop 1 after)) ≤ length after
    by true = omega (arith, drop_short 2 (after_index after), rest_short is_digit (drop 1 after), drop_short 1 after)
    by false = drop_short 1 after

-- The lines of a file.
abbrev AreShort : ℕ → List (List ℕ) → Type 0
AreShort limit [] = Unit {0}
AreShort limit (l ∷ ls) = (length l ≤ limit) × AreShort limit ls

AreShort-more : (n m : ℕ) (ls : List (List ℕ)) → n ≤ m → AreShort n ls → AreShort m ls
AreShort-more n m [] h a = tt
AreShort-more n m (l ∷ ls) h a = (omega (arith, a.0), AreShort-more n m ls h a.1)

split_short : (p : ℕ → Bool) (xs : List ℕ) → AreShort (length xs) (slice_split p xs)
split_short p [] = (omega arith, tt)
split_short p (x ∷ xs) = by (p x) (slice_split p xs) (split_short p xs)
  where
    by : (b : Bool) (ls : List (List ℕ)) → AreShort (length xs) ls → AreShort (suc (length xs)) (cond b ([] ∷ ls) (onto_first x ls))
    by true ls a = (omega arith, AreShort-more (length xs) (suc (length xs)) ls (omega arith) a)
    by false [] a = (omega arith, tt)
    by false (l ∷ ls) a = (omega (arith, a.0), AreShort-more (length xs) (suc (length xs)) ls (omega arith) a.1)

lines_short : (bytes : List ℕ) → AreShort (length bytes) (lines_of bytes)
lines_short bytes = by (slice_split (λ c. c == 10) bytes) (split_short (λ c. c == 10) bytes)
  where
    by : (ls : List (List ℕ)) → AreShort (length bytes) ls → AreShort (length bytes) (map strip_carriage_return ls)
    by [] a = tt
    by (l ∷ ls) a = (omega (arith, strip_short l, a.0), by ls a.1)

-- A line without fault assigns a plain text.
passed : {F : Type 0} (b : Bool) (fault : F) (o : Option F) → cond b (Some fault) o ≡ None → (b ≡ false) × (o ≡ None)
passed true fault o e = cc
passed false fault o e = (refl, e)

bare_plain : (c : ℕ) → is_bare c ≡ true → is_plain c ≡ true
unfolding is_bare
bare_plain c h = (and_parts (is_plain c) _ h).0

plain_value : (b : Bool) (text : List ℕ) → list_all (cond b is_plain is_bare) text ≡ true → list_all is_plain text ≡ true
plain_value true text h = h
plain_value false text h = weaker is_bare is_plain bare_plain text h

holds : (b : Bool) → not b ≡ false → b ≡ true
holds true e = refl
holds false e = cc

body_text : (n : ℕ) (body : List ℕ) → first_that_applies (body_faults n body) ≡ None → list_all is_plain (value_of_part (value_part (after_name body))) ≡ true
body_text n body none =
    let faults = body_faults n body in
    let part = value_part (after_name body) in
    let name = passed (not (has_name body)) (BadName n) (first_that_applies (drop 1 faults)) none in
    let index = passed (has_bracket (after_name body) && not (has_index (after_name body))) (BadIndex n) (first_that_applies (drop 2 faults)) name.1 in
    let quote = passed (is_open part) (OpenQuote n) (first_that_applies (drop 3 faults)) index.1 in
    let plain = passed (not (is_plain_part part)) (NotPlain n) (first_that_applies (drop 4 faults)) quote.1 in
    plain_value (is_quoted part) (value_of_part part) (and_parts (list_all (cond (is_quoted part) is_plain is_bare) (value_of_part part)) (is_tail (tail_of_part part)) (holds (is_plain_part part) plain.0)).0

line_text : (limit n : ℕ) (line : List ℕ) (a : Assignment) → line_fault n line ≡ None → length line ≤ limit → assignment_of line ≡ Some a → IsText limit a.text
unfolding line_fault assignment_of
line_text limit n line a none short is = by (says_nothing (body_of line)) (passed (not (is_utf8 line)) (NotUtf8 n) (first_that_applies (cond (says_nothing (body_of line)) [] (body_faults n (body_of line)))) none).1 is
  where
    by : (b : Bool) → first_that_applies (cond b [] (body_faults n (body_of line))) ≡ None → cond b None (Some (assigned_by (body_of line))) ≡ Some a → IsText limit a.text
    by true f e = cc
    by false f e =
        let same : assigned_by (body_of line) ≡ a = cc in
        subst (λ (z : Assignment). IsText limit z.text) same (record {
          plain = body_text n (body_of line) f;
          short = omega (arith, short, value_short (value_part (after_name (body_of line))), part_short (after_name (body_of line)), rest_short is_name_byte (body_of line), rest_short is_blank line);
        })

-- All assignments of a file without faulty lines.
abbrev pub AreTexts : ℕ → List Assignment → Type 0
AreTexts limit [] = Unit {0}
AreTexts limit (a ∷ given) = IsText limit a.text × AreTexts limit given

or_none : (o p : Option ConfigFault) → option_or o p ≡ None → (o ≡ None) × (p ≡ None)
or_none None p e = (refl, e)
or_none (Some x) p e = cc

lines_texts : (limit n : ℕ) (ls : List (List ℕ)) → first_line_fault n ls ≡ None → AreShort limit ls → AreTexts limit (filter_map assignment_of ls)
lines_texts limit n [] none short = tt
lines_texts limit n (l ∷ ls) none short =
    let k = or_none (line_fault n l) (first_line_fault (n + 1) ls) none in
    by (assignment_of l) (λ a is. line_text limit n l a k.0 short.0 is) (lines_texts limit (n + 1) ls k.1 short.1)
  where
    by : (o : Option Assignment) → ((a : Assignment) → o ≡ Some a → IsText limit a.text) → AreTexts limit (filter_map assignment_of ls) → AreTexts limit (cons_option o (filter_map assignment_of ls))
    by None one others = others
    by (Some a) one others = (one a refl, others)

pub file_texts : (bytes : List ℕ) → first_line_fault 1 (lines_of bytes) ≡ None → AreTexts (length bytes) (assignments_of bytes)
unfolding assignments_of
file_texts bytes none = lines_texts (length bytes) 1 (lines_of bytes) none (lines_short bytes)

-- what is assigned to a name and an index
pub Holds : ℕ → Assigned → Type 0
Holds limit assigned = (name : List ℕ) (index : Option ℕ) (text : List ℕ) → text_at assigned name index ≡ Some text → IsText limit text

last_is : (limit : ℕ) (given : List Assignment) → AreTexts limit given → (name : List ℕ) (index : Option ℕ) (text : List ℕ) → text_at (assigned_in given) name index ≡ Some text → IsText limit text
last_is limit [] all name index text e = cc
last_is limit (a ∷ given) all name index text e = by (text_at (assigned_in given) name index) (same_key a.key (record { name = name; index = index })) (λ t f. last_is limit given all.1 name index t f) e
  where
    by : (o : Option (List ℕ)) (b : Bool) → ((t : List ℕ) → o ≡ Some t → IsText limit t) → option_or o (cond b (Some a.text) None) ≡ Some text → IsText limit text
    by (Some t) b later e = later text e
    by None false later e = cc
    by None true later e = let same : a.text ≡ text = cc in subst (IsText limit) same all.0

pub texts_held : (limit : ℕ) (given : List Assignment) → AreTexts limit given → Holds limit (assigned_in given)
unfolding Holds
texts_held limit given all = last_is limit given all

-- the text that a variable has
pub variable_text : {A : Type 0} (limit : ℕ) (assigned : Assigned) (v : Variable A) (index : Option ℕ) (text : List ℕ) → Holds limit assigned → text_of assigned v index ≡ Some text → IsText limit text
unfolding Holds
variable_text limit assigned v index text held e = by v.is_file e
  where
    file : (o : Option (List ℕ)) → ((t : List ℕ) → o ≡ Some t → IsText limit t) → option_and_then (λ text. cond (is_empty text) None (Some text)) o ≡ Some text → IsText limit text
    file None each e = cc
    file (Some t) each e = inside (is_empty t) e
      where
        inside : (b : Bool) → cond b None (Some t) ≡ Some text → IsText limit text
        inside true e = cc
        inside false e = each text e

    by : (b : Bool) → cond b (file_text_at assigned v.name index) (text_at assigned v.name index) ≡ Some text → IsText limit text
    by true e = file (text_at assigned v.name index) (λ t f. held v.name index t f) e
    by false e = held v.name index text e
