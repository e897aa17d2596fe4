-- A printed value says the bytes that it was printed from.
use Rattle.std.proofs.Common.{◌≡◌, ◌∙◌, refl, sym, ap, subst, ℕ, suc, zero, ◌+◌, ◌*◌, ◌/◌, ◌%◌, ◌^◌, ◌<◌, Bool, true, false, not, ◌&&◌, cond, List, [], ◌∷◌, ◌++◌, length, get_or, map, append_assoc, append-nil, inl, inr, arith, codes}
use Rattle.std.specs.Prelude.{◌==◌, nat_lt, flat_map}
use Rattle.std.specs.Char.{digit_value}
use Rattle.std.specs.Fmt.{digits, digits_onto, digit_glyph}
use Rattle.std.specs.Int.{w32, to_be_bytes, from_be_bytes}
use Rattle.std.specs.List.{list_all, AllByRecursion, slice_split, join_with_byte}
use Rattle.std.specs.Str.Parse.{digits_value, digits_value_after}
use Rattle.std.proofs.Math.Nat.{pow-suc}
use Rattle.std.proofs.lemmas.Bool.{and_parts, and_from, eqb-true, true≢false}
use Rattle.std.proofs.lemmas.Bool.Decides.{nat_tests}
use Rattle.std.proofs.lemmas.List.Splits.{join_with_byte-slice_split}
use Rattle.std.proofs.lemmas.Nat.{be_bytes_4}
use Rattle.texts.specs.NumberTexts.{hexadecimal}
use Rattle.fdt_tree.specs.Tree.{Bytes}
use Rattle.fdt_tree.specs.Values.{all_but_last}
use Rattle.source_text.specs.Characters.{is_string_byte, is_space}
use Rattle.source_text.specs.Printed.{behind_marks, joined, is_string, are_ended_strings, is_text, quoted, words, digit_text, pair_text, strings_text, words_text, bytes_text, value_text}
use Rattle.source_text.specs.Source.{whole, IsSpacing, IsBlank, IsSeparator, are_digits, IsNumber, AreEach, AreWords, IsPair, IsValue, IsNextValue, AreValues}
use Rattle.source_text.proofs.Peeling.{no_blank}

-- ---- spacing

space_parts : AllByRecursion IsSpacing ((32 ∷ []) ∷ [])
unfolding is_space
space_parts = (inl (32, refl, refl), tt)

pub space : IsBlank (32 ∷ [])
space = ((32 ∷ []) ∷ [], space_parts, refl)

pub space_separates : IsSeparator (32 ∷ [])
space_separates = (space, omega arith)

-- ---- numbers in base 16

low : (n : ℕ) → n % 16 < 16
low n = omega arith

worth_of_glyph : (d : ℕ) → d < 16 → digit_value (digit_glyph false d) ≡ d
worth_of_glyph d h = grind (arith, nat_tests)

glyph_digit : (d : ℕ) → d < 16 → nat_lt (digit_value (digit_glyph false d)) 16 ≡ true
glyph_digit d h = rw (worth_of_glyph d h) (grind (arith, nat_tests))

last : (n : ℕ) → n / 16 ≡ 0 → 0 * 16 + digit_value (digit_glyph false (n % 16)) ≡ n
last n e = let w : digit_value (digit_glyph false (n % 16)) ≡ n % 16 = worth_of_glyph (n % 16) (low n) in omega (arith, w)

both : (n : ℕ) → (n / 16) * 16 + digit_value (digit_glyph false (n % 16)) ≡ n
both n = let w : digit_value (digit_glyph false (n % 16)) ≡ n % 16 = worth_of_glyph (n % 16) (low n) in omega (arith, w)

shorter : (n k : ℕ) → n < 16 ^ suc k → n / 16 < 16 ^ k
shorter n k h = let p : 16 ^ suc k ≡ 16 ^ k * 16 = pow-suc 16 k in omega (arith, p)

apart : (m : ℕ) → (m == 0) ≡ false → m < 1 → ⊥
apart m e h = grind (arith, nat_tests)

read_last : (n : ℕ) (acc others : Bytes) (b : Bool) → (n / 16 == 0) ≡ b → (b ≡ false → digits_value_after 16 0 others ≡ digits_value_after 16 n acc)
    → digits_value_after 16 0 (cond b (digit_glyph false (n % 16) ∷ acc) others) ≡ digits_value_after 16 n acc
read_last n acc others true e more = ap (λ m. digits_value_after 16 m acc) (last n (eqb-true (n / 16) 0 e))
read_last n acc others false e more = more refl

fold_digits : (k n : ℕ) (acc : Bytes) → n < 16 ^ suc k → digits_value_after 16 0 (digits_onto (suc k) 16 false n acc) ≡ digits_value_after 16 n acc
fold_digits zero n acc h =
    read_last n acc (digits_onto 0 16 false (n / 16) (digit_glyph false (n % 16) ∷ acc)) (n / 16 == 0) refl (λ e. absurd (apart (n / 16) e (shorter n 0 h)))
fold_digits (suc k) n acc h =
    read_last n acc (digits_onto (suc k) 16 false (n / 16) (digit_glyph false (n % 16) ∷ acc)) (n / 16 == 0) refl
    (λ e. fold_digits k (n / 16) (digit_glyph false (n % 16) ∷ acc) (shorter n (suc k) h) ∙ ap (λ m. digits_value_after 16 m acc) (both n))

value_of_digits : (n : ℕ) → n < 2 ^ 64 → digits_value 16 (digits 16 false n) ≡ n
unfolding digits
value_of_digits n h = fold_digits 63 n [] (omega arith)

either : (b : Bool) (x y : Bytes) → are_digits 16 x ≡ true → are_digits 16 y ≡ true → are_digits 16 (cond b x y) ≡ true
either true x y p q = p
either false x y p q = q

all_digits : (k n c : ℕ) (acc : Bytes) → are_digits 16 (c ∷ acc) ≡ true → are_digits 16 (digits_onto k 16 false n (c ∷ acc)) ≡ true
all_digits zero n c acc h = h
all_digits (suc k) n c acc h =
    let g : are_digits 16 (digit_glyph false (n % 16) ∷ c ∷ acc) ≡ true = and_from (nat_lt (digit_value (digit_glyph false (n % 16))) 16) (list_all (λ c. nat_lt (digit_value c) 16) (c ∷ acc)) (glyph_digit (n % 16) (low n)) h in
    either (n / 16 == 0) (digit_glyph false (n % 16) ∷ c ∷ acc) (digits_onto k 16 false (n / 16) (digit_glyph false (n % 16) ∷ c ∷ acc)) g (all_digits k (n / 16) (digit_glyph false (n % 16)) (c ∷ acc) g)

digits_are : (n : ℕ) → are_digits 16 (digits 16 false n) ≡ true
unfolding digits
digits_are n =
    let g : are_digits 16 (digit_glyph false (n % 16) ∷ []) ≡ true = and_from (nat_lt (digit_value (digit_glyph false (n % 16))) 16) true (glyph_digit (n % 16) (low n)) refl in
    either (n / 16 == 0) (digit_glyph false (n % 16) ∷ []) (digits_onto 63 16 false (n / 16) (digit_glyph false (n % 16) ∷ [])) g (all_digits 63 (n / 16) (digit_glyph false (n % 16)) [] g)

-- A number in base 16.
pub number_printed : (n : ℕ) → n < 2 ^ 64 → IsNumber (hexadecimal n) n
number_printed n h = inl (digits 16 false n, digits_are n, refl, sym (value_of_digits n h))

-- ---- cells

word_below : (n : ℕ) → n < 2 ^ 32 → n < 2 ^ 64
word_below n h = omega arith

words_printed : (n : ℕ) (ns : List ℕ) → AllByRecursion (λ n. n < 2 ^ 32) (n ∷ ns) → AreWords (hexadecimal n ++ behind_marks (codes " ") hexadecimal ns) (n ∷ ns)
words_printed n [] all = (hexadecimal n, [], number_printed n (word_below n all.0), all.0, no_blank, refl)
words_printed n (m ∷ ns) all = (
  hexadecimal n,
  32 ∷ [],
  hexadecimal m ++ behind_marks (codes " ") hexadecimal ns,
  number_printed n (word_below n all.0),
  all.0,
  space_separates,
  words_printed m ns all.1,
  ap (λ (z : Bytes). hexadecimal n ++ 32 ∷ z) refl,
)

joined_words : (ns : List ℕ) → AllByRecursion (λ n. n < 2 ^ 32) ns → AreWords (joined (codes " ") hexadecimal ns) ns
joined_words [] all = refl
joined_words (n ∷ ns) all = words_printed n ns all

word_small : (a b c d : ℕ) → a < 256 → b < 256 → c < 256 → d < 256 → from_be_bytes w32 (a ∷ b ∷ c ∷ d ∷ []) < 2 ^ 32
word_small a b c d p q r s = omega arith

each_small : (a b c d i : ℕ) → a < 256 → b < 256 → c < 256 → d < 256 → get_or (a ∷ b ∷ c ∷ d ∷ []) i 0 < 256
each_small a b c d zero p q r s = p
each_small a b c d (suc zero) p q r s = q
each_small a b c d (suc (suc zero)) p q r s = r
each_small a b c d (suc (suc (suc zero))) p q r s = s
each_small a b c d (suc (suc (suc (suc i)))) p q r s = omega arith

-- A value of whole words.
pub record AreWordsOf (value : Bytes) : Type 0 where
  pub small : AllByRecursion (λ n. n < 2 ^ 32) (words value)
  pub same : value ≡ flat_map (to_be_bytes w32) (words value)

four_less : (n : ℕ) → (n + 4) % 4 ≡ n % 4
four_less n = omega arith

words_of : (value : Bytes) → AllByRecursion (λ byte. byte < 256) value → length value % 4 ≡ 0 → AreWordsOf value
words_of [] all e = record { small = tt; same = refl }
words_of (a ∷ []) all e = absurd (omega arith)
words_of (a ∷ b ∷ []) all e = absurd (omega arith)
words_of (a ∷ b ∷ c ∷ []) all e = absurd (omega arith)
words_of (a ∷ b ∷ c ∷ d ∷ rest) all e =
    let p = all.0 in
    let q = all.1.0 in
    let r = all.1.1.0 in
    let s = all.1.1.1.0 in
    let later = words_of rest all.1.1.1.1 (omega arith) in
    let n : ℕ = from_be_bytes w32 (a ∷ b ∷ c ∷ d ∷ []) in record {
      small = (word_small a b c d p q r s, later.small);
      same = ap (λ (z : Bytes). (a ∷ b ∷ c ∷ d ∷ []) ++ z) later.same
          ∙ ap (λ (z : Bytes). z ++ flat_map (to_be_bytes w32) (words rest)) (sym (be_bytes_4 (a ∷ b ∷ c ∷ d ∷ []) n refl (λ i. each_small a b c d i p q r s) refl));
    }

-- ---- bytes

worth_of_digit : (d : ℕ) → d < 16 → digit_value (digit_text d) ≡ d
worth_of_digit d h = grind (arith, nat_tests)

high : (byte : ℕ) → byte < 256 → byte / 16 < 16
high byte h = omega arith

pair_printed : (byte : ℕ) (behind : Bytes) → byte < 256 → IsBlank behind → IsPair (pair_text byte ++ behind) byte
pair_printed byte behind h blank =
    let p : digit_value (digit_text (byte / 16)) ≡ byte / 16 = worth_of_digit (byte / 16) (high byte h) in
    let q : digit_value (digit_text (byte % 16)) ≡ byte % 16 = worth_of_digit (byte % 16) (low byte) in (
      digit_text (byte / 16),
      digit_text (byte % 16),
      behind,
      and_from (nat_lt (digit_value (digit_text (byte / 16))) 16) (nat_lt (digit_value (digit_text (byte % 16))) 16 && true) (is_small (byte / 16) (digit_value (digit_text (byte / 16))) p (high byte h))
          (and_from (nat_lt (digit_value (digit_text (byte % 16))) 16) true (is_small (byte % 16) (digit_value (digit_text (byte % 16))) q (low byte)) refl),
      blank,
      refl,
      value byte (digit_value (digit_text (byte / 16))) (digit_value (digit_text (byte % 16))) p q,
    )
  where
    is_small : (d v : ℕ) → v ≡ d → d < 16 → nat_lt v 16 ≡ true
    is_small d v e lt = rw e (grind (arith, nat_tests))

    value : (byte a b : ℕ) → a ≡ byte / 16 → b ≡ byte % 16 → byte ≡ (0 * 16 + a) * 16 + b
    value byte a b e f = omega arith

pairs_printed : (byte : ℕ) (value : Bytes) → AllByRecursion (λ byte. byte < 256) (byte ∷ value) → AreEach IsPair (pair_text byte ++ behind_marks (codes " ") pair_text value) (byte ∷ value)
pairs_printed byte [] all =
    (pair_text byte, [], subst (λ (z : Bytes). IsPair z byte) (append-nil (pair_text byte)) (pair_printed byte [] all.0 no_blank), refl, refl)
pairs_printed byte (next ∷ value) all =
    (pair_text byte ++ 32 ∷ [], pair_text next ++ behind_marks (codes " ") pair_text value, pair_printed byte (32 ∷ []) all.0 space, pairs_printed next value all.1, refl)

joined_pairs : (value : Bytes) → AllByRecursion (λ byte. byte < 256) value → AreEach IsPair (joined (codes " ") pair_text value) value
joined_pairs [] all = refl
joined_pairs (byte ∷ value) all = pairs_printed byte value all

-- ---- strings

abbrev ended : Bytes → Bytes
ended text = text ++ 0 ∷ []

no_bytes : (text : Bytes) → (length text == 0) ≡ true → text ≡ []
no_bytes [] e = refl
no_bytes (c ∷ text) e = absurd (suc_zero (length text) e)
  where
    suc_zero : (n : ℕ) → (suc n == 0) ≡ true → ⊥
    suc_zero n e = grind (arith, nat_tests)

string_bytes_of : (text : Bytes) → is_string text ≡ true → list_all is_string_byte text ≡ true
string_bytes_of text e = (and_parts (not (length text == 0)) (list_all is_string_byte text) e).1

one_string : (text : Bytes) → list_all is_string_byte text ≡ true → IsValue (quoted text) (ended text)
one_string text all = inl (text, all, refl, refl)

next_string : (text : Bytes) → list_all is_string_byte text ≡ true → IsNextValue (codes ", " ++ quoted text) (ended text)
next_string text all = ([], 32 ∷ [], quoted text, no_blank, space, one_string text all, refl)

more_strings : (pieces : List Bytes) → are_ended_strings pieces ≡ true → AreEach IsNextValue (behind_marks (codes ", ") quoted (all_but_last pieces)) (map ended (all_but_last pieces))
more_strings [] e = absurd (true≢false (sym e))
more_strings (last ∷ []) e = refl
more_strings (piece ∷ next ∷ pieces) e =
    let p = and_parts (is_string piece) (are_ended_strings (next ∷ pieces)) e in
    (codes ", " ++ quoted piece, behind_marks (codes ", ") quoted (all_but_last (next ∷ pieces)), next_string piece (string_bytes_of piece p.0), more_strings (next ∷ pieces) p.1, refl)

joined_pieces : (pieces : List Bytes) → are_ended_strings pieces ≡ true → join_with_byte 0 pieces ≡ whole (map ended (all_but_last pieces))
joined_pieces [] e = absurd (true≢false (sym e))
joined_pieces (last ∷ []) e = no_bytes last e
joined_pieces (piece ∷ next ∷ pieces) e =
    let p = and_parts (is_string piece) (are_ended_strings (next ∷ pieces)) e in
    ap (λ (z : Bytes). piece ++ 0 ∷ z) (joined_pieces (next ∷ pieces) p.1) ∙ sym (append_assoc piece (0 ∷ []) (whole (map ended (all_but_last (next ∷ pieces)))))

strings_printed : (pieces : List Bytes) (value : Bytes) → are_ended_strings pieces ≡ true → value ≡ join_with_byte 0 pieces → not (length value == 0) ≡ true → AreValues (joined (codes ", ") quoted (all_but_last pieces)) value
strings_printed [] value e is some = absurd (true≢false (sym e))
strings_printed (last ∷ []) value e is some = absurd (true≢false (sym some ∙ ap (λ (z : Bytes). not (length z == 0)) (is ∙ no_bytes last e)))
strings_printed (piece ∷ next ∷ pieces) value e is some =
    let p = and_parts (is_string piece) (are_ended_strings (next ∷ pieces)) e in (
      quoted piece,
      behind_marks (codes ", ") quoted (all_but_last (next ∷ pieces)),
      ended piece,
      map ended (all_but_last (next ∷ pieces)),
      one_string piece (string_bytes_of piece p.0),
      more_strings (next ∷ pieces) p.1,
      refl,
      is ∙ joined_pieces (piece ∷ next ∷ pieces) e,
    )

-- ---- values

one_value : (text value : Bytes) → IsValue text value → AreValues text value
one_value text value is = (text, [], value, [], is, refl, sym (append-nil text), sym (append-nil value))

pub values_printed : (value : Bytes) → AllByRecursion (λ byte. byte < 256) value → AreValues (value_text value) value
unfolding value_text
values_printed value all = by (is_text value) refl (length value % 4 == 0) refl
  where
    by : (x : Bool) → is_text value ≡ x → (y : Bool) → (length value % 4 == 0) ≡ y → AreValues (cond x (strings_text value) (cond y (words_text value) (bytes_text value))) value
    by true is y other =
        let p = and_parts (not (length value == 0)) (are_ended_strings (slice_split (λ byte. byte == 0) value)) is in
        strings_printed (slice_split (λ byte. byte == 0) value) value p.1 (sym (join_with_byte-slice_split 0 value)) p.0
    by false is true other =
        let w = words_of value all (eqb-true (length value % 4) 0 other) in
        one_value (words_text value) value (inr (inl ([], joined (codes " ") hexadecimal (words value), words value, no_blank, joined_words (words value) w.small, refl, w.same)))
    by false is false other = one_value (bytes_text value) value (inr (inr ([], joined (codes " ") pair_text value, no_blank, joined_pairs value all, refl)))
