-- Where the reader comes to an end, numbers were numbers, and values were values.
use Rattle.std.proofs.Common.{◌≡◌, ◌∙◌, refl, sym, ap, subst, ℕ, suc, zero, ◌+◌, ◌*◌, ◌^◌, ◌<◌, ◌≤◌, lit≤, Bool, true, false, not, ◌&&◌, List, [], ◌∷◌, ◌++◌, length, append_assoc, append-nil, length-append, Some, None, cond, inl, inr, arith}
use Rattle.std.specs.Prelude.{◌==◌, nat_lt, flat_map}
use Rattle.std.specs.Char.{digit_value}
use Rattle.std.specs.Int.{w32, to_be_bytes}
use Rattle.std.specs.List.{list_all}
use Rattle.std.specs.Str.Parse.{digits_value, digits_value_after}
use Rattle.std.proofs.lemmas.Bool.{and_from, eqb-true, ltb-true}
use Rattle.fdt_tree.specs.Tree.{Bytes}
use Rattle.source_text.specs.Characters.{is_string_byte}
use Rattle.source_text.specs.Source.{whole, IsBlank, IsSeparator, are_digits, is_decimal, IsNumber, AreEach, AreWords, IsPair, IsValue, IsNextValue}
use Rattle.source_text.specs.declared.state.Comment.TheVariants.{Outside}
use Rattle.source_text.specs.declared.state.Digits.{Digits}
use Rattle.source_text.specs.declared.state.Digits.TheVariants.{Zero, Prefix, Hexadecimal, Decimal}
use Rattle.source_text.specs.declared.state.Next.{Next}
use Rattle.source_text.specs.declared.state.Next.TheVariants.{Body, Value, Quoted, Cells, CellDigits, Pairs, Half, AfterValue}
use Rattle.source_text.specs.declared.state.Action.{Action}
use Rattle.source_text.specs.declared.state.Action.TheVariants.{PushByte, PushWord, Give}
use Rattle.source_text.specs.PrivateTurns.{to, pass, token_turn, digits_turn, first_digit, number_turn, is_over, is_done, with_action, gap_turn}
use Rattle.source_text.specs.PrivateReadings.{Built, Stand, act, runs}
use Rattle.source_text.proofs.Running.{cont}
use Rattle.source_text.proofs.Numbers.{IsNumeric, cell_numeric, ended_here, first_16, first_10}
use Rattle.source_text.proofs.ValueLemmas.{valued, twice, never, gap_value, gap_after_value, gap_cells, gap_pairs}
use Rattle.source_text.proofs.Peeling.{behind, Gets, stops, nowhere, Token, IsToken, peel_token, token_gets}

-- A byte that is no wanted one leads nowhere.
module _ (fin : Stand) (done : is_done fin.0 fin.1 ≡ true) where
  pub token_value : IsToken fin done Value
  token_value = record { gap = gap_value; over = refl; slash = λ c. refl; slash_spaced = λ c. refl }

  pub token_after_value : IsToken fin done AfterValue
  token_after_value = record { gap = gap_after_value; over = refl; slash = λ c. refl; slash_spaced = λ c. refl }

  pub token_cells : (separated : Bool) → IsToken fin done (Cells separated)
  token_cells separated = record { gap = gap_cells separated; over = refl; slash = λ c. refl; slash_spaced = λ c. refl }

  pub token_pairs : IsToken fin done Pairs
  token_pairs = record { gap = gap_pairs; over = refl; slash = λ c. refl; slash_spaced = λ c. refl }

  -- A string, up to its quote.
  pub string_back : (d : ℕ) (b : Built) (text : Bytes) → Gets fin done Outside Quoted d b text
      → (inner : Bytes) × (rest : Bytes) × (list_all is_string_byte inner ≡ true) × (text ≡ inner ++ 34 ∷ rest) × Gets fin done Outside AfterValue d (valued b (b.value ++ (inner ++ 0 ∷ []))) rest
  string_back d b [] e = stops fin done Outside Quoted d b refl e
  string_back d b (c ∷ text) e = by (λ more. string_back d more text) (c == 34) refl (is_string_byte c) refl e
    where
      by : ((more : Built) → Gets fin done Outside Quoted d more text
          → (inner : Bytes) × (rest : Bytes) × (list_all is_string_byte inner ≡ true) × (text ≡ inner ++ 34 ∷ rest) × Gets fin done Outside AfterValue d (valued more (more.value ++ (inner ++ 0 ∷ []))) rest)
          → (x : Bool) → (c == 34) ≡ x → (y : Bool) → is_string_byte c ≡ y → cont d b c text (cond x (to AfterValue (PushByte 0)) (cond y (to Quoted (PushByte c)) None)) ≡ Some fin
          → (inner : Bytes) × (rest : Bytes) × (list_all is_string_byte inner ≡ true) × (c ∷ text ≡ inner ++ 34 ∷ rest) × Gets fin done Outside AfterValue d (valued b (b.value ++ (inner ++ 0 ∷ []))) rest
      by on true is y other e = ([], text, refl, ap (λ (k : ℕ). k ∷ text) (eqb-true c 34 is), e)
      by on false is true other e =
          let p = on (valued b (b.value ++ c ∷ [])) e in
          (c ∷ p.0, p.1, and_from (is_string_byte c) (list_all is_string_byte p.0) other p.2, ap (λ (z : Bytes). c ∷ z) p.3, ap (λ (z : Built). runs Outside AfterValue d z p.1) (sym (twice b (c ∷ []) (p.0 ++ 0 ∷ []))) ∙ p.4)
      by on false is false other e = nowhere fin done e

  -- Numbers.
  module _ (limit : ℕ) (again : Digits → Next) (after : Next) (ended : ℕ → Action) (law : IsNumeric limit again after ended) (over : (x : Digits) → is_over (again x) ≡ false) (d : ℕ) (b : Built) where
    -- Digits up to a byte that ends the number.
    pub record Counted (base : ℕ) (from : ℕ) (text : Bytes) : Type 0 where
      pub digits : Bytes
      pub first : ℕ
      pub rest : Bytes
      pub all : list_all (λ c. nat_lt (digit_value c) base) digits ≡ true
      pub is : text ≡ digits ++ first ∷ rest
      pub below : digits_value_after base from digits < limit
      pub gets : Gets fin done Outside after d (act (ended (digits_value_after base from digits)) first b) (first ∷ rest)

    unended : {P : Type 0} (x : Digits) → Gets fin done Outside (again x) d b [] → P
    unended x e = stops fin done Outside (again x) d b (over x) e

    here : (x : Digits) (c : ℕ) (text : Bytes) → Gets fin done Outside (again x) d b (c ∷ text) → cont d b c text (number_turn limit x again after ended d c) ≡ Some fin
    here x c text e = ap (cont d b c text) (sym (law.here x d c)) ∙ e

    hexadecimal_back : (m : ℕ) (text : Bytes) → m < limit → Gets fin done Outside (again (Hexadecimal m)) d b text → Counted 16 m text
    hexadecimal_back m [] lt e = unended (Hexadecimal m) e
    hexadecimal_back m (c ∷ text) lt e = by (hexadecimal_back (m * 16 + digit_value c) text) (nat_lt (digit_value c) 16) refl (nat_lt (m * 16 + digit_value c) limit) refl (here (Hexadecimal m) c text e)
      where
        by : (m * 16 + digit_value c < limit → Gets fin done Outside (again (Hexadecimal (m * 16 + digit_value c))) d b text → Counted 16 (m * 16 + digit_value c) text)
            → (x : Bool) → nat_lt (digit_value c) 16 ≡ x → (y : Bool) → nat_lt (m * 16 + digit_value c) limit ≡ y
            → cont d b c text (cond x (digits_turn again (cond y (Some (Hexadecimal (m * 16 + digit_value c))) None)) (with_action (ended m) (gap_turn after d c))) ≡ Some fin → Counted 16 m (c ∷ text)
        by on true is true other e =
            let p = on (ltb-true (m * 16 + digit_value c) limit other) e in record {
              digits = c ∷ p.digits;
              first = p.first;
              rest = p.rest;
              all = and_from (nat_lt (digit_value c) 16) (list_all (λ c. nat_lt (digit_value c) 16) p.digits) is p.all;
              is = ap (λ (z : Bytes). c ∷ z) p.is;
              below = p.below;
              gets = p.gets;
            }
        by on true is false other e = nowhere fin done e
        by on false is y other f = record {
          digits = [];
          first = c;
          rest = text;
          all = refl;
          is = refl;
          below = lt;
          gets = sym (ended_here limit again after ended law d b (Hexadecimal m) c text is) ∙ e;
        }

    decimal_back : (m : ℕ) (text : Bytes) → m < limit → Gets fin done Outside (again (Decimal m)) d b text → Counted 10 m text
    decimal_back m [] lt e = unended (Decimal m) e
    decimal_back m (c ∷ text) lt e = by (decimal_back (m * 10 + digit_value c) text) (nat_lt (digit_value c) 10) refl (nat_lt (m * 10 + digit_value c) limit) refl (here (Decimal m) c text e)
      where
        by : (m * 10 + digit_value c < limit → Gets fin done Outside (again (Decimal (m * 10 + digit_value c))) d b text → Counted 10 (m * 10 + digit_value c) text)
            → (x : Bool) → nat_lt (digit_value c) 10 ≡ x → (y : Bool) → nat_lt (m * 10 + digit_value c) limit ≡ y
            → cont d b c text (cond x (digits_turn again (cond y (Some (Decimal (m * 10 + digit_value c))) None)) (with_action (ended m) (gap_turn after d c))) ≡ Some fin → Counted 10 m (c ∷ text)
        by on true is true other e =
            let p = on (ltb-true (m * 10 + digit_value c) limit other) e in record {
              digits = c ∷ p.digits;
              first = p.first;
              rest = p.rest;
              all = and_from (nat_lt (digit_value c) 10) (list_all (λ c. nat_lt (digit_value c) 10) p.digits) is p.all;
              is = ap (λ (z : Bytes). c ∷ z) p.is;
              below = p.below;
              gets = p.gets;
            }
        by on true is false other e = nowhere fin done e
        by on false is y other f = record {
          digits = [];
          first = c;
          rest = text;
          all = refl;
          is = refl;
          below = lt;
          gets = sym (ended_here limit again after ended law d b (Decimal m) c text is) ∙ e;
        }

    -- A number, and the byte that ends it.
    pub record Numbered (text : Bytes) : Type 0 where
      pub digits : Bytes
      pub number : ℕ
      pub first : ℕ
      pub rest : Bytes
      pub spelled : IsNumber digits number
      pub below : number < limit
      pub is : text ≡ digits ++ first ∷ rest
      pub gets : Gets fin done Outside after d (act (ended number) first b) (first ∷ rest)

    module _ (wide : 16 ≤ limit) where
      small : (k : ℕ) → nat_lt k 16 ≡ true → k < limit
      small k e = let h : k < 16 = ltb-true k 16 e in omega arith

      tiny : (k : ℕ) → nat_lt k 10 ≡ true → k < limit
      tiny k e = let h : k < 10 = ltb-true k 10 e in omega arith

      prefixed_back : (text : Bytes) → Gets fin done Outside (again Prefix) d b text → Numbered (48 ∷ 120 ∷ text)
      prefixed_back [] e = unended Prefix e
      prefixed_back (c ∷ text) e = by (nat_lt (digit_value c) 16) refl (here Prefix c text e)
        where
          found : nat_lt (digit_value c) 16 ≡ true → Counted 16 (digit_value c) text → Numbered (48 ∷ 120 ∷ c ∷ text)
          found is p =
              let same : digits_value_after 16 (digit_value c) p.digits ≡ digits_value 16 (c ∷ p.digits) = ap (λ k. digits_value_after 16 k p.digits) (sym (first_16 (digit_value c))) in record {
                digits = 48 ∷ 120 ∷ c ∷ p.digits;
                number = digits_value_after 16 (digit_value c) p.digits;
                first = p.first;
                rest = p.rest;
                spelled = inl (c ∷ p.digits, and_from (nat_lt (digit_value c) 16) (list_all (λ c. nat_lt (digit_value c) 16) p.digits) is p.all, refl, same);
                below = p.below;
                is = ap (λ (z : Bytes). 48 ∷ 120 ∷ c ∷ z) p.is;
                gets = p.gets;
              }

          by : (x : Bool) → nat_lt (digit_value c) 16 ≡ x → cont d b c text (digits_turn again (cond x (Some (Hexadecimal (digit_value c))) None)) ≡ Some fin → Numbered (48 ∷ 120 ∷ c ∷ text)
          by true is e = found is (hexadecimal_back (digit_value c) text (small (digit_value c) is) e)
          by false is e = nowhere fin done e

      zero_back : (text : Bytes) → Gets fin done Outside (again Zero) d b text → Numbered (48 ∷ text)
      zero_back [] e = unended Zero e
      zero_back (c ∷ text) e = by (c == 120) refl (here Zero c text e)
        where
          by : (x : Bool) → (c == 120) ≡ x → cont d b c text (cond x (digits_turn again (cond x (Some Prefix) None)) (with_action (ended 0) (gap_turn after d c))) ≡ Some fin → Numbered (48 ∷ c ∷ text)
          by true is e = subst (λ (k : ℕ). Numbered (48 ∷ k ∷ text)) (sym (eqb-true c 120 is)) (prefixed_back text e)
          by false is f = record {
            digits = 48 ∷ [];
            number = 0;
            first = c;
            rest = text;
            spelled = inr (refl, refl);
            below = omega arith;
            is = refl;
            gets = sym (ended_here limit again after ended law d b Zero c text is) ∙ e;
          }

      decimal_found : (c : ℕ) (text : Bytes) → (c == 48) ≡ false → nat_lt (digit_value c) 10 ≡ true → Counted 10 (digit_value c) text → Numbered (c ∷ text)
      decimal_found c text q one p = record {
        digits = c ∷ p.digits;
        number = digits_value_after 10 (digit_value c) p.digits;
        first = p.first;
        rest = p.rest;
        spelled = inr (by p.digits p.all, ap (λ k. digits_value_after 10 k p.digits) (sym (first_10 (digit_value c))));
        below = p.below;
        is = ap (λ (z : Bytes). c ∷ z) p.is;
        gets = p.gets;
      }
        where
          by : (ds : Bytes) → list_all (λ c. nat_lt (digit_value c) 10) ds ≡ true → is_decimal (c ∷ ds) ≡ true
          by [] all = one
          by (e ∷ ds) all = and_from (not (c == 48)) (are_digits 10 (c ∷ e ∷ ds)) (ap not q) (and_from (nat_lt (digit_value c) 10) (list_all (λ c. nat_lt (digit_value c) 10) (e ∷ ds)) one all)

      pub number_back : (c : ℕ) (text : Bytes) → cont d b c text (digits_turn again (first_digit c)) ≡ Some fin → Numbered (c ∷ text)
      number_back c text e = by (c == 48) refl (nat_lt (digit_value c) 10) refl e
        where
          by : (x : Bool) → (c == 48) ≡ x → (y : Bool) → nat_lt (digit_value c) 10 ≡ y → cont d b c text (digits_turn again (cond x (Some Zero) (cond y (Some (Decimal (digit_value c))) None))) ≡ Some fin → Numbered (c ∷ text)
          by true is y other e = subst (λ (k : ℕ). Numbered (k ∷ text)) (sym (eqb-true c 48 is)) (zero_back text e)
          by false is true other e = decimal_found c text is other (decimal_back (digit_value c) text (tiny (digit_value c) other) e)
          by false is false other e = nowhere fin done e

  -- Words, at least one, up to their bracket.
  record Worded (d : ℕ) (b : Built) (text : Bytes) : Type 0 where
    inner : Bytes
    number : ℕ
    others : List ℕ
    rest : Bytes
    words : AreWords inner (number ∷ others)
    is : text ≡ inner ++ 62 ∷ rest
    gets : Gets fin done Outside AfterValue d (valued b (b.value ++ flat_map (to_be_bytes w32) (number ∷ others))) rest

  cell_over : (x : Digits) → is_over (CellDigits x) ≡ false
  cell_over x = refl

  enough : 16 ≤ 2 ^ 32
  enough = lit≤ tt

  module _ (d : ℕ) (b : Built) (c : ℕ) (text : Bytes) (p : Numbered (2 ^ 32) CellDigits (Cells false) PushWord cell_numeric cell_over d b (c ∷ text)) where
    abbrev pushed : Built
    pushed = valued b (b.value ++ to_be_bytes w32 p.number)

    -- It is the last one.
    last_word : (blank rest : Bytes) (e : ℕ) → IsBlank blank → p.first ∷ p.rest ≡ blank ++ e ∷ rest → e ≡ 62 → Gets fin done Outside AfterValue d pushed rest → Worded d b (c ∷ text)
    last_word blank rest e spacing is end gets = record {
      inner = p.digits ++ blank;
      number = p.number;
      others = [];
      rest = rest;
      words = (p.digits, blank, p.spelled, p.below, spacing, refl);
      is = p.is ∙ (ap (λ (z : Bytes). p.digits ++ z) (is ∙ ap (λ (k : ℕ). blank ++ k ∷ rest) end) ∙ sym (append_assoc p.digits blank (62 ∷ rest)));
      gets = ap (λ (z : Bytes). runs Outside AfterValue d (valued b (b.value ++ z)) rest) (append-nil (to_be_bytes w32 p.number)) ∙ gets;
    }

    -- Others follow.
    one_word : (blank rest : Bytes) → IsSeparator blank → p.first ∷ p.rest ≡ blank ++ rest → Worded d pushed rest → Worded d b (c ∷ text)
    one_word blank rest separator is later = record {
      inner = p.digits ++ (blank ++ later.inner);
      number = p.number;
      others = later.number ∷ later.others;
      rest = later.rest;
      words = (p.digits, blank, later.inner, p.spelled, p.below, separator, later.words, refl);
      is = p.is ∙ (ap (λ (z : Bytes). p.digits ++ z) (is ∙ (ap (λ (z : Bytes). blank ++ z) later.is ∙ sym (append_assoc blank later.inner (62 ∷ later.rest)))) ∙ sym (append_assoc p.digits (blank ++ later.inner) (62 ∷ later.rest)));
      gets = ap (λ (z : Built). runs Outside AfterValue d z later.rest) (sym (twice b (to_be_bytes w32 p.number) (flat_map (to_be_bytes w32) (later.number ∷ later.others)))) ∙ later.gets;
    }

  less : (c e x : ℕ) (text digits blank rest tail : Bytes) (fuel : ℕ) → c ∷ text ≡ digits ++ tail → tail ≡ (x ∷ blank) ++ e ∷ rest → length text ≤ fuel → length rest < fuel
  less c e x text digits blank rest tail fuel is also le =
      omega (arith, ap length is, ap length also, length-append digits tail, length-append (x ∷ blank) (e ∷ rest))

  module _ (fuel : ℕ) (d : ℕ) (b : Built) (c : ℕ) (text : Bytes) (le : length text ≤ fuel) (p : Numbered (2 ^ 32) CellDigits (Cells false) PushWord cell_numeric cell_over d b (c ∷ text))
      (t : Token fin done (Cells false) d (pushed d b c text p) (p.first ∷ p.rest)) where
    abbrev Later : Type 0
    Later = length t.rest < fuel → cont d (pushed d b c text p) t.first t.rest (digits_turn CellDigits (first_digit t.first)) ≡ Some fin → Worded d (pushed d b c text p) (t.first ∷ t.rest)

    alone : IsBlank [] → p.first ∷ p.rest ≡ t.first ∷ t.rest → (x : Bool) → (t.first == 62) ≡ x → cont d (pushed d b c text p) t.first t.rest (cond x (pass AfterValue) None) ≡ Some fin → Worded d b (c ∷ text)
    alone spacing is true q gets = last_word d b c text p [] t.rest t.first spacing is (eqb-true t.first 62 q) gets
    alone spacing is false q gets = nowhere fin done gets

    apart : Later → (x : ℕ) (blank : Bytes) → IsBlank (x ∷ blank) → p.first ∷ p.rest ≡ (x ∷ blank) ++ t.first ∷ t.rest → (y : Bool) → (t.first == 62) ≡ y
        → cont d (pushed d b c text p) t.first t.rest (cond y (pass AfterValue) (digits_turn CellDigits (first_digit t.first))) ≡ Some fin → Worded d b (c ∷ text)
    apart on x blank spacing is true q gets = last_word d b c text p (x ∷ blank) t.rest t.first spacing is (eqb-true t.first 62 q) gets
    apart on x blank spacing is false q gets =
        one_word d b c text p (x ∷ blank) (t.first ∷ t.rest) (spacing, omega arith) is
        (on (less c t.first x text p.digits blank t.rest (p.first ∷ p.rest) fuel p.is is le) gets)

    behind_word : Later → (blank : Bytes) → IsBlank blank → p.first ∷ p.rest ≡ blank ++ t.first ∷ t.rest → cont d (pushed d b c text p) t.first t.rest (token_turn (behind blank (Cells false)) d t.first) ≡ Some fin → Worded d b (c ∷ text)
    behind_word on [] spacing is gets = alone spacing is (t.first == 62) refl gets
    behind_word on (x ∷ blank) spacing is gets = apart on x blank spacing is (t.first == 62) refl gets

  words_back : (fuel : ℕ) (d : ℕ) (b : Built) (c : ℕ) (text : Bytes) → length text ≤ fuel → cont d b c text (digits_turn CellDigits (first_digit c)) ≡ Some fin → Worded d b (c ∷ text)
  words_back zero d b c text le e =
      let p = number_back (2 ^ 32) CellDigits (Cells false) PushWord cell_numeric cell_over d b enough c text e in
      let t = peel_token fin done (Cells false) (token_cells false) d (pushed d b c text p) (p.first ∷ p.rest) p.gets in
      behind_word zero d b c text le p t (λ lt f. absurd (omega arith)) t.blank t.spacing t.is t.gets
  words_back (suc fuel) d b c text le e =
      let p = number_back (2 ^ 32) CellDigits (Cells false) PushWord cell_numeric cell_over d b enough c text e in
      let t = peel_token fin done (Cells false) (token_cells false) d (pushed d b c text p) (p.first ∷ p.rest) p.gets in
      behind_word (suc fuel) d b c text le p t (λ lt f. words_back fuel d (pushed d b c text p) t.first t.rest (omega arith) f) t.blank t.spacing t.is t.gets

  -- Pairs of digits up to their bracket.
  record Paired (d : ℕ) (b : Built) (text : Bytes) : Type 0 where
    blank : Bytes
    inner : Bytes
    value : Bytes
    rest : Bytes
    spacing : IsBlank blank
    pairs : AreEach IsPair inner value
    is : text ≡ blank ++ (inner ++ 93 ∷ rest)
    gets : Gets fin done Outside AfterValue d (valued b (b.value ++ value)) rest

  pair_value : (h l : ℕ) → h * 16 + l ≡ (0 * 16 + h) * 16 + l
  pair_value h l = ap (λ k. k * 16 + l) (sym (first_16 h))

  pub token_less : (text blank rest : Bytes) (c : ℕ) (fuel : ℕ) → text ≡ blank ++ c ∷ rest → length text ≤ suc fuel → length rest ≤ fuel
  token_less text blank rest c fuel is le = omega (arith, ap length is, length-append blank (c ∷ rest))

  tail_less : (text rest : Bytes) (c : ℕ) (fuel : ℕ) → text ≡ c ∷ rest → length text ≤ fuel → length rest ≤ fuel
  tail_less text rest c fuel is le = omega (arith, ap length is)

  module _ (fuel : ℕ) (d : ℕ) (b : Built) (text : Bytes) (le : length text ≤ suc fuel) (t : Token fin done Pairs d b text)
      (on : (more : Built) (left : Bytes) → length left ≤ fuel → Gets fin done Outside Pairs d more left → Paired d more left) where
    half : (l : ℕ) (more : Bytes) → t.rest ≡ l ∷ more → nat_lt (digit_value t.first) 16 ≡ true → nat_lt (digit_value l) 16 ≡ true
        → Gets fin done Outside Pairs d (valued b (b.value ++ (digit_value t.first * 16 + digit_value l) ∷ [])) more → Paired d b text
    half l more is one other e =
        let k : ℕ = digit_value t.first * 16 + digit_value l in
        let later = on (valued b (b.value ++ k ∷ [])) more (tail_less t.rest more l fuel is (token_less text t.blank t.rest t.first fuel t.is le)) e in record {
          blank = t.blank;
          inner = (t.first ∷ l ∷ later.blank) ++ later.inner;
          value = k ∷ later.value;
          rest = later.rest;
          spacing = t.spacing;
          pairs = (
            t.first ∷ l ∷ later.blank,
            later.inner,
            (t.first, l, later.blank, and_from (nat_lt (digit_value t.first) 16) (nat_lt (digit_value l) 16 && true) one (and_from (nat_lt (digit_value l) 16) true other refl), later.spacing, refl, pair_value (digit_value t.first) (digit_value l)),
            later.pairs,
            refl,
          );
          is = t.is ∙ ap (λ (z : Bytes). t.blank ++ t.first ∷ z) (is ∙ ap (λ (z : Bytes). l ∷ z) (later.is ∙ sym (append_assoc later.blank later.inner (93 ∷ later.rest))));
          gets = ap (λ (z : Built). runs Outside AfterValue d z later.rest) (sym (twice b (k ∷ []) later.value)) ∙ later.gets;
        }

    low_at : (l : ℕ) (more : Bytes) → t.rest ≡ l ∷ more → nat_lt (digit_value t.first) 16 ≡ true → (x : Bool) → nat_lt (digit_value l) 16 ≡ x
        → cont d b l more (cond x (to Pairs (PushByte (digit_value t.first * 16 + digit_value l))) None) ≡ Some fin → Paired d b text
    low_at l more is one true other e = half l more is one other e
    low_at l more is one false other e = nowhere fin done e

    low : (more : Bytes) → t.rest ≡ more → nat_lt (digit_value t.first) 16 ≡ true → Gets fin done Outside (Half (digit_value t.first)) d b more → Paired d b text
    low [] is one e = stops fin done Outside (Half (digit_value t.first)) d b refl e
    low (l ∷ more) is one e = low_at l more is one (nat_lt (digit_value l) 16) refl e

    pair_at : (x : Bool) → (t.first == 93) ≡ x → (y : Bool) → nat_lt (digit_value t.first) 16 ≡ y → cont d b t.first t.rest (cond x (pass AfterValue) (cond y (pass (Half (digit_value t.first))) None)) ≡ Some fin → Paired d b text
    pair_at true is y other e = record {
      blank = t.blank;
      inner = [];
      value = [];
      rest = t.rest;
      spacing = t.spacing;
      pairs = refl;
      is = t.is ∙ ap (λ (k : ℕ). t.blank ++ k ∷ t.rest) (eqb-true t.first 93 is);
      gets = ap (λ (z : Built). runs Outside AfterValue d z t.rest) (sym (never b)) ∙ e;
    }
    pair_at false is true other e = low t.rest refl other e
    pair_at false is false other e = nowhere fin done e

  pairs_back : (fuel : ℕ) (d : ℕ) (b : Built) (text : Bytes) → length text ≤ fuel → Gets fin done Outside Pairs d b text → Paired d b text
  pairs_back zero d b [] le e = stops fin done Outside Pairs d b refl e
  pairs_back zero d b (c ∷ text) le e = absurd (omega arith)
  pairs_back (suc fuel) d b text le e =
      let t = peel_token fin done Pairs token_pairs d b text e in
      pair_at fuel d b text le t (λ more left. pairs_back fuel d more left) (t.first == 93) refl (nat_lt (digit_value t.first) 16) refl (token_gets fin done Pairs refl d b text t)

  -- A value behind spacing.
  pub record Valued (d : ℕ) (b : Built) (text : Bytes) : Type 0 where
    pub blank : Bytes
    pub spelling : Bytes
    pub value : Bytes
    pub rest : Bytes
    pub spacing : IsBlank blank
    pub spelled : IsValue spelling value
    pub is : text ≡ blank ++ (spelling ++ rest)
    pub gets : Gets fin done Outside AfterValue d (valued b (b.value ++ value)) rest

  module _ (d : ℕ) (b : Built) (text : Bytes) (t : Token fin done Value d b text) where
    at_first : (k : ℕ) → (t.first == k) ≡ true → text ≡ t.blank ++ k ∷ t.rest
    at_first k is = t.is ∙ ap (λ (j : ℕ). t.blank ++ j ∷ t.rest) (eqb-true t.first k is)

    a_string : (t.first == 34) ≡ true → Gets fin done Outside Quoted d b t.rest → Valued d b text
    a_string is e =
        let p = string_back d b t.rest e in record {
          blank = t.blank;
          spelling = 34 ∷ (p.0 ++ 34 ∷ []);
          value = p.0 ++ 0 ∷ [];
          rest = p.1;
          spacing = t.spacing;
          spelled = inl (p.0, p.2, refl, refl);
          is = at_first 34 is ∙ ap (λ (z : Bytes). t.blank ++ 34 ∷ z) (p.3 ∙ sym (append_assoc p.0 (34 ∷ []) p.1));
          gets = p.4;
        }

    some_cells : (t.first == 60) ≡ true → (c : Token fin done (Cells true) d b t.rest) → (x : Bool) → (c.first == 62) ≡ x
        → cont d b c.first c.rest (cond x (pass AfterValue) (digits_turn CellDigits (first_digit c.first))) ≡ Some fin → Valued d b text
    some_cells is c true q e = record {
      blank = t.blank;
      spelling = 60 ∷ (c.blank ++ 62 ∷ []);
      value = [];
      rest = c.rest;
      spacing = t.spacing;
      spelled = inr (inl (c.blank, [], [], c.spacing, refl, refl, refl));
      is = at_first 60 is ∙ ap (λ (z : Bytes). t.blank ++ 60 ∷ z) (c.is ∙ (ap (λ (k : ℕ). c.blank ++ k ∷ c.rest) (eqb-true c.first 62 q) ∙ sym (append_assoc c.blank (62 ∷ []) c.rest)));
      gets = ap (λ (z : Built). runs Outside AfterValue d z c.rest) (sym (never b)) ∙ e;
    }
    some_cells is c false q e =
        let w = words_back (length c.rest) d b c.first c.rest (omega arith) e in record {
          blank = t.blank;
          spelling = 60 ∷ (c.blank ++ (w.inner ++ 62 ∷ []));
          value = flat_map (to_be_bytes w32) (w.number ∷ w.others);
          rest = w.rest;
          spacing = t.spacing;
          spelled = inr (inl (c.blank, w.inner, w.number ∷ w.others, c.spacing, w.words, refl, refl));
          is = at_first 60 is ∙ ap (λ (z : Bytes). t.blank ++ 60 ∷ z) (c.is ∙ (ap (λ (z : Bytes). c.blank ++ z) (w.is ∙ sym (append_assoc w.inner (62 ∷ []) w.rest)) ∙ sym (append_assoc c.blank (w.inner ++ 62 ∷ []) w.rest)));
          gets = w.gets;
        }

    a_row : (t.first == 91) ≡ true → Gets fin done Outside Pairs d b t.rest → Valued d b text
    a_row is e =
        let p = pairs_back (length t.rest) d b t.rest (omega arith) e in record {
          blank = t.blank;
          spelling = 91 ∷ (p.blank ++ (p.inner ++ 93 ∷ []));
          value = p.value;
          rest = p.rest;
          spacing = t.spacing;
          spelled = inr (inr (p.blank, p.inner, p.spacing, p.pairs, refl));
          is = at_first 91 is ∙ ap (λ (z : Bytes). t.blank ++ 91 ∷ z) (p.is ∙ (ap (λ (z : Bytes). p.blank ++ z) (sym (append_assoc p.inner (93 ∷ []) p.rest)) ∙ sym (append_assoc p.blank (p.inner ++ 93 ∷ []) p.rest)));
          gets = p.gets;
        }

    a_value : (x : Bool) → (t.first == 34) ≡ x → (y : Bool) → (t.first == 60) ≡ y → (z : Bool) → (t.first == 91) ≡ z
        → cont d b t.first t.rest (cond x (pass Quoted) (cond y (pass (Cells true)) (cond z (pass Pairs) None))) ≡ Some fin → Valued d b text
    a_value true is y o z p e = a_string is e
    a_value false i true o z p e =
        let c = peel_token fin done (Cells true) (token_cells true) d b t.rest e in
        some_cells o c (c.first == 62) refl (token_gets fin done (Cells true) refl d b t.rest c)
    a_value false i false o true p e = a_row p e
    a_value false i false o false p e = nowhere fin done e

  pub value_back : (d : ℕ) (b : Built) (text : Bytes) → Gets fin done Outside Value d b text → Valued d b text
  value_back d b text e =
      let t = peel_token fin done Value token_value d b text e in
      a_value d b text t (t.first == 34) refl (t.first == 60) refl (t.first == 91) refl (token_gets fin done Value refl d b text t)

  -- More values, up to the semicolon of their property.
  pub record More (d : ℕ) (b : Built) (text : Bytes) : Type 0 where
    pub others : Bytes
    pub values : List Bytes
    pub last : Bytes
    pub rest : Bytes
    pub are : AreEach IsNextValue others values
    pub spacing : IsBlank last
    pub is : text ≡ others ++ (last ++ 59 ∷ rest)
    pub gets : Gets fin done Outside (Body true) d (act Give 59 (valued b (b.value ++ whole values))) rest

  more_text : (before after last later rest tail : Bytes) → before ++ 44 ∷ (after ++ (last ++ (later ++ (rest ++ tail)))) ≡ ((before ++ 44 ∷ (after ++ last)) ++ later) ++ (rest ++ tail)
  more_text before after last later rest tail = simp append_assoc

  value_less : (text blank spelling rest : Bytes) (fuel : ℕ) → text ≡ blank ++ (spelling ++ rest) → length text ≤ fuel → length rest ≤ fuel
  value_less text blank spelling rest fuel is le = omega (arith, ap length is, length-append blank (spelling ++ rest), length-append spelling rest)

  module _ (fuel : ℕ) (d : ℕ) (b : Built) (text : Bytes) (le : length text ≤ suc fuel) (t : Token fin done AfterValue d b text)
      (on : (more : Built) (left : Bytes) → length left ≤ fuel → Gets fin done Outside AfterValue d more left → More d more left) where
    behind_comma : (t.first == 44) ≡ true → Gets fin done Outside Value d b t.rest → More d b text
    behind_comma is e =
        let v = value_back d b t.rest e in
        let later = on (valued b (b.value ++ v.value)) v.rest (value_less t.rest v.blank v.spelling v.rest fuel v.is (token_less text t.blank t.rest t.first fuel t.is le)) v.gets in record {
          others = (t.blank ++ 44 ∷ (v.blank ++ v.spelling)) ++ later.others;
          values = v.value ∷ later.values;
          last = later.last;
          rest = later.rest;
          are = (t.blank ++ 44 ∷ (v.blank ++ v.spelling), later.others, (t.blank, v.blank, v.spelling, t.spacing, v.spacing, v.spelled, refl), later.are, refl);
          spacing = later.spacing;
          is = t.is
              ∙ (ap (λ (k : ℕ). t.blank ++ k ∷ t.rest) (eqb-true t.first 44 is)
              ∙ (ap (λ (z : Bytes). t.blank ++ 44 ∷ z) (v.is ∙ ap (λ (z : Bytes). v.blank ++ (v.spelling ++ z)) later.is)
              ∙ more_text t.blank v.blank v.spelling later.others later.last (59 ∷ later.rest)));
          gets = ap (λ (z : Built). runs Outside (Body true) d (act Give 59 z) later.rest) (sym (twice b v.value (whole later.values))) ∙ later.gets;
        }

    more_at : (x : Bool) → (t.first == 44) ≡ x → (y : Bool) → (t.first == 59) ≡ y → cont d b t.first t.rest (cond x (pass Value) (cond y (to (Body true) Give) None)) ≡ Some fin → More d b text
    more_at true is y other e = behind_comma is e
    more_at false is true other e = record {
      others = [];
      values = [];
      last = t.blank;
      rest = t.rest;
      are = refl;
      spacing = t.spacing;
      is = t.is ∙ ap (λ (k : ℕ). t.blank ++ k ∷ t.rest) (eqb-true t.first 59 other);
      gets = ap (λ (z : Built). runs Outside (Body true) d (act Give 59 z) t.rest) (sym (never b)) ∙ e;
    }
    more_at false is false other e = nowhere fin done e

  pub more_back : (fuel : ℕ) (d : ℕ) (b : Built) (text : Bytes) → length text ≤ fuel → Gets fin done Outside AfterValue d b text → More d b text
  more_back zero d b [] le e = stops fin done Outside AfterValue d b refl e
  more_back zero d b (c ∷ text) le e = absurd (omega arith)
  more_back (suc fuel) d b text le e =
      let t = peel_token fin done AfterValue token_after_value d b text e in
      more_at fuel d b text le t (λ more left. more_back fuel d more left) (t.first == 44) refl (t.first == 59) refl (token_gets fin done AfterValue refl d b text t)
