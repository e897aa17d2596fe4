-- The reader goes over values.
use Rattle.std.proofs.Common.{◌≡◌, ◌∙◌, refl, sym, ap, ℕ, ◌+◌, ◌*◌, ◌^◌, Bool, true, false, ◌&&◌, List, [], ◌∷◌, ◌++◌, append_assoc, append-nil, Some, None, cond, inl, inr}
use Rattle.std.specs.Prelude.{◌==◌, nat_lt, flat_map}
use Rattle.std.specs.Char.{digit_value}
use Rattle.std.specs.Int.{w32, to_be_bytes}
use Rattle.std.specs.List.{list_all}
use Rattle.std.proofs.lemmas.Bool.{and_parts, cond-true, cond-false}
use Rattle.fdt_tree.specs.Tree.{Bytes}
use Rattle.source_text.specs.Characters.{is_string_byte, is_space}
use Rattle.source_text.specs.Source.{whole, AreEach, AreWords, IsPair, IsValue, IsNextValue, AreValues}
use Rattle.source_text.specs.declared.state.Comment.TheVariants.{Outside, Slash}
use Rattle.source_text.specs.declared.state.Next.TheVariants.{Value, Quoted, Cells, CellDigits, Pairs, Half, AfterValue}
use Rattle.source_text.specs.declared.state.Action.TheVariants.{Pass, PushByte, PushWord}
use Rattle.source_text.specs.PrivateTurns.{to, pass, outside_turn}
use Rattle.source_text.specs.PrivateReadings.{Built, runs}
use Rattle.source_text.proofs.Running.{cont, differs}
use Rattle.source_text.proofs.Blanks.{IsGap, over_blank, over_any, over_separator}
use Rattle.source_text.proofs.Stops.{stop_62, blank_front, separator_front, digit_plain}
use Rattle.source_text.proofs.Numbers.{cell_numeric, first_cell, over_number, first_16}

-- With another value.
abbrev pub valued : Built → Bytes → Built
valued b value = record b { value = value }

pub gap_value : IsGap Value
gap_value = record { here = λ d c. refl; there = λ d c. refl; again = refl }

pub gap_after_value : IsGap AfterValue
gap_after_value = record { here = λ d c. refl; there = λ d c. refl; again = refl }

pub gap_cells : (separated : Bool) → IsGap (Cells separated)
gap_cells separated = record { here = λ d c. refl; there = λ d c. refl; again = refl }

pub gap_pairs : IsGap Pairs
gap_pairs = record { here = λ d c. refl; there = λ d c. refl; again = refl }

-- A value grows twice.
pub twice : (b : Built) (xs ys : Bytes) → valued b ((b.value ++ xs) ++ ys) ≡ valued b (b.value ++ (xs ++ ys))
twice b xs ys = ap (valued b) (append_assoc b.value xs ys)

pub never : (b : Built) → b ≡ valued b (b.value ++ [])
never b = ap (valued b) (sym (append-nil b.value))

module _ (d : ℕ) where
  -- The bytes that begin and end values.
  value_34 : outside_turn Value d 34 ≡ pass Quoted
  unfolding is_space
  value_34 = refl

  value_60 : outside_turn Value d 60 ≡ pass (Cells true)
  unfolding is_space
  value_60 = refl

  value_91 : outside_turn Value d 91 ≡ pass Pairs
  unfolding is_space
  value_91 = refl

  cells_62 : (separated : Bool) → outside_turn (Cells separated) d 62 ≡ pass AfterValue
  unfolding is_space
  cells_62 separated = refl

  pairs_93 : outside_turn Pairs d 93 ≡ pass AfterValue
  unfolding is_space
  pairs_93 = refl

  comma : outside_turn AfterValue d 44 ≡ pass Value
  unfolding is_space
  comma = refl

  no_quote : (c : ℕ) → is_string_byte c ≡ true → (c == 34) ≡ false
  unfolding is_string_byte
  no_quote c e = differs is_string_byte c 34 e refl

  module _ (rest : Bytes) where
    over_string : (b : Built) (inner : Bytes) → list_all is_string_byte inner ≡ true → runs Outside Quoted d b (inner ++ 34 ∷ rest) ≡ runs Outside AfterValue d (valued b (b.value ++ (inner ++ 0 ∷ []))) rest
    over_string b [] all = refl
    over_string b (c ∷ inner) all =
        let p = and_parts (is_string_byte c) (list_all is_string_byte inner) all in
        ap (λ z. cont d b c (inner ++ 34 ∷ rest) (cond z (to AfterValue (PushByte 0)) (cond (is_string_byte c) (to Quoted (PushByte c)) None))) (no_quote c p.0)
        ∙ (ap (λ z. cont d b c (inner ++ 34 ∷ rest) (cond z (to Quoted (PushByte c)) None)) p.0
        ∙ (over_string (valued b (b.value ++ c ∷ [])) inner p.1
        ∙ ap (λ (z : Built). runs Outside AfterValue d z rest) (twice b (c ∷ []) (inner ++ 0 ∷ []))))

    over_words : (b : Built) (ns : List ℕ) (inner : Bytes) → AreWords inner ns → runs Outside (Cells true) d b (inner ++ 62 ∷ rest) ≡ runs Outside AfterValue d (valued b (b.value ++ flat_map (to_be_bytes w32) ns)) rest
    over_words b [] inner is =
        ap (λ (z : Bytes). runs Outside (Cells true) d b (z ++ 62 ∷ rest)) is
        ∙ (ap (cont d b 62 rest) (cells_62 true) ∙ ap (λ (z : Built). runs Outside AfterValue d z rest) (never b))
    over_words b (n ∷ []) inner is =
        let digits : Bytes = is.0 in
        let behind : Bytes = is.1 in
        let f = blank_front behind 62 rest is.4 stop_62 in
        let grown : Built = valued b (b.value ++ to_be_bytes w32 n) in
        ap (λ (z : Bytes). runs Outside (Cells true) d b (z ++ 62 ∷ rest)) is.5
        ∙ (ap (runs Outside (Cells true) d b) (append_assoc digits behind (62 ∷ rest) ∙ ap (λ (z : Bytes). digits ++ z) f.is)
        ∙ (over_number (2 ^ 32) CellDigits (Cells false) PushWord cell_numeric d b f.first f.rest f.stops (Cells true) (λ c e. first_cell d c e) digits n is.2 is.3
        ∙ (ap (runs Outside (Cells false) d grown) (sym f.is)
        ∙ (over_any d grown (Cells false) (gap_cells false) behind (62 ∷ rest) (runs Outside AfterValue d grown rest) (ap (cont d grown 62 rest) (cells_62 false)) (ap (cont d grown 62 rest) (cells_62 true)) is.4
        ∙ ap (λ (z : Bytes). runs Outside AfterValue d (valued b (b.value ++ z)) rest) (sym (append-nil (to_be_bytes w32 n)))))))
    over_words b (n ∷ m ∷ ns) inner is =
        let digits : Bytes = is.0 in
        let between : Bytes = is.1 in
        let later : Bytes = is.2 in
        let f = separator_front between (later ++ 62 ∷ rest) is.5.0 is.5.1 in
        let grown : Built = valued b (b.value ++ to_be_bytes w32 n) in
        ap (λ (z : Bytes). runs Outside (Cells true) d b (z ++ 62 ∷ rest)) is.7
        ∙ (ap (runs Outside (Cells true) d b) (append_assoc digits (between ++ later) (62 ∷ rest) ∙ ap (λ (z : Bytes). digits ++ z) (append_assoc between later (62 ∷ rest) ∙ f.is))
        ∙ (over_number (2 ^ 32) CellDigits (Cells false) PushWord cell_numeric d b f.first f.rest f.stops (Cells true) (λ c e. first_cell d c e) digits n is.3 is.4
        ∙ (ap (runs Outside (Cells false) d grown) (sym f.is)
        ∙ (over_separator d grown (Cells false) (gap_cells false) between (later ++ 62 ∷ rest) is.5
        ∙ (over_words grown (m ∷ ns) later is.6
        ∙ ap (λ (z : Built). runs Outside AfterValue d z rest) (twice b (to_be_bytes w32 n) (flat_map (to_be_bytes w32) (m ∷ ns))))))))

    pair_value : (h l : ℕ) → h * 16 + l ≡ (0 * 16 + h) * 16 + l
    pair_value h l = ap (λ k. k * 16 + l) (sym (first_16 h))

    over_pairs : (b : Built) (value inner : Bytes) → AreEach IsPair inner value → runs Outside Pairs d b (inner ++ 93 ∷ rest) ≡ runs Outside AfterValue d (valued b (b.value ++ value)) rest
    over_pairs b [] inner is =
        ap (λ (z : Bytes). runs Outside Pairs d b (z ++ 93 ∷ rest)) is
        ∙ (ap (cont d b 93 rest) pairs_93 ∙ ap (λ (z : Built). runs Outside AfterValue d z rest) (never b))
    over_pairs b (byte ∷ value) inner is =
        let others : Bytes = is.1 in
        let pair = is.2 in
        let h : ℕ = pair.0 in
        let l : ℕ = pair.1 in
        let behind : Bytes = pair.2 in
        let p = and_parts (nat_lt (digit_value h) 16) (nat_lt (digit_value l) 16 && true) pair.3 in
        let q = and_parts (nat_lt (digit_value l) 16) true p.1 in
        let plain = digit_plain h p.0 in
        let grown : Built = valued b (b.value ++ (digit_value h * 16 + digit_value l) ∷ []) in
        ap (λ (z : Bytes). runs Outside Pairs d b (z ++ 93 ∷ rest)) (is.4 ∙ ap (λ (z : Bytes). z ++ others) pair.5)
        ∙ (ap (λ (z : Bytes). runs Outside Pairs d b (h ∷ l ∷ z)) (append_assoc behind others (93 ∷ rest))
        ∙ (ap (cont d b h (l ∷ (behind ++ (others ++ 93 ∷ rest))))
        (cond-false (is_space h) (pass Pairs) (cond (h == 47) (Some (Slash, Pairs, Pass)) (cond (h == 93) (pass AfterValue) (cond (nat_lt (digit_value h) 16) (pass (Half (digit_value h))) None))) plain.space
        ∙ (cond-false (h == 47) (Some (Slash, Pairs, Pass)) (cond (h == 93) (pass AfterValue) (cond (nat_lt (digit_value h) 16) (pass (Half (digit_value h))) None)) plain.slash
        ∙ (cond-false (h == 93) (pass AfterValue) (cond (nat_lt (digit_value h) 16) (pass (Half (digit_value h))) None) plain.bracket
        ∙ cond-true (nat_lt (digit_value h) 16) (pass (Half (digit_value h))) None p.0)))
        ∙ (ap (cont d b l (behind ++ (others ++ 93 ∷ rest))) (cond-true (nat_lt (digit_value l) 16) (to Pairs (PushByte (digit_value h * 16 + digit_value l))) None q.0)
        ∙ (over_blank d grown Pairs gap_pairs refl behind (others ++ 93 ∷ rest) pair.4
        ∙ (over_pairs grown value others is.3
        ∙ (ap (λ (z : Built). runs Outside AfterValue d z rest) (twice b ((digit_value h * 16 + digit_value l) ∷ []) value)
        ∙ ap (λ (k : ℕ). runs Outside AfterValue d (valued b (b.value ++ k ∷ value)) rest) (pair_value (digit_value h) (digit_value l) ∙ sym pair.6)))))))

    pub over_value : (b : Built) (text value : Bytes) → IsValue text value → runs Outside Value d b (text ++ rest) ≡ runs Outside AfterValue d (valued b (b.value ++ value)) rest
    over_value b text value (inl is) =
        let inner : Bytes = is.0 in
        ap (λ (z : Bytes). runs Outside Value d b (z ++ rest)) is.2
        ∙ (ap (λ (z : Bytes). runs Outside Value d b (34 ∷ z)) (append_assoc inner (34 ∷ []) rest)
        ∙ (ap (cont d b 34 (inner ++ 34 ∷ rest)) value_34
        ∙ (over_string b inner is.1
        ∙ ap (λ (z : Bytes). runs Outside AfterValue d (valued b (b.value ++ z)) rest) (sym is.3))))
    over_value b text value (inr (inl is)) =
        let blank : Bytes = is.0 in
        let inner : Bytes = is.1 in
        ap (λ (z : Bytes). runs Outside Value d b (z ++ rest)) is.5
        ∙ (ap (λ (z : Bytes). runs Outside Value d b (60 ∷ z)) (append_assoc blank (inner ++ 62 ∷ []) rest ∙ ap (λ (z : Bytes). blank ++ z) (append_assoc inner (62 ∷ []) rest))
        ∙ (ap (cont d b 60 (blank ++ (inner ++ 62 ∷ rest))) value_60
        ∙ (over_blank d b (Cells true) (gap_cells true) refl blank (inner ++ 62 ∷ rest) is.3
        ∙ (over_words b is.2 inner is.4
        ∙ ap (λ (z : Bytes). runs Outside AfterValue d (valued b (b.value ++ z)) rest) (sym is.6)))))
    over_value b text value (inr (inr is)) =
        let blank : Bytes = is.0 in
        let inner : Bytes = is.1 in
        ap (λ (z : Bytes). runs Outside Value d b (z ++ rest)) is.4
        ∙ (ap (λ (z : Bytes). runs Outside Value d b (91 ∷ z)) (append_assoc blank (inner ++ 93 ∷ []) rest ∙ ap (λ (z : Bytes). blank ++ z) (append_assoc inner (93 ∷ []) rest))
        ∙ (ap (cont d b 91 (blank ++ (inner ++ 93 ∷ rest))) value_91
        ∙ (over_blank d b Pairs gap_pairs refl blank (inner ++ 93 ∷ rest) is.2
        ∙ over_pairs b value inner is.3)))

  over_more : (b : Built) (more : List Bytes) (others rest : Bytes) → AreEach IsNextValue others more → runs Outside AfterValue d b (others ++ rest) ≡ runs Outside AfterValue d (valued b (b.value ++ whole more)) rest
  over_more b [] others rest is =
      ap (λ (z : Bytes). runs Outside AfterValue d b (z ++ rest)) is ∙ ap (λ (z : Built). runs Outside AfterValue d z rest) (never b)
  over_more b (value ∷ more) others rest is =
      let next = is.2 in
      let before : Bytes = next.0 in
      let after : Bytes = next.1 in
      let last : Bytes = next.2 in
      let later : Bytes = is.1 in
      let left : Bytes = later ++ rest in
      let grown : Built = valued b (b.value ++ value) in
      ap (λ (z : Bytes). runs Outside AfterValue d b (z ++ rest)) (is.4 ∙ ap (λ (z : Bytes). z ++ later) next.6)
      ∙ (ap (runs Outside AfterValue d b) (append_assoc (before ++ 44 ∷ (after ++ last)) later rest ∙ (append_assoc before (44 ∷ (after ++ last)) left ∙ ap (λ (z : Bytes). before ++ 44 ∷ z) (append_assoc after last left)))
      ∙ (over_blank d b AfterValue gap_after_value refl before (44 ∷ (after ++ (last ++ left))) next.3
      ∙ (ap (cont d b 44 (after ++ (last ++ left))) comma
      ∙ (over_blank d b Value gap_value refl after (last ++ left) next.4
      ∙ (over_value left b last value next.5
      ∙ (over_more grown more later rest is.3
      ∙ ap (λ (z : Built). runs Outside AfterValue d z rest) (twice b value (whole more))))))))

  -- Values, whose bytes stand one after another.
  pub over_values : (b : Built) (text value rest : Bytes) → AreValues text value → runs Outside Value d b (text ++ rest) ≡ runs Outside AfterValue d (valued b (b.value ++ value)) rest
  over_values b text value rest is =
      let first : Bytes = is.0 in
      let others : Bytes = is.1 in
      let one : Bytes = is.2 in
      ap (λ (z : Bytes). runs Outside Value d b (z ++ rest)) is.6
      ∙ (ap (runs Outside Value d b) (append_assoc first others rest)
      ∙ (over_value (others ++ rest) b first one is.4
      ∙ (over_more (valued b (b.value ++ one)) is.3 others rest is.5
      ∙ (ap (λ (z : Built). runs Outside AfterValue d z rest) (twice b one (whole is.3))
      ∙ ap (λ (z : Bytes). runs Outside AfterValue d (valued b (b.value ++ z)) rest) (sym is.7)))))
