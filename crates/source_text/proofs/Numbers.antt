-- The reader goes over numbers.
use Rattle.std.proofs.Common.{◌≡◌, ◌∙◌, refl, sym, ap, subst, ℕ, ◌+◌, ◌*◌, ◌^◌, ◌<◌, ◌≤◌, Bool, true, false, not, [], ◌∷◌, ◌++◌, Some, None, cond, inl, inr, arith}
use Rattle.std.specs.Prelude.{◌==◌, nat_lt}
use Rattle.std.specs.Char.{digit_value}
use Rattle.std.specs.List.{list_all}
use Rattle.std.specs.Str.Parse.{digits_value, digits_value_after}
use Rattle.std.proofs.lemmas.Bool.{and_parts, not-true, cond-true, cond-false, ltb-true, ltb-false, lt-ltb, le-ltb, eqb-true, true≢false}
use Rattle.fdt_tree.specs.Tree.{Bytes}
use Rattle.source_text.specs.Characters.{is_space}
use Rattle.source_text.specs.Source.{are_digits, is_decimal, IsNumber}
use Rattle.source_text.specs.declared.state.Comment.TheVariants.{Outside, Slash}
use Rattle.source_text.specs.declared.state.Digits.{Digits}
use Rattle.source_text.specs.declared.state.Digits.TheVariants.{Zero, Prefix, Hexadecimal, Decimal}
use Rattle.source_text.specs.declared.state.Next.{Next}
use Rattle.source_text.specs.declared.state.Next.TheVariants.{Item, Address, AddressDigits, Size, SizeDigits, ReserveEnd, Cells, CellDigits, AfterValue}
use Rattle.source_text.specs.declared.state.Action.{Action}
use Rattle.source_text.specs.declared.state.Action.TheVariants.{Pass, SetAddress, AddReserve, PushWord}
use Rattle.source_text.specs.PrivateTurns.{Turn, pass, with_digit, first_digit, is_digit_of, number_of, digits_turn, gap_turn, with_action, number_turn, outside_turn}
use Rattle.source_text.specs.PrivateReadings.{Built, act, runs}
use Rattle.source_text.proofs.Running.{cont}
use Rattle.source_text.proofs.Stops.{IsStop, digit_plain}

rise_16 : (n k v : ℕ) → n * 16 + k ≤ v → n ≤ v
rise_16 n k v le = omega arith

rise_10 : (n k v : ℕ) → n * 10 + k ≤ v → n ≤ v
rise_10 n k v le = omega arith

-- The number does not fall.
pub grows_16 : (n : ℕ) (ds : Bytes) → n ≤ digits_value_after 16 n ds
grows_16 n [] = omega arith
grows_16 n (c ∷ ds) = rise_16 n (digit_value c) (digits_value_after 16 (n * 16 + digit_value c) ds) (grows_16 (n * 16 + digit_value c) ds)

pub grows_10 : (n : ℕ) (ds : Bytes) → n ≤ digits_value_after 10 n ds
grows_10 n [] = omega arith
grows_10 n (c ∷ ds) = rise_10 n (digit_value c) (digits_value_after 10 (n * 10 + digit_value c) ds) (grows_10 (n * 10 + digit_value c) ds)

pub first_16 : (k : ℕ) → 0 * 16 + k ≡ k
first_16 k = omega arith

pub first_10 : (k : ℕ) → 0 * 10 + k ≡ k
first_10 k = omega arith

below : (n m k : ℕ) → n ≤ m → m < k → nat_lt n k ≡ true
below n m k le lt = lt-ltb n k (omega arith)

pub ten_sixteen : (k : ℕ) → nat_lt k 10 ≡ true → nat_lt k 16 ≡ true
ten_sixteen k e = let h : k < 10 = ltb-true k 10 e in lt-ltb k 16 (omega arith)

sixteen_ten : (k : ℕ) → nat_lt k 16 ≡ false → nat_lt k 10 ≡ false
sixteen_ten k e = let h : 16 ≤ k = ltb-false k 16 e in le-ltb k 10 (omega arith)

-- A number that is read in a state, and what is read behind it.
pub record IsNumeric (limit : ℕ) (again : Digits → Next) (behind : Next) (ended : ℕ → Action) : Type 0 where
  pub here : (x : Digits) (d c : ℕ) → outside_turn (again x) d c ≡ number_turn limit x again behind ended d c
  pub ends : (n d s : ℕ) (b : Built) (rest : Bytes) → cont d b s rest (with_action (ended n) (gap_turn behind d s)) ≡ cont d (act (ended n) s b) s rest (outside_turn behind d s)

module _ (n d s : ℕ) (b : Built) (rest : Bytes) where
  cell_ends : (x y z : Bool) → cont d b s rest (with_action (PushWord n) (cond x (pass (Cells true)) (cond y (Some (Slash, Cells false, Pass)) (cond z (pass AfterValue) None))))
      ≡ cont d (act (PushWord n) s b) s rest (cond x (pass (Cells true)) (cond y (Some (Slash, Cells false, Pass)) (cond z (pass AfterValue) None)))
  cell_ends true y z = refl
  cell_ends false true z = refl
  cell_ends false false true = refl
  cell_ends false false false = refl

  address_ends : (x y : Bool) → cont d b s rest (with_action (SetAddress n) (cond x (pass (Size true)) (cond y (Some (Slash, Size false, Pass)) None)))
      ≡ cont d (act (SetAddress n) s b) s rest (cond x (pass (Size true)) (cond y (Some (Slash, Size false, Pass)) None))
  address_ends true y = refl
  address_ends false true = refl
  address_ends false false = refl

  size_ends : (x y z : Bool) → cont d b s rest (with_action (AddReserve n) (cond x (pass ReserveEnd) (cond y (Some (Slash, ReserveEnd, Pass)) (cond z (pass Item) None))))
      ≡ cont d (act (AddReserve n) s b) s rest (cond x (pass ReserveEnd) (cond y (Some (Slash, ReserveEnd, Pass)) (cond z (pass Item) None)))
  size_ends true y z = refl
  size_ends false true z = refl
  size_ends false false true = refl
  size_ends false false false = refl

pub cell_numeric : IsNumeric (2 ^ 32) CellDigits (Cells false) PushWord
cell_numeric = record { here = λ x d c. refl; ends = λ n d s b rest. cell_ends n d s b rest (is_space s) (s == 47) (s == 62) }

pub address_numeric : IsNumeric (2 ^ 64) AddressDigits (Size false) SetAddress
address_numeric = record { here = λ x d c. refl; ends = λ n d s b rest. address_ends n d s b rest (is_space s) (s == 47) }

pub size_numeric : IsNumeric (2 ^ 64) SizeDigits ReserveEnd AddReserve
size_numeric = record { here = λ x d c. refl; ends = λ n d s b rest. size_ends n d s b rest (is_space s) (s == 47) (s == 59) }

module _ (limit : ℕ) (again : Digits → Next) (behind : Next) (ended : ℕ → Action) (law : IsNumeric limit again behind ended) (d : ℕ) (b : Built) where
  -- A byte that is no digit ends the number.
  pub ended_here : (x : Digits) (s : ℕ) (rest : Bytes) → is_digit_of x s ≡ false → runs Outside (again x) d b (s ∷ rest) ≡ runs Outside behind d (act (ended (number_of x)) s b) (s ∷ rest)
  ended_here x s rest e =
      ap (cont d b s rest) (law.here x d s ∙ cond-false (is_digit_of x s) (digits_turn again (with_digit limit x s)) (with_action (ended (number_of x)) (gap_turn behind d s)) e)
      ∙ law.ends (number_of x) d s b rest

  -- One that is one is taken.
  pub taken_here : (x y : Digits) (c : ℕ) (rest : Bytes) → is_digit_of x c ≡ true → with_digit limit x c ≡ Some y → runs Outside (again x) d b (c ∷ rest) ≡ runs Outside (again y) d b rest
  taken_here x y c rest e w =
      ap (cont d b c rest) (law.here x d c ∙ (cond-true (is_digit_of x c) (digits_turn again (with_digit limit x c)) (with_action (ended (number_of x)) (gap_turn behind d c)) e ∙ ap (digits_turn again) w))

  module _ (s : ℕ) (rest : Bytes) (stop : IsStop s) where
    hexadecimal_digits : (m : ℕ) (ds : Bytes) → list_all (λ c. nat_lt (digit_value c) 16) ds ≡ true → digits_value_after 16 m ds < limit
        → runs Outside (again (Hexadecimal m)) d b (ds ++ s ∷ rest) ≡ runs Outside behind d (act (ended (digits_value_after 16 m ds)) s b) (s ∷ rest)
    hexadecimal_digits m [] all lt = ended_here (Hexadecimal m) s rest stop.digit
    hexadecimal_digits m (c ∷ ds) all lt =
        let p = and_parts (nat_lt (digit_value c) 16) (list_all (λ c. nat_lt (digit_value c) 16) ds) all in
        taken_here (Hexadecimal m) (Hexadecimal (m * 16 + digit_value c)) c (ds ++ s ∷ rest) p.0
        (cond-true (nat_lt (m * 16 + digit_value c) limit) (Some (Hexadecimal (m * 16 + digit_value c))) None (below (m * 16 + digit_value c) (digits_value_after 16 (m * 16 + digit_value c) ds) limit (grows_16 (m * 16 + digit_value c) ds) lt))
        ∙ hexadecimal_digits (m * 16 + digit_value c) ds p.1 lt

    decimal_digits : (m : ℕ) (ds : Bytes) → list_all (λ c. nat_lt (digit_value c) 10) ds ≡ true → digits_value_after 10 m ds < limit
        → runs Outside (again (Decimal m)) d b (ds ++ s ∷ rest) ≡ runs Outside behind d (act (ended (digits_value_after 10 m ds)) s b) (s ∷ rest)
    decimal_digits m [] all lt = ended_here (Decimal m) s rest (sixteen_ten (digit_value s) stop.digit)
    decimal_digits m (c ∷ ds) all lt =
        let p = and_parts (nat_lt (digit_value c) 10) (list_all (λ c. nat_lt (digit_value c) 10) ds) all in
        taken_here (Decimal m) (Decimal (m * 10 + digit_value c)) c (ds ++ s ∷ rest) p.0
        (cond-true (nat_lt (m * 10 + digit_value c) limit) (Some (Decimal (m * 10 + digit_value c))) None (below (m * 10 + digit_value c) (digits_value_after 10 (m * 10 + digit_value c) ds) limit (grows_10 (m * 10 + digit_value c) ds) lt))
        ∙ decimal_digits (m * 10 + digit_value c) ds p.1 lt

    prefixed : (ds : Bytes) → are_digits 16 ds ≡ true → digits_value 16 ds < limit
        → runs Outside (again Prefix) d b (ds ++ s ∷ rest) ≡ runs Outside behind d (act (ended (digits_value 16 ds)) s b) (s ∷ rest)
    prefixed [] all lt = absurd (true≢false (sym all))
    prefixed (c ∷ ds) all lt =
        let p = and_parts (nat_lt (digit_value c) 16) (list_all (λ c. nat_lt (digit_value c) 16) ds) all in
        let same : digits_value_after 16 (digit_value c) ds ≡ digits_value 16 (c ∷ ds) = ap (λ k. digits_value_after 16 k ds) (sym (first_16 (digit_value c))) in
        taken_here Prefix (Hexadecimal (digit_value c)) c (ds ++ s ∷ rest) refl (cond-true (nat_lt (digit_value c) 16) (Some (Hexadecimal (digit_value c))) None p.0)
        ∙ (hexadecimal_digits (digit_value c) ds p.1 (subst (λ (k : ℕ). k < limit) (sym same) lt)
        ∙ ap (λ (k : ℕ). runs Outside behind d (act (ended k) s b) (s ∷ rest)) same)

    module _ (before : Next) (first : (c : ℕ) → nat_lt (digit_value c) 16 ≡ true → outside_turn before d c ≡ digits_turn again (first_digit c)) where
      begun : (c : ℕ) (x : Digits) (more : Bytes) → nat_lt (digit_value c) 16 ≡ true → first_digit c ≡ Some x → runs Outside before d b (c ∷ more) ≡ runs Outside (again x) d b more
      begun c x more e f = ap (cont d b c more) (first c e ∙ ap (digits_turn again) f)

      -- Decimal digits of which the first is no zero.
      counted : (c : ℕ) (ds : Bytes) → (c == 48) ≡ false → nat_lt (digit_value c) 10 ≡ true → list_all (λ c. nat_lt (digit_value c) 10) ds ≡ true → digits_value 10 (c ∷ ds) < limit
          → runs Outside before d b (c ∷ (ds ++ s ∷ rest)) ≡ runs Outside behind d (act (ended (digits_value 10 (c ∷ ds))) s b) (s ∷ rest)
      counted c ds zero one all lt =
          let same : digits_value_after 10 (digit_value c) ds ≡ digits_value 10 (c ∷ ds) = ap (λ k. digits_value_after 10 k ds) (sym (first_10 (digit_value c))) in
          begun c (Decimal (digit_value c)) (ds ++ s ∷ rest) (ten_sixteen (digit_value c) one)
          (cond-false (c == 48) (Some Zero) (cond (nat_lt (digit_value c) 10) (Some (Decimal (digit_value c))) None) zero ∙ cond-true (nat_lt (digit_value c) 10) (Some (Decimal (digit_value c))) None one)
          ∙ (decimal_digits (digit_value c) ds all (subst (λ (k : ℕ). k < limit) (sym same) lt)
          ∙ ap (λ (k : ℕ). runs Outside behind d (act (ended k) s b) (s ∷ rest)) same)

      alone : (c : ℕ) (z : Bool) → (c == 48) ≡ z → nat_lt (digit_value c) 10 ≡ true → digits_value 10 (c ∷ []) < limit
          → runs Outside before d b (c ∷ s ∷ rest) ≡ runs Outside behind d (act (ended (digits_value 10 (c ∷ []))) s b) (s ∷ rest)
      alone c false is one lt = counted c [] is one refl lt
      alone c true is one lt =
          subst (λ (k : ℕ). runs Outside before d b (k ∷ s ∷ rest) ≡ runs Outside behind d (act (ended (digits_value 10 (k ∷ []))) s b) (s ∷ rest)) (sym (eqb-true c 48 is))
          (begun 48 Zero (s ∷ rest) refl refl ∙ ended_here Zero s rest stop.prefix)

      decimal : (text : Bytes) → is_decimal text ≡ true → digits_value 10 text < limit
          → runs Outside before d b (text ++ s ∷ rest) ≡ runs Outside behind d (act (ended (digits_value 10 text)) s b) (s ∷ rest)
      decimal [] all lt = absurd (true≢false (sym all))
      decimal (c ∷ []) all lt = alone c (c == 48) refl all lt
      decimal (c ∷ e ∷ ds) all lt =
          let p = and_parts (not (c == 48)) (are_digits 10 (c ∷ e ∷ ds)) all in
          let q = and_parts (nat_lt (digit_value c) 10) (list_all (λ c. nat_lt (digit_value c) 10) (e ∷ ds)) p.1 in
          counted c (e ∷ ds) (not-true (c == 48) p.0) q.0 q.1 lt

      -- A number, and the byte behind it.
      pub over_number : (text : Bytes) (n : ℕ) → IsNumber text n → n < limit → runs Outside before d b (text ++ s ∷ rest) ≡ runs Outside behind d (act (ended n) s b) (s ∷ rest)
      over_number text n (inl h) lt =
          ap (λ (z : Bytes). runs Outside before d b (z ++ s ∷ rest)) h.2
          ∙ (begun 48 Zero (120 ∷ (h.0 ++ s ∷ rest)) refl refl
          ∙ (taken_here Zero Prefix 120 (h.0 ++ s ∷ rest) refl refl
          ∙ (prefixed h.0 h.1 (subst (λ (k : ℕ). k < limit) h.3 lt)
          ∙ ap (λ (k : ℕ). runs Outside behind d (act (ended k) s b) (s ∷ rest)) (sym h.3))))
      over_number text n (inr h) lt =
          decimal text h.0 (subst (λ (k : ℕ). k < limit) h.1 lt)
          ∙ ap (λ (k : ℕ). runs Outside behind d (act (ended k) s b) (s ∷ rest)) (sym h.1)

-- Where the first digit may stand.
module _ (d c : ℕ) (e : nat_lt (digit_value c) 16 ≡ true) where
  plain : (next : Next) (turn : Turn) (spaced_turn : Turn) → cond (is_space c) spaced_turn (cond (c == 47) (Some (Slash, next, Pass)) turn) ≡ turn
  plain next turn spaced_turn =
      let p = digit_plain c e in
      cond-false (is_space c) spaced_turn (cond (c == 47) (Some (Slash, next, Pass)) turn) p.space ∙ cond-false (c == 47) (Some (Slash, next, Pass)) turn p.slash

  pub first_address : outside_turn (Address true) d c ≡ digits_turn AddressDigits (first_digit c)
  first_address = plain (Address true) (digits_turn AddressDigits (first_digit c)) (pass (Address true))

  pub first_size : outside_turn (Size true) d c ≡ digits_turn SizeDigits (first_digit c)
  first_size = plain (Size true) (digits_turn SizeDigits (first_digit c)) (pass (Size true))

  pub first_cell : outside_turn (Cells true) d c ≡ digits_turn CellDigits (first_digit c)
  first_cell =
      plain (Cells true) (cond (c == 62) (pass AfterValue) (digits_turn CellDigits (first_digit c))) (pass (Cells true))
      ∙ cond-false (c == 62) (pass AfterValue) (digits_turn CellDigits (first_digit c)) (digit_plain c e).angle
