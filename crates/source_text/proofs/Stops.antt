-- Bytes that are no part of a number or a name, and bytes that are no spacing.
use Rattle.std.proofs.Common.{◌≡◌, ◌∙◌, refl, sym, ap, subst, ℕ, ◌<◌, Bool, true, false, ◌||◌, List, [], ◌∷◌, ◌++◌, length, append_assoc, inl, inr, arith}
use Rattle.std.specs.Prelude.{◌==◌, ◌⊎◌, nat_lt}
use Rattle.std.specs.Char.{digit_value}
use Rattle.std.specs.List.{AllByRecursion}
use Rattle.std.proofs.lemmas.Bool.{eqb-true, or_cases}
use Rattle.fdt_tree.specs.Tree.{Bytes}
use Rattle.source_text.specs.Characters.{is_property_byte, is_node_byte, is_space}
use Rattle.source_text.specs.Source.{whole, IsSpacing, IsBlank}
use Rattle.source_text.proofs.Running.{differs}

-- A byte that may stand behind a number and behind a name.
pub record IsStop (c : ℕ) : Type 0 where
  pub digit : nat_lt (digit_value c) 16 ≡ false
  pub prefix : (c == 120) ≡ false
  pub name : (is_property_byte c || is_node_byte c) ≡ false

at_byte : (c k : ℕ) → (c == k) ≡ true → IsStop k → IsStop c
at_byte c k e stop = subst IsStop (sym (eqb-true c k e)) stop

stop_32 : IsStop 32
unfolding is_property_byte is_node_byte
stop_32 = record { digit = refl; prefix = refl; name = refl }

stop_9 : IsStop 9
unfolding is_property_byte is_node_byte
stop_9 = record { digit = refl; prefix = refl; name = refl }

stop_10 : IsStop 10
unfolding is_property_byte is_node_byte
stop_10 = record { digit = refl; prefix = refl; name = refl }

stop_13 : IsStop 13
unfolding is_property_byte is_node_byte
stop_13 = record { digit = refl; prefix = refl; name = refl }

pub stop_47 : IsStop 47
unfolding is_property_byte is_node_byte
stop_47 = record { digit = refl; prefix = refl; name = refl }

-- `;`, `=`, `{`, `>`
pub stop_59 : IsStop 59
unfolding is_property_byte is_node_byte
stop_59 = record { digit = refl; prefix = refl; name = refl }

pub stop_61 : IsStop 61
unfolding is_property_byte is_node_byte
stop_61 = record { digit = refl; prefix = refl; name = refl }

pub stop_62 : IsStop 62
unfolding is_property_byte is_node_byte
stop_62 = record { digit = refl; prefix = refl; name = refl }

pub stop_123 : IsStop 123
unfolding is_property_byte is_node_byte
stop_123 = record { digit = refl; prefix = refl; name = refl }

pub space_stops : (c : ℕ) → is_space c ≡ true → IsStop c
unfolding is_space
space_stops c e = first (or_cases ((c == 32 || c == 9) || c == 10) (c == 13) e)
  where
    third : (c == 32 ≡ true) ⊎ (c == 9 ≡ true) → IsStop c
    third (inl q) = at_byte c 32 q stop_32
    third (inr q) = at_byte c 9 q stop_9

    second : ((c == 32 || c == 9) ≡ true) ⊎ (c == 10 ≡ true) → IsStop c
    second (inl q) = third (or_cases (c == 32) (c == 9) q)
    second (inr q) = at_byte c 10 q stop_10

    first : (((c == 32 || c == 9) || c == 10) ≡ true) ⊎ (c == 13 ≡ true) → IsStop c
    first (inl q) = second (or_cases (c == 32 || c == 9) (c == 10) q)
    first (inr q) = at_byte c 13 q stop_13

-- Spacing, and what follows it, begins with a byte that stops.
pub record Front (text : Bytes) : Type 0 where
  pub first : ℕ
  pub rest : Bytes
  pub is : text ≡ first ∷ rest
  pub stops : IsStop first

spacing_front : (part more : Bytes) → IsSpacing part → Front (part ++ more)
spacing_front part more (inl s) = record { first = s.0; rest = more; is = ap (λ (z : Bytes). z ++ more) s.2; stops = space_stops s.0 s.1 }
spacing_front part more (inr (inl s)) = record { first = 47; rest = _; is = ap (λ (z : Bytes). z ++ more) s.2; stops = stop_47 }
spacing_front part more (inr (inr s)) =
    record { first = 47; rest = _; is = ap (λ (z : Bytes). z ++ more) (s.2 ∙ ap (λ (z : Bytes). z ++ 10 ∷ []) s.1.2); stops = stop_47 }

pub blank_front : (text : Bytes) (c : ℕ) (rest : Bytes) → IsBlank text → IsStop c → Front (text ++ c ∷ rest)
blank_front text c rest blank stop = by blank.0 blank.1 blank.2
  where
    by : (parts : List Bytes) → AllByRecursion IsSpacing parts → text ≡ whole parts → Front (text ++ c ∷ rest)
    by [] all is = record { first = c; rest = rest; is = ap (λ (z : Bytes). z ++ c ∷ rest) is; stops = stop }
    by (part ∷ parts) all is =
        let f = spacing_front part (whole parts ++ c ∷ rest) all.0 in
        record { first = f.first; rest = f.rest; is = ap (λ (z : Bytes). z ++ c ∷ rest) is ∙ (append_assoc part (whole parts) (c ∷ rest) ∙ f.is); stops = f.stops }

-- Spacing that is not empty does so, whatever follows it.
pub separator_front : (text rest : Bytes) → IsBlank text → 0 < length text → Front (text ++ rest)
separator_front text rest blank some = by blank.0 blank.1 blank.2
  where
    by : (parts : List Bytes) → AllByRecursion IsSpacing parts → text ≡ whole parts → Front (text ++ rest)
    by [] all is = absurd (omega (arith, ap length is))
    by (part ∷ parts) all is =
        let f = spacing_front part (whole parts ++ rest) all.0 in
        record { first = f.first; rest = f.rest; is = ap (λ (z : Bytes). z ++ rest) is ∙ (append_assoc part (whole parts) rest ∙ f.is); stops = f.stops }

-- A digit is no spacing and no bracket.
pub record IsDigitByte (c : ℕ) : Type 0 where
  pub space : is_space c ≡ false
  pub slash : (c == 47) ≡ false
  pub angle : (c == 62) ≡ false
  pub bracket : (c == 93) ≡ false

not_space : (f : ℕ → Bool) (c : ℕ) → f c ≡ true → f 32 ≡ false → f 9 ≡ false → f 10 ≡ false → f 13 ≡ false → is_space c ≡ false
unfolding is_space
not_space f c e a b x y = rw (differs f c 32 e a, differs f c 9 e b, differs f c 10 e x, differs f c 13 e y) refl

pub digit_plain : (c : ℕ) → nat_lt (digit_value c) 16 ≡ true → IsDigitByte c
digit_plain c e =
    let f : ℕ → Bool = λ k. nat_lt (digit_value k) 16 in record {
      space = not_space f c e refl refl refl refl;
      slash = differs f c 47 e refl;
      angle = differs f c 62 e refl;
      bracket = differs f c 93 e refl;
    }

-- Nor is a byte of a name, and it is no brace and no slash.
pub record IsNameByte (c : ℕ) : Type 0 where
  pub space : is_space c ≡ false
  pub slash : (c == 47) ≡ false
  pub brace : (c == 125) ≡ false

pub property_plain : (c : ℕ) → is_property_byte c ≡ true → IsNameByte c
unfolding is_property_byte
property_plain c e = record {
  space = not_space is_property_byte c e refl refl refl refl;
  slash = differs is_property_byte c 47 e refl;
  brace = differs is_property_byte c 125 e refl;
}

pub node_plain : (c : ℕ) → is_node_byte c ≡ true → IsNameByte c
unfolding is_node_byte
node_plain c e = record {
  space = not_space is_node_byte c e refl refl refl refl;
  slash = differs is_node_byte c 47 e refl;
  brace = differs is_node_byte c 125 e refl;
}
