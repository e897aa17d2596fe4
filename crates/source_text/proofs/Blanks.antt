-- The reader goes over spacing.
use Rattle.std.proofs.Common.{◌≡◌, ◌∙◌, refl, sym, ap, subst, ℕ, ◌<◌, Bool, true, false, not, ◌&&◌, List, [], ◌∷◌, ◌++◌, length, append_assoc, Option, Some, None, cond, inl, inr, arith}
use Rattle.std.specs.Prelude.{◌==◌}
use Rattle.std.specs.List.{list_all, AllByRecursion}
use Rattle.std.proofs.lemmas.Bool.{and_parts, not-true, cond-true, cond-false, eqb-true, true≢false}
use Rattle.fdt_tree.specs.Tree.{Bytes}
use Rattle.source_text.specs.Characters.{is_space}
use Rattle.source_text.specs.Source.{whole, is_open, IsSpacing, IsBlank, IsSeparator, begins_no_comment, IsBlankAfterSlash}
use Rattle.source_text.specs.declared.state.Comment.{Comment}
use Rattle.source_text.specs.declared.state.Comment.TheVariants.{Outside, Fresh, Slash, ToFeed, ToStar, Star}
use Rattle.source_text.specs.declared.state.Next.{Next}
use Rattle.source_text.specs.declared.state.Keyword.TheVariants as keywords
use Rattle.source_text.specs.declared.state.Next.TheVariants.{Word, Body, Item, RootOpen}
use Rattle.source_text.specs.declared.state.Action.TheVariants.{Pass}
use Rattle.source_text.specs.PrivateTurns.{pass, spaced, gap_turn, token_turn, slash_turn, outside_turn}
use Rattle.source_text.specs.PrivateReadings.{Built, Stand, runs}
use Rattle.source_text.proofs.Running.{cont, differs}

-- Spacing may stand here.
pub record IsGap (n : Next) : Type 0 where
  pub here : (d c : ℕ) → outside_turn n d c ≡ gap_turn n d c
  pub there : (d c : ℕ) → outside_turn (spaced n) d c ≡ gap_turn (spaced n) d c
  pub again : spaced (spaced n) ≡ spaced n

pub gap_spaced : (n : Next) → IsGap n → IsGap (spaced n)
gap_spaced n g = record {
  here = g.there;
  there = λ d c. subst (λ (m : Next). outside_turn m d c ≡ gap_turn m d c) (sym g.again) (g.there d c);
  again = ap spaced g.again;
}

pub root_gap : IsGap RootOpen
root_gap = record { here = λ d c. refl; there = λ d c. refl; again = refl }

pub open_tail : (c : ℕ) (text : Bytes) → is_open (c ∷ text) ≡ true → is_open text ≡ true
open_tail c [] e = refl
open_tail c (d ∷ text) e = (and_parts (not (c == 42 && d == 47)) (is_open (d ∷ text)) e).1

-- Inside a comment, behind a `*` or not.
abbrev pub comment_at : Bool → Comment
comment_at true = Star
comment_at false = ToStar

abbrev pub behind_star : Bool → Bytes → Bytes
behind_star true text = 42 ∷ text
behind_star false text = text

module _ (n : Next) (d : ℕ) (b : Built) where
  pub over_line : (inner rest : Bytes) → list_all (λ c. not (c == 10)) inner ≡ true → runs ToFeed n d b (inner ++ 10 ∷ rest) ≡ runs Outside (spaced n) d b rest
  over_line [] rest e = refl
  over_line (c ∷ inner) rest e =
      let p = and_parts (not (c == 10)) (list_all (λ c. not (c == 10)) inner) e in
      ap (λ z. cont d b c (inner ++ 10 ∷ rest) (cond z (pass (spaced n)) (Some (ToFeed, n, Pass)))) (not-true (c == 10) p.0) ∙ over_line inner rest p.1

  pub over_block : (starred : Bool) (inner rest : Bytes) → is_open (behind_star starred (inner ++ 42 ∷ [])) ≡ true → runs (comment_at starred) n d b (inner ++ 42 ∷ 47 ∷ rest) ≡ runs Outside (spaced n) d b rest
  over_block true [] rest e = refl
  over_block false [] rest e = refl
  over_block true (c ∷ inner) rest e =
      let p = and_parts (not (c == 47)) (is_open (c ∷ (inner ++ 42 ∷ []))) e in
      ap (λ z. cont d b c (inner ++ 42 ∷ 47 ∷ rest) (cond z (pass (spaced n)) (cond (c == 42) (Some (Star, n, Pass)) (Some (ToStar, n, Pass))))) (not-true (c == 47) p.0) ∙ by (over_block true inner rest) (over_block false inner rest) (c == 42) refl p.1
    where
      by : (is_open (behind_star true (inner ++ 42 ∷ [])) ≡ true → runs Star n d b (inner ++ 42 ∷ 47 ∷ rest) ≡ runs Outside (spaced n) d b rest)
          → (is_open (inner ++ 42 ∷ []) ≡ true → runs ToStar n d b (inner ++ 42 ∷ 47 ∷ rest) ≡ runs Outside (spaced n) d b rest)
          → (z : Bool) → (c == 42) ≡ z → is_open (c ∷ (inner ++ 42 ∷ [])) ≡ true
          → cont d b c (inner ++ 42 ∷ 47 ∷ rest) (cond z (Some (Star, n, Pass)) (Some (ToStar, n, Pass))) ≡ runs Outside (spaced n) d b rest
      by starred plain true is o = starred (subst (λ (k : ℕ). is_open (k ∷ (inner ++ 42 ∷ [])) ≡ true) (eqb-true c 42 is) o)
      by starred plain false is o = plain (open_tail c (inner ++ 42 ∷ []) o)
  over_block false (c ∷ inner) rest e = by (over_block true inner rest) (over_block false inner rest) (c == 42) refl e
    where
      by : (is_open (behind_star true (inner ++ 42 ∷ [])) ≡ true → runs Star n d b (inner ++ 42 ∷ 47 ∷ rest) ≡ runs Outside (spaced n) d b rest)
          → (is_open (inner ++ 42 ∷ []) ≡ true → runs ToStar n d b (inner ++ 42 ∷ 47 ∷ rest) ≡ runs Outside (spaced n) d b rest)
          → (z : Bool) → (c == 42) ≡ z → is_open (c ∷ (inner ++ 42 ∷ [])) ≡ true
          → cont d b c (inner ++ 42 ∷ 47 ∷ rest) (cond z (Some (Star, n, Pass)) (Some (ToStar, n, Pass))) ≡ runs Outside (spaced n) d b rest
      by starred plain true is o = starred (subst (λ (k : ℕ). is_open (k ∷ (inner ++ 42 ∷ [])) ≡ true) (eqb-true c 42 is) o)
      by starred plain false is o = plain (open_tail c (inner ++ 42 ∷ []) o)

  module _ (g : IsGap n) where
    pub over_space : (c : ℕ) (rest : Bytes) → is_space c ≡ true → runs Outside n d b (c ∷ rest) ≡ runs Outside (spaced n) d b rest
    over_space c rest e =
        ap (cont d b c rest) (g.here d c ∙ cond-true (is_space c) (pass (spaced n)) (cond (c == 47) (Some (Slash, n, Pass)) (token_turn n d c)) e)

    pub slash_here : outside_turn n d 47 ≡ Some (Slash, n, Pass)
    unfolding is_space
    slash_here = g.here d 47

    pub over_spacing : (part rest : Bytes) → IsSpacing part → runs Outside n d b (part ++ rest) ≡ runs Outside (spaced n) d b rest
    over_spacing part rest (inl s) = ap (λ (z : Bytes). runs Outside n d b (z ++ rest)) s.2 ∙ over_space s.0 rest s.1
    over_spacing part rest (inr (inl s)) =
        ap (λ (z : Bytes). runs Outside n d b (z ++ rest)) s.2
        ∙ (ap (λ (z : Bytes). runs Outside n d b (47 ∷ 42 ∷ z)) (append_assoc s.0 (42 ∷ 47 ∷ []) rest)
        ∙ (ap (cont d b 47 (42 ∷ (s.0 ++ 42 ∷ 47 ∷ rest))) slash_here
        ∙ over_block false s.0 rest s.1))
    over_spacing part rest (inr (inr s)) =
        let inner : Bytes = s.1.0 in
        ap (λ (z : Bytes). runs Outside n d b (z ++ rest)) (s.2 ∙ ap (λ (z : Bytes). z ++ 10 ∷ []) s.1.2)
        ∙ (ap (λ (z : Bytes). runs Outside n d b (47 ∷ 47 ∷ z)) (append_assoc inner (10 ∷ []) rest)
        ∙ (ap (cont d b 47 (47 ∷ (inner ++ 10 ∷ rest))) slash_here
        ∙ over_line inner rest s.1.1))

module _ (d : ℕ) (b : Built) where
  pub over_parts : (n : Next) → IsGap n → spaced n ≡ n → (parts : List Bytes) (rest : Bytes) → AllByRecursion IsSpacing parts → runs Outside n d b (whole parts ++ rest) ≡ runs Outside n d b rest
  over_parts n g s [] rest all = refl
  over_parts n g s (part ∷ parts) rest all =
      ap (runs Outside n d b) (append_assoc part (whole parts) rest)
      ∙ (over_spacing n d b g part (whole parts ++ rest) all.0
      ∙ (ap (λ (m : Next). runs Outside m d b (whole parts ++ rest)) s ∙ over_parts n g s parts rest all.1))

  -- Spacing, where it changes nothing.
  pub over_blank : (n : Next) → IsGap n → spaced n ≡ n → (text rest : Bytes) → IsBlank text → runs Outside n d b (text ++ rest) ≡ runs Outside n d b rest
  over_blank n g s text rest blank = ap (λ (z : Bytes). runs Outside n d b (z ++ rest)) blank.2 ∙ over_parts n g s blank.0 rest blank.1

  by_parts : (n : Next) → IsGap n → (parts : List Bytes) (text rest : Bytes) → AllByRecursion IsSpacing parts → text ≡ whole parts → 0 < length text → runs Outside n d b (text ++ rest) ≡ runs Outside (spaced n) d b rest
  by_parts n g [] text rest all is some = absurd (omega (arith, ap length is))
  by_parts n g (part ∷ parts) text rest all is some =
      ap (λ (z : Bytes). runs Outside n d b (z ++ rest)) is
      ∙ (ap (runs Outside n d b) (append_assoc part (whole parts) rest)
      ∙ (over_spacing n d b g part (whole parts ++ rest) all.0
      ∙ over_parts (spaced n) (gap_spaced n g) g.again parts rest all.1))

  -- Spacing that is not empty.
  pub over_separator : (n : Next) → IsGap n → (text rest : Bytes) → IsSeparator text → runs Outside n d b (text ++ rest) ≡ runs Outside (spaced n) d b rest
  over_separator n g text rest separator = by_parts n g separator.0.0 text rest separator.0.1 separator.0.2 separator.1

  -- Spacing, behind which it is no matter whether there was any.
  pub over_any : (n : Next) → IsGap n → (text rest : Bytes) (led : Option Stand) → runs Outside n d b rest ≡ led → runs Outside (spaced n) d b rest ≡ led → IsBlank text → runs Outside n d b (text ++ rest) ≡ led
  over_any n g text rest led none some blank = by blank.0 blank.1 blank.2
    where
      by : (parts : List Bytes) → AllByRecursion IsSpacing parts → text ≡ whole parts → runs Outside n d b (text ++ rest) ≡ led
      by [] all is = ap (λ (z : Bytes). runs Outside n d b (z ++ rest)) is ∙ none
      by (part ∷ parts) all is =
          ap (λ (z : Bytes). runs Outside n d b (z ++ rest)) is
          ∙ (ap (runs Outside n d b) (append_assoc part (whole parts) rest)
          ∙ (over_spacing n d b g part (whole parts ++ rest) all.0
          ∙ (over_parts (spaced n) (gap_spaced n g) g.again parts rest all.1 ∙ some)))

  -- Behind the slash of a keyword nothing is different, where no comment begins.
  pub over_fresh : (n : Next) → IsGap n → (text : Bytes) (c : ℕ) (rest : Bytes) → begins_no_comment text ≡ true → (c == 47) ≡ false → runs Fresh n d b (text ++ c ∷ rest) ≡ runs Outside n d b (text ++ c ∷ rest)
  over_fresh n g [] c rest e not =
      ap (cont d b c rest) (cond-false (c == 47) None (gap_turn n d c) not ∙ sym (g.here d c))
  over_fresh n g (a ∷ text) c rest e not =
      ap (cont d b a (text ++ c ∷ rest)) (cond-false (a == 47) None (gap_turn n d a) (not-true (a == 47) e) ∙ sym (g.here d a))

  root_space : (c : ℕ) (rest : Bytes) → is_space c ≡ true → runs Slash Item d b (c ∷ rest) ≡ runs Outside RootOpen d b rest
  unfolding is_space
  root_space c rest e =
      ap (λ z. cont d b c rest (cond z (Some (ToFeed, Item, Pass)) (cond (c == 42) (Some (ToStar, Item, Pass)) (slash_turn Item c)))) (differs is_space c 47 e refl)
      ∙ (ap (λ z. cont d b c rest (cond z (Some (ToStar, Item, Pass)) (slash_turn Item c))) (differs is_space c 42 e refl)
      ∙ (ap (λ z. cont d b c rest (cond z (pass (Word keywords.Reserve 1)) (cond (c == 123) (pass (Body true)) (cond (is_space c) (pass RootOpen) None)))) (differs is_space c 109 e refl)
      ∙ (ap (λ z. cont d b c rest (cond z (pass (Body true)) (cond (is_space c) (pass RootOpen) None))) (differs is_space c 123 e refl)
      ∙ ap (λ z. cont d b c rest (cond z (pass RootOpen) None)) e)))

  root_parts : (parts : List Bytes) (text rest : Bytes) → AllByRecursion IsSpacing parts → text ≡ whole parts → begins_no_comment text ≡ true
      → runs Slash Item d b (text ++ 123 ∷ rest) ≡ runs Outside (Body true) d b rest
  unfolding is_space
  root_parts [] text rest all is e = ap (λ (z : Bytes). runs Slash Item d b (z ++ 123 ∷ rest)) is
  root_parts (part ∷ parts) text rest all is e = by all.0
    where
      slashed : {P : Type 0} (more : Bytes) → part ≡ 47 ∷ more → P
      slashed more p = absurd (true≢false (sym e ∙ ap begins_no_comment (is ∙ ap (λ (z : Bytes). z ++ whole parts) p)))

      by : IsSpacing part → runs Slash Item d b (text ++ 123 ∷ rest) ≡ runs Outside (Body true) d b rest
      by (inl s) =
          ap (λ (z : Bytes). runs Slash Item d b (z ++ 123 ∷ rest)) (is ∙ ap (λ (z : Bytes). z ++ whole parts) s.2)
          ∙ (root_space s.0 (whole parts ++ 123 ∷ rest) s.1 ∙ over_parts RootOpen root_gap refl parts (123 ∷ rest) all.1)
      by (inr (inl s)) = slashed _ s.2
      by (inr (inr s)) = slashed _ (s.2 ∙ ap (λ (z : Bytes). z ++ 10 ∷ []) s.1.2)

  -- Behind the slash of the root, up to its brace.
  pub over_root : (text rest : Bytes) → IsBlankAfterSlash text → runs Slash Item d b (text ++ 123 ∷ rest) ≡ runs Outside (Body true) d b rest
  over_root text rest blank = root_parts blank.0.0 text rest blank.0.1 blank.0.2 blank.1
