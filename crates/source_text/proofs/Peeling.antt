-- Where the reader comes to an end, spacing was spacing.
use Rattle.std.proofs.Common.{◌≡◌, ◌∙◌, refl, sym, ap, subst, ℕ, suc, zero, ◌<◌, ◌≤◌, Bool, true, false, not, ◌&&◌, List, [], ◌∷◌, ◌++◌, length, append_assoc, length-append, Some, None, cond, inl, inr, arith}
use Rattle.std.specs.Prelude.{◌==◌, ◌⊎◌}
use Rattle.std.specs.List.{list_all, AllByRecursion}
use Rattle.std.proofs.lemmas.Bool.{and_parts, and_from, eqb-true, true≢false}
use Rattle.fdt_tree.specs.Tree.{Bytes}
use Rattle.source_text.specs.Characters.{is_space}
use Rattle.source_text.specs.Source.{whole, is_open, IsSpacing, IsBlank, IsLastBlank}
use Rattle.source_text.specs.declared.state.Comment.{Comment}
use Rattle.source_text.specs.declared.state.Comment.TheVariants.{Outside, Slash, ToFeed, ToStar, Star}
use Rattle.source_text.specs.declared.state.Next.{Next}
use Rattle.source_text.specs.declared.state.Next.TheVariants.{Address, Size, Cells, Over}
use Rattle.source_text.specs.declared.state.Action.TheVariants.{Pass}
use Rattle.source_text.specs.PrivateTurns.{pass, spaced, token_turn, slash_turn, is_over, is_done, may_end}
use Rattle.source_text.specs.PrivateReadings.{Built, Stand, runs}
use Rattle.source_text.proofs.Running.{cont, stand, same_stand}
use Rattle.source_text.proofs.Blanks.{IsGap, gap_spaced, comment_at, behind_star}

-- What comes next behind some spacing or none.
abbrev pub behind : Bytes → Next → Next
behind [] n = n
behind (c ∷ blank) n = spaced n

pub over_is : (n : Next) → is_over n ≡ true → n ≡ Over
over_is Over e = refl
over_is n e = absurd (true≢false (sym e))

spaced_over : (n : Next) → is_over (spaced n) ≡ is_over n
spaced_over (Address read) = refl
spaced_over (Size read) = refl
spaced_over (Cells separated) = refl
spaced_over n = refl

behind_again : (n : Next) → spaced (spaced n) ≡ spaced n → (blank : Bytes) → behind blank (spaced n) ≡ spaced n
behind_again n e [] = refl
behind_again n e (c ∷ blank) = e

behind_part : (n : Next) (part blank : Bytes) → IsSpacing part → behind (part ++ blank) n ≡ spaced n
behind_part n part blank (inl s) = ap (λ (z : Bytes). behind (z ++ blank) n) s.2
behind_part n part blank (inr (inl s)) = ap (λ (z : Bytes). behind (z ++ blank) n) s.2
behind_part n part blank (inr (inr s)) = ap (λ (z : Bytes). behind (z ++ blank) n) (s.2 ∙ ap (λ (z : Bytes). z ++ 10 ∷ []) s.1.2)

pub no_blank : IsBlank []
no_blank = ([], tt, refl)

pub more_blank : (part blank : Bytes) → IsSpacing part → IsBlank blank → IsBlank (part ++ blank)
more_blank part blank s b = (part ∷ b.0, (s, b.1), ap (λ (z : Bytes). part ++ z) b.2)

pub blank_twice : (one other : Bytes) → IsBlank one → IsBlank other → IsBlank (one ++ other)
blank_twice one other a b = by a.0 one a.1 a.2
  where
    by : (parts : List Bytes) (text : Bytes) → AllByRecursion IsSpacing parts → text ≡ whole parts → IsBlank (text ++ other)
    by [] text all is = subst (λ (z : Bytes). IsBlank (z ++ other)) (sym is) b
    by (part ∷ parts) text all is =
        subst (λ (z : Bytes). IsBlank (z ++ other)) (sym is)
        (subst IsBlank (sym (append_assoc part (whole parts) other)) (more_blank part (whole parts ++ other) all.0 (by parts (whole parts) all.1 refl)))

open_plain : (c : ℕ) (text : Bytes) → (c == 42) ≡ false → is_open text ≡ true → is_open (c ∷ text) ≡ true
open_plain c [] e o = refl
open_plain c (d ∷ text) e o = ap (λ z. not (z && d == 47) && is_open (d ∷ text)) e ∙ o

open_star : (inner text rest : Bytes) → 42 ∷ text ≡ inner ++ 42 ∷ 47 ∷ rest → is_open (inner ++ 42 ∷ []) ≡ true → is_open (42 ∷ (inner ++ 42 ∷ [])) ≡ true
open_star [] text rest is o = refl
open_star (i ∷ inner) text rest is o =
    let e : 42 ≡ i = cc in
    subst (λ (k : ℕ). is_open (k ∷ (inner ++ 42 ∷ [])) ≡ true → is_open (42 ∷ k ∷ (inner ++ 42 ∷ [])) ≡ true) e (λ u. u) o

abbrev not_of : Bool → Bool
not_of z = not z

-- No line feed.
abbrev pub not_feed : ℕ → Bool
not_feed c = not (c == 10)

module _ (fin : Stand) (done : is_done fin.0 fin.1 ≡ true) where
  -- The end is reached.
  abbrev pub Gets : Comment → Next → ℕ → Built → Bytes → Type 0
  Gets k n d b text = runs k n d b text ≡ Some fin

  pub stops : {P : Type 0} (k : Comment) (n : Next) (d : ℕ) (b : Built) → is_done k n ≡ false → Some (k, n, d, b) ≡ Some fin → P
  stops k n d b wrong is =
      let same : stand k n d b ≡ fin = same_stand (stand k n d b) fin is in
      absurd (true≢false (sym done ∙ (ap (λ (s : Stand). is_done s.0 s.1) (sym same) ∙ wrong)))

  pub nowhere : {P : Type 0} → None ≡ Some fin → P
  nowhere e = absurd (cc)

  -- Spacing, and a byte of what comes next.
  pub record Token (n : Next) (d : ℕ) (b : Built) (text : Bytes) : Type 0 where
    pub blank : Bytes
    pub first : ℕ
    pub rest : Bytes
    pub spacing : IsBlank blank
    pub is : text ≡ blank ++ first ∷ rest
    pub plain : (is_space first ≡ false) × ((first == 47) ≡ false)
    pub gets : cont d b first rest (token_turn (behind blank n) d first) ≡ Some fin

  -- Spacing, and a slash that begins no comment.
  pub record Slashed (n : Next) (d : ℕ) (b : Built) (text : Bytes) : Type 0 where
    pub blank : Bytes
    pub first : ℕ
    pub rest : Bytes
    pub spacing : IsBlank blank
    pub is : text ≡ blank ++ 47 ∷ first ∷ rest
    pub gets : cont d b first rest (slash_turn (behind blank n) first) ≡ Some fin

  -- Spacing up to the end.
  pub record Ended (n : Next) (d : ℕ) (b : Built) (text : Bytes) : Type 0 where
    pub over : is_over n ≡ true
    pub last : IsLastBlank text
    pub built : fin.3 ≡ b

  abbrev pub Peeled : Next → ℕ → Built → Bytes → Type 0
  Peeled n d b text = Ended n d b text ⊎ (Token n d b text ⊎ Slashed n d b text)

  module _ (n : Next) (d : ℕ) (b : Built) where
    -- Spacing before what was peeled.
    prefixed : (part text rest : Bytes) → spaced (spaced n) ≡ spaced n → IsSpacing part → text ≡ part ++ rest → Peeled (spaced n) d b rest → Peeled n d b text
    prefixed part text rest again s is (inl p) = inl (record {
      over = sym (spaced_over n) ∙ p.over;
      last = by p.last;
      built = p.built;
    })
      where
        by : IsLastBlank rest → IsLastBlank text
        by (inl blank) = inl (subst IsBlank (sym is) (more_blank part rest s blank))
        by (inr q) = inr (part ++ q.0, q.1, more_blank part q.0 s q.2, q.3, is ∙ (ap (λ (z : Bytes). part ++ z) q.4 ∙ sym (append_assoc part q.0 q.1)))
    prefixed part text rest again s is (inr (inl p)) = inr (inl (record {
      blank = part ++ p.blank;
      first = p.first;
      rest = p.rest;
      spacing = more_blank part p.blank s p.spacing;
      is = is ∙ (ap (λ (z : Bytes). part ++ z) p.is ∙ sym (append_assoc part p.blank (p.first ∷ p.rest)));
      plain = p.plain;
      gets = ap (λ (m : Next). cont d b p.first p.rest (token_turn m d p.first)) (behind_part n part p.blank s ∙ sym (behind_again n again p.blank)) ∙ p.gets;
    }))
    prefixed part text rest again s is (inr (inr p)) = inr (inr (record {
      blank = part ++ p.blank;
      first = p.first;
      rest = p.rest;
      spacing = more_blank part p.blank s p.spacing;
      is = is ∙ (ap (λ (z : Bytes). part ++ z) p.is ∙ sym (append_assoc part p.blank (47 ∷ p.first ∷ p.rest)));
      gets = ap (λ (m : Next). cont d b p.first p.rest (slash_turn m p.first)) (behind_part n part p.blank s ∙ sym (behind_again n again p.blank)) ∙ p.gets;
    }))

    -- A comment up to its line feed, or to the end.
    abbrev Fed : Bytes → Type 0
    Fed text = ((inner : Bytes) × (rest : Bytes) × (list_all (λ c. not (c == 10)) inner ≡ true) × (text ≡ inner ++ 10 ∷ rest) × Gets Outside (spaced n) d b rest)
        ⊎ ((list_all (λ c. not (c == 10)) text ≡ true) × (stand ToFeed n d b ≡ fin))

    to_feed : (text : Bytes) → Gets ToFeed n d b text → Fed text
    to_feed [] e = inr (refl, same_stand (stand ToFeed n d b) fin e)
    to_feed (c ∷ text) e = by (to_feed text) (c == 10) refl e
      where
        later : (c == 10) ≡ false → Fed text → Fed (c ∷ text)
        later q (inl p) = inl (c ∷ p.0, p.1, and_from (not_feed c) (list_all not_feed p.0) (ap not_of q) p.2, ap (λ (z : Bytes). c ∷ z) p.3, p.4)
        later q (inr p) = inr (and_from (not_feed c) (list_all not_feed text) (ap not_of q) p.0, p.1)

        by : (Gets ToFeed n d b text → Fed text) → (z : Bool) → (c == 10) ≡ z → cont d b c text (cond z (pass (spaced n)) (Some (ToFeed, n, Pass))) ≡ Some fin → Fed (c ∷ text)
        by on true is e = inl ([], text, refl, ap (λ (k : ℕ). k ∷ text) (eqb-true c 10 is), e)
        by on false is e = later is (on e)

    -- A comment up to its star and slash.
    abbrev Starred : Bytes → Type 0
    Starred text = (inner : Bytes) × (rest : Bytes) × (is_open (inner ++ 42 ∷ []) ≡ true) × (text ≡ inner ++ 42 ∷ 47 ∷ rest) × Gets Outside (spaced n) d b rest

    to_star : (starred : Bool) (text : Bytes) → Gets (comment_at starred) n d b text → Starred (behind_star starred text)
    to_star true [] e = stops Star n d b refl e
    to_star false [] e = stops ToStar n d b refl e
    to_star true (c ∷ text) e = by (to_star true text) (to_star false text) (c == 47) refl (c == 42) refl e
      where
        by : (Gets Star n d b text → Starred (42 ∷ text)) → (Gets ToStar n d b text → Starred text) → (x : Bool) → (c == 47) ≡ x → (y : Bool) → (c == 42) ≡ y → cont d b c text (cond x (pass (spaced n)) (cond y (Some (Star, n, Pass)) (Some (ToStar, n, Pass)))) ≡ Some fin → Starred (42 ∷ c ∷ text)
        by star plain true is y other e = ([], text, refl, ap (λ (k : ℕ). 42 ∷ k ∷ text) (eqb-true c 47 is), e)
        by star plain false is true other e =
            let p = star e in
            (42 ∷ p.0, p.1, open_star p.0 text p.1 p.3 p.2, ap (λ (k : ℕ). 42 ∷ k ∷ text) (eqb-true c 42 other) ∙ ap (λ (z : Bytes). 42 ∷ z) p.3, p.4)
        by star plain false is false other e =
            let p = plain e in
            (42 ∷ c ∷ p.0, p.1, and_from (not (c == 47)) (is_open (c ∷ (p.0 ++ 42 ∷ []))) (ap not is) (open_plain c (p.0 ++ 42 ∷ []) other p.2), ap (λ (z : Bytes). 42 ∷ c ∷ z) p.3, p.4)
    to_star false (c ∷ text) e = by (to_star true text) (to_star false text) (c == 42) refl e
      where
        by : (Gets Star n d b text → Starred (42 ∷ text)) → (Gets ToStar n d b text → Starred text) → (y : Bool) → (c == 42) ≡ y → cont d b c text (cond y (Some (Star, n, Pass)) (Some (ToStar, n, Pass))) ≡ Some fin → Starred (c ∷ text)
        by star plain true is e =
            let p = star e in
            (p.0, p.1, p.2, ap (λ (k : ℕ). k ∷ text) (eqb-true c 42 is) ∙ p.3, p.4)
        by star plain false is e =
            let p = plain e in
            (c ∷ p.0, p.1, open_plain c (p.0 ++ 42 ∷ []) is p.2, ap (λ (z : Bytes). c ∷ z) p.3, p.4)

  shorter : (part rest text : Bytes) (fuel : ℕ) → text ≡ part ++ rest → length text ≤ suc fuel → 0 < length part → length rest ≤ fuel
  shorter part rest text fuel is le some = omega (arith, ap length is, length-append part rest)

  abbrev Peels : ℕ → Type 0
  Peels fuel = (n : Next) → IsGap n → (d : ℕ) (b : Built) (text : Bytes) → length text ≤ fuel → Gets Outside n d b text → Peeled n d b text

  -- Spacing, and what it ends with.
  pub peel : (fuel : ℕ) (n : Next) → IsGap n → (d : ℕ) (b : Built) (text : Bytes) → length text ≤ fuel → Gets Outside n d b text → Peeled n d b text
  peel fuel n g d b [] le e =
      let same : stand Outside n d b ≡ fin = same_stand (stand Outside n d b) fin e in
      inl (record { over = ap (λ (s : Stand). is_done s.0 s.1) same ∙ done; last = inl no_blank; built = ap (λ (s : Stand). s.3) (sym same) })
  peel zero n g d b (c ∷ text) le e = absurd (omega arith)
  peel (suc fuel) n g d b (c ∷ text) le e = by (peel fuel) (is_space c) refl (c == 47) refl (ap (cont d b c text) (sym (g.here d c)) ∙ e)
    where
      commented : Peels fuel → (part rest : Bytes) → IsSpacing part → c ∷ text ≡ part ++ rest → 0 < length part → Gets Outside (spaced n) d b rest → Peeled n d b (c ∷ text)
      commented on part rest s is some later = prefixed n d b part (c ∷ text) rest g.again s is (on (spaced n) (gap_spaced n g) d b rest (shorter part rest (c ∷ text) fuel is le some) later)

      line : Peels fuel → (more : Bytes) → c ∷ text ≡ 47 ∷ 47 ∷ more → Fed n d b more → Peeled n d b (c ∷ text)
      line on more is (inl p) =
          commented on ((47 ∷ 47 ∷ p.0) ++ 10 ∷ []) p.1 (inr (inr (47 ∷ 47 ∷ p.0, (p.0, p.2, refl), refl)))
          (is ∙ ap (λ (z : Bytes). 47 ∷ 47 ∷ z) (p.3 ∙ sym (append_assoc p.0 (10 ∷ []) p.1))) (omega arith) p.4
      line on more is (inr p) = inl (record {
        over = (and_parts (may_end ToFeed) (is_over n) (ap (λ (s : Stand). is_done s.0 s.1) p.1 ∙ done)).1;
        last = inr ([], c ∷ text, no_blank, (more, p.0, is), refl);
        built = ap (λ (s : Stand). s.3) (sym p.1);
      })

      block : Peels fuel → (more : Bytes) → c ∷ text ≡ 47 ∷ 42 ∷ more → Starred n d b more → Peeled n d b (c ∷ text)
      block on more is p =
          commented on (47 ∷ 42 ∷ (p.0 ++ 42 ∷ 47 ∷ [])) p.1 (inr (inl (p.0, p.2, refl)))
          (is ∙ ap (λ (z : Bytes). 47 ∷ 42 ∷ z) (p.3 ∙ sym (append_assoc p.0 (42 ∷ 47 ∷ []) p.1))) (omega arith) p.4

      at : Peels fuel → (f : ℕ) (more : Bytes) → c ∷ text ≡ 47 ∷ f ∷ more → (x : Bool) → (f == 47) ≡ x → (y : Bool) → (f == 42) ≡ y
          → cont d b f more (cond x (Some (ToFeed, n, Pass)) (cond y (Some (ToStar, n, Pass)) (slash_turn n f))) ≡ Some fin → Peeled n d b (c ∷ text)
      at on f more is true q y r e = line on more (is ∙ ap (λ (k : ℕ). 47 ∷ k ∷ more) (eqb-true f 47 q)) (to_feed n d b more e)
      at on f more is false q true r e = block on more (is ∙ ap (λ (k : ℕ). 47 ∷ k ∷ more) (eqb-true f 42 r)) (to_star n d b false more e)
      at on f more is false q false r e = inr (inr (record { blank = []; first = f; rest = more; spacing = no_blank; is = is; gets = e }))

      slashed : Peels fuel → (more : Bytes) → c ∷ text ≡ 47 ∷ more → Gets Slash n d b more → Peeled n d b (c ∷ text)
      slashed on [] is e = stops Slash n d b refl e
      slashed on (f ∷ more) is e = at on f more is (f == 47) refl (f == 42) refl e

      by : Peels fuel → (x : Bool) → is_space c ≡ x → (y : Bool) → (c == 47) ≡ y → cont d b c text (cond x (pass (spaced n)) (cond y (Some (Slash, n, Pass)) (token_turn n d c))) ≡ Some fin → Peeled n d b (c ∷ text)
      by on true is y other e = commented on (c ∷ []) text (inl (c, is, refl)) refl (omega arith) e
      by on false is true other e = slashed on text (ap (λ (k : ℕ). k ∷ text) (eqb-true c 47 other)) e
      by on false is false other e = inr (inl (record { blank = []; first = c; rest = text; spacing = no_blank; is = refl; plain = (is, other); gets = e }))

  -- A state in which a token must come.
  pub record IsToken (n : Next) : Type 0 where
    pub gap : IsGap n
    pub over : is_over n ≡ false
    pub slash : (c : ℕ) → slash_turn n c ≡ None
    pub slash_spaced : (c : ℕ) → slash_turn (spaced n) c ≡ None

  behind_slash : (n : Next) → IsToken n → (blank : Bytes) (c : ℕ) → slash_turn (behind blank n) c ≡ None
  behind_slash n t [] c = t.slash c
  behind_slash n t (x ∷ blank) c = t.slash_spaced c

  pub peel_token : (n : Next) → IsToken n → (d : ℕ) (b : Built) (text : Bytes) → Gets Outside n d b text → Token n d b text
  peel_token n t d b text e = by (peel (length text) n t.gap d b text (omega arith) e)
    where
      by : Peeled n d b text → Token n d b text
      by (inl p) = absurd (true≢false (sym p.over ∙ t.over))
      by (inr (inl p)) = p
      by (inr (inr p)) = nowhere (ap (cont d b p.first p.rest) (sym (behind_slash n t p.blank p.first)) ∙ p.gets)

  -- The same, where spacing changes nothing.
  pub same_behind : (n : Next) → spaced n ≡ n → (blank : Bytes) → behind blank n ≡ n
  same_behind n e [] = refl
  same_behind n e (c ∷ blank) = e

  pub token_gets : (n : Next) → spaced n ≡ n → (d : ℕ) (b : Built) (text : Bytes) → (p : Token n d b text) → cont d b p.first p.rest (token_turn n d p.first) ≡ Some fin
  token_gets n e d b text p = ap (λ (m : Next). cont d b p.first p.rest (token_turn m d p.first)) (sym (same_behind n e p.blank)) ∙ p.gets
