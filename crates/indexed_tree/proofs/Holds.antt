-- The nodes that have a phandle, where a tree is changed.
use Rattle.std.proofs.Common.{◌≡◌, ◌≢◌, ◌⊎◌, inl, inr, ◌∙◌, ap, sym, subst, refl, ℕ, suc, ◌<◌, List, [], ◌∷◌, ◌++◌, Bool, true, false, cond, Option, Some, None, length, arith}
use Rattle.std.specs.Prelude.{◌==◌, ◌&&◌, bytes_eq}
use Rattle.std.specs.Option.{option_to_list}
use Rattle.std.proofs.lemmas.Bool.{cases_eq, eqb-true, eq-eqb}
use Rattle.std.proofs.lemmas.Slice.Eq.{bytes_eq-Decides}
use Rattle.fdt_tree.specs.Tree.{Bytes, Property, Place}
use Rattle.fdt_tree.specs.Document.{Document, place_of, name_of, properties_of, with_node, with_properties, IsNumbering}
use Rattle.fdt_tree.specs.Phandles.{phandle_of}
use Rattle.tree_parts.proofs.Growing.{stands}
use Rattle.indexed_tree.specs.PrivateHolders.{Holders, holder_at, is_own, changed_at, IsHolding}
use Rattle.indexed_tree.proofs.Numberings.{properties-face, face-of, face-old, face-new, face-other, face-same, longer, old}

-- the same, held in another way
pub holding-same : (d : Document) (h h' : Holders) → IsHolding d h → ((phandle : ℕ) (place : Place) → holder_at h' phandle place ≡ holder_at h phandle place) → IsHolding d h'
holding-same d h h' is same = record {
  there = λ n p b has. same p (place_of d n) ∙ is.there n p b has;
  within = λ n p q at. is.within n p q (sym (same p q) ∙ at);
}

never-some : {A : Type 0} (x : A) → Some x ≡ None → ⊥
never-some x e = cc

-- no node has a phandle
pub holding-none : (d : Document) (h : Holders) → ((n : ℕ) → n < length d.places → phandle_of (properties_of d n) ≡ []) → ((phandle : ℕ) (place : Place) → holder_at h phandle place ≡ None) → IsHolding d h
holding-none d h without empty = record {
  there = λ n p b has. absurd (let both : p ∷ [] ≡ [] = sym has ∙ without n b in cc);
  within = λ n p q at. absurd (never-some n (sym at ∙ empty p q));
}

module _ (d : Document) (p : ℕ) (name : Bytes) (numbering : IsNumbering d) (live : p < length d.places) where
  abbrev d' : Document
  d' = with_node d (place_of d p) name []

  properties-old : (i : ℕ) → i < length d.places → properties_of d' i ≡ properties_of d i
  properties-old i b = let v = stands d i numbering b in properties-face d' i (name_of d i) (properties_of d i) (face-old d p name numbering live i b ∙ face-of d i v.0 v.1)

  -- a new child has no phandle
  pub holding-grown : (h : Holders) → IsHolding d h → IsHolding d' h
  holding-grown h is = record {
    there = λ n q b has. there_by n q b has (cases_eq n (length d.places));
    within = λ n q place at.
        let w = is.within n q place at in
        (omega (arith, w.0, longer d p name numbering live), old d p name numbering live n w.0 ∙ w.1, ap phandle_of (properties-old n w.0) ∙ w.2);
  }
    where
      there_by : (n q : ℕ) → n < length d'.places → phandle_of (properties_of d' n) ≡ q ∷ [] → (n ≡ length d.places) ⊎ (n ≡ length d.places → ⊥) → holder_at h q (place_of d' n) ≡ Some n
      there_by n q b has (inl e) = absurd (let none_there : q ∷ [] ≡ [] = sym has ∙ ap phandle_of (properties-face d' n name [] (face-new d p name numbering live n e)) in cc)
      there_by n q b has (inr ne) =
          let within : n < length d.places = omega (arith, b, longer d p name numbering live) in
          ap (holder_at h q) (old d p name numbering live n within) ∙ is.there n q within (ap phandle_of (sym (properties-old n within)) ∙ has)

module _ (d : Document) (p : ℕ) (g : List Property → List Property) (numbering : IsNumbering d) (live : p < length d.places) where
  abbrev e' : Document
  e' = with_properties d (place_of d p) g

  properties-other : (i : ℕ) → i < length d.places → i ≢ p → properties_of e' i ≡ properties_of d i
  properties-other i b ne = let v = stands d i numbering b in properties-face e' i (name_of d i) (properties_of d i) (face-other d p g numbering live i b ne ∙ face-of d i v.0 v.1)

  properties-here : properties_of e' p ≡ g (properties_of d p)
  properties-here = let v = stands d p numbering live in properties-face e' p (name_of d p) (g (properties_of d p)) (face-same d p g numbering live (name_of d p) (properties_of d p) (face-of d p v.0 v.1))

  -- a change that keeps the phandle
  pub holding-kept : (h : Holders) → phandle_of (g (properties_of d p)) ≡ phandle_of (properties_of d p) → IsHolding d h → IsHolding e' h
  holding-kept h kept is = record {
    there = λ n q b has. is.there n q b (sym (same n b (cases_eq n p)) ∙ has);
    within = λ n q place at. let w = is.within n q place at in (w.0, w.1, same n w.0 (cases_eq n p) ∙ w.2);
  }
    where
      same : (n : ℕ) → n < length d.places → (n ≡ p) ⊎ (n ≡ p → ⊥) → phandle_of (properties_of e' n) ≡ phandle_of (properties_of d n)
      same n b (inl e) = ap (λ i. phandle_of (properties_of e' i)) e ∙ (ap phandle_of properties-here ∙ (kept ∙ ap (λ i. phandle_of (properties_of d i)) (sym e)))
      same n b (inr ne) = ap phandle_of (properties-other n b ne)

  -- a phandle that takes the place of another
  module _ (before after : Option ℕ) (was : phandle_of (properties_of d p) ≡ option_to_list before) (now : phandle_of (g (properties_of d p)) ≡ option_to_list after) (apart : before ≡ after → ⊥) (h noted : Holders) (is : IsHolding d h) (note : (q : ℕ) (place : Place) → holder_at noted q place ≡ changed_at after (place_of d p) (Some p) h q place) where
    own-of : (o : Option ℕ) (q : ℕ) → is_own o q ≡ true → o ≡ Some q
    own-of None q e = absurd (cc)
    own-of (Some a) q e = ap Some (eqb-true a q e)

    own-self : (q : ℕ) → is_own (Some q) q ≡ true
    own-self q = eq-eqb q q refl

    listed : (o : Option ℕ) (q : ℕ) → option_to_list o ≡ q ∷ [] → o ≡ Some q
    listed None q e = absurd (cc)
    listed (Some a) q e = let same : a ≡ q = cc in ap Some same

    -- a look-up that is not at the place, or not of the phandle
    missed : (o : Option ℕ) (x : Option ℕ) (m : Holders) (q : ℕ) (place : Place) → (is_own o q ≡ true → bytes_eq (place_of d p) place ≡ true → ⊥) → changed_at o (place_of d p) x m q place ≡ holder_at m q place
    missed o x m q place other = by (is_own o q) (bytes_eq (place_of d p) place) other
      where
        by : (s t : Bool) → (s ≡ true → t ≡ true → ⊥) → cond (s && t) x (holder_at m q place) ≡ holder_at m q place
        by true true other = absurd (other refl refl)
        by true false other = refl
        by false t other = refl

    hit : (o : Option ℕ) (x : Option ℕ) (m : Holders) (q : ℕ) (place : Place) → is_own o q ≡ true → bytes_eq (place_of d p) place ≡ true → changed_at o (place_of d p) x m q place ≡ x
    hit o x m q place one two = ap (λ s. cond (s && bytes_eq (place_of d p) place) x (holder_at m q place)) one ∙ ap (λ t. cond (true && t) x (holder_at m q place)) two

    at-place : (n : ℕ) → n < length d.places → bytes_eq (place_of d p) (place_of d n) ≡ true → n ≡ p
    at-place n b e = numbering.differ n p b live (sym ((bytes_eq-Decides (place_of d p) (place_of d n)).0 e))

    itself : bytes_eq (place_of d p) (place_of d p) ≡ true
    itself = (bytes_eq-Decides (place_of d p) (place_of d p)).1 refl

    -- whether a look-up is at the place and of the phandle
    tests : (o : Option ℕ) (q : ℕ) (place : Place) → ((is_own o q ≡ true) × (bytes_eq (place_of d p) place ≡ true)) ⊎ (is_own o q ≡ true → bytes_eq (place_of d p) place ≡ true → ⊥)
    tests o q place = by (is_own o q) (bytes_eq (place_of d p) place)
      where
        by : (s t : Bool) → ((s ≡ true) × (t ≡ true)) ⊎ (s ≡ true → t ≡ true → ⊥)
        by true true = inl (refl, refl)
        by true false = inr (λ a b. absurd (cc))
        by false t = inr (λ a b. absurd (cc))

    -- it is set, and the phandle before is taken out
    pub holding-moved : (left : Holders) → ((q : ℕ) (place : Place) → holder_at left q place ≡ changed_at before (place_of d p) None noted q place) → IsHolding e' left
    holding-moved left forget = record {
      there = λ n q b has. there_by n q b has (cases_eq n p);
      within = λ n q place at. within_by n q place at (tests before q place) (tests after q place);
    }
      where
        there_by : (n q : ℕ) → n < length d.places → phandle_of (properties_of e' n) ≡ q ∷ [] → (n ≡ p) ⊎ (n ≡ p → ⊥) → holder_at left q (place_of d n) ≡ Some n
        there_by n q b has (inl e) =
            let own : after ≡ Some q = listed after q (sym now ∙ (ap phandle_of (sym properties-here) ∙ (ap (λ i. phandle_of (properties_of e' i)) (sym e) ∙ has))) in
            ap (λ i. holder_at left q (place_of d i)) e ∙ (forget q (place_of d p) ∙ (missed before None noted q (place_of d p) (λ a c. apart (own-of before q a ∙ sym own)) ∙ (note q (place_of d p) ∙ (hit after (Some p) h q (place_of d p) (ap (λ o. is_own o q) own ∙ own-self q) itself ∙ ap Some (sym e)))))
        there_by n q b has (inr ne) =
            forget q (place_of d n) ∙ (missed before None noted q (place_of d n) (λ a c. ne (at-place n b c)) ∙ (note q (place_of d n) ∙ (missed after (Some p) h q (place_of d n) (λ a c. ne (at-place n b c)) ∙ is.there n q b (ap phandle_of (sym (properties-other n b ne)) ∙ has))))

        within_by : (n q : ℕ) (place : Place) → holder_at left q place ≡ Some n → ((is_own before q ≡ true) × (bytes_eq (place_of d p) place ≡ true)) ⊎ (is_own before q ≡ true → bytes_eq (place_of d p) place ≡ true → ⊥) → ((is_own after q ≡ true) × (bytes_eq (place_of d p) place ≡ true)) ⊎ (is_own after q ≡ true → bytes_eq (place_of d p) place ≡ true → ⊥) → (n < length d.places) × (place_of d n ≡ place) × (phandle_of (properties_of e' n) ≡ q ∷ [])
        within_by n q place at (inl w) two = absurd (never-some n (sym at ∙ (forget q place ∙ hit before None noted q place w.0 w.1)))
        within_by n q place at (inr no_one) (inl w) =
            let found : Some n ≡ Some p = sym at ∙ (forget q place ∙ (missed before None noted q place no_one ∙ (note q place ∙ hit after (Some p) h q place w.0 w.1))) in
            let same : n ≡ p = cc in
            (omega (arith, same, live), ap (place_of d) same ∙ (bytes_eq-Decides (place_of d p) place).0 w.1, ap (λ i. phandle_of (properties_of e' i)) same ∙ (ap phandle_of properties-here ∙ (now ∙ ap option_to_list (own-of after q w.0))))
        within_by n q place at (inr no_one) (inr no_two) =
            let old_one = is.within n q place (sym (missed after (Some p) h q place no_two) ∙ (sym (note q place) ∙ (sym (missed before None noted q place no_one) ∙ (sym (forget q place) ∙ at)))) in
            let other : n ≢ p = λ e. no_one (ap (λ o. is_own o q) (listed before q (sym was ∙ (ap (λ i. phandle_of (properties_of d i)) (sym e) ∙ old_one.2))) ∙ own-self q) ((bytes_eq-Decides (place_of d p) place).1 (ap (place_of d) (sym e) ∙ old_one.1)) in
            (old_one.0, old_one.1, ap phandle_of (properties-other n old_one.0 other) ∙ old_one.2)

    -- it could not be set, and is taken out again
    pub holding-undone : (left : Holders) → ((q : ℕ) (place : Place) → holder_at left q place ≡ changed_at after (place_of d p) None noted q place) → IsHolding d left
    holding-undone left forget = record {
      there = λ n q b has.
          let other : is_own after q ≡ true → bytes_eq (place_of d p) (place_of d n) ≡ true → ⊥ = λ a c. apart (listed before q (sym was ∙ (ap (λ i. phandle_of (properties_of d i)) (sym (at-place n b c)) ∙ has)) ∙ sym (own-of after q a)) in
          forget q (place_of d n) ∙ (missed after None noted q (place_of d n) other ∙ (note q (place_of d n) ∙ (missed after (Some p) h q (place_of d n) other ∙ is.there n q b has)));
      within = λ n q place at. within_by n q place at (tests after q place);
    }
      where
        within_by : (n q : ℕ) (place : Place) → holder_at left q place ≡ Some n → ((is_own after q ≡ true) × (bytes_eq (place_of d p) place ≡ true)) ⊎ (is_own after q ≡ true → bytes_eq (place_of d p) place ≡ true → ⊥) → (n < length d.places) × (place_of d n ≡ place) × (phandle_of (properties_of d n) ≡ q ∷ [])
        within_by n q place at (inl w) = absurd (never-some n (sym at ∙ (forget q place ∙ hit after None noted q place w.0 w.1)))
        within_by n q place at (inr other) = is.within n q place (sym (missed after (Some p) h q place other) ∙ (sym (note q place) ∙ (sym (missed after None noted q place other) ∙ (sym (forget q place) ∙ at))))
