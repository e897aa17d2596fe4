-- The loop over the tokens.
use Rattle.std.proofs.Common.{◌≡◌, ℕ, zero, suc, ◌+◌, ◌<◌, ◌≤◌, true, false, cond, List, [], ◌∷◌, ◌++◌, Option, Some, None, map, refl, sym, ap, ◌∙◌, subst, append_assoc, arith}
use Rattle.std.proofs.lemmas.List.{append-nil}
use Rattle.fdt_tree.specs.Tree.{Bytes}
use Rattle.fdt_read.specs.declared.building.Building.{Building}
use Rattle.fdt_read.specs.declared.fault.FdtFault.{FdtFault}
use Rattle.fdt_read.specs.Tokens.{Token, token_at, tokens_from, is_final}
use Rattle.std.specs.Option.{option_or}
use Rattle.texts.specs.Rows.{first_that_applies}
use Rattle.fdt_read.specs.Refusals.{first_fault, fault_after, rows_at}
use Rattle.fdt_read.specs.Built.{IsBuilding, IsWhole}
use Rattle.fdt_read.proofs.Kept.{fault_here, building-final}

-- What is known at an offset: these tokens were read, and the refusals from here on decide.
pub record Reached (b : Bytes) (stop : ℕ) (all : List (ℕ × Token)) (at : ℕ) (building : Building) : Type 0 where
  pub within : at ≤ stop
  pub turns : ℕ
  pub enough : stop < at + turns
  pub done : List Token
  pub built : IsBuilding done building
  pub faults : first_fault [] all ≡ first_fault done (tokens_from turns b stop at)
  pub read : map (λ t. t.1) all ≡ done ++ map (λ t. t.1) (tokens_from turns b stop at)

pub or_some : (x y : Option FdtFault) (f : FdtFault) → x ≡ Some f → option_or x y ≡ Some f
or_some None y f e = absurd (cc)
or_some (Some g) y f e = e

pub or_none : (x y : Option FdtFault) → x ≡ None → option_or x y ≡ y
or_none None y e = refl
or_none (Some g) y e = absurd (cc)

abbrev tail : Bytes → ℕ → ℕ → Token × ℕ → List (ℕ × Token)
tail b stop turns z = cond (is_final z.0) [] (tokens_from turns b stop z.1)

module _ (b : Bytes) (stop : ℕ) (all : List (ℕ × Token)) (o : ℕ) (building : Building) (t : Token) (n : ℕ) where
  refused_by : (turns : ℕ) (done : List Token) (f : FdtFault) → o ≤ stop → stop < o + turns → IsBuilding done building → (t, n) ≡ token_at b stop o → Some f ≡ first_that_applies (rows_at building.level building.started building.past_child o t) → first_fault [] all ≡ first_fault done (tokens_from turns b stop o) → first_fault [] all ≡ Some f
  refused_by zero done f w h i e g q = absurd (omega arith)
  refused_by (suc turns) done f w h i e g q =
      q ∙ or_some (fault_after done (o, (token_at b stop o).0)) (first_fault (done ++ (token_at b stop o).0 ∷ []) (tail b stop turns (token_at b stop o))) f (ap (λ (z : Token × ℕ). fault_after done (o, z.0)) (sym e) ∙ sym (g ∙ fault_here done building o t i))

  -- A token with a fault decides.
  pub refused_here : (f : FdtFault) → Reached b stop all o building → (t, n) ≡ token_at b stop o → Some f ≡ first_that_applies (rows_at building.level building.started building.past_child o t) → first_fault [] all ≡ Some f
  refused_here f r e g = refused_by r.turns r.done f r.within r.enough r.built e g r.faults

  next_by : (turns : ℕ) (done : List Token) → o ≤ stop → stop < o + turns → IsBuilding done building → (t, n) ≡ token_at b stop o → None ≡ first_that_applies (rows_at building.level building.started building.past_child o t) → first_fault [] all ≡ first_fault done (tokens_from turns b stop o) → map (λ t. t.1) all ≡ done ++ map (λ t. t.1) (tokens_from turns b stop o) → (k : ℕ) × (turns ≡ suc k) × (first_fault [] all ≡ first_fault (done ++ t ∷ []) (tail b stop k (t, n))) × (map (λ t. t.1) all ≡ (done ++ t ∷ []) ++ map (λ t. t.1) (tail b stop k (t, n)))
  next_by zero done w h i e g q m = absurd (omega arith)
  next_by (suc k) done w h i e g q m =
      (k, refl, q ∙ (or_none (fault_after done (o, (token_at b stop o).0)) (first_fault (done ++ (token_at b stop o).0 ∷ []) (tail b stop k (token_at b stop o))) (ap (λ (z : Token × ℕ). fault_after done (o, z.0)) (sym e) ∙ sym (g ∙ fault_here done building o t i)) ∙ ap (λ (z : Token × ℕ). first_fault (done ++ z.0 ∷ []) (tail b stop k z)) (sym e)), m ∙ (ap (λ (z : Token × ℕ). done ++ z.0 ∷ map (λ t. t.1) (tail b stop k z)) (sym e) ∙ sym (append_assoc done (t ∷ []) (map (λ t. t.1) (tail b stop k (t, n))))))

  -- A token without a fault goes to those that were read.
  pub onward : (after : Building) (r : Reached b stop all o building) → (t, n) ≡ token_at b stop o → None ≡ first_that_applies (rows_at building.level building.started building.past_child o t) → IsBuilding (r.done ++ t ∷ []) after → o < n → n ≤ stop → is_final t ≡ false → Reached b stop all n after
  onward after r e g i l w f =
      let s = next_by r.turns r.done r.within r.enough r.built e g r.faults r.read in let c : tail b stop s.0 (t, n) ≡ tokens_from s.0 b stop n = ap (λ z. cond z [] (tokens_from s.0 b stop n)) f in record {
        within = w;
        turns = s.0;
        enough = omega (arith, r.enough, s.1);
        done = r.done ++ t ∷ [];
        built = i;
        faults = s.2 ∙ ap (first_fault (r.done ++ t ∷ [])) c;
        read = s.3 ∙ ap (λ z. (r.done ++ t ∷ []) ++ map (λ t. t.1) z) c;
      }

  -- The last token without a fault is END, after a whole tree.
  pub finished : (r : Reached b stop all o building) → (t, n) ≡ token_at b stop o → None ≡ first_that_applies (rows_at building.level building.started building.past_child o t) → is_final t ≡ true → (first_fault [] all ≡ None) × IsWhole (map (λ t. t.1) all) building.tree.tree
  finished r e g f =
      let s = next_by r.turns r.done r.within r.enough r.built e g r.faults r.read in let c : tail b stop s.0 (t, n) ≡ [] = ap (λ z. cond z [] (tokens_from s.0 b stop n)) f in (s.2 ∙ ap (first_fault (r.done ++ t ∷ [])) c, subst (λ (z : List Token). IsWhole z building.tree.tree) (sym (s.3 ∙ (ap (λ z. (r.done ++ t ∷ []) ++ map (λ t. t.1) z) c ∙ append-nil (r.done ++ t ∷ [])))) (building-final r.done building o t r.built f (sym g)))

-- Before the first token.
pub beginning : (b : Bytes) (start size stop : ℕ) (building : Building) → stop ≡ start + size → IsBuilding [] building → Reached b stop (tokens_from (size + 1) b stop start) start building
beginning b start size stop building h i = record {
  within = omega arith;
  turns = size + 1;
  enough = omega arith;
  done = [];
  built = i;
  faults = refl;
  read = refl;
}
