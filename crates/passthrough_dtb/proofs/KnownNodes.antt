-- A map of what is known of nodes, with one more.
use Rattle.std.proofs.Common.{◌≡◌, ◌∙◌, ap, sym, subst, refl, ℕ, Bool, true, false, cond, Some}
use Rattle.std.specs.Prelude.{Option, IfSome}
use Rattle.std.specs.BTreeMap.{BTreeMap, get, Updates}
use Rattle.std.specs.Ordering.{is_eq, nat_cmp}
use Rattle.std.specs.declared.cmp.Ordering.{Ordering}
use Rattle.std.specs.declared.cmp.Ordering.TheVariants.{Less, Equal, Greater}
use Rattle.std.proofs.lemmas.Map.Lookups.{exact_unsigned}

equal_by : (o : Ordering) → is_eq o ≡ true → o ≡ Equal
equal_by Less told = absurd (cc)
equal_by Equal told = refl
equal_by Greater told = absurd (cc)

-- what holds of each entry and of the new one holds of each then
pub one_known : {A : Type 0} (P : ℕ → A → Type 0) (old new : BTreeMap ℕ A) (node : ℕ) (value : A) → ((q : ℕ) → IfSome (get nat_cmp old q) (P q)) → Updates nat_cmp old new node (Some value) → P node value
    → (q : ℕ) → IfSome (get nat_cmp new q) (P q)
one_known {A = A} P old new node value are updates is = λ q. at q (is_eq (nat_cmp node q)) refl
  where
    Holds : ℕ → Option A → Type 0
    Holds q found = IfSome found (P q)

    at : (q : ℕ) (b : Bool) → is_eq (nat_cmp node q) ≡ b → Holds q (get nat_cmp new q)
    at q true same =
        subst (Holds q) (sym (updates.0 q ∙ ap (λ (b : Bool). cond b (Some value) (get nat_cmp old q)) same))
        (subst (λ n. P n value) (exact_unsigned node q (equal_by (nat_cmp node q) same)) is)
    at q false other = subst (Holds q) (sym (updates.0 q ∙ ap (λ (b : Bool). cond b (Some value) (get nat_cmp old q)) other)) (are q)
