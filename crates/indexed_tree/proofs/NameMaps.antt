-- Numbers by names, where one is entered.
use Rattle.std.proofs.Common.{◌≡◌, ◌∙◌, ap, sym, subst, refl, ℕ, ◌⊎◌, inl, inr, Bool, true, false, cond, List, Option, Some, None}
use Rattle.std.specs.Prelude.{bytes_eq, Vec, is_some}
use Rattle.std.specs.declared.alloc.Global.{Global}
use Rattle.std.specs.Ordering.{nat_cmp}
use Rattle.std.specs.Cmp.{eq_by_cmp_equiv}
use Rattle.std.specs.Cmp.Lexicographic.{slice_cmp, bytes_decides, nat_list_cmp_total}
use Rattle.std.specs.BTreeMap.{UpdatesBy}
use Rattle.std.proofs.lemmas.Bool.{cases_Bool, cond-true, cond-false}
use Rattle.fdt_nodes.specs.ChildMaps.{Named, named}
use Rattle.indexed_tree.specs.PrivateIndex.{entered}
use Rattle.fdt_nodes.proofs.ChildMapLemmas.{apart, kept}

-- a change at one name leaves what a map has at others
pub updated : (old new : Named) (key : List ℕ) (now : Option ℕ) → UpdatesBy (λ x y. slice_cmp nat_cmp x.items y.items) (λ k. slice_cmp nat_cmp key k.items) old new now
    → (name : List ℕ) → named new name ≡ cond (bytes_eq key name) now (named old name)
updated old new key now updates name = by_test (cases_Bool (bytes_eq key name))
  where
    by_test : (bytes_eq key name ≡ true) ⊎ (bytes_eq key name ≡ false) → named new name ≡ cond (bytes_eq key name) now (named old name)
    by_test (inl y) = subst (λ (n : List ℕ). named new n ≡ now) ((bytes_decides key name).0 y) updates.1 ∙ sym (cond-true (bytes_eq key name) now (named old name) y)
    by_test (inr n) =
        kept _ _ _ _ updates.3 _ (λ x y. (eq_by_cmp_equiv nat_list_cmp_total).congr name x.items y.items) (λ k. apart key name k.items n)
        ∙ sym (cond-false (bytes_eq key name) now (named old name) n)

-- a name that had a number keeps it
pub entered-there : (old : Named) (name other : List ℕ) (number : ℕ) → is_some (named old name) ≡ true → named old other ≡ entered name number other (named old other)
entered-there old name other number some = by (named old other) (bytes_eq name other) (λ e h. missing e h) refl refl
  where
    missing : bytes_eq name other ≡ true → named old other ≡ None → ⊥
    missing e h = let none : named old name ≡ None = ap (named old) ((bytes_decides name other).0 e) ∙ h in absurd (let wrong : true ≡ false = sym some ∙ ap (λ (o : Option ℕ). is_some o) none in cc)

    by : (o : Option ℕ) (b : Bool) → (bytes_eq name other ≡ true → named old other ≡ None → ⊥) → named old other ≡ o → bytes_eq name other ≡ b → o ≡ elim o as (λ _. Option ℕ) [ Some held ↦ Some held | None ↦ cond b (Some number) None ]
    by (Some held) b never here e = refl
    by None true never here e = absurd (never e here)
    by None false never here e = refl

-- a name that had none has this one
pub entered-new : (old new : Named) (key : Vec ℕ Global) (number : ℕ) → is_some (named old key.items) ≡ false → UpdatesBy (λ x y. slice_cmp nat_cmp x.items y.items) (λ k. slice_cmp nat_cmp key.items k.items) old new (Some number) → (other : List ℕ) → named new other ≡ entered key.items number other (named old other)
entered-new old new key number none updates other = updated old new key.items (Some number) updates other ∙ by (named old other) (bytes_eq key.items other) (λ e. ap (λ (n : List ℕ). is_some (named old n)) (sym ((bytes_decides key.items other).0 e)) ∙ none) refl refl
  where
    by : (o : Option ℕ) (b : Bool) → (bytes_eq key.items other ≡ true → is_some (named old other) ≡ false) → named old other ≡ o → bytes_eq key.items other ≡ b → cond b (Some number) o ≡ elim o as (λ _. Option ℕ) [ Some held ↦ Some held | None ↦ cond b (Some number) None ]
    by (Some held) true never here e = absurd (let wrong : true ≡ false = sym (ap (λ (o : Option ℕ). is_some o) here) ∙ never e in cc)
    by (Some held) false never here e = refl
    by None b never here e = refl
