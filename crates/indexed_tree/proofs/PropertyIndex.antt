-- Where the first property of a name stands.
use Rattle.std.proofs.Common.{◌≡◌, ◌∙◌, ap, sym, subst, refl, ℕ, zero, suc, ◌+◌, ◌<◌, ◌≤◌, List, [], ◌∷◌, ◌++◌, Option, Some, None, option_map, Bool, true, false, cond, length, get_or, set, slice_get, arith}
use Rattle.std.specs.Prelude.{bytes_eq, IsSomeAnd}
use Rattle.std.proofs.lemmas.Slice.Eq.{bytes_eq-Decides}
use Rattle.fdt_tree.specs.Tree.{Bytes, Property, property_of}
use Rattle.fdt_tree.specs.PathEdits.{set_property}
use Rattle.indexed_tree.specs.PrivateIndex.{first_at, entered}

pub at-within : (n : Bytes) (ps : List Property) (i : ℕ) → first_at n ps ≡ Some i → i < length ps
at-within n [] i is = absurd (cc)
at-within n (p ∷ ps) i is = by (bytes_eq p.0 n) (first_at n ps) (λ j e. at-within n ps j e) is
  where
    by : (b : Bool) (o : Option ℕ) → ((j : ℕ) → o ≡ Some j → j < length ps) → cond b (Some 0) (option_map suc o) ≡ Some i → i < suc (length ps)
    by true o later is = let first : 0 ≡ i = cc in omega (arith, first)
    by false None later is = absurd (cc)
    by false (Some j) later is = let next : suc j ≡ i = cc in let low = later j refl in omega (arith, next, low)

-- the property there is the first of its name
pub at-value : (n : Bytes) (ps : List Property) (i : ℕ) (x : Property) → first_at n ps ≡ Some i → x ≡ get_or ps i x → property_of ps n ≡ Some x.1
at-value n [] i x is here = absurd (cc)
at-value n (p ∷ ps) i x is here = by (bytes_eq p.0 n) (first_at n ps) (λ j e f. at-value n ps j x e f) i is here
  where
    by : (b : Bool) (o : Option ℕ) → ((j : ℕ) → o ≡ Some j → x ≡ get_or ps j x → property_of ps n ≡ Some x.1) → (i : ℕ) → cond b (Some 0) (option_map suc o) ≡ Some i → x ≡ get_or (p ∷ ps) i x → cond b (Some p.1) (property_of ps n) ≡ Some x.1
    by true o later i is here =
        let first : 0 ≡ i = cc in
        let same : x ≡ p = here ∙ ap (λ k. get_or (p ∷ ps) k x) (sym first) in ap (λ (z : Property). Some z.1) (sym same)
    by false None later i is here = absurd (cc)
    by false (Some j) later i is here =
        let next : suc j ≡ i = cc in later j refl (here ∙ ap (λ k. get_or (p ∷ ps) k x) (sym next))

pub at-none : (n : Bytes) (ps : List Property) → first_at n ps ≡ None → property_of ps n ≡ None
at-none n [] is = refl
at-none n (p ∷ ps) is = by (bytes_eq p.0 n) (first_at n ps) (at-none n ps) is
  where
    by : (b : Bool) (o : Option ℕ) → (o ≡ None → property_of ps n ≡ None) → cond b (Some 0) (option_map suc o) ≡ None → cond b (Some p.1) (property_of ps n) ≡ None
    by true o later is = absurd (cc)
    by false None later is = later refl
    by false (Some j) later is = absurd (cc)

-- where none has the name, it is set as a last one
pub set-none : (n b : Bytes) (ps : List Property) → first_at n ps ≡ None → set_property n b ps ≡ ps ++ (n, b) ∷ []
set-none n b [] is = refl
set-none n b (p ∷ ps) is = by (bytes_eq p.0 n) (first_at n ps) (set-none n b ps) is
  where
    by : (t : Bool) (o : Option ℕ) → (o ≡ None → set_property n b ps ≡ ps ++ (n, b) ∷ []) → cond t (Some 0) (option_map suc o) ≡ None → cond t ((n, b) ∷ ps) (p ∷ set_property n b ps) ≡ p ∷ (ps ++ (n, b) ∷ [])
    by true o later is = absurd (cc)
    by false None later is = ap (λ z. p ∷ z) (later refl)
    by false (Some j) later is = absurd (cc)

-- the first one is set in its place
pub set-some : (n b : Bytes) (ps : List Property) (i : ℕ) (x : Property) → first_at n ps ≡ Some i → x ≡ get_or ps i x → set ps i (x.0, b) ≡ set_property n b ps
set-some n b [] i x is here = absurd (cc)
set-some n b (p ∷ ps) i x is here = by (bytes_eq p.0 n) (λ e. (bytes_eq-Decides p.0 n).0 e) (first_at n ps) (λ j e f. set-some n b ps j x e f) i is here
  where
    by : (t : Bool) → (t ≡ true → p.0 ≡ n) → (o : Option ℕ) → ((j : ℕ) → o ≡ Some j → x ≡ get_or ps j x → set ps j (x.0, b) ≡ set_property n b ps) → (i : ℕ) → cond t (Some 0) (option_map suc o) ≡ Some i → x ≡ get_or (p ∷ ps) i x → set (p ∷ ps) i (x.0, b) ≡ cond t ((n, b) ∷ ps) (p ∷ set_property n b ps)
    by true named o later i is here =
        let first : i ≡ 0 = cc in
        let same : x ≡ p = here ∙ ap (λ k. get_or (p ∷ ps) k x) first in
        ap (λ k. set (p ∷ ps) k (x.0, b)) first ∙ ap (λ m. (m, b) ∷ ps) (ap (λ (z : Property). z.0) same ∙ named refl)
    by false named None later i is here = absurd (cc)
    by false named (Some j) later i is here =
        let next : i ≡ suc j = cc in
        ap (λ k. set (p ∷ ps) k (x.0, b)) next ∙ ap (λ z. p ∷ z) (later j refl (here ∙ ap (λ k. get_or (p ∷ ps) k x) next))

-- a value that is set leaves the names as they are
pub at-set : (m b : Bytes) (ps : List Property) (i : ℕ) (x : Property) → i < length ps → x ≡ get_or ps i x → first_at m (set ps i (x.0, b)) ≡ first_at m ps
at-set m b [] i x within here = absurd (omega arith)
at-set m b (p ∷ ps) zero x within here = ap (λ (z : Property). cond (bytes_eq z.0 m) (Some 0) (option_map suc (first_at m ps))) here
at-set m b (p ∷ ps) (suc i) x within here = ap (λ o. cond (bytes_eq p.0 m) (Some 0) (option_map suc o)) (at-set m b ps i x (omega arith) here)

-- a last property is the first of its name where none has it
pub at-last : (m : Bytes) (p : Property) (ps : List Property) → first_at m (ps ++ p ∷ []) ≡ entered p.0 (length ps) m (first_at m ps)
at-last m p [] = refl
at-last m p (q ∷ ps) =
    ap (λ o. cond (bytes_eq q.0 m) (Some 0) (option_map suc o)) (at-last m p ps) ∙ by (bytes_eq q.0 m) (bytes_eq p.0 m) (first_at m ps)
  where
    by : (t u : Bool) (o : Option ℕ) → cond t (Some 0) (option_map suc (elim o as (λ _. Option ℕ) [ Some k ↦ Some k | None ↦ cond u (Some (length ps)) None ])) ≡ elim (cond t (Some 0) (option_map suc o)) as (λ _. Option ℕ) [ Some k ↦ Some k | None ↦ cond u (Some (suc (length ps))) None ]
    by true u o = refl
    by false true None = refl
    by false false None = refl
    by false u (Some k) = refl

-- the value is as long as is required
pub fits : (n : Bytes) (ps : List Property) (i offset : ℕ) (x : Property) → first_at n ps ≡ Some i → x ≡ get_or ps i x → IsSomeAnd (property_of ps n) (λ value. offset + 4 ≤ length value) → offset + 4 ≤ length x.1
fits n ps i offset x is here within = subst (λ (o : Option Bytes). IsSomeAnd o (λ value. offset + 4 ≤ length value)) (at-value n ps i x is here) within

-- what is read by index
pub got : (ps : List Property) (i : ℕ) (x y : Property) → slice_get ps i ≡ Some y → x ≡ get_or ps i x → x ≡ y
got [] i x y is here = absurd (cc)
got (p ∷ ps) zero x y is here = let same : p ≡ y = cc in here ∙ same
got (p ∷ ps) (suc i) x y is here = got ps i x y is here

pub got-or : (ps : List Property) (i : ℕ) (y : Property) → slice_get ps i ≡ Some y → y ≡ get_or ps i y
got-or [] i y is = absurd (cc)
got-or (p ∷ ps) zero y is = let same : y ≡ p = cc in same
got-or (p ∷ ps) (suc i) y is = got-or ps i y is
