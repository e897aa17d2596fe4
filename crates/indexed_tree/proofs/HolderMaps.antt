-- Maps of the nodes that have a phandle, where one is noted or taken out.
use Rattle.std.proofs.Common.{◌≡◌, ◌⊎◌, inl, inr, ◌∙◌, ap, sym, subst, refl, ℕ, zero, suc, ◌<◌, List, [], ◌∷◌, Bool, true, false, cond, Option, Some, None, length, arith}
use Rattle.std.specs.Prelude.{◌==◌, ◌&&◌, bytes_eq, All, IsSome, Vec, option_and_then}
use Rattle.std.specs.declared.alloc.Global.{Global}
use Rattle.std.specs.Ordering.{nat_cmp, is_eq, is_gt}
use Rattle.std.specs.Cmp.Lexicographic.{slice_cmp}
use Rattle.std.specs.BTreeMap.{get, is_at, keys}
use Rattle.std.specs.Map.{lookup, keys_of}
use Rattle.std.proofs.lemmas.Bool.{eqb-true}
use Rattle.std.proofs.lemmas.Bool.Decides.{nat_tests}
use Rattle.std.proofs.lemmas.Slice.Eq.{bytes_eq-Decides}
use Rattle.std.proofs.lemmas.Map.Text.{is_eq-slice_cmp}
use Rattle.fdt_tree.specs.Tree.{Place}
use Rattle.fdt_nodes.specs.ChildMaps.{Named, named}
use Rattle.indexed_tree.specs.PrivateHolders.{Holders, holder_at, changed_at}

pub at-number : (a b : ℕ) → is_eq (nat_cmp a b) ≡ (a == b)
at-number a b = grind (arith, nat_tests)

-- one phandle has other nodes
pub noted : (old new : Holders) (p : ℕ) (nodes : Named) (place : Place) (now : Option ℕ) → ((q : ℕ) → get nat_cmp new q ≡ cond (is_at (nat_cmp p) q) (Some nodes) (get nat_cmp old q)) → ((there : Place) → named nodes there ≡ cond (bytes_eq place there) now (holder_at old p there))
    → (other : ℕ) (there : Place) → holder_at new other there ≡ changed_at (Some p) place now old other there
noted old new p nodes place now updates here other there =
    ap (λ (o : Option Named). option_and_then (λ ns. named ns there) o) (updates other ∙ ap (λ b. cond b (Some nodes) (get nat_cmp old other)) (at-number p other)) ∙ by (p == other) (λ e. eqb-true p other e)
  where
    by : (b : Bool) → (b ≡ true → p ≡ other) → option_and_then (λ ns. named ns there) (cond b (Some nodes) (get nat_cmp old other)) ≡ cond (b && bytes_eq place there) now (holder_at old other there)
    by true same = here there ∙ ap (λ q. cond (bytes_eq place there) now (holder_at old q there)) (same refl)
    by false same = refl

-- what a phandle has, where its nodes are known
pub nodes-some : (holders : Holders) (p : ℕ) (nodes : Named) (there : Place) → get nat_cmp holders p ≡ Some nodes → holder_at holders p there ≡ named nodes there
nodes-some holders p nodes there is = ap (λ (o : Option Named). option_and_then (λ ns. named ns there) o) is

pub nodes-none : (holders : Holders) (p : ℕ) (there : Place) → get nat_cmp holders p ≡ None → holder_at holders p there ≡ None
nodes-none holders p there is = ap (λ (o : Option Named). option_and_then (λ ns. named ns there) o) is

-- a key that a look-up finds
found-key : {K X : Type 0} (P : K → Type 0) (test : K → Bool) (es : List (K × X)) → All P (keys_of es) → IsSome (lookup test es) → (key : K) × (test key ≡ true) × P key
found-key P test [] all some = absurd (cc)
found-key {K = K} P test (e ∷ es) all some = by (found-key P test es (λ k d low. all (suc k) d (omega arith))) (test e.0) refl some
  where
    by : (IsSome (lookup test es) → (key : K) × (test key ≡ true) × P key) → (b : Bool) → test e.0 ≡ b → IsSome (cond b (Some e.1) (lookup test es)) → (key : K) × (test key ≡ true) × P key
    by later true is some = (e.0, is, all 0 e.0 (omega arith))
    by later false is some = later some

-- the least place of the nodes
pub least-place : (nodes : Named) (first : Vec ℕ Global) → All (λ (key : Vec ℕ Global). is_gt (slice_cmp nat_cmp first.items key.items) ≡ false) (keys nodes) → (there : Place) → IsSome (named nodes there) → is_gt (slice_cmp nat_cmp first.items there) ≡ false
least-place nodes first all there some =
    let w = found-key (λ (key : Vec ℕ Global). is_gt (slice_cmp nat_cmp first.items key.items) ≡ false) (λ (key : Vec ℕ Global). is_eq (slice_cmp nat_cmp there key.items)) nodes.entries all some in
    let same : there ≡ w.0.items = (bytes_eq-Decides there w.0.items).0 (sym (is_eq-slice_cmp there w.0.items) ∙ w.1) in
    ap (λ q. is_gt (slice_cmp nat_cmp first.items q)) same ∙ w.2

-- no nodes have no place
pub nothing-named : (nodes : Named) (there : Place) → nodes.entries ≡ [] → named nodes there ≡ None
nothing-named nodes there empty = ap (λ (es : List (Vec ℕ Global × ℕ)). lookup (is_at (λ (key : Vec ℕ Global). slice_cmp nat_cmp there key.items)) es) empty
