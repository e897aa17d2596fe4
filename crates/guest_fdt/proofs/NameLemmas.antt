-- Names with a unit address are names that a node may have.
use Rattle.std.proofs.Common.{◌≡◌, ℕ, zero, suc, ◌/◌, ◌%◌, ◌<◌, Bool, true, false, not, cond, List, [], ◌∷◌, ◌++◌, length, codes, refl, arith}
use Rattle.std.specs.Prelude.{IsTrue, ◌==◌, ◌&&◌}
use Rattle.std.specs.List.{list_all}
use Rattle.std.specs.Fmt.{digits, digits_onto, digit_glyph}
use Rattle.std.proofs.lemmas.Bool.Decides.{nat_tests}
use Rattle.fdt_tree.specs.Tree.{Bytes, is_node_name}
use Rattle.tree_parts.specs.Nodes.{named_at}
use Rattle.tree_parts.proofs.Conjunctions.{and-left, and-right}

no-nul-glyph : (d : ℕ) → d < 16 → not (digit_glyph false d == 0) ≡ true
no-nul-glyph d h = grind (arith, nat_tests)

no-slash-glyph : (d : ℕ) → d < 16 → not (digit_glyph false d == 47) ≡ true
no-slash-glyph d h = grind (arith, nat_tests)

all-onto : (p : ℕ → Bool) → ((d : ℕ) → d < 16 → p (digit_glyph false d) ≡ true) → (k n : ℕ) (acc : List ℕ) → list_all p acc ≡ true → list_all p (digits_onto k 16 false n acc) ≡ true
all-onto p glyph zero n acc h = h
all-onto p glyph (suc k) n acc h =
    let low : n % 16 < 16 = omega arith in
    let g : list_all p (digit_glyph false (n % 16) ∷ acc) ≡ true = rw (glyph (n % 16) low) h in
    either (n / 16 == 0) (digit_glyph false (n % 16) ∷ acc) _ g (all-onto p glyph k (n / 16) (digit_glyph false (n % 16) ∷ acc) g)
  where
    either : (b : Bool) (x y : List ℕ) → list_all p x ≡ true → list_all p y ≡ true → list_all p (cond b x y) ≡ true
    either true x y one other = one
    either false x y one other = other

all-digits : (p : ℕ → Bool) → ((d : ℕ) → d < 16 → p (digit_glyph false d) ≡ true) → (n : ℕ) → list_all p (digits 16 false n) ≡ true
unfolding digits
all-digits p glyph n = all-onto p glyph 64 n [] refl

all-parts : (p : ℕ → Bool) (xs ys : List ℕ) → list_all p xs ≡ true → list_all p ys ≡ true → list_all p (xs ++ ys) ≡ true
all-parts p [] ys one other = other
all-parts p (x ∷ xs) ys one other = by (p x) one (all-parts p xs ys)
  where
    by : (b : Bool) → (b && list_all p xs) ≡ true → (list_all p xs ≡ true → list_all p ys ≡ true → list_all p (xs ++ ys) ≡ true) → (b && list_all p (xs ++ ys)) ≡ true
    by true one rest = rest one other
    by false one rest = absurd (cc)

both : (a b : Bool) → a ≡ true → b ≡ true → (a && b) ≡ true
both true b one other = other
both false b one other = absurd (cc)

some-left : (xs ys : List ℕ) → not (length xs == 0) ≡ true → not (length (xs ++ ys) == 0) ≡ true
some-left [] ys h = absurd (cc)
some-left (x ∷ xs) ys h = grind (arith, nat_tests)

-- a name with a unit address is a node's name where the name before it is one
pub at-node-name : (name : Bytes) (address : ℕ) → IsTrue (is_node_name name) → IsTrue (is_node_name (named_at name address))
at-node-name name address good =
    let some = and-left (not (length name == 0)) _ good in
    let rest = and-right (not (length name == 0)) _ good in
    let no_nul = and-left (list_all (λ b. not (b == 0)) name) _ rest in
    let no_slash = and-right (list_all (λ b. not (b == 0)) name) _ rest in
    let start : Bytes = name ++ codes "@" in
    both (not (length (named_at name address) == 0)) _ (some-left start (digits 16 false address) (some-left name (codes "@") some))
    (both (list_all (λ b. not (b == 0)) (named_at name address)) _
    (all-parts (λ b. not (b == 0)) start (digits 16 false address) (all-parts (λ b. not (b == 0)) name (codes "@") no_nul refl) (all-digits (λ b. not (b == 0)) no-nul-glyph address))
    (all-parts (λ b. not (b == 47)) start (digits 16 false address) (all-parts (λ b. not (b == 47)) name (codes "@") no_slash refl) (all-digits (λ b. not (b == 47)) no-slash-glyph address)))
