-- A tree that is made of entries, one after the other.
use Rattle.std.proofs.Common.{IsTrue, ◌≡◌, ◌⊎◌, inl, inr, ◌∙◌, ap, sym, subst, refl, ℕ, zero, suc, ◌+◌, ◌<◌, List, [], ◌∷◌, ◌++◌, Some, length, take, map, slice_get, get_or, arith}
use Rattle.std.proofs.lemmas.Bool.{cases_eq}
use Rattle.std.proofs.lemmas.List.{map-append}
use Rattle.fdt_tree.specs.Tree.{Bytes, is_node_name}
use Rattle.fdt_tree.specs.Document.{Document, place_of, with_node}
use Rattle.fdt_tree.specs.Assembled.{assembled}
use Rattle.fdt_tree.proofs.Lists.{assembled-last, read-there}
use Rattle.indexed_tree.specs.PrivateArena.{row, held, IsHeld}
use Rattle.indexed_tree.specs.declared.entry.Entry.{Entry}
use Rattle.indexed_tree.proofs.Numberings.{name-face}
use Rattle.indexed_tree.proofs.Settings.{entry-at}

-- the name of an entry, and the number above it
pub name-at : (d : Document) (es : List Entry) (i : ℕ) (x : Entry) → IsHeld d es → 0 < i → i < length es → x ≡ get_or es i x → IsTrue (is_node_name x.name)
name-at d es i x is some live here =
    let b : i < length d.places = omega (arith, live, is.numbered) in
    subst (λ (n : Bytes). IsTrue (is_node_name n)) (name-face d i x.name x.properties (entry-at d es i x is b here).says) (is.kept.nodes i b (λ e. omega (arith, some, is.numbering.differ i 0 b (omega (arith, b)) (e ∙ sym is.root))))

pub earlier-at : (d : Document) (es : List Entry) (i : ℕ) (x : Entry) → IsHeld d es → 0 < i → i < length es → x ≡ get_or es i x → x.parent < i
earlier-at d es i x is some live here = (entry-at d es i x is (omega (arith, live, is.numbered)) here).earlier (omega (arith, some))

one-more : {A : Type 0} (xs : List A) (i : ℕ) (x : A) → slice_get xs i ≡ Some x → take i xs ++ x ∷ [] ≡ take (i + 1) xs
one-more [] i x at = absurd (cc)
one-more (y ∷ xs) zero x at = let same : x ≡ y = cc in ap (λ z. z ∷ []) same
one-more (y ∷ xs) (suc i) x at = ap (λ z. y ∷ z) (one-more xs i x at) ∙ ap (λ n. take n (y ∷ xs)) (next i)
  where
    next : (i : ℕ) → suc (i + 1) ≡ suc i + 1
    next i = omega arith

-- the next entry's node
pub next-made : (es : List Entry) (i parent : ℕ) (x : Entry) (now done : Document) → 0 < i → i < length es → x ≡ get_or es i x → now ≡ held (take i es) → parent ≡ x.parent → done ≡ with_node now (place_of now parent) x.name x.properties → done ≡ held (take (i + 1) es)
next-made es i parent x now done some live here made above after =
    after ∙ (ap (λ (z : Document). with_node z (place_of z parent) x.name x.properties) made ∙ (ap (λ n. with_node (held (take i es)) (place_of (held (take i es)) n) x.name x.properties) above
    ∙ (sym (assembled-last (map row (take i es)) (row x) (more es i some live)) ∙ (ap assembled (sym (map-append row (take i es) (x ∷ []))) ∙ ap held (one-more es i x (read-there es i x live here))))))
  where
    more : (es : List Entry) (i : ℕ) → 0 < i → i < length es → 0 < length (map row (take i es))
    more [] i some live = absurd (omega arith)
    more (e ∷ es) zero some live = absurd (omega arith)
    more (e ∷ es) (suc i) some live = omega arith

-- one number more
pub numbers-next : (ns more : List ℕ) (i n : ℕ) → length ns ≡ i → ((k : ℕ) → k < i → get_or ns k 0 ≡ k) → more ≡ ns ++ n ∷ [] → n ≡ i → (k : ℕ) → k < i + 1 → get_or more k 0 ≡ k
numbers-next ns more i n long each is newest k low = ap (λ ms. get_or ms k 0) is ∙ by (cases_eq k i)
  where
    old : (ms : List ℕ) (k : ℕ) → k < length ms → get_or (ms ++ n ∷ []) k 0 ≡ get_or ms k 0
    old [] k low = absurd (omega arith)
    old (m ∷ ms) zero low = refl
    old (m ∷ ms) (suc k) low = old ms k (omega arith)

    last : (ms : List ℕ) → get_or (ms ++ n ∷ []) (length ms) 0 ≡ n
    last [] = refl
    last (m ∷ ms) = last ms

    by : (k ≡ i) ⊎ (k ≡ i → ⊥) → get_or (ns ++ n ∷ []) k 0 ≡ k
    by (inl q) = ap (λ j. get_or (ns ++ n ∷ []) j 0) (q ∙ sym long) ∙ (last ns ∙ (newest ∙ sym q))
    by (inr ne) = old ns k (omega (arith, low, ne, long)) ∙ each k (omega (arith, low, ne))

-- the numbers so far
pub number-at : (ns : List ℕ) (i k n : ℕ) → ((j : ℕ) → j < i → get_or ns j 0 ≡ j) → k < i → length ns ≡ i → n ≡ get_or ns k n → n ≡ k
number-at ns i k n each low long is = is ∙ (same ns k (omega (arith, low, long)) ∙ each k low)
  where
    same : (ms : List ℕ) (k : ℕ) → k < length ms → get_or ms k n ≡ get_or ms k 0
    same [] k low = absurd (omega arith)
    same (m ∷ ms) zero low = refl
    same (m ∷ ms) (suc k) low = same ms k (omega arith)
