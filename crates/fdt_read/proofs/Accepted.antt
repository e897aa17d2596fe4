-- Tokens that spell a tree have no fault, wherever NOPs stand among them.
use Rattle.std.proofs.Common.{◌≡◌, ℕ, suc, ◌+◌, ◌<◌, ◌≤◌, true, false, not, ◌&&◌, ◌==◌, List, [], ◌∷◌, ◌++◌, Some, None, map, filter, length, count_by, refl, sym, ap, ◌∙◌, arith}
use Rattle.std.proofs.lemmas.Bool.{and_parts, not-true}
use Rattle.fdt_tree.specs.Tree.{Bytes, Property, Trees, none, tree, Tree, depth_limit}
use Rattle.fdt_read.specs.Tokens.{Token, begin_node, end_node, property, nop, end, broken}
use Rattle.fdt_tree.specs.Whole.{height}
use Rattle.fdt_read.specs.Spelling.{counts, root_unnamed, plain, spelled_properties, spelled, spelled_whole, is_name, are_named, are_names}
use Rattle.std.specs.Option.{option_or}
use Rattle.fdt_read.specs.Refusals.{is_begin, is_end_node, open_after, has_node, after_child, fault_after, first_fault}
use Rattle.fdt_read.proofs.Formed.{names_of}
use Rattle.fdt_read.proofs.Progress.{count_last, after_child-last, has_last}
use Rattle.fdt_read.proofs.Counted.{node-begin, node-nop}
use Rattle.fdt_read.proofs.Passing.{nop_passes, root_passes, child_passes, property_passes, end_node_passes, end_passes}
use Rattle.fdt_read.proofs.Turns.{or_none}
use Rattle.fdt_read.proofs.OneTree.{regroup}

-- The tokens that count.
abbrev counted : List (ℕ × Token) → List Token
counted found = filter counts (map (λ t. t.1) found)

-- The first token that counts, and what is known before it.
record Head (x : Token) (xs before : List Token) (found : List (ℕ × Token)) : Type 0 where
  done : List Token
  offset : ℕ
  rest : List (ℕ × Token)
  begun : count_by is_begin done ≡ count_by is_begin before
  ended : count_by is_end_node done ≡ count_by is_end_node before
  node : has_node done ≡ has_node before
  past : after_child done ≡ after_child before
  left : counted rest ≡ xs
  same : first_fault before found ≡ option_or (fault_after done (offset, x)) (first_fault (done ++ x ∷ []) rest)

first_of : (y : Token) (o : ℕ) (rest : List (ℕ × Token)) (x : Token) (xs before : List Token) → y ∷ counted rest ≡ x ∷ xs → Head x xs before ((o, y) ∷ rest)
first_of y o rest x xs before e =
    let h : y ≡ x = cc in let g : counted rest ≡ xs = cc in record {
      done = before;
      offset = o;
      rest = rest;
      begun = refl;
      ended = refl;
      node = refl;
      past = refl;
      left = g;
      same = ap (λ (z : Token). option_or (fault_after before (o, z)) (first_fault (before ++ z ∷ []) rest)) h;
    }

head : (found : List (ℕ × Token)) (x : Token) (xs before : List Token) → counted found ≡ x ∷ xs → Head x xs before found
head [] x xs before e = absurd (cc)
head ((o, nop) ∷ rest) x xs before e =
    let h = head rest x xs (before ++ nop ∷ []) e in record {
      done = h.done;
      offset = h.offset;
      rest = h.rest;
      begun = omega (arith, h.begun, count_last is_begin before nop);
      ended = omega (arith, h.ended, count_last is_end_node before nop);
      node = h.node ∙ sym (node-nop before);
      past = h.past ∙ after_child-last false before nop;
      left = h.left;
      same = or_none (fault_after before (o, nop)) (first_fault (before ++ nop ∷ []) rest) (nop_passes (open_after before) (has_node before) (after_child before) o) ∙ h.same;
    }
head ((o, begin_node n) ∷ rest) x xs before e = first_of (begin_node n) o rest x xs before e
head ((o, end_node) ∷ rest) x xs before e = first_of end_node o rest x xs before e
head ((o, property n v) ∷ rest) x xs before e = first_of (property n v) o rest x xs before e
head ((o, end) ∷ rest) x xs before e = first_of end o rest x xs before e
head ((o, broken) ∷ rest) x xs before e = first_of broken o rest x xs before e

-- NOPs alone have no fault.
none_left : (found : List (ℕ × Token)) (before : List Token) → counted found ≡ [] → first_fault before found ≡ None
none_left [] before e = refl
none_left ((o, nop) ∷ rest) before e =
    or_none (fault_after before (o, nop)) (first_fault (before ++ nop ∷ []) rest) (nop_passes (open_after before) (has_node before) (after_child before) o) ∙ none_left rest (before ++ nop ∷ []) e
none_left ((o, begin_node n) ∷ rest) before e = absurd (cc)
none_left ((o, end_node) ∷ rest) before e = absurd (cc)
none_left ((o, property n v) ∷ rest) before e = absurd (cc)
none_left ((o, end) ∷ rest) before e = absurd (cc)
none_left ((o, broken) ∷ rest) before e = absurd (cc)

-- So many nodes are open.
record InLevel (before : List Token) (level : ℕ) : Type 0 where
  balanced : count_by is_begin before ≡ count_by is_end_node before + level
  node : has_node before ≡ true

-- Where so many nodes are open, and these tokens are left that count, there is no fault.
abbrev Goes : ℕ → List Token → Type 0
Goes level xs = (before : List Token) (found : List (ℕ × Token)) → InLevel before level → counted found ≡ xs → first_fault before found ≡ None

-- The same where no child has come.
abbrev GoesFresh : ℕ → List Token → Type 0
GoesFresh level xs = (before : List Token) (found : List (ℕ × Token)) → InLevel before level → after_child before ≡ false → counted found ≡ xs → first_fault before found ≡ None

-- A token without a fault, and then what goes on without one.
passed : (x : Token) (xs before : List Token) (found : List (ℕ × Token)) (h : Head x xs before found) → fault_after h.done (h.offset, x) ≡ None → first_fault (h.done ++ x ∷ []) h.rest ≡ None → first_fault before found ≡ None
passed x xs before found h f g = h.same ∙ (or_none (fault_after h.done (h.offset, x)) (first_fault (h.done ++ x ∷ []) h.rest) f ∙ g)

-- END_NODE closes a node.
goes-end_node : (l : ℕ) (xs : List Token) → Goes l xs → Goes (suc l) (end_node ∷ xs)
goes-end_node l xs g before found i e =
    let h = head found end_node xs before e in passed end_node xs before found h (end_node_passes (open_after h.done) (has_node h.done) (after_child h.done) h.offset (omega (arith, i.balanced, h.begun, h.ended)) (h.node ∙ i.node)) (g (h.done ++ end_node ∷ []) h.rest (record {
      balanced = omega (arith, i.balanced, h.begun, h.ended, count_last is_begin h.done end_node, count_last is_end_node h.done end_node);
      node = has_last h.done end_node (h.node ∙ i.node);
    }) h.left)

-- The properties of a node.
goes-properties : (ps : List Property) (l : ℕ) (xs : List Token) → are_named ps ≡ true → Goes (suc l) xs → GoesFresh (suc l) (spelled_properties ps ++ xs)
goes-properties [] l xs n g before found i a e = g before found i e
goes-properties (p ∷ ps) l xs n g before found i a e =
    let m = and_parts (not (length p.0 == 0)) (are_named ps) n in let x = property (Some p.0) p.1 in let h = head found x (spelled_properties ps ++ xs) before e in passed x (spelled_properties ps ++ xs) before found h (property_passes (open_after h.done) (has_node h.done) (after_child h.done) h.offset p.0 p.1 (omega (arith, i.balanced, h.begun, h.ended)) (h.node ∙ i.node) (h.past ∙ a) (not-true (length p.0 == 0) m.0)) (goes-properties ps l xs m.1 g (h.done ++ x ∷ []) h.rest (record {
      balanced = omega (arith, i.balanced, h.begun, h.ended, count_last is_begin h.done x, count_last is_end_node h.done x);
      node = has_last h.done x (h.node ∙ i.node);
    }) (after_child-last false h.done x ∙ (h.past ∙ a)) h.left)

-- BEGIN_NODE opens a node that is not the root.
goes-begin_node : (m : Bytes) (l : ℕ) (xs : List Token) → is_name m ≡ true → suc l < 32 → GoesFresh (suc (suc l)) xs → Goes (suc l) (begin_node m ∷ xs)
goes-begin_node m l xs n d g before found i e =
    let x = begin_node m in let h = head found x xs before e in passed x xs before found h (child_passes (open_after h.done) (has_node h.done) (after_child h.done) h.offset m (omega (arith, i.balanced, h.begun, h.ended)) (λ q. omega (arith, q, d, i.balanced, h.begun, h.ended)) (h.node ∙ i.node) n) (g (h.done ++ x ∷ []) h.rest (record {
      balanced = omega (arith, i.balanced, h.begun, h.ended, count_last is_begin h.done x, count_last is_end_node h.done x);
      node = has_last h.done x (h.node ∙ i.node);
    }) (after_child-last false h.done x) h.left)

-- All nodes of a list of trees.
goes-trees : (ts : Trees) (l : ℕ) (xs : List Token) → are_names ts ≡ true → suc l + height ts ≤ 32 → Goes (suc l) xs → Goes (suc l) (spelled ts ++ xs)
goes-trees none l xs n d g = g
goes-trees (tree m ps cs ts) l xs n d g =
    let w = names_of m ps cs ts n in let f : Goes (suc l) (begin_node m ∷ (spelled_properties ps ++ (spelled cs ++ end_node ∷ (spelled ts ++ xs)))) = goes-begin_node m l (spelled_properties ps ++ (spelled cs ++ end_node ∷ (spelled ts ++ xs))) w.name (omega (arith, d)) (goes-properties ps (suc l) (spelled cs ++ end_node ∷ (spelled ts ++ xs)) w.properties (goes-trees cs (suc l) (end_node ∷ (spelled ts ++ xs)) w.children (omega (arith, d)) (goes-end_node (suc l) (spelled ts ++ xs) (goes-trees ts l xs w.others (omega (arith, d)) g)))) in λ before found i e. f before found i (e ∙ ap (λ z. begin_node m ∷ z) (regroup ps cs ts xs))

-- END after the root.
goes-end : Goes 0 (end ∷ [])
goes-end before found i e =
    let h = head found end [] before e in passed end [] before found h (end_passes (open_after h.done) (has_node h.done) (after_child h.done) h.offset (omega (arith, i.balanced, h.begun, h.ended)) (h.node ∙ i.node)) (none_left h.rest (h.done ++ end ∷ []) h.left)

root_name : (ys : List Token) (n : Bytes) (zs : List Token) → root_unnamed ys ≡ begin_node n ∷ zs → (m : Bytes) × (ys ≡ begin_node m ∷ zs)
root_name [] n zs e = absurd (cc)
root_name (begin_node m ∷ ys) n zs e = (m, cc)
root_name (end_node ∷ ys) n zs e = absurd (cc)
root_name (property p v ∷ ys) n zs e = absurd (cc)
root_name (nop ∷ ys) n zs e = absurd (cc)
root_name (end ∷ ys) n zs e = absurd (cc)
root_name (broken ∷ ys) n zs e = absurd (cc)

goes-root : (m : Bytes) (xs : List Token) (found : List (ℕ × Token)) → GoesFresh 1 xs → counted found ≡ begin_node m ∷ xs → first_fault [] found ≡ None
goes-root m xs found g e =
    let x = begin_node m in let h = head found x xs [] e in passed x xs [] found h (root_passes (open_after h.done) (has_node h.done) (after_child h.done) h.offset m (omega (arith, h.begun, h.ended)) h.node) (g (h.done ++ x ∷ []) h.rest (record {
      balanced = omega (arith, h.begun, h.ended, count_last is_begin h.done x, count_last is_end_node h.done x);
      node = sym (node-begin h.done m);
    }) (after_child-last false h.done x) h.left)

-- Tokens that spell a whole tree have no fault.
pub accepted : (t : Tree) (found : List (ℕ × Token)) → (are_named t.properties && are_names t.children) ≡ true → suc (height t.children) ≤ depth_limit → plain (map (λ t. t.1) found) ≡ spelled_whole t → first_fault [] found ≡ None
accepted t found n d e =
    let w = and_parts (are_named t.properties) (are_names t.children) n in let q = root_name (counted found) t.name (spelled_properties t.properties ++ (spelled t.children ++ end_node ∷ end ∷ [])) e in goes-root q.0 (spelled_properties t.properties ++ (spelled t.children ++ end_node ∷ end ∷ [])) found (goes-properties t.properties 0 (spelled t.children ++ end_node ∷ end ∷ []) w.0 (goes-trees t.children 0 (end_node ∷ end ∷ []) w.1 (omega (arith, d)) (goes-end_node 0 (end ∷ []) goes-end))) q.1
