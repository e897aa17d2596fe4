-- How many nodes are open, and whether a node stands before, with one token more.
use Rattle.std.proofs.Common.{◌≡◌, ◌+◌, ◌-◌, ◌<◌, Bool, true, false, ◌||◌, List, [], ◌∷◌, ◌++◌, Option, refl, sym, ◌∙◌, arith, count_by}
use Rattle.std.proofs.lemmas.List.Folds.{list_any-append}
use Rattle.fdt_tree.specs.Tree.{Bytes}
use Rattle.fdt_read.specs.Tokens.{Token, begin_node, end_node, property, nop}
use Rattle.fdt_read.specs.Refusals.{is_begin, is_end_node, open_after, has_node}
use Rattle.fdt_read.proofs.Progress.{count_last}

pub level-nop : (done : List Token) → open_after done ≡ open_after (done ++ nop ∷ [])
level-nop done = omega (arith, count_last is_begin done nop, count_last is_end_node done nop)

pub level-property : (done : List Token) (n : Option Bytes) (v : Bytes) → open_after done ≡ open_after (done ++ property n v ∷ [])
level-property done n v = omega (arith, count_last is_begin done (property n v), count_last is_end_node done (property n v))

pub level-end : (done : List Token) → open_after done - 1 ≡ open_after (done ++ end_node ∷ [])
level-end done = omega (arith, count_last is_begin done end_node, count_last is_end_node done end_node)

pub level-child : (done : List Token) (m : Bytes) → 0 < open_after done → open_after done + 1 ≡ open_after (done ++ begin_node m ∷ [])
level-child done m h = omega (arith, count_last is_begin done (begin_node m), count_last is_end_node done (begin_node m))

pub level-root : (done : List Token) (m : Bytes) → count_by is_begin done ≡ 0 → count_by is_end_node done ≡ 0 → 1 ≡ open_after (done ++ begin_node m ∷ [])
level-root done m b e = omega (arith, count_last is_begin done (begin_node m), count_last is_end_node done (begin_node m), b, e)

or_true : (b : Bool) → (b || true) ≡ true
or_true true = refl
or_true false = refl

or_false : (b : Bool) → (b || false) ≡ b
or_false true = refl
or_false false = refl

pub node-begin : (done : List Token) (m : Bytes) → true ≡ has_node (done ++ begin_node m ∷ [])
node-begin done m = sym (list_any-append is_begin done (begin_node m ∷ []) ∙ or_true (has_node done))

pub node-nop : (done : List Token) → has_node done ≡ has_node (done ++ nop ∷ [])
node-nop done = sym (list_any-append is_begin done (nop ∷ []) ∙ or_false (has_node done))

pub node-end : (done : List Token) → has_node done ≡ has_node (done ++ end_node ∷ [])
node-end done = sym (list_any-append is_begin done (end_node ∷ []) ∙ or_false (has_node done))

pub node-property : (done : List Token) (n : Option Bytes) (v : Bytes) → has_node done ≡ has_node (done ++ property n v ∷ [])
node-property done n v = sym (list_any-append is_begin done (property n v ∷ []) ∙ or_false (has_node done))
