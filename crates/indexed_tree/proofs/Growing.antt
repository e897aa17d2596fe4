-- What entries are after one more was to be added.
use Rattle.std.proofs.Common.{IsTrue, ◌≡◌, ◌≢◌, ◌⊎◌, inl, inr, ◌∙◌, ap, sym, subst, ℕ, suc, ◌<◌, List, [], Result, Ok, Err, OnErr, length, arith}
use Rattle.fdt_tree.specs.Tree.{Bytes, depth, depth_limit, is_node_name}
use Rattle.fdt_tree.specs.Document.{Document, place_of, with_node}
use Rattle.fdt_tree.proofs.Links.{length-last}
use Rattle.indexed_tree.specs.PrivateArena.{held, IsHeld, IsFresh, IsAdded, IsKept}
use Rattle.indexed_tree.specs.declared.entry.Entry.{Entry}
use Rattle.indexed_tree.proofs.Grown.{held-child, IsHeld-grown, held-kept, IsHeld-kept}

pub after-adding : (was now : List Entry) (p : ℕ) (name : Bytes) (entry : Entry) → IsHeld (held was) was → p < length (held was).places → depth (place_of (held was) p) ≢ depth_limit → IsTrue (is_node_name name) → IsFresh was p name entry → IsAdded was now p name entry → IsHeld (held now) now × (held now ≡ with_node (held was) (place_of (held was) p) name [])
after-adding was now p name entry is live room good fresh added =
    let document = held-child was now p name entry is.some fresh added in
    (subst (λ (z : Document). IsHeld z now) (sym document) (IsHeld-grown (held was) was now p name entry is live room good fresh added), document)

-- it is the last of them
pub one-longer : (was now : List Entry) (p n : ℕ) (name : Bytes) → n ≡ length was → IsHeld (held was) was → held now ≡ with_node (held was) (place_of (held was) p) name [] → n < length (held now).places
one-longer was now p n name newest is document =
    let long : length (held now).places ≡ suc (length (held was).places) = ap (λ (z : Document). length z.places) document ∙ length-last (held was).places _ in omega (arith, long, newest, is.numbered)

pub after-failing : (was now : List Entry) (p : ℕ) → IsHeld (held was) was → (now ≡ was) ⊎ IsKept was now p → IsHeld (held now) now
after-failing was now p is (inl same) = subst (λ (es : List Entry). IsHeld (held es) es) (sym same) is
after-failing was now p is (inr kept) = subst (λ (z : Document). IsHeld z now) (sym (held-kept (held was) was now p is kept)) (IsHeld-kept (held was) was now p is kept)

pub document-failing : (was now : List Entry) (p : ℕ) → IsHeld (held was) was → (now ≡ was) ⊎ IsKept was now p → held now ≡ held was
document-failing was now p is (inl same) = ap held same
document-failing was now p is (inr kept) = held-kept (held was) was now p is kept

-- what holds holds where there is a fault
pub on-err : {T E P : Type 0} (r : Result T E) → P → OnErr r P
on-err (Ok x) p = tt
on-err (Err e) p = p
