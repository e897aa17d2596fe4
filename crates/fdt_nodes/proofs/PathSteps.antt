-- A path, followed name by name through maps of children.
use Rattle.std.proofs.Common.{◌≡◌, ◌∙◌, ap, sym, subst, refl, ℕ, ◌<◌, ◌++◌, Bool, true, false, cond, List, [], ◌∷◌, Some, None, length}
use Rattle.std.specs.Prelude.{bytes_eq, Option, option_map, option_and_then, IfSome}
use Rattle.std.specs.Ordering.{nat_cmp}
use Rattle.std.specs.BTreeMap.{BTreeMap, get}
use denote.Ref.{Bor}
use Rattle.fdt_tree.specs.Tree.{Bytes, Trees, Place, first_named, descend}
use Rattle.fdt_tree.specs.Document.{Document, place_of, children_of}
use Rattle.fdt_nodes.specs.ChildMaps.{Named, named, IsChildMap, HasAllChildren}

-- each node has a map
pub map_found : (document : Document) (maps : BTreeMap ℕ Named) (above : ℕ) (found : Bor Named) → HasAllChildren document maps → above < length document.places
    → Some found.now ≡ get nat_cmp maps above → IsChildMap document above found.now
map_found document maps above found has live is =
    let held = has above live in let same : held.0 ≡ found.now = same_some held.0 found.now (sym held.1 ∙ sym is) in subst (IsChildMap document above) same held.2
  where
    same_some : (x y : Named) → Some x ≡ Some y → x ≡ y
    same_some x y e = cc

pub map_missing : (document : Document) (maps : BTreeMap ℕ Named) (above : ℕ) → HasAllChildren document maps → above < length document.places → None ≡ get nat_cmp maps above → ⊥
map_missing document maps above has live is = none_some _ (is ∙ (has above live).1)
  where
    none_some : (x : Named) → None ≡ Some x → ⊥
    none_some x e = absurd (cc)

-- a name leads to the child that a map has
pub leads : (document : Document) (above : ℕ) (children : Named) (name : Bytes) (found : Option ℕ) → IsChildMap document above children → found ≡ named children name → bytes_eq name [] ≡ false
    → option_map (place_of document) found ≡ option_map (λ p. place_of document above ++ p) (descend (name ∷ []) (children_of document above))
leads document above children name found has is some =
    ap (option_map (place_of document)) is ∙ (has.places name ∙ (by (first_named name (children_of document above))
    ∙ sym (ap (λ b. option_map (λ p. place_of document above ++ p) (cond b None (option_and_then (λ (h : ℕ × Trees). option_map (λ p. h.0 ∷ p) (Some [])) (first_named name (children_of document above))))) some)))
  where
    by : (o : Option (ℕ × Trees)) → option_map (λ h. place_of document above ++ h.0 ∷ []) o
        ≡ option_map (λ p. place_of document above ++ p) (option_and_then (λ (h : ℕ × Trees). option_map (λ p. h.0 ∷ p) (Some [])) o)
    by None = refl
    by (Some h) = refl

pub alive : (document : Document) (above : ℕ) (children : Named) (name : Bytes) (found : Option ℕ) → IsChildMap document above children → found ≡ named children name → IfSome found (λ child. child < length document.places)
alive document above children name found has is = subst (λ (o : Option ℕ). IfSome o (λ child. child < length document.places)) (sym is) (has.live name)

-- where a first name leads nowhere, no names after it lead on
pub stops : (place : Place) (name : Bytes) (names : List Bytes) (trees : Trees) → None ≡ option_map (λ p. place ++ p) (descend (name ∷ []) trees) → None ≡ option_map (λ p. place ++ p) (descend (name ∷ names) trees)
stops place name names trees e = by (bytes_eq name []) (first_named name trees) e
  where
    by : (b : Bool) (o : Option (ℕ × Trees)) → None ≡ option_map (λ p. place ++ p) (cond b None (option_and_then (λ (h : ℕ × Trees). option_map (λ p. h.0 ∷ p) (Some [])) o))
        → None ≡ option_map (λ p. place ++ p) (cond b None (option_and_then (λ (h : ℕ × Trees). option_map (λ p. h.0 ∷ p) (descend names h.1)) o))
    by true o e = refl
    by false None e = refl
    by false (Some h) e = absurd (cc)
