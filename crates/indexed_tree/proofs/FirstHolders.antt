-- The first node in document order that has a phandle, by the map of them.
use Rattle.std.proofs.Common.{◌≡◌, ◌∙◌, ap, sym, subst, refl, ℕ, ◌<◌, [], ◌∷◌, false, Option, Some, None, option_map, IfSome, IsSome, length}
use Rattle.std.specs.Prelude.{MatchOption}
use Rattle.std.specs.Option.{option_map_or}
use Rattle.std.specs.Ordering.{nat_cmp, is_gt}
use Rattle.std.specs.Cmp.Lexicographic.{slice_cmp}
use Rattle.fdt_tree.specs.Tree.{Tree, Place, at}
use Rattle.fdt_tree.specs.Document.{Document, place_of, properties_of, IsNumbering}
use Rattle.fdt_tree.specs.Phandles.{phandle_of}
use Rattle.tree_parts.proofs.Growing.{stands}
use Rattle.indexed_tree.specs.Lookups.{place_of_phandle}
use Rattle.indexed_tree.specs.PrivateHolders.{Holders, holder_at, IsHolding}
use Rattle.indexed_tree.proofs.Holding.{first-held, none-held}

some-node : {A : Type 0} (o : Option A) (x : A) → o ≡ Some x → IsSome o
some-node None x is = absurd (cc)
some-node (Some y) x is = refl

never : {A : Type 0} (o : Option A) (x : A) → o ≡ Some x → o ≡ None → ⊥
never o x e f = cc

module _ (d : Document) (h : Holders) (p : ℕ) where
  -- what the map says of a phandle
  abbrev Says : Option ℕ → Type 0
  Says found = MatchOption found ((there : Place) → holder_at h p there ≡ None) (λ number. (place : Place) × (holder_at h p place ≡ Some number) × ((there : Place) → IsSome (holder_at h p there) → is_gt (slice_cmp nat_cmp place there) ≡ false))

  pub first-live : (found : Option ℕ) → IsHolding d h → Says found → IfSome found (λ number. number < length d.places)
  first-live None holding says = tt
  first-live (Some number) holding says = (holding.within number p says.0 says.1).0

  -- a node that stands at a place and has the phandle is there
  there : IsNumbering d → IsHolding d h → (q : Place) (v : Tree) → at d.tree q ≡ Some v → phandle_of v.properties ≡ p ∷ [] → (number : ℕ) × (holder_at h p q ≡ Some number)
  there numbering holding q v stands_there has =
      let w = numbering.each q (some-node (at d.tree q) v stands_there) in
      let own : properties_of d w.0 ≡ v.properties = ap (λ (o : Option Tree). option_map_or (λ (u : Tree). u.properties) o []) (ap (at d.tree) w.2 ∙ stands_there) in
      (w.0, ap (holder_at h p) (sym w.2) ∙ holding.there w.0 p w.1 (ap phandle_of own ∙ has))

  pub first-place : (found : Option ℕ) → IsNumbering d → IsHolding d h → Says found → option_map (place_of d) found ≡ place_of_phandle d.tree p
  first-place None numbering holding says =
      sym (none-held d.tree p (λ q v at_q has. let w = there numbering holding q v at_q has in never (holder_at h p q) w.0 w.1 (says q)))
  first-place (Some number) numbering holding says =
      let w = holding.within number p says.0 says.1 in
      let u = stands d number numbering w.0 in
      let own : properties_of d number ≡ u.0.properties = ap (λ (o : Option Tree). option_map_or (λ (v : Tree). v.properties) o []) u.1 in
      sym (first-held d.tree (place_of d number) u.0 p u.1 (ap phandle_of (sym own) ∙ w.2)
      (λ q v at_q has. let k = there numbering holding q v at_q has in
      ap (λ (r : Place). is_gt (slice_cmp nat_cmp r q)) w.1 ∙ says.2 q (some-node (holder_at h p q) k.0 k.1)))
