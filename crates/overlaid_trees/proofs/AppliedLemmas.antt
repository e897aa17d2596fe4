-- The three steps of an overlay, one after the other.
use Rattle.std.proofs.Common.{◌≡◌, ◌∙◌, ◌⊎◌, inl, inr, ap, sym, Result, Ok, Err}
use Rattle.std.specs.Prelude.{IfOk, IfErr}
use Rattle.fdt_tree.specs.Tree.{Tree}
use Rattle.fdt_tree.specs.Document.{Document}
use Rattle.overlaid_trees.specs.declared.fault.OverlayFault.{OverlayFault}
use Rattle.overlaid_trees.specs.declared.fault.OverlayFault.TheVariants.{Memory}
use Rattle.overlaid_trees.specs.Turns.{and_then}
use Rattle.overlaid_trees.specs.Shift.{shifted}
use Rattle.overlaid_trees.specs.Resolve.{resolved}
use Rattle.overlaid_trees.specs.Merge.{merged}
use Rattle.overlaid_trees.specs.Applied.{applied}

-- the first step is refused
pub shift-refused : (base overlay : Tree) (fault : OverlayFault) → (fault ≡ Memory) ⊎ (shifted base overlay ≡ Err fault) → (fault ≡ Memory) ⊎ (applied base overlay ≡ Err fault)
shift-refused base overlay fault (inl memory) = inl memory
shift-refused base overlay fault (inr refused) = inr (ap (λ (r : Result Tree OverlayFault). and_then r (λ above. and_then (resolved base above) (merged base))) refused)

-- the others are done over a copy of the base
module _ (base overlay above copy : Tree) (one : shifted base overlay ≡ Ok above) (same : copy ≡ base) where
  first : applied base overlay ≡ and_then (resolved copy above) (merged copy)
  first =
      ap (λ (r : Result Tree OverlayFault). and_then r (λ above. and_then (resolved base above) (merged base))) one ∙ ap (λ (t : Tree). and_then (resolved t above) (merged t)) (sym same)

  -- the second is refused
  pub resolve-refused : (fault : OverlayFault) → (fault ≡ Memory) ⊎ (resolved copy above ≡ Err fault) → (fault ≡ Memory) ⊎ (applied base overlay ≡ Err fault)
  resolve-refused fault (inl memory) = inl memory
  resolve-refused fault (inr refused) = inr (first ∙ ap (λ (r : Result Tree OverlayFault). and_then r (merged copy)) refused)

  module _ (known : Tree) (two : resolved copy above ≡ Ok known) where
    both : applied base overlay ≡ merged copy known
    both = first ∙ ap (λ (r : Result Tree OverlayFault). and_then r (merged copy)) two

    -- the third is, or it gives the tree
    pub merge-made : {E : Type 0} (result : Result Document E) → IfOk result (λ made. merged copy known ≡ Ok made.tree) → IfOk result (λ made. applied base overlay ≡ Ok made.tree)
    merge-made (Ok made) is = both ∙ is
    merge-made (Err fault) is = tt

    pub merge-refused : {A : Type 0} (result : Result A OverlayFault) → IfErr result (λ fault. (fault ≡ Memory) ⊎ (merged copy known ≡ Err fault)) → IfErr result (λ fault. (fault ≡ Memory) ⊎ (applied base overlay ≡ Err fault))
    merge-refused (Ok made) refused = tt
    merge-refused (Err fault) (inl memory) = inl memory
    merge-refused (Err fault) (inr refused) = inr (both ∙ refused)
