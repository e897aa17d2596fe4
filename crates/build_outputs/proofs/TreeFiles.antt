-- The trees of guests, guest by guest.
use Rattle.std.proofs.Common.{◌≡◌, ◌≤◌, ◌<◌, ◌∙◌, ◌+◌, refl, sym, ap, subst, arith, inl, inr, ℕ, suc, zero, List, [], ◌∷◌, ◌++◌, length, take, drop, drop-cons, get_or, Some, None}
use Rattle.std.specs.Prelude.{◌⊎◌, Option, slice_get}
use Rattle.std.proofs.lemmas.List.{take_more, take_all, take-append-drop, length-take-le}
use Rattle.outside.specs.Outside.{File}
use Rattle.described.specs.declared.why.Why.{Why}
use Rattle.item_checks.specs.Refusals.{or_later}
use Rattle.domain_plan.specs.declared.planned.GuestPlan.{GuestPlan}
use Rattle.fdt_tree.specs.Tree.{Tree}
use Rattle.fdt_write.specs.Flattened.{length_limit}
use Rattle.run_steps.specs.declared.stop.Stop.{Stop}
use Rattle.domain_plan.specs.Descriptions.{partial_at}
use Rattle.build_outputs.specs.Lengths.{tree_item, too_long, tree_too_long, refused_trees}
use Rattle.build_outputs.specs.Outputs.{tree_output, tree_outputs}
use Rattle.build_outputs.specs.PrivateSpelled.{IsSpelled, AreSpelled}
use Rattle.build_outputs.specs.PrivateTooLong.{IsLengthStop, IsFirstLengthStop}
use Rattle.build_outputs.proofs.Refused.{is_too_long, is_not_too_long}

-- where the first trees are not too long, those after them decide
pub refused_later : (trees more : List File) → refused_trees trees ≡ None → refused_trees (trees ++ more) ≡ refused_trees more
refused_later [] more none = refl
refused_later (tree ∷ trees) more none = by (tree_too_long tree.1) none (refused_later trees more)
  where
    by : (why : Option Why) → or_later (tree_item tree.0) why (refused_trees trees) ≡ None → (refused_trees trees ≡ None → refused_trees (trees ++ more) ≡ refused_trees more)
        → or_later (tree_item tree.0) why (refused_trees (trees ++ more)) ≡ refused_trees more
    by None e later = later e
    by (Some why) e later = absurd (cc)

-- one more tree that fits
fit_more : (trees : List File) (tree : File) → refused_trees trees ≡ None → length tree.1 ≤ length_limit → refused_trees (trees ++ tree ∷ []) ≡ None
fit_more trees tree before fits =
    refused_later trees (tree ∷ []) before ∙ ap (λ (why : Option Why). or_later (tree_item tree.0) why None) (is_not_too_long tree.1 fits)

-- the first that does not
first_long : (trees : List File) (tree : File) (more : List File) → refused_trees trees ≡ None → length_limit < length tree.1
    → refused_trees (trees ++ tree ∷ more) ≡ Some (tree_item tree.0, too_long (length tree.1))
first_long trees tree more before long =
    refused_later trees (tree ∷ more) before ∙ ap (λ (why : Option Why). or_later (tree_item tree.0) why (refused_trees more)) (is_too_long tree.1 long)

-- the last of some guests, or one before it
last_or_before : (guests : List GuestPlan) (last guest : GuestPlan) (number : ℕ) → slice_get (guests ++ last ∷ []) number ≡ Some guest
    → (slice_get guests number ≡ Some guest) ⊎ ((number ≡ length guests) × (last ≡ guest))
last_or_before [] last guest zero is = inr (refl, cc)
last_or_before [] last guest (suc number) is = absurd (cc)
last_or_before (first ∷ guests) last guest zero is = inl is
last_or_before (first ∷ guests) last guest (suc number) is = elim (last_or_before guests last guest number is) [
  | inl before ↦ inl before
  | inr at ↦ inr (ap suc at.0, at.1)
]

module _ (partials : List (Option Tree)) where
  -- the trees of guests and of those after them
  appended : (number : ℕ) (guests more : List GuestPlan) → tree_outputs partials number (guests ++ more) ≡ tree_outputs partials number guests ++ tree_outputs partials (number + length guests) more
  appended number [] more = ap (λ (n : ℕ). tree_outputs partials n more) (let e : number ≡ number + 0 = omega arith in e)
  appended number (guest ∷ guests) more =
      ap (λ later. tree_output guest (partial_at partials number) ∷ later)
      (appended (number + 1) guests more ∙ ap (λ (n : ℕ). tree_outputs partials (number + 1) guests ++ tree_outputs partials n more) (let e : number + 1 + length guests ≡ number + suc (length guests) = omega arith in e))

  -- the first i guests and the next
  module _ (guests : List GuestPlan) (i : ℕ) (guest : GuestPlan) (within : i < length guests) (is : guest ≡ get_or guests i guest) where
    abbrev this : File
    this = tree_output guest (partial_at partials i)

    abbrev before : List File
    before = tree_outputs partials 0 (take i guests)

    as_many : length (take i guests) ≡ i
    as_many = length-take-le i guests (grind (arith))

    counted : 0 + length (take i guests) ≡ i
    counted = (let e : 0 + length (take i guests) ≡ length (take i guests) = omega arith in e) ∙ as_many

    next : take (i + 1) guests ≡ take i guests ++ guest ∷ []
    next = take_more guests i guest within ∙ ap (λ (g : GuestPlan). take i guests ++ g ∷ []) (sym is)

    whole : guests ≡ take i guests ++ guest ∷ drop (suc i) guests
    whole =
        sym (take-append-drop i guests) ∙ ap (λ gs. take i guests ++ gs) (drop-cons guests i guest within ∙ ap (λ (g : GuestPlan). g ∷ drop (suc i) guests) (sym is))

    pub outputs_more : tree_outputs partials 0 (take (i + 1) guests) ≡ before ++ this ∷ []
    outputs_more =
        ap (tree_outputs partials 0) next ∙ appended 0 (take i guests) (guest ∷ [])
        ∙ ap (λ (n : ℕ). before ++ tree_outputs partials n (guest ∷ [])) counted

    pub fits_more : refused_trees before ≡ None → length this.1 ≤ length_limit → refused_trees (tree_outputs partials 0 (take (i + 1) guests)) ≡ None
    fits_more none fits = ap refused_trees outputs_more ∙ fit_more before this none fits

    pub spelled_more : AreSpelled partials (take i guests) → IsSpelled guest (partial_at partials i) → AreSpelled partials (take (i + 1) guests)
    spelled_more all this number other at =
        elim (last_or_before (take i guests) guest other number (subst (λ (gs : List GuestPlan). slice_get gs number ≡ Some other) next at)) [
          | inl earlier ↦ all number other earlier
          | inr last ↦
              subst (λ (n : ℕ). IsSpelled other (partial_at partials n)) (sym (last.0 ∙ as_many))
              (subst (λ (g : GuestPlan). IsSpelled g (partial_at partials i)) last.1 this)
        ]

    -- the stop at this tree is the first
    pub first_stop : (stop : Stop) → refused_trees before ≡ None → IsLengthStop this stop → IsFirstLengthStop (tree_outputs partials 0 guests) stop
    first_stop stop none (inl memory) = inl memory
    first_stop stop none (inr long) =
        let all : tree_outputs partials 0 guests ≡ before ++ this ∷ tree_outputs partials (i + 1) (drop (suc i) guests) =
        ap (tree_outputs partials 0) whole ∙ appended 0 (take i guests) (guest ∷ drop (suc i) guests)
        ∙ ap (λ (n : ℕ). before ++ tree_outputs partials n (guest ∷ drop (suc i) guests)) counted in
        inr ((tree_item this.0, too_long (length this.1)), ap refused_trees all ∙ first_long before this (tree_outputs partials (i + 1) (drop (suc i) guests)) none long.0, long.1)

-- all guests
pub all_spelled : (partials : List (Option Tree)) (guests : List GuestPlan) (i : ℕ) → length guests ≤ i → AreSpelled partials (take i guests) → AreSpelled partials guests
all_spelled partials guests i past all = subst (AreSpelled partials) (take_all i guests past) all
