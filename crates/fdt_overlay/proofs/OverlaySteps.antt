-- Reading and applying overlays are steps.
use Rattle.std.proofs.Common.{◌≡◌, ◌∙◌, inl, inr, ap, sym, subst, refl, ℕ, ◌+◌, ◌<◌, ◌≤◌, List, [], ◌∷◌, length, map, drop, get_or}
use Rattle.std.specs.Prelude.{◌⊎◌, Option, Result, Ok, Err}
use Rattle.std.proofs.lemmas.List.{drop_more, drop_all}
use Rattle.outside.specs.Outside.{File}
use Rattle.outside.specs.declared.status.Status.TheVariants as statuses
use Rattle.fdt_tree.specs.Tree.{Tree}
use Rattle.run_steps.specs.Endings.{Outcome, Refuses}
use Rattle.overlaid_trees.specs.declared.fault.OverlayFault.{OverlayFault}
use Rattle.overlaid_trees.specs.declared.fault.OverlayFault.TheVariants.{Memory}
use Rattle.run_steps.specs.Steps.{IsRefusal, OnResult, GiveEach, nothing}
use Rattle.tree_files.specs.Trees.{FlatTree, AfterTreeFile, IsTreeFile}
use Rattle.run_steps.proofs.Step.{Next, IsStep, and_then, hand_on, hand_on_step, on_result_step}
use Rattle.tree_files.proofs.TreeSteps.{tree_file_step}
use Rattle.overlaid_trees.specs.Turns.{each}
use Rattle.overlaid_trees.specs.Applied.{applied, all_applied}
use Rattle.fdt_overlay.specs.Lines.{fault_message}
use Rattle.fdt_overlay.specs.Asked.{Asked}
use Rattle.fdt_overlay.specs.Overlays.{AfterApplied, AfterOverlay, AfterOverlays, Overlaid, made_of, AfterAll, IsOverlaid}
use Rattle.fdt_overlay.specs.PrivateSteps.{IsApplied, AreApplied, IsFound}

pub applied_step : (name : List ℕ) (base overlay : Tree) → IsStep (λ made. applied base overlay ≡ Ok made) (AfterApplied name base overlay)
applied_step name base overlay = on_result_step (λ fault. IsRefusal statuses.Refused (fault_message name fault)) (λ fault outputs report p. p) (λ fault status list p. p) (applied base overlay)

-- the trees of overlays that were read, and what they made of a base
all_read : (told : Option (List File)) (names : List (List ℕ)) (base made : Tree) → AreApplied told names base made → (overlays : List FlatTree) × GiveEach (IsTreeFile told) names overlays × (all_applied base (map (λ (overlay : FlatTree). overlay.root) overlays) ≡ Ok made)
all_read told [] base made are = ([], refl, ap Ok (sym are))
all_read told (name ∷ names) base made are =
    let later = all_read told names are.0 made are.2 in
    let overlay = are.1.0 in
    (overlay ∷ later.0, (overlay, later.0, are.1.1, later.1, refl), ap (λ (r : Result Tree _). elim r [ Ok next ↦ each applied next (map (λ (o : FlatTree). o.root) later.0) | Err fault ↦ Err fault ]) are.1.2 ∙ later.2)

-- an overlay that is refused
pub applied-refused : (name : List ℕ) (base overlay : Tree) (fault : OverlayFault) (message : List ℕ) → (fault ≡ Memory) ⊎ (applied base overlay ≡ Err fault) → (fault ≡ Memory → ⊥) → message ≡ fault_message name fault → AfterApplied name base overlay nothing (Refuses statuses.Refused message)
applied-refused name base overlay fault message (inl memory) other says = absurd (other memory)
applied-refused name base overlay fault message (inr is) other says =
    subst (λ (r : Result Tree OverlayFault). OnResult (λ fault. IsRefusal statuses.Refused (fault_message name fault)) nothing r (Refuses statuses.Refused message)) (sym is) (refl, says)

module _ (told : Option (List File)) where
  pub overlay_step : (name : List ℕ) (base : Tree) → IsStep (IsApplied told name base) (AfterOverlay told name base)
  overlay_step name base =
      and_then (IsTreeFile told name) (λ overlay made. applied base overlay.root ≡ Ok made) (AfterTreeFile told name) (λ overlay. AfterApplied name base overlay.root) (tree_file_step told name) (λ overlay. applied_step name base overlay.root)

  pub overlays_step : (names : List (List ℕ)) (base : Tree) → IsStep (AreApplied told names base) (AfterOverlays told names base)
  overlays_step [] base = hand_on_step base
  overlays_step (name ∷ names) base =
      and_then (IsApplied told name base) (λ next made. AreApplied told names next made) (AfterOverlay told name base) (λ next. AfterOverlays told names next) (overlay_step name base) (λ next. overlays_step names next)

  module _ (asked : Asked) where
    -- what follows the base
    abbrev pub AfterTheBase : FlatTree → Next Overlaid → Outcome → Type 0
    AfterTheBase base next outcome = AfterOverlays told asked.overlays base.root (λ root. next (made_of base root)) outcome

    abbrev FoundOverlaid : FlatTree → Overlaid → Type 0
    FoundOverlaid base made = (root : Tree) × AreApplied told asked.overlays base.root root × (made ≡ made_of base root)

    pub after_base_step : (base : FlatTree) → IsStep (FoundOverlaid base) (AfterTheBase base)
    after_base_step base =
        and_then (AreApplied told asked.overlays base.root) (λ root made. made ≡ made_of base root) (AfterOverlays told asked.overlays base.root) (λ root. hand_on (made_of base root)) (overlays_step asked.overlays base.root) (λ root. hand_on_step (made_of base root))

    pub all_step : IsStep (IsFound told asked) (AfterAll told asked)
    all_step = and_then (IsTreeFile told asked.base) FoundOverlaid (AfterTreeFile told asked.base) AfterTheBase (tree_file_step told asked.base) after_base_step

    pub is_made : (made : Overlaid) → IsFound told asked made → IsOverlaid told asked made
    is_made made found =
        let base = found.0 in
        let later = all_read told asked.overlays base.root found.2.0 found.2.1 in
        let same = found.2.2 in
        record {
          base = base;
          base_read = found.1;
          overlays = later.0;
          overlays_read = later.1;
          is_applied = later.2 ∙ ap (λ (m : Overlaid). Ok m.root) (sym same);
          same_reserves = ap (λ (m : Overlaid). m.reserves) same;
          same_boot = ap (λ (m : Overlaid). m.boot) same;
        }

-- what reading and applying the overlays that are left does to the tree so far, all of them do to the base
pub record IsOnWay (told : Option (List File)) (names rest : List (List ℕ)) (base now : Tree) : Type 0 where
  pub leads : (made : Tree) → AreApplied told rest now made → AreApplied told names base made
  pub stops : (outcome : Outcome) → AfterOverlays told rest now nothing outcome → AfterOverlays told names base nothing outcome

module _ (told : Option (List File)) (names : List (List ℕ)) (base : Tree) where
  pub IsOnWay-start : (rest : List (List ℕ)) → rest ≡ names → IsOnWay told names rest base base
  IsOnWay-start rest is = record {
    leads = λ made are. subst (λ (all : List (List ℕ)). AreApplied told all base made) is are;
    stops = λ outcome p. subst (λ (all : List (List ℕ)). AfterOverlays told all base nothing outcome) is p;
  }

  module _ (rest : List (List ℕ)) (name : List ℕ) (later : List (List ℕ)) (now : Tree) (is : rest ≡ name ∷ later) (way : IsOnWay told names rest base now) where
    pub IsOnWay-next : (done : Tree) → IsApplied told name now done → IsOnWay told names later base done
    IsOnWay-next done one = record {
      leads = λ made are. way.leads made (subst (λ (all : List (List ℕ)). AreApplied told all now made) (sym is) (done, one, are));
      stops = λ outcome p. way.stops outcome (subst (λ (all : List (List ℕ)). AfterOverlays told all now nothing outcome) (sym is) ((overlay_step told name now).gives done one (λ next. AfterOverlays told later next nothing) outcome p));
    }

    pub IsOnWay-stop : (outcome : Outcome) → AfterOverlay told name now nothing outcome → AfterOverlays told names base nothing outcome
    IsOnWay-stop outcome p = way.stops outcome (subst (λ (all : List (List ℕ)). AfterOverlays told all now nothing outcome) (sym is) ((overlay_step told name now).stays (λ next. AfterOverlays told later next nothing) outcome p))

  pub IsOnWay-end : (rest : List (List ℕ)) (now : Tree) → rest ≡ [] → IsOnWay told names rest base now → AreApplied told names base now
  IsOnWay-end rest now is way = way.leads now (subst (λ (all : List (List ℕ)). AreApplied told all now now) (sym is) refl)

-- the words from an index on begin with the word there
pub words-next : {A : Type 0} (f : A → List ℕ) (xs : List A) (i : ℕ) (x : A) → i < length xs → x ≡ get_or xs i x → map f (drop i xs) ≡ f x ∷ map f (drop (i + 1) xs)
words-next f xs i x below is = ap (map f) (drop_more xs i x below ∙ ap (λ first. first ∷ drop (i + 1) xs) (sym is))

-- no word is left
pub words-end : {A : Type 0} (f : A → List ℕ) (xs : List A) (i : ℕ) → length xs ≤ i → map f (drop i xs) ≡ []
words-end f xs i end = ap (map f) (drop_all i xs end)
