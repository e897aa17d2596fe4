-- A base and its overlays, as their files give them: each overlay is applied to the tree that the ones before it made.
use Rattle.std.specs.Prelude.{◌≡◌, ℕ, List, [], ◌∷◌, map, Option, Ok}
use Rattle.outside.specs.Outside.{File}
use Rattle.outside.specs.declared.status.Status.TheVariants as statuses
use Rattle.fdt_tree.specs.Tree.{Tree}
use Rattle.fdt_tree.specs.declared.reserve.Reserve.{Reserve}
use Rattle.run_steps.specs.Endings.{Outcome}
use Rattle.run_steps.specs.Steps.{IsRefusal, OnResult, GiveEach}
use Rattle.tree_files.specs.Trees.{FlatTree, AfterTreeFile, IsTreeFile}
use Rattle.overlaid_trees.specs.Applied.{applied, all_applied}
use Rattle.fdt_overlay.specs.Lines.{fault_message}
use Rattle.fdt_overlay.specs.Asked.{Asked}

-- a tree with an overlay applied is handed on; the overlay's first fault is refused
abbrev pub AfterApplied : List ℕ → Tree → Tree → (Tree → Outcome → Type 0) → Outcome → Type 0
AfterApplied name base overlay next outcome = OnResult (λ fault. IsRefusal statuses.Refused (fault_message name fault)) next (applied base overlay) outcome

-- an overlay is read and applied to a tree, and what it made is handed on
abbrev pub AfterOverlay : Option (List File) → List ℕ → Tree → (Tree → Outcome → Type 0) → Outcome → Type 0
AfterOverlay told name base next outcome = AfterTreeFile told name (λ overlay. AfterApplied name base overlay.root next) outcome

-- overlays are read and applied in their turn, each before the next is read
abbrev pub AfterOverlays : Option (List File) → List (List ℕ) → Tree → (Tree → Outcome → Type 0) → Outcome → Type 0
AfterOverlays told [] base next outcome = next base outcome
AfterOverlays told (name ∷ names) base next outcome = AfterOverlay told name base (λ made. AfterOverlays told names made next) outcome

-- what is written: the tree that was made, with the base's reservations and the processor that boots
pub record Overlaid : Type 0 where
  pub reserves : List Reserve
  pub boot : ℕ
  pub root : Tree

-- the tree that was made of a base
abbrev pub made_of : FlatTree → Tree → Overlaid
made_of base root = record { reserves = base.reserves; boot = base.boot; root = root }

-- the base is read, and then each overlay; what they made is handed on
abbrev pub AfterAll : Option (List File) → Asked → (Overlaid → Outcome → Type 0) → Outcome → Type 0
AfterAll told asked next outcome = AfterTreeFile told asked.base (λ base. AfterOverlays told asked.overlays base.root (λ root. next (made_of base root))) outcome

-- what was made is the base with the overlays applied one after the other, where all are those of the files
pub record IsOverlaid (told : Option (List File)) (asked : Asked) (made : Overlaid) : Type 0 where
  pub base : FlatTree
  pub base_read : IsTreeFile told asked.base base
  pub overlays : List FlatTree
  pub overlays_read : GiveEach (IsTreeFile told) asked.overlays overlays
  pub is_applied : all_applied base.root (map (λ (overlay : FlatTree). overlay.root) overlays) ≡ Ok made.root
  pub same_reserves : made.reserves ≡ base.reserves
  pub same_boot : made.boot ≡ base.boot
