-- Bounds of the ranges of a plan, and where a page goes.
use Rattle.std.proofs.Common.{◌≡◌, ◌∙◌, refl, sym, ap, ℕ, zero, suc, ◌+◌, ◌*◌, ◌^◌, ◌<◌, ◌≤◌, Bool, true, List, [], ◌∷◌, length, get_or, Option, Some, None, ap₂, arith}
use Rattle.std.specs.Prelude.{nat_lt, find, option_map}
use Rattle.std.specs.Option.{option_or}
use Rattle.std.proofs.lemmas.Bool.Decides.{nat_tests}
use Rattle.described.specs.Maps.{AreMapRanges, AreMerged, AreSortedFrom}
use Rattle.described.specs.declared.map_range.MapRange.{MapRange}
use Rattle.stage2_walk.specs.Pages.{Page, frames_of}
use Rattle.stage2_walk.specs.Runs.{map_of, mapped_runs, page_goal}
use Rattle.stage2_walk.specs.Walks.{walk, reached}
use Rattle.stage2_walk.specs.declared.run.Run.{Run}
use Rattle.image_audit.specs.Findings.{planned_map, difference, table_where}
use Rattle.image_audit.specs.Texts.{difference_text, frame_text, table_mapped, table_shared}
use Rattle.image_audit.specs.PrivatePartings.{parting}
use Rattle.image_audit.proofs.FirstDifference.{first_parting, parting_low}

-- the ends of a range
pub ends_at : (ranges : List MapRange) (start i : ℕ) (d : MapRange) → AreSortedFrom start ranges → i < length ranges → ((get_or ranges i d).page + (get_or ranges i d).count ≤ 2 ^ 28) × ((get_or ranges i d).first + (get_or ranges i d).count ≤ 2 ^ 28)
ends_at [] start i d sorted below = absurd (omega arith)
ends_at (range ∷ ranges) start zero d sorted below = (sorted.2, sorted.3)
ends_at (range ∷ ranges) start (suc i) d sorted below = ends_at ranges (range.page + range.count) i d sorted.4 (omega arith)

-- where the walk takes a page
pub map_of-at : (pages : List Page) (root page : ℕ) → page < 2 ^ 28 → map_of pages root page ≡ page_goal (reached (walk pages root (page * 4096)))
unfolding map_of
map_of-at pages root page low = let test : nat_lt page (2 ^ 28) ≡ true = grind (arith, nat_tests) in rw test refl

-- ---- what is found in an image that is not torn

module _ (pages : List Page) (root : ℕ) (ranges : List MapRange) (mapped earlier : ℕ → Bool) (runs : List Run) (sorted : AreMapRanges ranges) (merged : AreMerged ranges) (are : runs ≡ mapped_runs pages root) where
  abbrev pub Found : Option (List ℕ)
  Found = option_or (difference ranges pages root) (option_or (table_where table_mapped mapped pages) (table_where table_shared earlier pages))

  abbrev said : ℕ → List ℕ
  said page = difference_text page (map_of pages root page) (planned_map ranges page)

  difference_at : (o : Option ℕ) → parting runs ranges ≡ o → difference ranges pages root ≡ option_map said o
  unfolding difference
  difference_at o is = ap (option_map said) (first_parting pages root ranges sorted merged ∙ ap (λ (runs : List Run). parting runs ranges) (sym are) ∙ is)

  table_at : (name : List ℕ) (test : ℕ → Bool) (o : Option ℕ) → find test (frames_of pages) ≡ o → table_where name test pages ≡ option_map (frame_text name) o
  unfolding table_where
  table_at name test o is = ap (option_map (frame_text name)) is

  -- a page that goes elsewhere is below 2^28
  pub page_low : (page : ℕ) → parting runs ranges ≡ Some page → page < 2 ^ 28
  page_low page is = parting_low pages root ranges page sorted merged (ap (λ (runs : List Run). parting runs ranges) (sym are) ∙ is)

  -- such a page is named
  pub differs : (page : ℕ) (goal planned : Option (ℕ × ℕ)) → parting runs ranges ≡ Some page → goal ≡ map_of pages root page → planned ≡ planned_map ranges page → Some (difference_text page goal planned) ≡ Found
  differs page goal planned is goes plans =
      ap₂ (λ (goal planned : Option (ℕ × ℕ)). Some (difference_text page goal planned)) goes plans
      ∙ sym (ap (λ (found : Option (List ℕ)). option_or found (option_or (table_where table_mapped mapped pages) (table_where table_shared earlier pages))) (difference_at (Some page) is))

  module _ (alike : parting runs ranges ≡ None) where
    no_difference : Found ≡ option_or (table_where table_mapped mapped pages) (table_where table_shared earlier pages)
    no_difference = ap (λ (found : Option (List ℕ)). option_or found (option_or (table_where table_mapped mapped pages) (table_where table_shared earlier pages))) (difference_at None alike)

    -- or else a table that is mapped
    pub is_mapped_table : (frame : ℕ) → find mapped (frames_of pages) ≡ Some frame → Some (frame_text table_mapped frame) ≡ Found
    is_mapped_table frame is = sym (no_difference ∙ ap (λ (found : Option (List ℕ)). option_or found (table_where table_shared earlier pages)) (table_at table_mapped mapped (Some frame) is))

    -- or one of an earlier image, if there is one
    pub is_shared_table : (o : Option ℕ) → find mapped (frames_of pages) ≡ None → find earlier (frames_of pages) ≡ o → option_map (frame_text table_shared) o ≡ Found
    is_shared_table o none is =
        sym (no_difference ∙ ap (λ (found : Option (List ℕ)). option_or found (table_where table_shared earlier pages)) (table_at table_mapped mapped None none) ∙ table_at table_shared earlier o is)

-- an option that is not some is none
pub not_some : {A : Type 0} (o : Option A) → ((x : A) → o ≡ Some x → ⊥) → o ≡ None
not_some None never = refl
not_some (Some x) never = absurd (never x refl)
