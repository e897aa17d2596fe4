-- Where an address goes is where the first address of its page goes, at the same place in the frame.
use Rattle.std.proofs.Common.{◌≡◌, ◌∙◌, refl, sym, ap, subst, ℕ, ◌+◌, ◌*◌, ◌/◌, ◌%◌, ◌^◌, ◌<◌, List, Option, Some, None, arith}
use Rattle.std.specs.Prelude.{option_map}
use Rattle.described.specs.Regions.{span}
use Rattle.described.specs.Maps.{Target, attributes, target_of}
use Rattle.described.specs.declared.map_range.MapRange.{MapRange}
use Rattle.stage2_walk.specs.Pages.{Page, word_in}
use Rattle.stage2_walk.specs.Descriptors.{meaning}
use Rattle.stage2_walk.specs.Runs.{map_of, page_goal}
use Rattle.stage2_walk.specs.Walks.{index_at, follow, follow_word, walk, walk_root, walk_middle, walk_page, reached}
use Rattle.stage2_walk.specs.declared.descriptor.Meaning.{Meaning}
use Rattle.stage2_walk.specs.declared.descriptor.Meaning.TheVariants.{Invalid, Reserved, Table, Leaf}
use Rattle.stage2_walk.specs.declared.walk.Step.{Step}
use Rattle.stage2_walk.specs.declared.walk.Step.TheVariants.{Fault}
use Rattle.stage2_tables.specs.Translation.{translated}
use Rattle.image_audit.specs.Findings.{planned_map}
use Rattle.image_audit.proofs.PlannedRanges.{map_of-at}

-- the first address of the page of an address
abbrev start_of : ℕ → ℕ
start_of address = address / 2 ^ 12 * 2 ^ 12

-- the same place in the frame of a page
abbrev placed : ℕ → Option (ℕ × ℕ) → Option (ℕ × ℕ)
placed address None = None
placed address (Some goal) = Some (goal.0 * 2 ^ 12 + address % 2 ^ 12, goal.1)

-- one walk goes where another does, at its place
abbrev GoesAs : ℕ → Step → Step → Type 0
GoesAs address step first = reached step ≡ placed address (page_goal (reached first))

-- the place in a region of each size
abbrev SamePlace : ℕ → ℕ → Type 0
SamePlace size address = (frame : ℕ) → frame * 2 ^ 12 + address % (size * 2 ^ 12) ≡ (frame * 2 ^ 12 + start_of address % (size * 2 ^ 12)) / 2 ^ 12 * 2 ^ 12 + address % 2 ^ 12

same_place_first : (address : ℕ) → SamePlace (2 ^ 18) address
same_place_first address frame = omega arith

same_place_middle : (address : ℕ) → SamePlace (2 ^ 9) address
same_place_middle address frame = omega arith

same_place_last : (address : ℕ) → SamePlace 1 address
same_place_last address frame = omega arith

same_page : (address : ℕ) → start_of address / 2 ^ 12 ≡ address / 2 ^ 12
same_page address = omega arith

same_half : (address : ℕ) → start_of address / 2 ^ 39 ≡ address / 2 ^ 39
same_half address = omega arith

same_index : (level address : ℕ) → index_at level (start_of address) ≡ index_at level address
same_index level address = ap (λ page. page / span level % 512) (same_page address)

module _ (level address : ℕ) (place : SamePlace (span level) address) (next first : ℕ → Step) (below : (frame : ℕ) → GoesAs address (next frame) (first frame)) where
  follow_as : (m : Meaning) → GoesAs address (follow next level address m) (follow first level (start_of address) m)
  follow_as Invalid = refl
  follow_as Reserved = refl
  follow_as (Table frame) = below frame
  follow_as (Leaf frame attr) = ap (λ (at : ℕ). Some (at, attr)) (place frame)

  follow_word_as : (frame : ℕ) (word : Option ℕ) → GoesAs address (follow_word next level frame address word) (follow_word first level frame (start_of address) word)
  follow_word_as frame None = refl
  follow_word_as frame (Some word) = follow_as (meaning level word)

module _ (pages : List Page) (address : ℕ) where
  -- a table is read at the same index
  read_as : (level frame : ℕ) (next first : ℕ → Step) → SamePlace (span level) address → ((frame : ℕ) → GoesAs address (next frame) (first frame))
      → GoesAs address (follow_word next level frame address (word_in pages frame (index_at level address))) (follow_word first level frame (start_of address) (word_in pages frame (index_at level (start_of address))))
  read_as level frame next first place below =
      subst (λ index. GoesAs address (follow_word next level frame address (word_in pages frame (index_at level address))) (follow_word first level frame (start_of address) (word_in pages frame index))) (sym (same_index level address))
      (follow_word_as level address place next first below frame (word_in pages frame (index_at level address)))

  page_as : (frame : ℕ) → GoesAs address (walk_page pages address frame) (walk_page pages (start_of address) frame)
  unfolding walk_page
  page_as frame = read_as 3 frame (λ _. Fault 3) (λ _. Fault 3) (same_place_last address) (λ _. refl)

  middle_as : (frame : ℕ) → GoesAs address (walk_middle pages address frame) (walk_middle pages (start_of address) frame)
  unfolding walk_middle
  middle_as frame = read_as 2 frame (walk_page pages address) (walk_page pages (start_of address)) (same_place_middle address) page_as

  root_as : (frame : ℕ) → GoesAs address (walk_root pages address frame) (walk_root pages (start_of address) frame)
  unfolding walk_root
  root_as frame = read_as 1 frame (walk_middle pages address) (walk_middle pages (start_of address)) (same_place_first address) middle_as

  walk_as : (root : ℕ) → GoesAs address (walk pages root address) (walk pages root (start_of address))
  unfolding walk
  walk_as root = subst (λ half. GoesAs address (walk_root pages address (root + address / 2 ^ 39)) (walk_root pages (start_of address) (root + half))) (sym (same_half address)) (root_as (root + address / 2 ^ 39))

-- what is planned for a page, at a place in it
planned_place : (address : ℕ) (target : Option Target) → placed address (option_map (λ (target : Target). (target.frame, attributes target.kind)) target) ≡ translated address target
planned_place address None = refl
planned_place address (Some target) = refl

page_below : (address : ℕ) → address < 2 ^ 40 → address / 2 ^ 12 < 2 ^ 28
page_below address low = omega arith

-- where every page goes as it is planned, every address does
pub walks_as_planned : (pages : List Page) (root : ℕ) (ranges : List MapRange) → ((page : ℕ) → page < 2 ^ 28 → map_of pages root page ≡ planned_map ranges page)
    → (address : ℕ) → address < 2 ^ 40 → reached (walk pages root address) ≡ translated address (target_of ranges (address / 2 ^ 12))
walks_as_planned pages root ranges same address low =
    walk_as pages address root
    ∙ ap (placed address) (sym (map_of-at pages root (address / 2 ^ 12) (page_below address low)) ∙ same (address / 2 ^ 12) (page_below address low))
    ∙ planned_place address (target_of ranges (address / 2 ^ 12))
