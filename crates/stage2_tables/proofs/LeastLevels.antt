-- The walk through the least tables, level by level.
use Rattle.std.proofs.Common.{◌≡◌, ℕ, ◌+◌, ◌-◌, ◌*◌, ◌/◌, ◌%◌, ◌^◌, ◌<◌, ◌⊎◌, ◌&&◌, ◌||◌, Bool, true, false, not, List, length, Option, Some, None, refl, sym, ap, subst, ◌∙◌, arith, inl, inr}
use Rattle.std.specs.Prelude.{slice_index}
use Rattle.std.specs.Option.{is_some}
use Rattle.std.specs.List.{list_any}
use Rattle.std.proofs.lemmas.Bool.{false≢true}
use Rattle.texts.specs.Consecutive.{numbers}
use Rattle.described.specs.Maps.{Target, attributes}
use Rattle.described.specs.Regions.{Map, Region, region_around, pages_in, is_run, is_block, lies_in_block, has_table, tables_of, table_count}
use Rattle.texts.proofs.Ascending.{IsMember}
use Rattle.described.proofs.RegionLemmas.{IsRun, is_run_tells, is_run_from}
use Rattle.stage2_walk.specs.Pages.{word_in}
use Rattle.stage2_walk.specs.Walks.{index_at, follow, follow_word, walk_page, walk_middle, walk_root, walk}
use Rattle.stage2_walk.specs.declared.descriptor.Meaning.TheVariants.{Invalid, Table, Leaf}
use Rattle.stage2_walk.specs.declared.walk.Step.{Step}
use Rattle.stage2_walk.specs.declared.walk.Step.TheVariants.{Fault}
use Rattle.stage2_tables.specs.Words.{table_word}
use Rattle.stage2_tables.specs.TableFrames.{AreTableFrames}
use Rattle.stage2_tables.specs.Laws.{MapsLow, LeastWalksTheMap}
use Rattle.stage2_tables.specs.Least.{leaf_word, leaf_word_at, region_word, part_of, table_frame, least_image}
use Rattle.stage2_tables.proofs.Decoding.{meaning-page_word, meaning-table_word-first, meaning-table_word-second}
use Rattle.stage2_tables.proofs.LeastWords.{place_found, table_place, least_word, root_member, second_member, large_member, small_member}
use Rattle.stage2_tables.proofs.LeastWalk.{Arrives, arrives, leaf_arrives, fault_arrives, none_mapped, at_word, word_block, word_table, word_none, meaning-large, meaning-small, meaning-none}

-- the regions around a page
abbrev pub large_of : ℕ → Region
large_of page = record { level = 1; page = page / 2 ^ 18 * 2 ^ 18 }

abbrev pub small_of : ℕ → Region
small_of page = record { level = 2; page = page / 2 ^ 18 * 2 ^ 18 + page / 2 ^ 9 % 512 * 2 ^ 9 }

abbrev pub page_of : ℕ → Region
page_of page = record { level = 3; page = page }

abbrev pub region_at : ℕ → ℕ → Region
region_at level page = record { level = level; page = page }

at_level : (level a b : ℕ) → a ≡ b → region_at level a ≡ region_at level b
at_level level a b same = ap (region_at level) same

pub large_around_large : (page : ℕ) → region_around 1 (page / 2 ^ 18 * 2 ^ 18) ≡ large_of page
large_around_large page = at_level 1 _ _ (omega arith)

large_around_small : (page : ℕ) → region_around 1 (page / 2 ^ 18 * 2 ^ 18 + page / 2 ^ 9 % 512 * 2 ^ 9) ≡ large_of page
large_around_small page = at_level 1 _ _ (omega arith)

small_around_small : (page : ℕ) → region_around 2 (page / 2 ^ 18 * 2 ^ 18 + page / 2 ^ 9 % 512 * 2 ^ 9) ≡ small_of page
small_around_small page = at_level 2 _ _ (omega arith)

pub large_around_page : (page : ℕ) → region_around 1 page ≡ large_of page
large_around_page page = at_level 1 _ _ (omega arith)

pub small_around_page : (page : ℕ) → region_around 2 page ≡ small_of page
small_around_page page = at_level 2 _ _ (omega arith)

and_true : (b : Bool) → (b && true) ≡ b
and_true true = refl
and_true false = refl

-- a region is a block where it is a run, and no region around it is one
pub large_block : (mapping : Map) (page : ℕ) → is_block mapping (large_of page) ≡ is_run mapping (large_of page)
unfolding numbers
large_block mapping page = and_true (is_run mapping (large_of page))

pub small_block : (mapping : Map) (page : ℕ) → is_run mapping (large_of page) ≡ false → is_block mapping (small_of page) ≡ is_run mapping (small_of page)
unfolding numbers
small_block mapping page large =
    ap (λ (r : Region). is_run mapping (small_of page) && not (is_run mapping r || false)) (large_around_small page)
    ∙ ap (λ (b : Bool). is_run mapping (small_of page) && not (b || false)) large ∙ and_true (is_run mapping (small_of page))

page_block : (mapping : Map) (page : ℕ) → is_run mapping (large_of page) ≡ false → is_run mapping (small_of page) ≡ false → is_block mapping (page_of page) ≡ is_run mapping (page_of page)
unfolding numbers
page_block mapping page large small =
    ap (λ (r : Region). is_run mapping (page_of page) && not (is_run mapping r || (is_run mapping (region_around 2 page) || false))) (large_around_page page)
    ∙ ap (λ (r : Region). is_run mapping (page_of page) && not (is_run mapping (large_of page) || (is_run mapping r || false))) (small_around_page page)
    ∙ ap (λ (b : Bool). is_run mapping (page_of page) && not (b || (is_run mapping (small_of page) || false))) large
    ∙ ap (λ (b : Bool). is_run mapping (page_of page) && not (b || false)) small ∙ and_true (is_run mapping (page_of page))

-- a region that lies in no block has a table where some page is mapped
abbrev pub touched : Map → Region → Bool
touched mapping region = list_any (λ page. is_some (mapping page)) (pages_in region)

pub large_has : (mapping : Map) (page : ℕ) → is_block mapping (large_of page) ≡ false → has_table mapping (large_of page) ≡ touched mapping (large_of page)
unfolding numbers
large_has mapping page large =
    ap (λ (r : Region). touched mapping (large_of page) && not (is_block mapping r || false)) (large_around_large page)
    ∙ ap (λ (b : Bool). touched mapping (large_of page) && not (b || false)) large ∙ and_true (touched mapping (large_of page))

pub small_has : (mapping : Map) (page : ℕ) → is_block mapping (large_of page) ≡ false → is_block mapping (small_of page) ≡ false → has_table mapping (small_of page) ≡ touched mapping (small_of page)
unfolding numbers
small_has mapping page large small =
    ap (λ (r : Region). touched mapping (small_of page) && not (is_block mapping r || (is_block mapping (region_around 2 (small_of page).page) || false))) (large_around_small page)
    ∙ ap (λ (r : Region). touched mapping (small_of page) && not (is_block mapping (large_of page) || (is_block mapping r || false))) (small_around_small page)
    ∙ ap (λ (b : Bool). touched mapping (small_of page) && not (b || (is_block mapping (small_of page) || false))) large
    ∙ ap (λ (b : Bool). touched mapping (small_of page) && not (b || false)) small ∙ and_true (touched mapping (small_of page))

page_has : (mapping : Map) (page : ℕ) → mapping page ≡ None → has_table mapping (page_of page) ≡ false
unfolding numbers
page_has mapping page none = ap (λ (o : Option Target). (is_some o || false) && not (lies_in_block mapping (page_of page))) none

-- a page that is no run is not mapped
not_run : (mapping : Map) (page : ℕ) → is_run mapping (page_of page) ≡ false → mapping page ≡ None
not_run mapping page none = by_target (mapping page) refl
  where
    whole : (frame : ℕ) → frame % 1 ≡ 0
    whole frame = omega arith

    by_target : (o : Option Target) → mapping page ≡ o → o ≡ None
    by_target None at = refl
    by_target (Some target) at = absurd (false≢true (sym none ∙ is_run_from mapping (page_of page) target (record {
      begins = at;
      aligned = whole target.frame;
      each = λ p low high. (let same : p ≡ page = omega arith in let to : target.frame ≡ target.frame + (p - page) = omega arith in
          ap mapping same ∙ at ∙ ap (λ (f : ℕ). Some (record { frame = f; kind = target.kind })) to);
    })))

-- least tables in frames
pub record IsLeast (mapping : Map) (root : ℕ) (frames : List ℕ) : Type 0 where
  pub low : MapsLow mapping
  pub are : AreTableFrames root frames
  pub enough : length frames ≡ table_count mapping

frame_low : (mapping : Map) (root : ℕ) (frames : List ℕ) (region : Region) → IsLeast mapping root frames → IsMember region (tables_of mapping) → table_frame mapping frames region < 2 ^ 28
frame_low mapping root frames region least is =
    let at = place_found (tables_of mapping) region is in
    let within = at.1.within in
    let enough = least.enough in
    subst (λ (f : ℕ). f < 2 ^ 28) (sym (table_place mapping frames region at.0 at.1)) (least.are.low at.0 (omega arith))

part_word : (mapping : Map) (root : ℕ) (frames : List ℕ) (region part : Region) (index : ℕ) → IsLeast mapping root frames → IsMember region (tables_of mapping) → index < 512 → part_of region index ≡ part →
    word_in (least_image mapping frames) (table_frame mapping frames region) index ≡ Some (region_word mapping frames part)
part_word mapping root frames region part index least is low same =
    least_word mapping root frames region index least.are least.enough is low ∙ ap (λ (r : Region). Some (region_word mapping frames r)) same

-- from a table of level 3 on
walk_page_arrives : (mapping : Map) (root : ℕ) (frames : List ℕ) (address : ℕ) → IsLeast mapping root frames → address < 2 ^ 40 → is_run mapping (large_of (address / 2 ^ 12)) ≡ false → is_run mapping (small_of (address / 2 ^ 12)) ≡ false → IsMember (small_of (address / 2 ^ 12)) (tables_of mapping) →
    Arrives address (mapping (address / 2 ^ 12)) (walk_page (least_image mapping frames) address (table_frame mapping frames (small_of (address / 2 ^ 12))))
unfolding walk_page
walk_page_arrives mapping root frames address least high large small is = by_run (is_run mapping (page_of page)) refl
  where
    page : ℕ
    page = address / 2 ^ 12

    frame : ℕ
    frame = table_frame mapping frames (small_of page)

    step : Step
    step = follow_word (λ _. Fault 3) 3 frame address (word_in (least_image mapping frames) frame (index_at 3 address))

    at : word_in (least_image mapping frames) frame (index_at 3 address) ≡ Some (region_word mapping frames (page_of page))
    at = part_word mapping root frames (small_of page) (page_of page) (index_at 3 address) least is (omega arith) (at_level 3 _ _ (omega arith))

    mapped : (first : Target) → IsRun mapping (page_of page) first → Arrives address (mapping page) step
    mapped first run =
        let low : first.frame < 2 ^ 28 = least.low page first run.begins in
        let block : is_block mapping (page_of page) ≡ true = page_block mapping page large small ∙ is_run_from mapping (page_of page) first run in
        let word : region_word mapping frames (page_of page) ≡ leaf_word 3 first = word_block mapping frames (page_of page) block ∙ ap (leaf_word_at 3) run.begins in
        arrives address (mapping page) step (follow (λ _. Fault 3) 3 address (Leaf first.frame (attributes first.kind)))
        (at_word (λ _. Fault 3) 3 frame address (leaf_word 3 first) (Leaf first.frame (attributes first.kind)) (word_in (least_image mapping frames) frame (index_at 3 address)) (at ∙ ap Some word) (meaning-page_word first low))
        (leaf_arrives (λ _. Fault 3) 3 address mapping (page_of page) first run (omega arith) (omega arith) (omega arith))

    by_run : (b : Bool) → is_run mapping (page_of page) ≡ b → Arrives address (mapping page) step
    by_run true is = let run = is_run_tells mapping (page_of page) is in mapped run.0 run.1
    by_run false is =
        let none : mapping page ≡ None = not_run mapping page is in
        let word : region_word mapping frames (page_of page) ≡ 0 = word_none mapping frames (page_of page) (page_block mapping page large small ∙ is) (page_has mapping page none) in
        arrives address (mapping page) step (Fault 3)
        (at_word (λ _. Fault 3) 3 frame address 0 Invalid (word_in (least_image mapping frames) frame (index_at 3 address)) (at ∙ ap Some word) (meaning-none 3))
        (fault_arrives address (mapping page) 3 none)

-- from a table of level 2 on
walk_middle_arrives : (mapping : Map) (root : ℕ) (frames : List ℕ) (address : ℕ) → IsLeast mapping root frames → address < 2 ^ 40 → is_run mapping (large_of (address / 2 ^ 12)) ≡ false → IsMember (large_of (address / 2 ^ 12)) (tables_of mapping) →
    Arrives address (mapping (address / 2 ^ 12)) (walk_middle (least_image mapping frames) address (table_frame mapping frames (large_of (address / 2 ^ 12))))
unfolding walk_middle
walk_middle_arrives mapping root frames address least high large is = by_run (is_run mapping (small_of page)) refl
  where
    page : ℕ
    page = address / 2 ^ 12

    frame : ℕ
    frame = table_frame mapping frames (large_of page)

    next : ℕ → Step
    next = walk_page (least_image mapping frames) address

    step : Step
    step = follow_word next 2 frame address (word_in (least_image mapping frames) frame (index_at 2 address))

    at : word_in (least_image mapping frames) frame (index_at 2 address) ≡ Some (region_word mapping frames (small_of page))
    at = part_word mapping root frames (large_of page) (small_of page) (index_at 2 address) least is (omega arith) refl

    no_large : is_block mapping (large_of page) ≡ false
    no_large = large_block mapping page ∙ large

    mapped : (first : Target) → IsRun mapping (small_of page) first → Arrives address (mapping page) step
    mapped first run =
        let low : first.frame < 2 ^ 28 = least.low (small_of page).page first run.begins in
        let aligned = run.aligned in
        let block : is_block mapping (small_of page) ≡ true = small_block mapping page large ∙ is_run_from mapping (small_of page) first run in
        let word : region_word mapping frames (small_of page) ≡ leaf_word 2 first = word_block mapping frames (small_of page) block ∙ ap (leaf_word_at 2) run.begins in
        arrives address (mapping page) step (follow next 2 address (Leaf first.frame (attributes first.kind)))
        (at_word next 2 frame address (leaf_word 2 first) (Leaf first.frame (attributes first.kind)) (word_in (least_image mapping frames) frame (index_at 2 address)) (at ∙ ap Some word) (meaning-small first low aligned))
        (leaf_arrives next 2 address mapping (small_of page) first run (omega arith) (omega arith) (omega arith))

    by_table : is_run mapping (small_of page) ≡ false → (b : Bool) → touched mapping (small_of page) ≡ b → Arrives address (mapping page) step
    by_table small true some =
        let no_small : is_block mapping (small_of page) ≡ false = small_block mapping page large ∙ small in
        let has : has_table mapping (small_of page) ≡ true = small_has mapping page no_large no_small ∙ some in
        let member : IsMember (small_of page) (tables_of mapping) = small_member mapping (page / 2 ^ 18) (page / 2 ^ 9 % 512) (omega arith) (omega arith) has in
        let to : ℕ = table_frame mapping frames (small_of page) in
        arrives address (mapping page) step (next to)
        (at_word next 2 frame address (table_word to) (Table to) (word_in (least_image mapping frames) frame (index_at 2 address)) (at ∙ ap Some (word_table mapping frames (small_of page) no_small has)) (meaning-table_word-second to (frame_low mapping root frames (small_of page) least member)))
        (walk_page_arrives mapping root frames address least high large small member)
    by_table small false some =
        let no_small : is_block mapping (small_of page) ≡ false = small_block mapping page large ∙ small in
        let has : has_table mapping (small_of page) ≡ false = small_has mapping page no_large no_small ∙ some in
        arrives address (mapping page) step (Fault 2)
        (at_word next 2 frame address 0 Invalid (word_in (least_image mapping frames) frame (index_at 2 address)) (at ∙ ap Some (word_none mapping frames (small_of page) no_small has)) (meaning-none 2))
        (fault_arrives address (mapping page) 2 (none_mapped mapping (small_of page) page some (omega arith) (omega arith)))

    by_run : (b : Bool) → is_run mapping (small_of page) ≡ b → Arrives address (mapping page) step
    by_run true is = let run = is_run_tells mapping (small_of page) is in mapped run.0 run.1
    by_run false small = by_table small (touched mapping (small_of page)) refl

-- from the root tables on
root_region : ℕ → Region
root_region half = record { level = 0; page = half * 2 ^ 27 }

walk_root_arrives : (mapping : Map) (root : ℕ) (frames : List ℕ) (address : ℕ) (top : Region) → IsLeast mapping root frames → address < 2 ^ 40 → top ≡ record { level = 0; page = address / 2 ^ 39 * 2 ^ 27 } → IsMember top (tables_of mapping) →
    Arrives address (mapping (address / 2 ^ 12)) (walk_root (least_image mapping frames) address (table_frame mapping frames top))
unfolding walk_root
walk_root_arrives mapping root frames address top least high top_is is = by_run (is_run mapping (large_of page)) refl
  where
    page : ℕ
    page = address / 2 ^ 12

    frame : ℕ
    frame = table_frame mapping frames top

    next : ℕ → Step
    next = walk_middle (least_image mapping frames) address

    step : Step
    step = follow_word next 1 frame address (word_in (least_image mapping frames) frame (index_at 1 address))

    at : word_in (least_image mapping frames) frame (index_at 1 address) ≡ Some (region_word mapping frames (large_of page))
    at = part_word mapping root frames top (large_of page) (index_at 1 address) least is (omega arith) (ap (λ (r : Region). part_of r (index_at 1 address)) top_is ∙ at_level 1 _ _ (omega arith))

    mapped : (first : Target) → IsRun mapping (large_of page) first → Arrives address (mapping page) step
    mapped first run =
        let low : first.frame < 2 ^ 28 = least.low (large_of page).page first run.begins in
        let aligned = run.aligned in
        let block : is_block mapping (large_of page) ≡ true = large_block mapping page ∙ is_run_from mapping (large_of page) first run in
        let word : region_word mapping frames (large_of page) ≡ leaf_word 1 first = word_block mapping frames (large_of page) block ∙ ap (leaf_word_at 1) run.begins in
        arrives address (mapping page) step (follow next 1 address (Leaf first.frame (attributes first.kind)))
        (at_word next 1 frame address (leaf_word 1 first) (Leaf first.frame (attributes first.kind)) (word_in (least_image mapping frames) frame (index_at 1 address)) (at ∙ ap Some word) (meaning-large first low aligned))
        (leaf_arrives next 1 address mapping (large_of page) first run (omega arith) (omega arith) (omega arith))

    by_table : is_run mapping (large_of page) ≡ false → (b : Bool) → touched mapping (large_of page) ≡ b → Arrives address (mapping page) step
    by_table large true some =
        let no_large : is_block mapping (large_of page) ≡ false = large_block mapping page ∙ large in
        let has : has_table mapping (large_of page) ≡ true = large_has mapping page no_large ∙ some in
        let member : IsMember (large_of page) (tables_of mapping) = large_member mapping (page / 2 ^ 18) (omega arith) has in
        let to : ℕ = table_frame mapping frames (large_of page) in
        arrives address (mapping page) step (next to)
        (at_word next 1 frame address (table_word to) (Table to) (word_in (least_image mapping frames) frame (index_at 1 address)) (at ∙ ap Some (word_table mapping frames (large_of page) no_large has)) (meaning-table_word-first to (frame_low mapping root frames (large_of page) least member)))
        (walk_middle_arrives mapping root frames address least high large member)
    by_table large false some =
        let no_large : is_block mapping (large_of page) ≡ false = large_block mapping page ∙ large in
        let has : has_table mapping (large_of page) ≡ false = large_has mapping page no_large ∙ some in
        arrives address (mapping page) step (Fault 1)
        (at_word next 1 frame address 0 Invalid (word_in (least_image mapping frames) frame (index_at 1 address)) (at ∙ ap Some (word_none mapping frames (large_of page) no_large has)) (meaning-none 1))
        (fault_arrives address (mapping page) 1 (none_mapped mapping (large_of page) page some (omega arith) (omega arith)))

    by_run : (b : Bool) → is_run mapping (large_of page) ≡ b → Arrives address (mapping page) step
    by_run true is = let run = is_run_tells mapping (large_of page) is in mapped run.0 run.1
    by_run false large = by_table large (touched mapping (large_of page)) refl

-- the two root tables are in the first two frames
first_frame : (mapping : Map) (frames : List ℕ) → table_frame mapping frames (record { level = 0; page = 0 }) ≡ slice_index frames 0
first_frame mapping frames = refl

second_frame : (mapping : Map) (frames : List ℕ) → table_frame mapping frames (record { level = 0; page = 2 ^ 27 }) ≡ slice_index frames 1
second_frame mapping frames = refl

-- the whole walk
pub walk_arrives : (mapping : Map) (root : ℕ) (frames : List ℕ) (address : ℕ) → IsLeast mapping root frames → address < 2 ^ 40 → Arrives address (mapping (address / 2 ^ 12)) (walk (least_image mapping frames) root address)
unfolding walk
walk_arrives mapping root frames address least high = by_half (half address high)
  where
    half : (address : ℕ) → address < 2 ^ 40 → (address / 2 ^ 39 ≡ 0) ⊎ (address / 2 ^ 39 ≡ 1)
    half address high = grind arith

    by_half : (address / 2 ^ 39 ≡ 0) ⊎ (address / 2 ^ 39 ≡ 1) → Arrives address (mapping (address / 2 ^ 12)) (walk_root (least_image mapping frames) address (root + address / 2 ^ 39))
    by_half (inl low) =
        let frame : root + address / 2 ^ 39 ≡ slice_index frames 0 = (let first = least.are.first in omega arith) in
        arrives address (mapping (address / 2 ^ 12)) (walk_root (least_image mapping frames) address (root + address / 2 ^ 39)) (walk_root (least_image mapping frames) address (table_frame mapping frames (record { level = 0; page = 0 })))
        (ap (walk_root (least_image mapping frames) address) (frame ∙ sym (first_frame mapping frames)))
        (walk_root_arrives mapping root frames address (record { level = 0; page = 0 }) least high (at_level 0 _ _ (omega arith)) (root_member mapping))
    by_half (inr up) =
        let frame : root + address / 2 ^ 39 ≡ slice_index frames 1 = (let second = least.are.second in omega arith) in
        arrives address (mapping (address / 2 ^ 12)) (walk_root (least_image mapping frames) address (root + address / 2 ^ 39)) (walk_root (least_image mapping frames) address (table_frame mapping frames (record { level = 0; page = 2 ^ 27 })))
        (ap (walk_root (least_image mapping frames) address) (frame ∙ sym (second_frame mapping frames)))
        (walk_root_arrives mapping root frames address (record { level = 0; page = 2 ^ 27 }) least high (at_level 0 _ _ (omega arith)) (second_member mapping))

-- the law
pub least_walks : LeastWalksTheMap
least_walks mapping root frames low are enough =
    let least : IsLeast mapping root frames = record { low = low; are = are; enough = enough } in
    (λ address high. (walk_arrives mapping root frames address least high).goes, λ address high. (walk_arrives mapping root frames address least high).finds)
