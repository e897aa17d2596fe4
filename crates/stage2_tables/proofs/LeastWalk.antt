-- The walk of an address through the least tables of a map.
use Rattle.std.proofs.Common.{◌≡◌, ℕ, ◌+◌, ◌-◌, ◌*◌, ◌/◌, ◌%◌, ◌^◌, ◌<◌, ◌≤◌, Bool, true, false, cond, List, Option, Some, None, refl, sym, ap, subst, ◌∙◌, arith}
use Rattle.std.specs.Option.{is_some}
use Rattle.std.specs.List.{list_any}
use Rattle.std.proofs.lemmas.Bool.{false≢true}
use Rattle.described.specs.Maps.{Target, attributes}
use Rattle.described.specs.Regions.{Map, Region, span, pages_in, is_block, has_table}
use Rattle.described.specs.declared.map_range.Kind.{Kind}
use Rattle.described.specs.declared.map_range.Kind.TheVariants.{Ram, Device, Shared}
use Rattle.described.proofs.RegionLemmas.{IsRun}
use Rattle.stage2_walk.specs.Descriptors.{bits, frame_field, attribute_field, meaning}
use Rattle.stage2_walk.specs.Walks.{follow, follow_word, reached}
use Rattle.stage2_walk.specs.declared.descriptor.Meaning.{Meaning}
use Rattle.stage2_walk.specs.declared.descriptor.Meaning.TheVariants.{Invalid, Leaf}
use Rattle.stage2_walk.specs.declared.walk.Step.{Step}
use Rattle.stage2_walk.specs.declared.walk.Step.TheVariants.{Fault}
use Rattle.stage2_tables.specs.Words.{table_word}
use Rattle.stage2_tables.specs.Translation.{translated, FindsTables}
use Rattle.stage2_tables.specs.Least.{leaf_word, leaf_word_at, region_word, table_frame}
use Rattle.stage2_tables.proofs.NumberCounts.{any-numbers-some}

-- a walk that goes where the map says, and finds its tables
pub record Arrives (address : ℕ) (target : Option Target) (step : Step) : Type 0 where
  pub goes : reached step ≡ translated address target
  pub finds : FindsTables step

-- a block word
block_fields : (frame : ℕ) (kind : Kind) → frame < 2 ^ 28 → let word : ℕ = frame * 2 ^ 12 + attributes kind + 1 in (bits word 0 1 ≡ 1) × (bits word 1 1 ≡ 0) × (frame_field word ≡ frame) × (attribute_field word ≡ attributes kind)
block_fields frame Ram low = (omega arith, omega arith, omega arith, omega arith)
block_fields frame Device low = (omega arith, omega arith, omega arith, omega arith)
block_fields frame Shared low = (omega arith, omega arith, omega arith, omega arith)

from_fields-large : (word frame attr : ℕ) → frame % 2 ^ 18 ≡ 0 → bits word 0 1 ≡ 1 → bits word 1 1 ≡ 0 → frame_field word ≡ frame → attribute_field word ≡ attr → meaning 1 word ≡ Leaf frame attr
unfolding meaning
from_fields-large word frame attr aligned valid block at attrs =
    let whole : frame_field word / 2 ^ 18 * 2 ^ 18 ≡ frame = omega arith in
    rw (valid, block) (ap (λ (f : ℕ). Leaf f (attribute_field word)) whole ∙ ap (λ (a : ℕ). Leaf frame a) attrs)

from_fields-small : (word frame attr : ℕ) → frame % 2 ^ 9 ≡ 0 → bits word 0 1 ≡ 1 → bits word 1 1 ≡ 0 → frame_field word ≡ frame → attribute_field word ≡ attr → meaning 2 word ≡ Leaf frame attr
unfolding meaning
from_fields-small word frame attr aligned valid block at attrs =
    let whole : frame_field word / 2 ^ 9 * 2 ^ 9 ≡ frame = omega arith in
    rw (valid, block) (ap (λ (f : ℕ). Leaf f (attribute_field word)) whole ∙ ap (λ (a : ℕ). Leaf frame a) attrs)

pub meaning-large : (target : Target) → target.frame < 2 ^ 28 → target.frame % 2 ^ 18 ≡ 0 → meaning 1 (leaf_word 1 target) ≡ Leaf target.frame (attributes target.kind)
meaning-large target low aligned =
    let f = block_fields target.frame target.kind low in
    from_fields-large (target.frame * 2 ^ 12 + attributes target.kind + 1) target.frame (attributes target.kind) aligned f.0 f.1 f.2 f.3

pub meaning-small : (target : Target) → target.frame < 2 ^ 28 → target.frame % 2 ^ 9 ≡ 0 → meaning 2 (leaf_word 2 target) ≡ Leaf target.frame (attributes target.kind)
meaning-small target low aligned =
    let f = block_fields target.frame target.kind low in
    from_fields-small (target.frame * 2 ^ 12 + attributes target.kind + 1) target.frame (attributes target.kind) aligned f.0 f.1 f.2 f.3

pub meaning-none : (level : ℕ) → meaning level 0 ≡ Invalid
unfolding meaning
meaning-none level = refl

-- the word of a region, by case
pub word_block : (mapping : Map) (frames : List ℕ) (region : Region) → is_block mapping region ≡ true → region_word mapping frames region ≡ leaf_word_at region.level (mapping region.page)
unfolding region_word
word_block mapping frames region block = ap (λ (b : Bool). cond b (leaf_word_at region.level (mapping region.page)) (cond (has_table mapping region) (table_word (table_frame mapping frames region)) 0)) block

pub word_table : (mapping : Map) (frames : List ℕ) (region : Region) → is_block mapping region ≡ false → has_table mapping region ≡ true → region_word mapping frames region ≡ table_word (table_frame mapping frames region)
unfolding region_word
word_table mapping frames region block has =
    ap (λ (b : Bool). cond b (leaf_word_at region.level (mapping region.page)) (cond (has_table mapping region) (table_word (table_frame mapping frames region)) 0)) block
    ∙ ap (λ (b : Bool). cond b (table_word (table_frame mapping frames region)) 0) has

pub word_none : (mapping : Map) (frames : List ℕ) (region : Region) → is_block mapping region ≡ false → has_table mapping region ≡ false → region_word mapping frames region ≡ 0
unfolding region_word
word_none mapping frames region block has =
    ap (λ (b : Bool). cond b (leaf_word_at region.level (mapping region.page)) (cond (has_table mapping region) (table_word (table_frame mapping frames region)) 0)) block
    ∙ ap (λ (b : Bool). cond b (table_word (table_frame mapping frames region)) 0) has

-- a step from a word
pub at_word : (next : ℕ → Step) (level frame address word : ℕ) (m : Meaning) (found : Option ℕ) → found ≡ Some word → meaning level word ≡ m → follow_word next level frame address found ≡ follow next level address m
at_word next level frame address word m found is means = ap (follow_word next level frame address) is ∙ ap (follow next level address) means

-- a leaf that goes where the map says
pub leaf_arrives : (next : ℕ → Step) (level address : ℕ) (mapping : Map) (region : Region) (first : Target) → IsRun mapping region first → region.page ≤ address / 2 ^ 12 → address / 2 ^ 12 < region.page + span region.level →
    first.frame * 2 ^ 12 + address % (span level * 2 ^ 12) ≡ (first.frame + (address / 2 ^ 12 - region.page)) * 2 ^ 12 + address % 2 ^ 12 →
    Arrives address (mapping (address / 2 ^ 12)) (follow next level address (Leaf first.frame (attributes first.kind)))
leaf_arrives next level address mapping region first run low high offset = record {
  goes = sym (ap (translated address) (run.each (address / 2 ^ 12) low high) ∙ ap (λ (a : ℕ). Some (a, attributes first.kind)) (sym offset));
  finds = tt;
}

pub arrives : (address : ℕ) (target : Option Target) (a b : Step) → a ≡ b → Arrives address target b → Arrives address target a
arrives address target a b same is = subst (Arrives address target) (sym same) is

-- no page of a region is mapped
pub none_mapped : (mapping : Map) (region : Region) (page : ℕ) → list_any (λ p. is_some (mapping p)) (pages_in region) ≡ false → region.page ≤ page → page < region.page + span region.level → mapping page ≡ None
none_mapped mapping region page none low high = by_target (mapping page) refl
  where
    by_target : (o : Option Target) → mapping page ≡ o → o ≡ None
    by_target None at = refl
    by_target (Some target) at = absurd (false≢true (sym none ∙ any-numbers-some (λ p. is_some (mapping p)) region.page (span region.level) page low high (ap is_some at)))

pub fault_arrives : (address : ℕ) (target : Option Target) (level : ℕ) → target ≡ None → Arrives address target (Fault level)
fault_arrives address target level none = record { goes = sym (ap (translated address) none); finds = tt }
