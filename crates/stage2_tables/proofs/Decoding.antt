-- What the words of the tables mean.
use Rattle.std.proofs.Common.{◌≡◌, ℕ, ◌+◌, ◌*◌, ◌/◌, ◌^◌, ◌<◌, ap, ◌∙◌, arith}
use Rattle.described.specs.Maps.{Target, attributes}
use Rattle.described.specs.declared.map_range.Kind.{Kind}
use Rattle.described.specs.declared.map_range.Kind.TheVariants.{Ram, Device, Shared}
use Rattle.stage2_walk.specs.Descriptors.{bits, frame_field, attribute_field, meaning}
use Rattle.stage2_walk.specs.declared.descriptor.Meaning.TheVariants.{Table, Leaf}
use Rattle.stage2_tables.specs.Words.{table_word}
use Rattle.stage2_tables.specs.Least.{leaf_word}

from_fields-page : (word frame attr : ℕ) → bits word 0 1 ≡ 1 → bits word 1 1 ≡ 1 → frame_field word ≡ frame → attribute_field word ≡ attr → meaning 3 word ≡ Leaf frame attr
unfolding meaning
from_fields-page word frame attr valid table at attrs =
    let whole : frame_field word / 1 * 1 ≡ frame = omega arith in
    rw (valid, table) (ap (λ (f : ℕ). Leaf f (attribute_field word)) whole ∙ ap (λ (a : ℕ). Leaf frame a) attrs)

page_fields : (frame : ℕ) (kind : Kind) → frame < 2 ^ 28 → let word : ℕ = frame * 2 ^ 12 + attributes kind + 3 in (bits word 0 1 ≡ 1) × (bits word 1 1 ≡ 1) × (frame_field word ≡ frame) × (attribute_field word ≡ attributes kind)
page_fields frame Ram low = (omega arith, omega arith, omega arith, omega arith)
page_fields frame Device low = (omega arith, omega arith, omega arith, omega arith)
page_fields frame Shared low = (omega arith, omega arith, omega arith, omega arith)

-- a page word means its frame with the attributes of its kind
pub meaning-page_word : (target : Target) → target.frame < 2 ^ 28 → meaning 3 (leaf_word 3 target) ≡ Leaf target.frame (attributes target.kind)
meaning-page_word target low =
    let f = page_fields target.frame target.kind low in
    from_fields-page (target.frame * 2 ^ 12 + attributes target.kind + 3) target.frame (attributes target.kind) f.0 f.1 f.2 f.3

table_fields : (frame : ℕ) → frame < 2 ^ 28 → let word : ℕ = frame * 2 ^ 12 + 3 in (bits word 0 1 ≡ 1) × (bits word 1 1 ≡ 1) × (frame_field word ≡ frame)
table_fields frame low = (omega arith, omega arith, omega arith)

-- a table word means its frame
pub meaning-table_word-first : (frame : ℕ) → frame < 2 ^ 28 → meaning 1 (table_word frame) ≡ Table frame
unfolding meaning
meaning-table_word-first frame low = let f = table_fields frame low in rw (f.0, f.1) (ap (λ (g : ℕ). Table g) f.2)

pub meaning-table_word-second : (frame : ℕ) → frame < 2 ^ 28 → meaning 2 (table_word frame) ≡ Table frame
unfolding meaning
meaning-table_word-second frame low = let f = table_fields frame low in rw (f.0, f.1) (ap (λ (g : ℕ). Table g) f.2)
