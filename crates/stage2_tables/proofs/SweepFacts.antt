-- Tables, their parts, and which are begun.
use Rattle.std.proofs.Common.{◌≡◌, ℕ, zero, suc, ◌+◌, ◌-◌, ◌*◌, ◌%◌, ◌^◌, ◌<◌, ◌≤◌, ◌⊎◌, true, not, refl, sym, ap, subst, ◌∙◌, arith, inl, inr}
use Rattle.std.specs.Option.{is_some}
use Rattle.std.specs.List.{list_any}
use Rattle.std.proofs.lemmas.Bool.{false≢true}
use Rattle.std.proofs.lemmas.Option.{same_Some}
use Rattle.described.specs.Regions.{Map, Region, span, region_around, is_block, lies_in_block, pages_in}
use Rattle.described.proofs.RegionLemmas.{both_true}
use Rattle.stage2_tables.specs.Least.{part_of}
use Rattle.stage2_tables.specs.Sweeps.{IsIn, IsTable}
use Rattle.stage2_tables.proofs.Nesting.{nested}
use Rattle.stage2_tables.proofs.NumberCounts.{any-numbers-some}
use Rattle.stage2_tables.proofs.TableOrder.{IsRegular, table_regular, one_table}

-- a region of the guest, aligned
pub record IsPlain (region : Region) : Type 0 where
  pub level : region.level ≤ 3
  pub aligned : region.page % span region.level ≡ 0

-- aligned regions that share a page
pub inside : (outer inner : Region) (page : ℕ) → IsPlain outer → IsPlain inner → outer.level ≤ inner.level → IsIn page outer → IsIn page inner → (outer.page ≤ inner.page) × (inner.page + span inner.level ≤ outer.page + span outer.level)
inside outer inner page a b up x y = nested outer.level inner.level outer.page inner.page page a.level b.level a.aligned b.aligned up x.0 x.1 y.0 y.1

-- of one level they are one
pub same_level : (a b : Region) (page : ℕ) → IsPlain a → IsPlain b → a.level ≡ b.level → IsIn page a → IsIn page b → a ≡ b
same_level a b page x y same p q =
    let up : a.level ≤ b.level = omega arith in
    let down : b.level ≤ a.level = omega arith in
    let one = inside a b page x y up p q in
    let two = inside b a page y x down q p in
    let pages : a.page ≡ b.page = (let h = one.0 in let k = two.0 in omega arith) in
    ap (λ (l : ℕ). record { level = l; page = a.page }) same ∙ ap (λ (p : ℕ). record { level = b.level; page = p }) pages

-- a table stands for an aligned region of level 0 to 2, of level 0 for the first two
pub record IsTop (k : ℕ) (region : Region) : Type 0 where
  pub level : region.level ≤ 2
  pub aligned : region.page % span region.level ≡ 0
  pub low : region.page + span region.level ≤ 2 ^ 28
  pub root : (region.level ≡ 0) ⊎ (2 ≤ k)

from_regular : (k : ℕ) (region : Region) → IsRegular region → 2 ≤ k → IsTop k region
from_regular k region is high = record { level = by_level is.level; aligned = is.aligned; low = is.low; root = inr high }
  where
    by_level : (region.level ≡ 1) ⊎ (region.level ≡ 2) → region.level ≤ 2
    by_level (inl h) = omega arith
    by_level (inr h) = omega arith

pub table_top : (mapping : Map) (k : ℕ) (region : Region) → IsTable mapping k region → IsTop k region
table_top mapping zero region at = subst (IsTop 0) (same_Some (record { level = 0; page = 0 }) region at) (record { level = omega arith; aligned = omega arith; low = omega arith; root = inl refl })
table_top mapping (suc zero) region at = subst (IsTop 1) (same_Some (record { level = 0; page = 2 ^ 27 }) region at) (record { level = omega arith; aligned = omega arith; low = omega arith; root = inl refl })
table_top mapping (suc (suc k)) region at = from_regular (suc (suc k)) region (table_regular mapping (suc (suc k)) region at (omega arith)).0 (omega arith)

pub top_plain : (k : ℕ) (region : Region) → IsTop k region → IsPlain region
top_plain k region is = record { level = (let h = is.level in omega arith); aligned = is.aligned }

part_aligned : (level page index : ℕ) → level ≤ 2 → page % span level ≡ 0 → index < 512 → ((page + index * span (level + 1)) % span (level + 1) ≡ 0) × (page + index * span (level + 1) + span (level + 1) ≤ page + span level)
part_aligned zero page index low aligned within = (omega arith, omega arith)
part_aligned (suc zero) page index low aligned within = (omega arith, omega arith)
part_aligned (suc (suc zero)) page index low aligned within = (omega arith, omega arith)
part_aligned (suc (suc (suc level))) page index low aligned within = absurd (omega arith)

pub part_plain : (k : ℕ) (region : Region) (index : ℕ) → IsTop k region → index < 512 → IsPlain (part_of region index)
part_plain k region index is within = record { level = (let h = is.level in omega arith); aligned = (part_aligned region.level region.page index is.level is.aligned within).0 }

-- a page of a part is a page of the table's region
pub part_in : (k : ℕ) (region : Region) (index page : ℕ) → IsTop k region → index < 512 → IsIn page (part_of region index) → IsIn page region
part_in k region index page is within p = (let low = p.0 in omega arith, let h = (part_aligned region.level region.page index is.level is.aligned within).1 in let high = p.1 in omega arith)

-- a region whose index is known by its page
part_index : (level page i j : ℕ) → level ≤ 2 → page + i * span (level + 1) ≡ page + j * span (level + 1) → i ≡ j
part_index zero page i j low same = omega arith
part_index (suc zero) page i j low same = omega arith
part_index (suc (suc zero)) page i j low same = omega arith
part_index (suc (suc (suc level))) page i j low same = absurd (omega arith)

pub table_zero : (mapping : Map) (k : ℕ) (region : Region) → IsTable mapping k region → region.level ≡ 0 → region.page ≡ k * 2 ^ 27
table_zero mapping zero region at level = ap (λ (r : Region). r.page) (sym (same_Some (record { level = 0; page = 0 }) region at))
table_zero mapping (suc zero) region at level = ap (λ (r : Region). r.page) (sym (same_Some (record { level = 0; page = 2 ^ 27 }) region at))
table_zero mapping (suc (suc k)) region at level = absurd (by_level (table_regular mapping (suc (suc k)) region at (omega arith)).0.level)
  where
    by_level : (region.level ≡ 1) ⊎ (region.level ≡ 2) → ⊥
    by_level (inl h) = omega arith
    by_level (inr h) = omega arith

-- a region has one table
pub table_once : (mapping : Map) (j k : ℕ) (region : Region) → IsTable mapping j region → IsTable mapping k region → j ≡ k
table_once mapping j k region at there = by_root (table_top mapping j region at).root (table_top mapping k region there).root
  where
    by_root : (region.level ≡ 0) ⊎ (2 ≤ j) → (region.level ≡ 0) ⊎ (2 ≤ k) → j ≡ k
    by_root (inl h) b = let one = table_zero mapping j region at h in let two = table_zero mapping k region there h in omega arith
    by_root a (inl h) = let one = table_zero mapping j region at h in let two = table_zero mapping k region there h in omega arith
    by_root (inr low) (inr high) = one_table mapping j k region at there low high

pub span_some : (level : ℕ) → level ≤ 3 → 0 < span level
span_some zero low = omega arith
span_some (suc zero) low = omega arith
span_some (suc (suc zero)) low = omega arith
span_some (suc (suc (suc zero))) low = omega arith
span_some (suc (suc (suc (suc level)))) low = absurd (omega arith)

around_parts : (level page : ℕ) → level ≤ 3 → ((page - page % span level) % span level ≡ 0) × (page - page % span level ≤ page) × (page < page - page % span level + span level)
around_parts zero page low = (omega arith, omega arith, omega arith)
around_parts (suc zero) page low = (omega arith, omega arith, omega arith)
around_parts (suc (suc zero)) page low = (omega arith, omega arith, omega arith)
around_parts (suc (suc (suc zero))) page low = (omega arith, omega arith, omega arith)
around_parts (suc (suc (suc (suc level)))) page low = absurd (omega arith)

-- the region of a level around a page
pub around_plain : (level page : ℕ) → level ≤ 3 → IsPlain (region_around level page)
around_plain level page low = record { level = low; aligned = (around_parts level page low).0 }

pub around_in : (level page : ℕ) → level ≤ 3 → IsIn page (region_around level page)
around_in level page low = ((around_parts level page low).1, (around_parts level page low).2)

-- a region is the part of one table, at one index
pub one_part : (mapping : Map) (j k i index : ℕ) (a b : Region) → IsTable mapping j a → IsTable mapping k b → i < 512 → index < 512 → part_of a i ≡ part_of b index → (j ≡ k) × (i ≡ index)
one_part mapping j k i index a b at there low high same =
    let x = table_top mapping j a at in
    let y = table_top mapping k b there in
    let levels : a.level + 1 ≡ b.level + 1 = ap (λ (r : Region). r.level) same in
    let page : ℕ = (part_of a i).page in
    let positive = span_some (a.level + 1) (let h = x.level in omega arith) in
    let here : IsIn page (part_of a i) = (omega arith, omega arith) in
    let in_a : IsIn page a = part_in j a i page x low here in
    let in_b : IsIn page b = part_in k b index page y high (subst (IsIn page) same here) in
    let regions : a ≡ b = same_level a b page (top_plain j a x) (top_plain k b y) (omega arith) in_a in_b in
    let pages : a.page + i * span (a.level + 1) ≡ a.page + index * span (a.level + 1) = ap (λ (r : Region). r.page) (same ∙ ap (λ (r : Region). part_of r index) (sym regions)) in
    (table_once mapping j k b (subst (IsTable mapping j) regions at) there, part_index a.level a.page i index x.level pages)

-- a block that holds a table's region: there is none
pub no_block_around : (mapping : Map) (k : ℕ) (region block : Region) (page : ℕ) → IsTable mapping k region → IsPlain block → 1 ≤ block.level → block.level ≤ region.level → is_block mapping block ≡ true → IsIn page block → IsIn page region → ⊥
no_block_around mapping k region block page at plain some up is p q = by_root (table_top mapping k region at).root
  where
    around : region_around block.level region.page ≡ block
    around =
        let top = table_top mapping k region at in
        let within = inside block region page plain (top_plain k region top) up p q in
        let positive = span_some region.level (let h = top.level in omega arith) in
        same_level (region_around block.level region.page) block region.page (around_plain block.level region.page plain.level) plain refl (around_in block.level region.page plain.level) (within.0, (let h = within.1 in omega arith))

    by_root : (region.level ≡ 0) ⊎ (2 ≤ k) → ⊥
    by_root (inl h) = omega arith
    by_root (inr high) =
        let has = (table_regular mapping k region at high).1 in
        let parts = both_true (list_any (λ p. is_some (mapping p)) (pages_in region)) (not (lies_in_block mapping region)) has in
        let lies : lies_in_block mapping region ≡ true = any-numbers-some (λ level. is_block mapping (region_around level region.page)) 1 region.level block.level some (omega arith) (ap (is_block mapping) around ∙ is) in
        false≢true (ap not (sym lies) ∙ parts.1)
