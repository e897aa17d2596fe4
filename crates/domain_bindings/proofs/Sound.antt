-- What is known of an item that has no reason of its own.
use Rattle.std.proofs.Common.{◌≡◌, ◌∙◌, sym, refl, ℕ, suc, ◌+◌, ◌/◌, ◌%◌, ◌^◌, ◌<◌, ◌≤◌, ◌==◌, ◌≢◌, ◌⊎◌, inl, inr, nat_lt, nat_le, Bool, true, false, not, ◌||◌, List, [], ◌∷◌, length, Some, None, arith}
use Rattle.std.specs.Prelude.{Option, unwrap_or, if◌then◌else◌}
use Rattle.std.proofs.lemmas.Bool.Decides.{leb_tells, eqb_tells}
use Rattle.described.specs.declared.item.Item.{Item}
use Rattle.described.specs.declared.item.What.{What}
use Rattle.texts.specs.declared.ranges.BaseSize.{BaseSize}
use Rattle.described.specs.declared.why.Why.{Why}
use Rattle.fdt_nodes.specs.Nodes.{Node}
use Rattle.described.specs.Reasons.{where_so, first_reason, described}
use Rattle.described.specs.Sound.{AreWholePages}
use Rattle.domain_bindings.specs.Reasons.{is_number, is_not_pages, is_too_high}
use Rattle.domain_bindings.specs.Heads.{head_reasons, head_reason, is_static, is_too_large, memory_of, cpus_of, heap_pages}
use Rattle.domain_bindings.specs.Statics.{static_reasons, static_reason, list_reasons, list_reason, statics_of, are_too_many, are_too_large, bytes_in}

-- what was described is told where there is no reason
pub own-described : (item : Item) (own : Option Why) (what : What) → (described item own what).own ≡ own
own-described item None what = refl
own-described item (Some why) what = refl

pub what-described : (item : Item) (own : Option Why) (what : What) → own ≡ None → (described item own what).what ≡ what
what-described item None what none = refl
what-described item (Some why) what none = absurd (cc)

-- no reason applies
abbrev pub AreNone : List (Option Why) → Type 0
AreNone [] = Unit {0}
AreNone (reason ∷ reasons) = (reason ≡ None) × AreNone reasons

-- where none is the first that applies, none applies
pub all_none : (reasons : List (Option Why)) → first_reason reasons ≡ None → AreNone reasons
all_none [] none = tt
all_none (Some why ∷ reasons) none = absurd (cc)
all_none (None ∷ reasons) none = (refl, all_none reasons none)

-- a reason that does not apply: its test fails
pub fails : (test : Bool) (why : Why) → where_so test why ≡ None → test ≡ false
fails true why none = absurd (cc)
fails false why none = refl

or_false : (a b : Bool) → (a || b) ≡ false → (a ≡ false) × (b ≡ false)
or_false true b is = absurd (cc)
or_false false b is = (refl, is)

not_false : (a : Bool) → not a ≡ false → a ≡ true
not_false true is = refl
not_false false is = absurd (cc)

equal : (a b : ℕ) → (a == b) ≡ true → a ≡ b
equal a b is = by_test (eqb_tells a b)
  where
    by_test : (((a == b) ≡ true) × (a ≡ b)) ⊎ (((a == b) ≡ false) × (a ≢ b)) → a ≡ b
    by_test (inl h) = h.1
    by_test (inr h) = absurd (clash (sym is ∙ h.0))
      where
        clash : true ≡ false → ⊥
        clash e = cc

not_zero : (a : ℕ) → (a == 0) ≡ false → 0 < a
not_zero a is = by_test (eqb_tells a 0)
  where
    by_test : (((a == 0) ≡ true) × (a ≡ 0)) ⊎ (((a == 0) ≡ false) × (a ≢ 0)) → 0 < a
    by_test (inl h) = absurd (clash (sym is ∙ h.0))
      where
        clash : false ≡ true → ⊥
        clash e = cc
    by_test (inr h) = let apart : a ≢ 0 = h.1 in omega arith

at_most : (limit a : ℕ) → nat_lt limit a ≡ false → a ≤ limit
at_most limit a is = by_test (leb_tells (suc limit) a)
  where
    by_test : ((nat_le (suc limit) a ≡ true) × (suc limit ≤ a)) ⊎ ((nat_le (suc limit) a ≡ false) × (a < suc limit)) → a ≤ limit
    by_test (inl h) = absurd (clash (sym is ∙ h.0))
      where
        clash : false ≡ true → ⊥
        clash e = cc
    by_test (inr h) = let less : a < suc limit = h.1 in omega arith

-- a static range without a reason is whole pages, at least one, and ends at or below 2^40
pub static-sound : (range : BaseSize) → static_reason range ≡ None → AreWholePages range.base range.size
static-sound range none =
    let rows = all_none (static_reasons range) none in
    let pages = fails (is_not_pages range) _ rows.0 in
    let high = fails (is_too_high range) _ rows.1.0 in
    record {
      base_whole = equal (range.base % 4096) 0 (not_false (range.base % 4096 == 0) (parts pages).0);
      size_whole = equal (range.size % 4096) 0 (not_false (range.size % 4096 == 0) (parts pages).1);
      some = not_zero range.size (parts pages).2;
      low = at_most (2 ^ 40) (range.base + range.size) high;
    }
  where
    three : (a b c : Bool) → (a || b || c) ≡ false → (a ≡ false) × (b ≡ false) × (c ≡ false)
    three true b c is = absurd (cc)
    three false true c is = absurd (cc)
    three false false true is = absurd (cc)
    three false false false is = (refl, refl, refl)

    parts : is_not_pages range ≡ false → (not (range.base % 4096 == 0) ≡ false) × (not (range.size % 4096 == 0) ≡ false) × ((range.size == 0) ≡ false)
    parts is = three (not (range.base % 4096 == 0)) (not (range.size % 4096 == 0)) (range.size == 0) is

-- a list of static ranges without a reason has at least one and at most 64, and at most 16 GiB
pub list-sound : (node : Node) → list_reason node ≡ None → (0 < length (statics_of node)) × (length (statics_of node) ≤ 64) × (bytes_in (statics_of node) ≤ 2 ^ 34)
list-sound node none =
    let rows = all_none (list_reasons node) none in (
      not_zero (length (statics_of node)) (fails (length (statics_of node) == 0) _ rows.1.0),
      at_most 64 (length (statics_of node)) (fails (are_too_many node) _ rows.1.1.0),
      at_most (2 ^ 34) (bytes_in (statics_of node)) (fails (are_too_large node) _ rows.1.1.1.0),
    )

-- a head without a reason asks for at most 16 GiB in pages
pub head-sound : (number : ℕ) (node : Node) → head_reason number node ≡ None → heap_pages node ≤ 2 ^ 22
head-sound number node none =
    let rows = all_none (head_reasons number node) none in
    let large = fails (is_too_large node) _ rows.1.1.1.1.0 in
    let memory = or_false (is_number (λ cpus. nat_lt 128 cpus) (cpus_of node)) (is_number (λ m. nat_lt 16777216 m) (memory_of node)) large in
    pages (is_static node) (memory_of node) memory.1
  where
    pages : (static : Bool) (memory : Option ℕ) → is_number (λ m. nat_lt 16777216 m) memory ≡ false → (if static then 0 else unwrap_or memory 0 / 4) ≤ 2 ^ 22
    pages true memory fine = omega arith
    pages false None fine = omega arith
    pages false (Some m) fine = let low : m ≤ 16777216 = at_most 16777216 m fine in omega arith
