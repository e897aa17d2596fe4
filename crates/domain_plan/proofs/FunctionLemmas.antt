-- That the ranges of a guest map no page twice.
use Rattle.std.proofs.Common.{◌≡◌, ℕ, zero, suc, ◌+◌, ◌-◌, ◌<◌, ◌≤◌, ◌⊎◌, ◌||◌, min, Bool, true, false, cond, List, [], ◌∷◌, ◌++◌, Option, Some, None, refl, sym, ap, ◌∙◌, arith, inl, inr}
use Rattle.std.specs.Prelude.{slice_get, flat_map}
use Rattle.std.proofs.lemmas.Option.{same_Some, none-some}
use Rattle.described.specs.Maps.{Target, target_of, holds_page}
use Rattle.texts.specs.declared.ranges.FrameRange.{FrameRange}
use Rattle.described.specs.declared.map_range.MapRange.{MapRange}
use Rattle.described.specs.declared.map_range.Kind.{Kind}
use Rattle.described.specs.declared.map_range.Kind.TheVariants.{Ram}
use Rattle.frame_alloc.specs.Frames.{is_within}
use Rattle.frame_alloc.proofs.Without.{is_within-in}
use Rattle.frame_alloc.specs.Ranges.{holds}
use Rattle.item_checks.specs.Taken.{Passed, belongs_to, bank_pages, bank_size}
use Rattle.domain_plan.specs.GuestMaps.{onto, laid, maps_of}
use Rattle.domain_plan.specs.Apart.{IsMappedBy, IsFunction}
pub use Rattle.domain_plan.specs.PrivateLaying.{AreApart}
use Rattle.frame_alloc.proofs.CommonFrames.{not_both, or_tells, or_left, or_right, within_bounds, within_tells}
use Rattle.domain_plan.proofs.MapLemmas.{target_of-append, either_target, total, onto_tells, item_ranges, items_tell}

one_target : (range : MapRange) (page : ℕ) (target : Target) → IsMappedBy range page target → (holds_page range page ≡ true) × (record { frame = range.first + (page - range.page); kind = range.kind } ≡ target)
one_target range page target is = by_test (holds_page range page) refl is
  where
    hit : Target
    hit = record { frame = range.first + (page - range.page); kind = range.kind }

    by_test : (b : Bool) → holds_page range page ≡ b → cond b (Some hit) None ≡ Some target → (holds_page range page ≡ true) × (hit ≡ target)
    by_test true h e = (h, same_Some hit target e)
    by_test false h e = absurd (none-some _ e)

-- ranges that are apart are a function
pub apart_function : (ranges : List MapRange) → AreApart ranges → IsFunction ranges
apart_function [] apart index page range target at is = absurd (none-some _ at)
apart_function (first ∷ rest) apart zero page range target at is =
    let same : first ≡ range = same_Some first range at in
    let found = one_target range page target is in
    let here : holds_page first page ≡ true = ap (λ (one : MapRange). holds_page one page) same ∙ found.0 in
    rw here (ap Some (ap (λ (one : MapRange). record { frame = one.first + (page - one.page); kind = one.kind }) same ∙ found.1))
apart_function (first ∷ rest) apart (suc index) page range target at is =
    by_test (holds_page first page) refl (apart_function rest apart.1 index page range target at is)
  where
    by_test : (b : Bool) → holds_page first page ≡ b → target_of rest page ≡ Some target → cond b (Some (record { frame = first.first + (page - first.page); kind = first.kind })) (target_of rest page) ≡ Some target
    by_test true h later = absurd (none-some _ (sym (apart.0 page h) ∙ later))
    by_test false h later = later

-- two lists that are apart, and from each other
pub apart_append : (xs ys : List MapRange) → AreApart xs → AreApart ys → ((page : ℕ) (one other : Target) → target_of xs page ≡ Some one → target_of ys page ≡ Some other → ⊥) → AreApart (xs ++ ys)
apart_append [] ys one other cross = other
apart_append (x ∷ xs) ys one other cross = (first, apart_append xs ys one.1 other later)
  where
    hit : ℕ → Target
    hit page = record { frame = x.first + (page - x.page); kind = x.kind }

    none : (page : ℕ) → target_of (x ∷ xs) page ≡ Some (hit page) → (o : Option Target) → target_of ys page ≡ o → o ≡ None
    none page here None e = refl
    none page here (Some t) e = absurd (cross page (hit page) t here e)

    first : (page : ℕ) → holds_page x page ≡ true → target_of (xs ++ ys) page ≡ None
    first page h = target_of-append xs ys page ∙ rw (one.0 page h, none page (ap (λ (b : Bool). cond b (Some (hit page)) (target_of xs page)) h) (target_of ys page) refl) refl

    later : (page : ℕ) (a b : Target) → target_of xs page ≡ Some a → target_of ys page ≡ Some b → ⊥
    later page a b e f = by_test (holds_page x page) refl
      where
        by_test : (c : Bool) → holds_page x page ≡ c → ⊥
        by_test true h = none-some _ (sym (one.0 page h) ∙ e)
        by_test false h = cross page a b (ap (λ (c : Bool). cond c (Some (hit page)) (target_of xs page)) h ∙ e) f

-- pages that are listed once
abbrev pub ArePagesApart : List FrameRange → Type 0
ArePagesApart [] = Unit {0}
ArePagesApart (range ∷ ranges) = ((page : ℕ) → is_within range.first range.count page ≡ true → holds ranges page ≡ false) × ArePagesApart ranges

pub apart_onto : (kind : Kind) (frame : ℕ) (pages : List FrameRange) → ArePagesApart pages → AreApart (onto kind frame pages)
apart_onto kind frame [] apart = tt
apart_onto kind frame (range ∷ more) apart = (first, apart_onto kind (frame + range.count) more apart.1)
  where
    first : (page : ℕ) → is_within range.first range.count page ≡ true → target_of (onto kind (frame + range.count) more) page ≡ None
    first page h = by_target (target_of (onto kind (frame + range.count) more) page) refl
      where
        by_target : (o : Option Target) → target_of (onto kind (frame + range.count) more) page ≡ o → target_of (onto kind (frame + range.count) more) page ≡ None
        by_target None e = e
        by_target (Some t) e = absurd (not_both _ (onto_tells kind (frame + range.count) more page t e).held (apart.0 page h))

pub one_page_range : (range : FrameRange) → ArePagesApart (range ∷ [])
one_page_range range = (λ page h. refl, tt)

-- in which bank a page is, and where in it
pub banks_tell : (k count page : ℕ) → holds (bank_pages k count) page ≡ true → ((0x40000 + k ≤ page) × (page < 0x40000 + k + min count (bank_size - k))) ⊎ ((0x200000 + (k + min count (bank_size - k) - bank_size) ≤ page) × (page < 0x200000 + (k + min count (bank_size - k) - bank_size) + (count - min count (bank_size - k))))
banks_tell k count page h = by_bank (or_tells (is_within (0x40000 + k) (min count (bank_size - k)) page) _ h)
  where
    by_bank : (is_within (0x40000 + k) (min count (bank_size - k)) page ≡ true) ⊎ ((is_within (0x200000 + (k + min count (bank_size - k) - bank_size)) (count - min count (bank_size - k)) page || false) ≡ true) →
        ((0x40000 + k ≤ page) × (page < 0x40000 + k + min count (bank_size - k))) ⊎ ((0x200000 + (k + min count (bank_size - k) - bank_size) ≤ page) × (page < 0x200000 + (k + min count (bank_size - k) - bank_size) + (count - min count (bank_size - k))))
    by_bank (inl low) = inl (within_bounds _ _ page low)
    by_bank (inr high) = by_last (or_tells (is_within (0x200000 + (k + min count (bank_size - k) - bank_size)) (count - min count (bank_size - k)) page) false high)
      where
        by_last : (is_within (0x200000 + (k + min count (bank_size - k) - bank_size)) (count - min count (bank_size - k)) page ≡ true) ⊎ (false ≡ true) →
            ((0x40000 + k ≤ page) × (page < 0x40000 + k + min count (bank_size - k))) ⊎ ((0x200000 + (k + min count (bank_size - k) - bank_size) ≤ page) × (page < 0x200000 + (k + min count (bank_size - k) - bank_size) + (count - min count (bank_size - k))))
        by_last (inl it) = inr (within_bounds _ _ page it)
        by_last (inr no_one) = absurd cc

pub banks_low : (k count page : ℕ) → 0x40000 + k ≤ page → page < 0x40000 + k + min count (bank_size - k) → holds (bank_pages k count) page ≡ true
banks_low k count page low high = or_left _ _ (is_within-in (0x40000 + k) (min count (bank_size - k)) page low high)

pub banks_high : (k count page : ℕ) → 0x200000 + (k + min count (bank_size - k) - bank_size) ≤ page → page < 0x200000 + (k + min count (bank_size - k) - bank_size) + (count - min count (bank_size - k)) → holds (bank_pages k count) page ≡ true
banks_high k count page low high = or_right (is_within (0x40000 + k) (min count (bank_size - k)) page) _ (or_left _ _ (is_within-in (0x200000 + (k + min count (bank_size - k) - bank_size)) (count - min count (bank_size - k)) page low high))

-- the pages from the k-th on are apart from those further on
pub banks_apart : (k count later more page : ℕ) → k + count ≤ later → holds (bank_pages k count) page ≡ true → holds (bank_pages later more) page ≡ true → ⊥
banks_apart k count later more page past one other = by_banks (banks_tell k count page one) (banks_tell later more page other)
  where
    by_banks : ((0x40000 + k ≤ page) × (page < 0x40000 + k + min count (bank_size - k))) ⊎ ((0x200000 + (k + min count (bank_size - k) - bank_size) ≤ page) × (page < 0x200000 + (k + min count (bank_size - k) - bank_size) + (count - min count (bank_size - k)))) →
        ((0x40000 + later ≤ page) × (page < 0x40000 + later + min more (bank_size - later))) ⊎ ((0x200000 + (later + min more (bank_size - later) - bank_size) ≤ page) × (page < 0x200000 + (later + min more (bank_size - later) - bank_size) + (more - min more (bank_size - later)))) → ⊥
    by_banks (inl a) (inl b) = omega (arith, a.0, a.1, b.0, b.1)
    by_banks (inl a) (inr b) = omega (arith, a.0, a.1, b.0, b.1)
    by_banks (inr a) (inl b) = omega (arith, a.0, a.1, b.0, b.1)
    by_banks (inr a) (inr b) = omega (arith, a.0, a.1, b.0, b.1)

-- and lie among more pages from an earlier one on
pub banks_within : (k count inner less page : ℕ) → k ≤ inner → inner + less ≤ k + count → holds (bank_pages inner less) page ≡ true → holds (bank_pages k count) page ≡ true
banks_within k count inner less page low high h = by_bank (banks_tell inner less page h)
  where
    by_bank : ((0x40000 + inner ≤ page) × (page < 0x40000 + inner + min less (bank_size - inner))) ⊎ ((0x200000 + (inner + min less (bank_size - inner) - bank_size) ≤ page) × (page < 0x200000 + (inner + min less (bank_size - inner) - bank_size) + (less - min less (bank_size - inner)))) → holds (bank_pages k count) page ≡ true
    by_bank (inl a) = banks_low k count page (omega (arith, a.0)) (omega (arith, a.1))
    by_bank (inr a) = banks_high k count page (omega (arith, a.0, a.1)) (omega (arith, a.0, a.1))

-- both banks are apart
pub apart_banks : (k count : ℕ) → ArePagesApart (bank_pages k count)
apart_banks k count = (first, one_page_range (record { first = 0x200000 + (k + min count (bank_size - k) - bank_size); count = count - min count (bank_size - k) }))
  where
    first : (page : ℕ) → is_within (0x40000 + k) (min count (bank_size - k)) page ≡ true → (is_within (0x200000 + (k + min count (bank_size - k) - bank_size)) (count - min count (bank_size - k)) page || false) ≡ false
    first page h = by_test (within_tells (0x200000 + (k + min count (bank_size - k) - bank_size)) (count - min count (bank_size - k)) page)
      where
        by_test : ((is_within (0x200000 + (k + min count (bank_size - k) - bank_size)) (count - min count (bank_size - k)) page ≡ true) × (0x200000 + (k + min count (bank_size - k) - bank_size) ≤ page) × (page < 0x200000 + (k + min count (bank_size - k) - bank_size) + (count - min count (bank_size - k)))) ⊎
            ((is_within (0x200000 + (k + min count (bank_size - k) - bank_size)) (count - min count (bank_size - k)) page ≡ false) × ((page < 0x200000 + (k + min count (bank_size - k) - bank_size)) ⊎ (0x200000 + (k + min count (bank_size - k) - bank_size) + (count - min count (bank_size - k)) ≤ page)))
            → (is_within (0x200000 + (k + min count (bank_size - k) - bank_size)) (count - min count (bank_size - k)) page || false) ≡ false
        by_test (inl t) = absurd (let b = within_bounds (0x40000 + k) (min count (bank_size - k)) page h in omega (arith, b.0, b.1, t.1))
        by_test (inr t) = rw t.0 refl

-- what was drawn fills the pages in their order
pub laid_pages : (k : ℕ) (drawn : List FrameRange) (page : ℕ) (target : Target) → target_of (laid k drawn) page ≡ Some target → holds (bank_pages k (total drawn)) page ≡ true
laid_pages k [] page target is = absurd (none-some _ is)
laid_pages k (range ∷ more) page target is =
    by_part (either_target (target_of (onto Ram range.first (bank_pages k range.count)) page) (target_of (laid (k + range.count) more) page) target
    (sym (target_of-append (onto Ram range.first (bank_pages k range.count)) (laid (k + range.count) more) page) ∙ is)) (λ e. laid_pages (k + range.count) more page target e)
  where
    by_part : (target_of (onto Ram range.first (bank_pages k range.count)) page ≡ Some target) ⊎ (target_of (laid (k + range.count) more) page ≡ Some target)
        → (target_of (laid (k + range.count) more) page ≡ Some target → holds (bank_pages (k + range.count) (total more)) page ≡ true) → holds (bank_pages k (range.count + total more)) page ≡ true
    by_part (inl here) later = banks_within k (range.count + total more) k range.count page (omega arith) (omega arith) (onto_tells Ram range.first (bank_pages k range.count) page target here).held
    by_part (inr e) later = banks_within k (range.count + total more) (k + range.count) (total more) page (omega arith) (omega arith) (later e)

pub apart_laid : (k : ℕ) (drawn : List FrameRange) → AreApart (laid k drawn)
apart_laid k [] = tt
apart_laid k (range ∷ more) =
    apart_append (onto Ram range.first (bank_pages k range.count)) (laid (k + range.count) more) (apart_onto Ram range.first (bank_pages k range.count) (apart_banks k range.count)) (apart_laid (k + range.count) more) cross
  where
    cross : (page : ℕ) (one other : Target) → target_of (onto Ram range.first (bank_pages k range.count)) page ≡ Some one → target_of (laid (k + range.count) more) page ≡ Some other → ⊥
    cross page one other e f =
        banks_apart k range.count (k + range.count) (total more) page (omega arith) (onto_tells Ram range.first (bank_pages k range.count) page one e).held (laid_pages (k + range.count) more page other f)

-- no two items of the guest map one page
abbrev pub AreItemsApart : ℕ → List Passed → Type 0
AreItemsApart number passed = (j k page : ℕ) (one other : Target) (p q : Passed) → j < k → slice_get passed j ≡ Some p → slice_get passed k ≡ Some q →
    belongs_to (Some number) p ≡ true → belongs_to (Some number) q ≡ true → target_of (maps_of p) page ≡ Some one → target_of (maps_of q) page ≡ Some other → ⊥

pub apart_items : (number : ℕ) (passed : List Passed) → ((k : ℕ) (p : Passed) → slice_get passed k ≡ Some p → AreApart (maps_of p)) → AreItemsApart number passed → AreApart (flat_map (item_ranges number) passed)
apart_items number [] each apart = tt
apart_items number (p ∷ ps) each apart =
    apart_append (item_ranges number p) (flat_map (item_ranges number) ps) (by_belongs (belongs_to (Some number) p))
    (apart_items number ps (λ k q at. each (suc k) q at) (λ j k page one other x y low. apart (suc j) (suc k) page one other x y (omega arith))) cross
  where
    by_belongs : (b : Bool) → AreApart (cond b (maps_of p) [])
    by_belongs true = each 0 p refl
    by_belongs false = tt

    cross : (page : ℕ) (one other : Target) → target_of (item_ranges number p) page ≡ Some one → target_of (flat_map (item_ranges number) ps) page ≡ Some other → ⊥
    cross page one other e f = by_own (belongs_to (Some number) p) refl e
      where
        by_own : (b : Bool) → belongs_to (Some number) p ≡ b → target_of (cond b (maps_of p) []) page ≡ Some one → ⊥
        by_own true of_guest g = let found = items_tell ps number page other f in apart 0 (suc found.place) page one other p found.mine (omega arith) refl found.at of_guest found.belongs g found.mapped
        by_own false of_guest g = none-some _ g
