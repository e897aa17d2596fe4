-- Where the ranges of a guest map a page.
use Rattle.std.proofs.Common.{◌≡◌, ℕ, suc, ◌+◌, ◌-◌, ◌/◌, ◌%◌, ◌^◌, ◌<◌, ◌≤◌, ◌⊎◌, Bool, true, false, cond, List, [], ◌∷◌, ◌++◌, Option, Some, None, refl, sym, ap, subst, ◌∙◌, arith, inl, inr}
use Rattle.std.specs.Prelude.{slice_get, flat_map, ◌==◌}
use Rattle.std.specs.Option.{option_or}
use Rattle.std.proofs.lemmas.Option.{same_Some, none-some}
use Rattle.std.proofs.lemmas.Bool.Decides.{eqb_tells}
use Rattle.described.specs.Maps.{Target, target_of, holds_page}
use Rattle.texts.specs.declared.ranges.BaseSize.{BaseSize}
use Rattle.texts.specs.declared.ranges.FrameRange.{FrameRange}
use Rattle.described.specs.declared.map_range.MapRange.{MapRange}
use Rattle.described.specs.declared.map_range.Kind.{Kind}
use Rattle.described.specs.declared.map_range.Kind.TheVariants.{Ram, Device, Shared}
use Rattle.described.specs.declared.item.What.{What}
use Rattle.described.specs.declared.item.What.TheVariants as whats
use Rattle.frame_alloc.specs.Frames.{is_within}
use Rattle.frame_alloc.proofs.Without.{is_within-in}
use Rattle.domain_bindings.specs.declared.host.Host.{Host}
use Rattle.frame_alloc.specs.Ranges.{holds, touched, cut}
use Rattle.item_checks.specs.Taken.{Passed, what_of, belongs_to, bank_pages, is_direct, pages_before, is_repeated, claims_of, pages_of}
use Rattle.domain_plan.specs.GuestMaps.{onto, laid, maps_of, guest_ranges}
pub use Rattle.item_checks.specs.Taken.{total}
use Rattle.described.specs.Sound.{AreWholePages, IsSound}
use Rattle.frame_alloc.proofs.CommonFrames.{or_left, or_right, within_tells, holds_one}
use Rattle.domain_plan.proofs.ClearLemmas.{IsClear, is_mapping}

-- one list of ranges after the other
pub target_of-append : (xs ys : List MapRange) (page : ℕ) → target_of (xs ++ ys) page ≡ option_or (target_of xs page) (target_of ys page)
target_of-append [] ys page = refl
target_of-append (x ∷ xs) ys page = by_test (holds_page x page) (target_of-append xs ys page)
  where
    by_test : (b : Bool) → target_of (xs ++ ys) page ≡ option_or (target_of xs page) (target_of ys page)
        → cond b (Some (record { frame = x.first + (page - x.page); kind = x.kind })) (target_of (xs ++ ys) page) ≡ option_or (cond b (Some (record { frame = x.first + (page - x.page); kind = x.kind })) (target_of xs page)) (target_of ys page)
    by_test true rest = refl
    by_test false rest = rest

pub either_target : (a b : Option Target) (t : Target) → option_or a b ≡ Some t → (a ≡ Some t) ⊎ (b ≡ Some t)
either_target None b t is = inr is
either_target (Some x) b t is = inl is

-- a page among several ranges, and a frame among as many from a frame on
pub record IsOnto (kind : Kind) (frame : ℕ) (pages : List FrameRange) (page : ℕ) (target : Target) : Type 0 where
  pub same_kind : target.kind ≡ kind
  pub low : frame ≤ target.frame
  pub high : target.frame < frame + total pages
  pub held : holds pages page ≡ true

pub onto_tells : (kind : Kind) (frame : ℕ) (pages : List FrameRange) (page : ℕ) (target : Target) → target_of (onto kind frame pages) page ≡ Some target → IsOnto kind frame pages page target
onto_tells kind frame [] page target is = absurd (none-some _ is)
onto_tells kind frame (range ∷ more) page target is = by_test (within_tells range.first range.count page) is (λ e. onto_tells kind (frame + range.count) more page target e)
  where
    hit : Target
    hit = record { frame = frame + (page - range.first); kind = kind }

    by_test : ((is_within range.first range.count page ≡ true) × (range.first ≤ page) × (page < range.first + range.count)) ⊎ ((is_within range.first range.count page ≡ false) × ((page < range.first) ⊎ (range.first + range.count ≤ page)))
        → cond (is_within range.first range.count page) (Some hit) (target_of (onto kind (frame + range.count) more) page) ≡ Some target
        → (target_of (onto kind (frame + range.count) more) page ≡ Some target → IsOnto kind (frame + range.count) more page target) → IsOnto kind frame (range ∷ more) page target
    by_test (inl h) e later =
        let found : Some hit ≡ Some target = sym (ap (λ (b : Bool). cond b (Some hit) (target_of (onto kind (frame + range.count) more) page)) h.0) ∙ e in
        let same : hit ≡ target = same_Some hit target found in
        subst (λ (t : Target). IsOnto kind frame (range ∷ more) page t) same (record {
          same_kind = refl;
          low = omega arith;
          high = omega (arith, h.1, h.2);
          held = or_left _ (holds more page) h.0;
        })
    by_test (inr h) e later =
        let rest = later (sym (ap (λ (b : Bool). cond b (Some hit) (target_of (onto kind (frame + range.count) more) page)) h.0) ∙ e) in
        record { same_kind = rest.same_kind; low = omega (arith, rest.low); high = omega (arith, rest.high); held = or_right (is_within range.first range.count page) _ rest.held }

-- the pages of both banks are as many as were asked for
pub total-banks : (k count : ℕ) → total (bank_pages k count) ≡ count
total-banks k count = omega arith

-- what a guest drew
pub laid_tells : (k : ℕ) (drawn : List FrameRange) (page : ℕ) (target : Target) → target_of (laid k drawn) page ≡ Some target → (target.kind ≡ Ram) × (holds drawn target.frame ≡ true)
laid_tells k [] page target is = absurd (none-some _ is)
laid_tells k (range ∷ more) page target is =
    by_part (either_target (target_of (onto Ram range.first (bank_pages k range.count)) page) (target_of (laid (k + range.count) more) page) target
    (sym (target_of-append (onto Ram range.first (bank_pages k range.count)) (laid (k + range.count) more) page) ∙ is)) (λ e. laid_tells (k + range.count) more page target e)
  where
    by_part : (target_of (onto Ram range.first (bank_pages k range.count)) page ≡ Some target) ⊎ (target_of (laid (k + range.count) more) page ≡ Some target)
        → (target_of (laid (k + range.count) more) page ≡ Some target → (target.kind ≡ Ram) × (holds more target.frame ≡ true)) → (target.kind ≡ Ram) × (holds (range ∷ more) target.frame ≡ true)
    by_part (inl here) later =
        let found = onto_tells Ram range.first (bank_pages k range.count) page target here in
        let high : target.frame < range.first + range.count = omega (arith, found.high, total-banks k range.count) in
        (found.same_kind, or_left _ (holds more target.frame) (is_within-in range.first range.count target.frame found.low high))
    by_part (inr e) later = let found = later e in (found.0, or_right (is_within range.first range.count target.frame) _ found.1)

-- whole pages touch as many frames as they are
pub touched_whole : (base size : ℕ) → AreWholePages base size → touched (record { base = base; size = size }) ≡ record { first = base / 4096; count = size / 4096 }
touched_whole base size whole = by_size (eqb_tells size 0)
  where
    first : cut (base / 4096) ≡ base / 4096
    first = let a : base + size ≤ 2 ^ 40 = whole.low in omega arith

    count : cut ((base + size + 4095) / 4096) - cut (base / 4096) ≡ size / 4096
    count =
        let a : base + size ≤ 2 ^ 40 = whole.low in
        let b : base % 4096 ≡ 0 = whole.base_whole in
        let c : size % 4096 ≡ 0 = whole.size_whole in
        omega arith

    by_size : (((size == 0) ≡ true) × (size ≡ 0)) ⊎ (((size == 0) ≡ false) × (size ≡ 0 → ⊥)) → touched (record { base = base; size = size }) ≡ record { first = base / 4096; count = size / 4096 }
    by_size (inl h) = absurd (let a : 0 < size = whole.some in let b : size ≡ 0 = h.1 in omega arith)
    by_size (inr h) = rw h.0 (rw (count, first) refl)

-- the kind of memory that an item maps
abbrev pub kind_of : What → Kind
kind_of (whats.Range host size guest) = Device
kind_of (whats.Shared id host guest size owner) = Shared
kind_of _ = Ram

-- an item that maps a page: it claims the frame, and fills the page
pub record IsMapped (mine : Passed) (page : ℕ) (target : Target) : Type 0 where
  pub mapping : is_mapping (what_of mine) ≡ true
  pub same_kind : target.kind ≡ kind_of (what_of mine)
  pub claimed : holds mine.claims target.frame ≡ true
  pub filled : holds mine.pages page ≡ true

in_whole : (kind : Kind) (base size : ℕ) (pages : List FrameRange) (page : ℕ) (target : Target) → AreWholePages base size → total pages ≡ (touched (record { base = base; size = size })).count →
    IsOnto kind (base / 4096) pages page target → holds (touched (record { base = base; size = size }) ∷ []) target.frame ≡ true
in_whole kind base size pages page target whole count onto =
    let same : touched (record { base = base; size = size }) ≡ record { first = base / 4096; count = size / 4096 } = touched_whole base size whole in
    let range : FrameRange = record { first = base / 4096; count = size / 4096 } in
    let pages_count : total pages ≡ size / 4096 = count ∙ ap (λ (one : FrameRange). one.count) same in
    let high : target.frame < base / 4096 + size / 4096 = omega (arith, onto.high) in
    ap (λ (one : FrameRange). holds (one ∷ []) target.frame) same ∙ holds_one range target.frame ∙ is_within-in (base / 4096) (size / 4096) target.frame onto.low high

one_total : (range : FrameRange) → total (range ∷ []) ≡ range.count
one_total range = omega arith

pub item_tells : (host : Host) (all : List Passed) (place : ℕ) (mine : Passed) (front : List Passed) (page : ℕ) (target : Target) → IsClear host all place mine front → target_of (maps_of mine) page ≡ Some target →
    IsMapped mine page target
item_tells host all place mine front page target clear is =
    by_what (what_of mine) refl is clear.sound (ap (λ (one : Passed). one.claims) clear.made) (ap (λ (one : Passed). one.pages) clear.made)
  where
    goal : Type 0
    goal = IsMapped mine page target

    by_repeat : (base size guest : ℕ) (b : Bool) → AreWholePages base size → AreWholePages guest size → mine.claims ≡ cond b [] (touched (record { base = base; size = size }) ∷ []) → mine.pages ≡ cond b [] (touched (record { base = guest; size = size }) ∷ []) →
        target_of (onto Device (base / 4096) mine.pages) page ≡ Some target → holds mine.claims target.frame ≡ true
    by_repeat base size guest true host_whole guest_whole claims pages e =
        absurd (none-some _ (sym (ap (λ (ranges : List FrameRange). target_of (onto Device (base / 4096) ranges) page) pages) ∙ e))
    by_repeat base size guest false host_whole guest_whole claims pages e =
        let found = onto_tells Device (base / 4096) mine.pages page target e in
        let h : (touched (record { base = base; size = size })).count ≡ size / 4096 = ap (λ (one : FrameRange). one.count) (touched_whole base size host_whole) in
        let g : (touched (record { base = guest; size = size })).count ≡ size / 4096 = ap (λ (one : FrameRange). one.count) (touched_whole guest size guest_whole) in
        let count : total mine.pages ≡ (touched (record { base = base; size = size })).count = ap total pages ∙ one_total (touched (record { base = guest; size = size })) ∙ g ∙ sym h in
        ap (λ (ranges : List FrameRange). holds ranges target.frame) claims ∙ in_whole Device base size mine.pages page target host_whole count found

    by_direct : (at : BaseSize) (b : Bool) (k : ℕ) → mine.pages ≡ cond b (touched at ∷ []) (bank_pages k (touched at).count) → total mine.pages ≡ (touched at).count
    by_direct at true k pages = ap total pages ∙ one_total (touched at)
    by_direct at false k pages = ap total pages ∙ total-banks k (touched at).count

    by_what : (what : What) → what_of mine ≡ what → target_of (maps_of mine) page ≡ Some target → IsSound (what_of mine) → mine.claims ≡ claims_of front mine.entry → mine.pages ≡ pages_of front mine.entry → IsMapped mine page target
    by_what (whats.Static at) w e sound claims pages =
        let mapped : target_of (onto Ram (at.base / 4096) mine.pages) page ≡ Some target = rw w at e in
        let whole : AreWholePages at.base at.size = rw w at sound in
        let own_claims : mine.claims ≡ touched at ∷ [] = rw w at claims in
        let own_pages : mine.pages ≡ cond (is_direct front mine.entry.guest) (touched at ∷ []) (bank_pages (pages_before front mine.entry.guest) (touched at).count) = rw w at pages in
        let found = onto_tells Ram (at.base / 4096) mine.pages page target mapped in
        record {
          mapping = rw w refl;
          same_kind = found.same_kind ∙ ap kind_of (sym w);
          claimed = ap (λ (ranges : List FrameRange). holds ranges target.frame) own_claims
              ∙ in_whole Ram at.base at.size mine.pages page target whole (by_direct at (is_direct front mine.entry.guest) (pages_before front mine.entry.guest) own_pages) found;
          filled = found.held;
        }
    by_what (whats.Range host size guest) w e sound claims pages =
        let mapped : target_of (onto Device (host / 4096) mine.pages) page ≡ Some target = rw w at e in
        let whole : AreWholePages host size × AreWholePages guest size = rw w at sound in
        let own_claims : mine.claims ≡ cond (is_repeated front mine.entry.guest host size guest) [] (touched (record { base = host; size = size }) ∷ []) = rw w at claims in
        let own_pages : mine.pages ≡ cond (is_repeated front mine.entry.guest host size guest) [] (touched (record { base = guest; size = size }) ∷ []) = rw w at pages in
        let found = onto_tells Device (host / 4096) mine.pages page target mapped in
        record {
          mapping = rw w refl;
          same_kind = found.same_kind ∙ ap kind_of (sym w);
          claimed = by_repeat host size guest (is_repeated front mine.entry.guest host size guest) whole.0 whole.1 own_claims own_pages mapped;
          filled = found.held;
        }
    by_what (whats.Shared id None guest size owner) w e sound claims pages = absurd (none-some target (rw w at e))
    by_what (whats.Shared id (Some host) guest size owner) w e sound claims pages =
        let mapped : target_of (onto Shared (host / 4096) mine.pages) page ≡ Some target = rw w at e in
        let whole : AreWholePages host size × AreWholePages guest size = rw w at sound in
        let own_claims : mine.claims ≡ touched (record { base = host; size = size }) ∷ [] = rw w at claims in
        let own_pages : mine.pages ≡ touched (record { base = guest; size = size }) ∷ [] = rw w at pages in
        let found = onto_tells Shared (host / 4096) mine.pages page target mapped in
        let h : (touched (record { base = host; size = size })).count ≡ size / 4096 = ap (λ (one : FrameRange). one.count) (touched_whole host size whole.0) in
        let g : (touched (record { base = guest; size = size })).count ≡ size / 4096 = ap (λ (one : FrameRange). one.count) (touched_whole guest size whole.1) in
        let count : total mine.pages ≡ (touched (record { base = host; size = size })).count = ap total own_pages ∙ one_total (touched (record { base = guest; size = size })) ∙ g ∙ sym h in
        record {
          mapping = rw w refl;
          same_kind = found.same_kind ∙ ap kind_of (sym w);
          claimed = ap (λ (ranges : List FrameRange). holds ranges target.frame) own_claims ∙ in_whole Shared host size mine.pages page target whole.0 count found;
          filled = found.held;
        }
    by_what _ w e sound claims pages = absurd (none-some target (rw w at e))

-- where a guest's page goes: to what it drew, or to what one of its items maps
pub record IsMappedByItem (passed : List Passed) (number page : ℕ) (target : Target) : Type 0 where
  pub place : ℕ
  pub mine : Passed
  pub at : slice_get passed place ≡ Some mine
  pub belongs : belongs_to (Some number) mine ≡ true
  pub mapped : target_of (maps_of mine) page ≡ Some target

abbrev pub item_ranges : ℕ → Passed → List MapRange
item_ranges number one = cond (belongs_to (Some number) one) (maps_of one) []

pub items_tell : (passed : List Passed) (number page : ℕ) (target : Target) → target_of (flat_map (item_ranges number) passed) page ≡ Some target → IsMappedByItem passed number page target
items_tell [] number page target is = absurd (none-some _ is)
items_tell (one ∷ more) number page target is =
    by_part (either_target (target_of (item_ranges number one) page) (target_of (flat_map (item_ranges number) more) page) target (sym (target_of-append (item_ranges number one) (flat_map (item_ranges number) more) page) ∙ is))
    (λ e. items_tell more number page target e)
  where
    by_belongs : (b : Bool) → belongs_to (Some number) one ≡ b → target_of (cond b (maps_of one) []) page ≡ Some target → IsMappedByItem (one ∷ more) number page target
    by_belongs true of_guest e = record { place = 0; mine = one; at = refl; belongs = of_guest; mapped = e }
    by_belongs false of_guest e = absurd (none-some _ e)

    by_part : (target_of (item_ranges number one) page ≡ Some target) ⊎ (target_of (flat_map (item_ranges number) more) page ≡ Some target)
        → (target_of (flat_map (item_ranges number) more) page ≡ Some target → IsMappedByItem more number page target) → IsMappedByItem (one ∷ more) number page target
    by_part (inl here) later = by_belongs (belongs_to (Some number) one) refl here
    by_part (inr e) later = let found = later e in record { place = suc found.place; mine = found.mine; at = found.at; belongs = found.belongs; mapped = found.mapped }

pub guest_tells : (passed : List Passed) (number : ℕ) (drawn : List FrameRange) (page : ℕ) (target : Target) → target_of (guest_ranges passed number drawn) page ≡ Some target →
    ((target.kind ≡ Ram) × (holds drawn target.frame ≡ true)) ⊎ IsMappedByItem passed number page target
unfolding guest_ranges
guest_tells passed number drawn page target is =
    by_part (either_target (target_of (laid 0 drawn) page) (target_of (flat_map (item_ranges number) passed) page) target (sym (target_of-append (laid 0 drawn) (flat_map (item_ranges number) passed) page) ∙ is))
  where
    by_part : (target_of (laid 0 drawn) page ≡ Some target) ⊎ (target_of (flat_map (item_ranges number) passed) page ≡ Some target) → ((target.kind ≡ Ram) × (holds drawn target.frame ≡ true)) ⊎ IsMappedByItem passed number page target
    by_part (inl e) = inl (laid_tells 0 drawn page target e)
    by_part (inr e) = inr (items_tell passed number page target e)
