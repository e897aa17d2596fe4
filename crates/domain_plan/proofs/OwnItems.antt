-- What a guest is to be given depends on its own items alone.
use Rattle.std.proofs.Common.{◌≡◌, ℕ, zero, suc, ◌+◌, ◌<◌, ◌||◌, ◌&&◌, Bool, true, false, cond, List, [], ◌∷◌, ◌++◌, map, Option, Some, refl, sym, ap, ◌∙◌, arith, append-nil}
use Rattle.std.specs.Prelude.{slice_get, flat_map, sum_by, filter}
use Rattle.std.specs.List.{list_any}
use Rattle.std.proofs.lemmas.Grind.{flat_map-append}
use Rattle.std.proofs.lemmas.List.Sums.{sum_by-cons}
use Rattle.std.proofs.lemmas.Option.{same_Some, none-some}
use Rattle.texts.specs.Consecutive.{numbers}
use Rattle.described.specs.Maps.{target_of}
use Rattle.texts.specs.declared.ranges.FrameRange.{FrameRange}
use Rattle.described.specs.declared.map_range.MapRange.{MapRange}
use Rattle.described.specs.declared.item.Described.{Described}
use Rattle.described.specs.declared.item.What.{What}
use Rattle.described.specs.declared.item.What.TheVariants as whats
use Rattle.item_checks.specs.declared.guests.Guest.{Guest}
use Rattle.domain_bindings.specs.declared.host.Host.{Host}
use Rattle.described.specs.declared.loaded.Loaded.{Loaded}
use Rattle.domain_plan.specs.declared.planned.GuestPlan.{GuestPlan}
use Rattle.frame_alloc.specs.Ranges.{touched, cut}
use Rattle.item_checks.specs.Entries.{Entry, of_host, of_guest, guest_entries, load_item, is_read, items_of}
use Rattle.item_checks.specs.Taken.{Passed, what_of, belongs_to, says_direct, is_direct, static_pages, pages_before, is_range, is_repeated, bank_pages, pages_of, passing, all_passed, passed_of}
use Rattle.item_checks.specs.Reasons.{is_irq, has_console, is_with_console}
use Rattle.item_checks.specs.Layouts.{layout_of}
use Rattle.domain_plan.specs.GuestMaps.{laid, guest_ranges}
use Rattle.domain_plan.specs.PrivateLaying.{maps_by}
use Rattle.domain_plan.specs.Plans.{said_by, static_memory, banks_filled, region_of, port_of, IsGuestPlan}
use Rattle.item_checks.proofs.LoopLemmas.{all_passed-append}
use Rattle.domain_plan.proofs.GuestsLaw.{belongs_tells}

-- what an item describes, with the pages that it fills
abbrev pub Own : Type 0
Own = What × List FrameRange

abbrev pub own_one : ℕ → Passed → List Own
own_one number one = cond (belongs_to (Some number) one) ((what_of one, one.pages) ∷ []) []

-- what the items of a guest describe, with the pages that they fill
abbrev pub own_of : ℕ → List Passed → List Own
own_of number passed = flat_map (own_one number) passed

-- what is said of each item by what it describes and by its pages
pub own_said : {A : Type 0} (f : What → List FrameRange → List A) (number : ℕ) (passed : List Passed) →
    flat_map (λ (one : Passed). cond (belongs_to (Some number) one) (f (what_of one) one.pages) []) passed ≡ flat_map (λ (own : Own). f own.0 own.1) (own_of number passed)
own_said f number [] = refl
own_said f number (p ∷ ps) = by_belongs (belongs_to (Some number) p) (own_said f number ps)
  where
    by_belongs : (b : Bool) → flat_map (λ (one : Passed). cond (belongs_to (Some number) one) (f (what_of one) one.pages) []) ps ≡ flat_map (λ (own : Own). f own.0 own.1) (own_of number ps) →
        cond b (f (what_of p) p.pages) [] ++ flat_map (λ (one : Passed). cond (belongs_to (Some number) one) (f (what_of one) one.pages) []) ps ≡ flat_map (λ (own : Own). f own.0 own.1) (cond b ((what_of p, p.pages) ∷ []) [] ++ own_of number ps)
    by_belongs true later = ap (λ (xs : List _). f (what_of p) p.pages ++ xs) later
    by_belongs false later = later

pub own_any : (test : What → Bool) (number : ℕ) (passed : List Passed) →
    list_any (λ (one : Passed). belongs_to (Some number) one && test (what_of one)) passed ≡ list_any (λ (own : Own). test own.0) (own_of number passed)
own_any test number [] = refl
own_any test number (p ∷ ps) = by_belongs (belongs_to (Some number) p) (own_any test number ps)
  where
    by_belongs : (b : Bool) → list_any (λ (one : Passed). belongs_to (Some number) one && test (what_of one)) ps ≡ list_any (λ (own : Own). test own.0) (own_of number ps) →
        ((b && test (what_of p)) || list_any (λ (one : Passed). belongs_to (Some number) one && test (what_of one)) ps) ≡ list_any (λ (own : Own). test own.0) (cond b ((what_of p, p.pages) ∷ []) [] ++ own_of number ps)
    by_belongs true later = ap (λ (b : Bool). test (what_of p) || b) later
    by_belongs false later = later

pub own_sum : (f : What → ℕ) (number : ℕ) (passed : List Passed) →
    sum_by (λ (one : Passed). cond (belongs_to (Some number) one) (f (what_of one)) 0) passed ≡ sum_by (λ (own : Own). f own.0) (own_of number passed)
own_sum f number [] = refl
own_sum f number (p ∷ ps) = sum_by-cons (λ (one : Passed). cond (belongs_to (Some number) one) (f (what_of one)) 0) p ps ∙ by_belongs (belongs_to (Some number) p) (own_sum f number ps)
  where
    by_belongs : (b : Bool) → sum_by (λ (one : Passed). cond (belongs_to (Some number) one) (f (what_of one)) 0) ps ≡ sum_by (λ (own : Own). f own.0) (own_of number ps) →
        cond b (f (what_of p)) 0 + sum_by (λ (one : Passed). cond (belongs_to (Some number) one) (f (what_of one)) 0) ps ≡ sum_by (λ (own : Own). f own.0) (cond b ((what_of p, p.pages) ∷ []) [] ++ own_of number ps)
    by_belongs true later = ap (λ (n : ℕ). f (what_of p) + n) later ∙ sym (sum_by-cons (λ (own : Own). f own.0) (what_of p, p.pages) (own_of number ps))
    by_belongs false later = let e : 0 + sum_by (λ (one : Passed). cond (belongs_to (Some number) one) (f (what_of one)) 0) ps ≡ sum_by (λ (one : Passed). cond (belongs_to (Some number) one) (f (what_of one)) 0) ps = omega arith in e ∙ later

-- the same items of the guest tell the same of it
pub same_direct : (number : ℕ) (ones others : List Passed) → own_of number ones ≡ own_of number others → is_direct ones (Some number) ≡ is_direct others (Some number)
same_direct number ones others same = own_any says_direct number ones ∙ ap (list_any (λ (own : Own). says_direct own.0)) same ∙ sym (own_any says_direct number others)

pub same_console : (number : ℕ) (ones others : List Passed) → own_of number ones ≡ own_of number others → is_with_console ones (Some number) ≡ is_with_console others (Some number)
same_console number ones others same = own_any has_console number ones ∙ ap (list_any (λ (own : Own). has_console own.0)) same ∙ sym (own_any has_console number others)

pub same_static : (number : ℕ) (ones others : List Passed) → own_of number ones ≡ own_of number others → pages_before ones (Some number) ≡ pages_before others (Some number)
same_static number ones others same = ap cut (own_sum static_pages number ones ∙ ap (sum_by (λ (own : Own). static_pages own.0)) same ∙ sym (own_sum static_pages number others))

same_repeated : (number : ℕ) (ones others : List Passed) → own_of number ones ≡ own_of number others → (host size guest : ℕ) → is_repeated ones (Some number) host size guest ≡ is_repeated others (Some number) host size guest
same_repeated number ones others same host size guest =
    own_any (is_range host size guest) number ones ∙ ap (list_any (λ (own : Own). is_range host size guest own.0)) same ∙ sym (own_any (is_range host size guest) number others)

-- the pages of an item, by what it describes
abbrev pub pages_with : List Passed → Option ℕ → What → List FrameRange
pages_with before owner what = elim what as (λ _. List FrameRange) [
  | whats.Head cpus pages spis direct console ↦ bank_pages 0 pages
  | whats.Static at ↦ cond (is_direct before owner) (touched at ∷ []) (bank_pages (pages_before before owner) (touched at).count)
  | whats.Range host size guest ↦ cond (is_repeated before owner host size guest) [] (touched (record { base = guest; size = size }) ∷ [])
  | whats.Shared id host guest size owner ↦ touched (record { base = guest; size = size }) ∷ []
  | _ ↦ []
]

same_pages : (number : ℕ) (ones others : List Passed) → own_of number ones ≡ own_of number others → (what : What) → pages_with ones (Some number) what ≡ pages_with others (Some number) what
same_pages number ones others same (whats.Static at) =
    ap (λ (b : Bool). cond b (touched at ∷ []) (bank_pages (pages_before ones (Some number)) (touched at).count)) (same_direct number ones others same)
    ∙ ap (λ (k : ℕ). cond (is_direct others (Some number)) (touched at ∷ []) (bank_pages k (touched at).count)) (same_static number ones others same)
same_pages number ones others same (whats.Range host size guest) = ap (λ (b : Bool). cond b [] (touched (record { base = guest; size = size }) ∷ [])) (same_repeated number ones others same host size guest)
same_pages number ones others same _ = refl

pages_of_own : (number : ℕ) (ones others : List Passed) → own_of number ones ≡ own_of number others → (entry : Entry) → entry.guest ≡ Some number → pages_of ones entry ≡ pages_of others entry
pages_of_own number ones others same entry mine =
    ap (λ (guest : Option ℕ). pages_with ones guest entry.described.what) mine ∙ same_pages number ones others same entry.described.what
    ∙ ap (λ (guest : Option ℕ). pages_with others guest entry.described.what) (sym mine)

-- one item more, and more
own_more : (number : ℕ) (ones others : List Passed) (entry : Entry) → own_of number ones ≡ own_of number others → own_of number (ones ++ passing ones entry ∷ []) ≡ own_of number (others ++ passing others entry ∷ [])
own_more number ones others entry same =
    flat_map-append (own_one number) ones (passing ones entry ∷ [])
    ∙ ap (λ (xs : List Own). xs ++ (own_one number (passing ones entry) ++ [])) same
    ∙ ap (λ (xs : List Own). own_of number others ++ (xs ++ [])) (by_belongs (belongs_to (Some number) (passing ones entry)) refl)
    ∙ sym (flat_map-append (own_one number) others (passing others entry ∷ []))
  where
    by_belongs : (b : Bool) → belongs_to (Some number) (passing ones entry) ≡ b → cond {A = List Own} b ((entry.described.what, pages_of ones entry) ∷ []) [] ≡ cond {A = List Own} b ((entry.described.what, pages_of others entry) ∷ []) []
    by_belongs true mine = ap {B = List Own} (λ (pages : List FrameRange). (entry.described.what, pages) ∷ []) (pages_of_own number ones others same entry (belongs_tells number (passing ones entry) mine))
    by_belongs false mine = refl

pub own_all : (number : ℕ) (ones others : List Passed) (entries : List Entry) → own_of number ones ≡ own_of number others → own_of number (all_passed ones entries) ≡ own_of number (all_passed others entries)
unfolding all_passed
own_all number ones others [] same = same
own_all number ones others (entry ∷ entries) same = own_all number (ones ++ passing ones entry ∷ []) (others ++ passing others entry ∷ []) entries (own_more number ones others entry same)

-- none of the entries is of the guest
abbrev AreOfOthers : ℕ → List Entry → Type 0
AreOfOthers number [] = Unit {0}
AreOfOthers number (entry ∷ entries) = (entry.guest ≡ Some number → ⊥) × AreOfOthers number entries

others_append : (number : ℕ) (xs ys : List Entry) → AreOfOthers number xs → AreOfOthers number ys → AreOfOthers number (xs ++ ys)
others_append number [] ys one other = other
others_append number (x ∷ xs) ys one other = (one.0, others_append number xs ys one.1 other)

others_host : (number : ℕ) (items : List Described) → AreOfOthers number (of_host items)
others_host number [] = tt
others_host number (item ∷ items) = (λ is. none-some number is, others_host number items)

others_block : (number m : ℕ) (read : Bool) (items : List Described) → (m ≡ number → ⊥) → AreOfOthers number (of_guest m read items)
others_block number m read [] other = tt
others_block number m read (item ∷ items) other = (λ is. other (same_Some m number is), others_block number m read items other)

others_later : (number m : ℕ) (guests : List Guest) → number < m → AreOfOthers number (guest_entries m guests)
others_later number m [] low = tt
others_later number m (guest ∷ guests) low =
    others_append number (of_guest m (is_read guest.partial) (items_of guest)) (guest_entries (m + 1) guests)
    (others_block number m (is_read guest.partial) (items_of guest) (λ is. omega arith)) (others_later number (m + 1) guests (omega arith))

own_others : (number : ℕ) (before : List Passed) (entries : List Entry) → AreOfOthers number entries → own_of number (all_passed before entries) ≡ own_of number before
unfolding all_passed
own_others number before [] others = refl
own_others number before (entry ∷ entries) others =
    own_others number (before ++ passing before entry ∷ []) entries others.1
    ∙ flat_map-append (own_one number) before (passing before entry ∷ [])
    ∙ ap (λ (xs : List Own). own_of number before ++ (xs ++ [])) (by_belongs (belongs_to (Some number) (passing before entry)) refl)
    ∙ append-nil (own_of number before)
  where
    by_belongs : (b : Bool) → belongs_to (Some number) (passing before entry) ≡ b → cond {A = List Own} b ((entry.described.what, pages_of before entry) ∷ []) [] ≡ []
    by_belongs true mine = absurd (others.0 (belongs_tells number (passing before entry) mine))
    by_belongs false mine = refl

-- the entries of a guest
abbrev pub own_entries : ℕ → Guest → List Entry
own_entries number guest = of_guest number (is_read guest.partial) (items_of guest)

-- a guest's items, as though there were no others
abbrev pub own_passed : ℕ → Guest → List Passed
own_passed number guest = all_passed [] (own_entries number guest)

own_among : (first k number : ℕ) (before : List Passed) (guests : List Guest) (guest : Guest) → first + k ≡ number → slice_get guests k ≡ Some guest →
    own_of number (all_passed before (guest_entries first guests)) ≡ own_of number (all_passed before (own_entries number guest))
own_among first k number before [] guest is at = absurd (none-some _ at)
own_among first zero number before (g ∷ gs) guest is at =
    ap (own_of number) (all_passed-append before (own_entries first g) (guest_entries (first + 1) gs))
    ∙ own_others number (all_passed before (own_entries first g)) (guest_entries (first + 1) gs) (others_later number (first + 1) gs (omega arith))
    ∙ ap (λ (one : Guest). own_of number (all_passed before (own_entries first one))) (same_Some g guest at)
    ∙ ap (λ (n : ℕ). own_of number (all_passed before (own_entries n guest))) (let e : first ≡ number = omega arith in e)
own_among first (suc k) number before (g ∷ gs) guest is at =
    ap (own_of number) (all_passed-append before (own_entries first g) (guest_entries (first + 1) gs))
    ∙ own_among (first + 1) k number (all_passed before (own_entries first g)) gs guest (omega arith) at
    ∙ own_all number (all_passed before (own_entries first g)) before (own_entries number guest) (own_others number before (own_entries first g) (others_block number first (is_read g.partial) (items_of g) (λ same. omega arith)))

-- among all items, those of a guest are as though there were no others
pub own_items : (host : Host) (loads : List Loaded) (guests : List Guest) (number : ℕ) (guest : Guest) → slice_get guests number ≡ Some guest →
    own_of number (passed_of host loads guests) ≡ own_of number (own_passed number guest)
own_items host loads guests number guest at =
    ap (own_of number) (all_passed-append [] front (guest_entries 0 guests))
    ∙ own_among 0 number number (all_passed [] front) guests guest (omega arith) at
    ∙ own_all number (all_passed [] front) [] (own_entries number guest) (own_others number [] front
    (others_append number (of_host host.items ++ of_host (map load_item loads)) (of_host host.modules) (others_append number (of_host host.items) (of_host (map load_item loads)) (others_host number host.items) (others_host number (map load_item loads))) (others_host number host.modules)))
  where
    front : List Entry
    front = of_host host.items ++ of_host (map load_item loads) ++ of_host host.modules

pub same_ranges : (number : ℕ) (ones others : List Passed) (drawn : List FrameRange) → own_of number ones ≡ own_of number others → guest_ranges ones number drawn ≡ guest_ranges others number drawn
unfolding guest_ranges
same_ranges number ones others drawn same = ap (λ (ranges : List MapRange). laid 0 drawn ++ ranges) (own_said maps_by number ones ∙ ap (flat_map (λ (own : Own). maps_by own.0 own.1)) same ∙ sym (own_said maps_by number others))

pub same_said : {A : Type 0} (says : What → List A) (number : ℕ) (ones others : List Passed) → own_of number ones ≡ own_of number others → said_by ones number says ≡ said_by others number says
same_said says number ones others same = own_said (λ what _. says what) number ones ∙ ap (flat_map (λ (own : Own). says own.0)) same ∙ sym (own_said (λ what _. says what) number others)

-- the plan of a guest by its own items is its plan
pub plan_by_own : (host : Host) (passed own : List Passed) (number : ℕ) (guest : Guest) (drawn : List FrameRange) (plan : GuestPlan) → own_of number passed ≡ own_of number own → IsGuestPlan host own number guest drawn plan → IsGuestPlan host passed number guest drawn plan
plan_by_own host passed own number guest drawn plan same is = record {
  guest_number = is.guest_number;
  path = is.path;
  cpus = is.cpus;
  console = is.console;
  gic = is.gic;
  layout = is.layout
      ∙ ap (λ (b : Bool). layout_of host b (is_with_console own (Some number))) (sym (same_direct number passed own same))
      ∙ ap (λ (b : Bool). layout_of host (is_direct passed (Some number)) b) (sym (same_console number passed own same));
  bootargs = is.bootargs;
  memories = is.memories
      ∙ ap (λ (b : Bool). cond b (said_by own number static_memory) (banks_filled (guest.domain.pages + pages_before own (Some number)))) (sym (same_direct number passed own same))
      ∙ ap (λ (xs : List (ℕ × ℕ)). cond (is_direct passed (Some number)) xs (banks_filled (guest.domain.pages + pages_before own (Some number)))) (sym (same_said static_memory number passed own same))
      ∙ ap (λ (k : ℕ). cond (is_direct passed (Some number)) (said_by passed number static_memory) (banks_filled (guest.domain.pages + k))) (sym (same_static number passed own same));
  sorted = is.sorted;
  merged = is.merged;
  mapped = λ page. is.mapped page ∙ ap (λ (ranges : List MapRange). target_of ranges page) (sym (same_ranges number passed own drawn same));
  spis = is.spis ∙ filter_same (λ spi. list_any (λ (one : Passed). belongs_to (Some number) one && is_irq spi (what_of one)) own) (λ spi. list_any (λ (one : Passed). belongs_to (Some number) one && is_irq spi (what_of one)) passed) (numbers 0 988)
      (λ spi. own_any (is_irq spi) number own ∙ ap (list_any (λ (w : Own). is_irq spi w.0)) (sym same) ∙ sym (own_any (is_irq spi) number passed));
  shared = is.shared ∙ sym (same_said region_of number passed own same);
  ports = is.ports ∙ sym (same_said port_of number passed own same);
}
  where
    filter_same : (p q : ℕ → Bool) (xs : List ℕ) → ((x : ℕ) → p x ≡ q x) → filter p xs ≡ filter q xs
    filter_same p q [] same = refl
    filter_same p q (x ∷ xs) same = rw (same x, filter_same p q xs same) refl
