-- The reasons as the state tells them.
use Rattle.std.proofs.Common.{◌≡◌, ℕ, ◌&&◌, Bool, true, false, cond, not, List, [], ◌∷◌, Option, Some, None, refl, sym, ap, ◌∙◌}
use Rattle.std.specs.Prelude.{option_map}
use Rattle.std.specs.Option.{option_or}
use Rattle.std.specs.List.{find}
use Rattle.texts.specs.declared.ranges.FrameRange.{FrameRange}
use Rattle.described.specs.declared.item.Item.{Item}
use Rattle.described.specs.declared.why.Why.{Why}
use Rattle.described.specs.declared.why.Why.TheVariants as whys
use Rattle.texts.specs.declared.ranges.BaseSize.{BaseSize}
use Rattle.described.specs.declared.item.ModuleKind.{ModuleKind}
use Rattle.described.specs.declared.item.What.{What}
use Rattle.described.specs.declared.item.What.TheVariants as whats
use Rattle.domain_bindings.specs.declared.host.Host.{Host}
use Rattle.frame_alloc.specs.Ranges.{have_common, lie_in}
use Rattle.item_checks.specs.Taken.{Passed, item_of, what_of, belongs_to}
use Rattle.described.specs.Reasons.{where_so}
use Rattle.item_checks.specs.Reasons.{naming_first, area_pages, layout_at, guest_overlap, fills, partial_unread, are_one_region, have_one_base, unlike, is_owner, is_irq, of_another_guest, irq_too_high, irq_of_console, irq_of_another}
use Rattle.item_checks.specs.Refusals.{cross_reasons, first_there}
use Rattle.item_checks.specs.Standing.{claims_taken, pages_taken, is_of_other}
use Rattle.item_checks.specs.PrivateStanding.{overlap_in, is_region, naming_reasons, landing_reasons, irq_reasons}
use Rattle.frame_alloc.proofs.CommonFrames.{none_common}

pub find_same : (p q : Passed → Bool) (xs : List Passed) → ((x : Passed) → p x ≡ q x) → find p xs ≡ find q xs
find_same p q [] same = refl
find_same p q (x ∷ xs) same = rw (same x, find_same p q xs same) refl

pub naming_same : (p q : Passed → Bool) (name : Item → Why) (xs : List Passed) → ((x : Passed) → p x ≡ q x) → naming_first p name xs ≡ naming_first q name xs
naming_same p q name xs same = ap (option_map (λ (passed : Passed). name (item_of passed))) (find_same p q xs same)

pages_fill : (b : Bool) (pages mine : List FrameRange) → have_common (cond b pages []) mine ≡ (b && have_common pages mine)
pages_fill true pages mine = refl
pages_fill false pages mine = none_common mine

-- an overlap in the guest, by the pages that its items fill
pub guest_overlap_is : (host : Host) (before : List Passed) (mine : Passed) →
    overlap_in (have_common (area_pages (layout_at host before mine.entry.guest)) mine.pages) (naming_first (λ passed. have_common (pages_taken mine.entry.guest passed) mine.pages) whys.GuestOverlap before) ≡ guest_overlap host before mine
guest_overlap_is host before mine =
    ap (overlap_in (have_common (area_pages (layout_at host before mine.entry.guest)) mine.pages))
    (naming_same (λ passed. have_common (pages_taken mine.entry.guest passed) mine.pages) (fills mine) whys.GuestOverlap before
    (λ passed. pages_fill (belongs_to mine.entry.guest passed) passed.pages mine.pages))

pub or_none_last : (o : Option Why) → option_or o None ≡ o
or_none_last None = refl
or_none_last (Some x) = refl

-- what the state tells of the host's memory and of the items before
abbrev pub landing : Host → List Passed → List FrameRange → Option Why
landing host before claims =
    option_or (where_so (not (lie_in host.ram claims)) whys.NotRam) (naming_first (λ passed. have_common (claims_taken passed) claims) whys.HostOverlap before)

-- and of the guest
abbrev pub filling : Host → List Passed → Passed → Option Why
filling host before mine =
    overlap_in (have_common (area_pages (layout_at host before mine.entry.guest)) mine.pages) (naming_first (λ passed. have_common (pages_taken mine.entry.guest passed) mine.pages) whys.GuestOverlap before)

pub load_reasons : (host : Host) (before : List Passed) (mine : Passed) (at : BaseSize) → what_of mine ≡ whats.Load at →
    landing host before mine.claims ≡ first_there (cross_reasons host before mine)
load_reasons host before mine at is =
    rw is (ap (option_or (where_so (not (lie_in host.ram mine.claims)) whys.NotRam)) (sym (or_none_last (naming_first (λ passed. have_common (claims_taken passed) mine.claims) whys.HostOverlap before))))

three : (a b c : Option Why) → option_or (option_or a b) c ≡ option_or a (option_or b (option_or c None))
three None None c = sym (or_none_last c)
three None (Some b) c = refl
three (Some a) b c = refl

pub module_reasons : (host : Host) (before : List Passed) (mine : Passed) (kind : ModuleKind) (at : BaseSize) → what_of mine ≡ whats.Module kind at →
    option_or (landing host before mine.claims) (partial_unread kind mine) ≡ first_there (cross_reasons host before mine)
module_reasons host before mine kind at is =
    rw is (three (where_so (not (lie_in host.ram mine.claims)) whys.NotRam) (naming_first (λ passed. have_common (claims_taken passed) mine.claims) whys.HostOverlap before) (partial_unread kind mine))

pub static_reasons : (host : Host) (before : List Passed) (mine : Passed) (at : BaseSize) → what_of mine ≡ whats.Static at →
    option_or (landing host before mine.claims) (filling host before mine) ≡ first_there (cross_reasons host before mine)
static_reasons host before mine at is =
    ap (option_or (landing host before mine.claims)) (guest_overlap_is host before mine)
    ∙ rw is (three (where_so (not (lie_in host.ram mine.claims)) whys.NotRam) (naming_first (λ passed. have_common (claims_taken passed) mine.claims) whys.HostOverlap before) (guest_overlap host before mine))

-- an earlier item that claims one of these frames
abbrev pub claiming : List Passed → List FrameRange → Option Why
claiming before claims = naming_first (λ passed. have_common (claims_taken passed) claims) whys.HostOverlap before

pub range_reasons : (host : Host) (before : List Passed) (mine : Passed) (from size guest : ℕ) → what_of mine ≡ whats.Range from size guest →
    option_or (claiming before mine.claims) (filling host before mine) ≡ first_there (cross_reasons host before mine)
range_reasons host before mine from size guest is =
    ap (option_or (claiming before mine.claims)) (guest_overlap_is host before mine ∙ sym (or_none_last (guest_overlap host before mine))) ∙ rw is refl

region_is : (id : List ℕ) (host : Option ℕ) (page size : ℕ) (owns : Bool) (what : What) → is_region id what ≡ are_one_region (whats.Shared id host page size owns) what
region_is id host page size owns what = elim what as (λ (w : What). is_region id w ≡ are_one_region (whats.Shared id host page size owns) w) [
  | whats.Shared other_id other_host other_page other_size other_owns ↦ refl
  | _ ↦ refl
]

base_is : (id : List ℕ) (host : Option ℕ) (page size : ℕ) (owns : Bool) (what : What) → have_one_base (whats.Shared id host 0 size false) what ≡ have_one_base (whats.Shared id host page size owns) what
base_is id host page size owns what = elim what as (λ (w : What). have_one_base (whats.Shared id host 0 size false) w ≡ have_one_base (whats.Shared id host page size owns) w) [
  | whats.Shared other_id other_host other_page other_size other_owns ↦ refl
  | _ ↦ refl
]

unlike_is : (id : List ℕ) (host : Option ℕ) (page size : ℕ) (owns : Bool) (o : Option Passed) → unlike (whats.Shared id host 0 size false) o ≡ unlike (whats.Shared id host page size owns) o
unlike_is id host page size owns None = refl
unlike_is id host page size owns (Some p) = ap (λ (b : Bool). where_so (not b) (whys.ShmDiffers (item_of p))) (base_is id host page size owns (what_of p))

owned : (owns : Bool) (p q : Option Why) → p ≡ q → cond owns p None ≡ cond owns q None
owned owns p q same = ap (λ (o : Option Why). cond owns o None) same

six : (a b c d e f : Option Why) → option_or (option_or a (option_or b c)) (option_or d (option_or e f)) ≡ option_or a (option_or b (option_or c (option_or d (option_or e (option_or f None)))))
six None None None d e f = ap (λ (o : Option Why). option_or d (option_or e o)) (sym (or_none_last f))
six None None (Some c) d e f = refl
six None (Some b) c d e f = refl
six (Some a) b c d e f = refl

pub shared_reasons : (host : Host) (before : List Passed) (mine : Passed) (id : List ℕ) (from : Option ℕ) (page size : ℕ) (owns : Bool) → what_of mine ≡ whats.Shared id from page size owns →
    option_or (naming_reasons mine.entry.guest id from size owns before) (landing_reasons mine.entry.guest host id mine.claims mine.pages before) ≡ first_there (cross_reasons host before mine)
shared_reasons host before mine id from page size owns is =
    let one : Passed → Bool = λ p. are_one_region (whats.Shared id from page size owns) (what_of p) in
    let same : (p : Passed) → is_region id (what_of p) ≡ one p = λ p. region_is id from page size owns (what_of p) in
    let twice : naming_first (λ p. belongs_to mine.entry.guest p && is_region id (what_of p)) whys.ShmTwice before ≡ naming_first (λ p. belongs_to mine.entry.guest p && one p) whys.ShmTwice before =
    naming_same (λ p. belongs_to mine.entry.guest p && is_region id (what_of p)) (λ p. belongs_to mine.entry.guest p && one p) whys.ShmTwice before (λ p. ap (λ (b : Bool). belongs_to mine.entry.guest p && b) (same p)) in
    let differs : unlike (whats.Shared id from 0 size false) (find (λ (p : Passed). is_region id (what_of p)) before) ≡ unlike (whats.Shared id from page size owns) (find one before) =
    unlike_is id from page size owns (find (λ (p : Passed). is_region id (what_of p)) before) ∙ ap (unlike (whats.Shared id from page size owns)) (find_same (λ (p : Passed). is_region id (what_of p)) one before same) in
    let owners : naming_first (λ p. is_region id (what_of p) && is_owner (what_of p)) whys.OwnerTwice before ≡ naming_first (λ p. one p && is_owner (what_of p)) whys.OwnerTwice before =
    naming_same (λ p. is_region id (what_of p) && is_owner (what_of p)) (λ p. one p && is_owner (what_of p)) whys.OwnerTwice before (λ p. ap (λ (b : Bool). b && is_owner (what_of p)) (same p)) in
    let overlap : naming_first (λ p. not (is_region id (what_of p)) && have_common (claims_taken p) mine.claims) whys.HostOverlap before ≡ naming_first (λ p. not (one p) && have_common p.claims mine.claims) whys.HostOverlap before =
    naming_same (λ p. not (is_region id (what_of p)) && have_common (claims_taken p) mine.claims) (λ p. not (one p) && have_common p.claims mine.claims) whys.HostOverlap before (λ p. ap (λ (b : Bool). not b && have_common p.claims mine.claims) (same p)) in
    let named : naming_reasons mine.entry.guest id from size owns before ≡ option_or (naming_first (λ p. belongs_to mine.entry.guest p && one p) whys.ShmTwice before) (option_or (unlike (whats.Shared id from page size owns) (find one before)) (cond owns (naming_first (λ p. one p && is_owner (what_of p)) whys.OwnerTwice before) None)) =
    rw (twice, differs, owners) refl in
    let landed : landing_reasons mine.entry.guest host id mine.claims mine.pages before ≡ option_or (where_so (not (lie_in host.ram mine.claims)) whys.NotRam) (option_or (naming_first (λ p. not (one p) && have_common p.claims mine.claims) whys.HostOverlap before) (guest_overlap host before mine)) =
    rw (overlap, guest_overlap_is host before mine) refl in
    ap (λ (o : Option Why). option_or o (landing_reasons mine.entry.guest host id mine.claims mine.pages before)) named
    ∙ ap (option_or (option_or (naming_first (λ p. belongs_to mine.entry.guest p && one p) whys.ShmTwice before) (option_or (unlike (whats.Shared id from page size owns) (find one before)) (cond owns (naming_first (λ p. one p && is_owner (what_of p)) whys.OwnerTwice before) None)))) landed
    ∙ rw is (six (naming_first (λ p. belongs_to mine.entry.guest p && one p) whys.ShmTwice before) (unlike (whats.Shared id from page size owns) (find one before)) (cond owns (naming_first (λ p. one p && is_owner (what_of p)) whys.OwnerTwice before) None)
    (where_so (not (lie_in host.ram mine.claims)) whys.NotRam) (naming_first (λ p. not (one p) && have_common p.claims mine.claims) whys.HostOverlap before) (guest_overlap host before mine))

another_is : (mine : Passed) (number : ℕ) (p : Passed) → (is_of_other mine.entry.guest p && is_irq number (what_of p)) ≡ (of_another_guest mine p && is_irq number (what_of p))
another_is mine number p = refl

three_irq : (a b c : Option Why) → option_or a (option_or b c) ≡ option_or a (option_or b (option_or c None))
three_irq a b c = ap (λ (o : Option Why). option_or a (option_or b o)) (sym (or_none_last c))

pub irq_reasons_are : (host : Host) (before : List Passed) (mine : Passed) (number : ℕ) → what_of mine ≡ whats.Irq number → irq_reasons mine.entry.guest number before ≡ first_there (cross_reasons host before mine)
irq_reasons_are host before mine number is = rw is (three_irq (irq_too_high before number mine) (irq_of_console before number mine) (irq_of_another before number mine))

-- the first of two, where the first is there, and where it is not
pub first_some : (a b : Option Why) (why : Why) → Some why ≡ a → Some why ≡ option_or a b
first_some None b why is = absurd cc
first_some (Some a) b why is = is

pub first_none : (a b c : Option Why) → None ≡ a → c ≡ b → c ≡ option_or a b
first_none None b c is rest = rest
first_none (Some a) b c is rest = absurd cc
