-- What it tells that no item is refused: each item meets none of those before it.
use Rattle.std.proofs.Common.{◌≡◌, ℕ, zero, suc, ◌<◌, ◌≤◌, ◌⊎◌, ◌&&◌, not, Bool, true, false, cond, List, [], ◌∷◌, ◌++◌, length, Option, Some, None, refl, sym, ap, subst, ◌∙◌, arith, inl, inr, length-append}
use Rattle.std.specs.Prelude.{slice_get, option_map}
use Rattle.std.specs.Option.{option_or}
use Rattle.std.specs.List.{find}
use Rattle.std.proofs.lemmas.Option.{same_Some, none-some}
use Rattle.texts.specs.declared.ranges.FrameRange.{FrameRange}
use Rattle.described.specs.declared.item.Item.{Item}
use Rattle.described.specs.declared.item.What.{What}
use Rattle.described.specs.declared.item.What.TheVariants as whats
use Rattle.described.specs.declared.why.Why.{Why}
use Rattle.described.specs.declared.why.Why.TheVariants as whys
use Rattle.domain_bindings.specs.declared.host.Host.{Host}
use Rattle.frame_alloc.specs.Ranges.{holds, have_common}
use Rattle.item_checks.specs.Entries.{Entry}
use Rattle.item_checks.specs.Taken.{Passed, item_of, what_of, belongs_to, passing, all_passed}
use Rattle.item_checks.specs.Reasons.{naming_first, blocks, fills, not_ram, host_overlap, guest_overlap, layout, area_pages, layout_at, are_one_region, shm_twice, shm_differs, owner_twice}
use Rattle.item_checks.specs.Refusals.{Refusal, why, or_later, first_refused, first_there, cross_reasons, reasons_by}
use Rattle.described.specs.Sound.{IsSound, SoundUnless}
use Rattle.domain_plan.specs.Arguments.{AreSound}
use Rattle.frame_alloc.proofs.CommonFrames.{not_both, common_hits}

-- an item that was passed, at its place: what it takes, and that nothing is against it; the items before it stand before it
pub record IsClear (host : Host) (all : List Passed) (place : ℕ) (mine : Passed) (front : List Passed) : Type 0 where
  pub made : mine ≡ passing front mine.entry
  pub clear : why host front mine.entry ≡ None
  pub sound : IsSound (what_of mine)
  pub before : (k : ℕ) (passed : Passed) → k < place → slice_get all k ≡ Some passed → slice_get front k ≡ Some passed

front_kept : (xs ys : List Passed) (k : ℕ) → k < length xs → slice_get (xs ++ ys) k ≡ slice_get xs k
front_kept [] ys k low = absurd (omega arith)
front_kept (x ∷ xs) ys zero low = refl
front_kept (x ∷ xs) ys (suc k) low = front_kept xs ys k (omega arith)

pub kept : (before : List Passed) (entries : List Entry) (k : ℕ) → k < length before → slice_get (all_passed before entries) k ≡ slice_get before k
unfolding all_passed
kept before [] k low = refl
kept before (entry ∷ entries) k low =
    let long : k < length (before ++ passing before entry ∷ []) = omega (arith, length-append before (passing before entry ∷ [])) in
    kept (before ++ passing before entry ∷ []) entries k long ∙ front_kept before (passing before entry ∷ []) k low

pub seam : (xs : List Passed) (x : Passed) → slice_get (xs ++ x ∷ []) (length xs) ≡ Some x
seam [] x = refl
seam (y ∷ ys) x = seam ys x

pub no_reason : (own cross : Option Why) → option_or own cross ≡ None → (own ≡ None) × (cross ≡ None)
no_reason None cross is = (refl, is)
no_reason (Some reason) cross is = absurd cc

pub clear_first : (item : Item) (reason : Option Why) (later : Option Refusal) → or_later item reason later ≡ None → (reason ≡ None) × (later ≡ None)
clear_first item None later is = (refl, is)
clear_first item (Some reason) later is = absurd cc

sound_first : (own : Option Why) (what : What) (later : Type 0) → own ≡ None → SoundUnless own what later → IsSound what × later
sound_first None what later is sound = sound
sound_first (Some reason) what later is sound = absurd cc

pub all_clear : (host : Host) (before : List Passed) (entries : List Entry) → first_refused host before entries ≡ None → AreSound entries →
    (place : ℕ) (mine : Passed) → length before ≤ place → slice_get (all_passed before entries) place ≡ Some mine → (front : List Passed) × IsClear host (all_passed before entries) place mine front
unfolding all_passed first_refused
all_clear host before [] none sound place mine low at = absurd (none-some _ (sym (past before place low) ∙ at))
  where
    past : (xs : List Passed) (k : ℕ) → length xs ≤ k → slice_get xs k ≡ None
    past [] k low = refl
    past (x ∷ xs) zero low = absurd (omega arith)
    past (x ∷ xs) (suc k) low = past xs k (omega arith)
all_clear host before (entry ∷ entries) none sound place mine low at =
    let parts = clear_first entry.described.item (why host before entry) (first_refused host (before ++ passing before entry ∷ []) entries) none in
    let own = no_reason entry.described.own (first_there (cross_reasons host before (passing before entry))) parts.0 in
    let sounds = sound_first entry.described.own entry.described.what (AreSound entries) own.0 sound in
    by_place parts.0 sounds.0 (here_or_later (length before) place low) (λ above. all_clear host (before ++ passing before entry ∷ []) entries parts.1 sounds.1 place mine above at)
  where
    here_or_later : (a b : ℕ) → a ≤ b → (b ≡ a) ⊎ (a < b)
    here_or_later a b le = grind arith

    by_place : why host before entry ≡ None → IsSound entry.described.what → (place ≡ length before) ⊎ (length before < place) →
        (length (before ++ passing before entry ∷ []) ≤ place → (front : List Passed) × IsClear host (all_passed (before ++ passing before entry ∷ []) entries) place mine front) →
        (front : List Passed) × IsClear host (all_passed (before ++ passing before entry ∷ []) entries) place mine front
    by_place clear ok (inr above) later = later (omega (arith, length-append before (passing before entry ∷ [])))
    by_place clear ok (inl here) later =
        let long : length before < length (before ++ passing before entry ∷ []) = omega (arith, length-append before (passing before entry ∷ [])) in
        let found : slice_get (all_passed (before ++ passing before entry ∷ []) entries) place ≡ Some (passing before entry) =
        ap (slice_get (all_passed (before ++ passing before entry ∷ []) entries)) here ∙ kept (before ++ passing before entry ∷ []) entries (length before) long ∙ seam before (passing before entry) in
        let same : passing before entry ≡ mine = same_Some (passing before entry) mine (sym found ∙ at) in (
          before,
          subst (λ (one : Passed). IsClear host (all_passed (before ++ passing before entry ∷ []) entries) place one before) same (record {
            made = refl;
            clear = clear;
            sound = ok;
            before = λ k passed below there.
                let under : k < length before = omega arith in
                let more : k < length (before ++ passing before entry ∷ []) = omega arith in
                sym (front_kept before (passing before entry ∷ []) k under) ∙ sym (kept (before ++ passing before entry ∷ []) entries k more) ∙ there;
          }),
        )

-- no item of a list meets a test that finds none
pub none_found : (test : Passed → Bool) (xs : List Passed) (k : ℕ) (p : Passed) → find test xs ≡ None → slice_get xs k ≡ Some p → test p ≡ false
none_found test [] k p none at = absurd (none-some _ at)
none_found test (x ∷ xs) k p none at = by_test (test x) refl none k at (λ rest j there. none_found test xs j p rest there)
  where
    by_test : (b : Bool) → test x ≡ b → cond b (Some x) (find test xs) ≡ None → (k : ℕ) → slice_get (x ∷ xs) k ≡ Some p → (find test xs ≡ None → (j : ℕ) → slice_get xs j ≡ Some p → test p ≡ false) → test p ≡ false
    by_test true is e k there later = absurd cc
    by_test false is e zero there later = ap test (sym (same_Some x p there)) ∙ is
    by_test false is e (suc j) there later = later e j there

pub not_named : (test : Passed → Bool) (name : Item → Why) (xs : List Passed) → naming_first test name xs ≡ None → find test xs ≡ None
not_named test name xs none = by_found (find test xs) none
  where
    by_found : (o : Option Passed) → option_map (λ (passed : Passed). name (item_of passed)) o ≡ None → o ≡ None
    by_found None e = refl
    by_found (Some p) e = absurd cc

-- an item that maps pages to frames from its own address on
abbrev pub is_mapping : What → Bool
is_mapping (whats.Static at) = true
is_mapping (whats.Range host size guest) = true
is_mapping (whats.Shared id host guest size owner) = true
is_mapping _ = false

or_none : (a b : Option Why) → option_or a b ≡ None → (a ≡ None) × (b ≡ None)
or_none None b is = (refl, is)
or_none (Some x) b is = absurd cc

-- nothing against it: so it overlaps nothing
pub lands : (host : Host) (front : List Passed) (mine : Passed) → is_mapping (what_of mine) ≡ true → first_there (cross_reasons host front mine) ≡ None → (host_overlap front mine ≡ None) × (guest_overlap host front mine ≡ None)
lands host front mine mapping none = by_what (what_of mine) refl mapping
  where
    at_static : (a b c : Option Why) → option_or a (option_or b (option_or c None)) ≡ None → (b ≡ None) × (c ≡ None)
    at_static a b c is = let h = or_none a (option_or b (option_or c None)) is in let k = or_none b (option_or c None) h.1 in (k.0, (or_none c None k.1).0)

    at_range : (b c : Option Why) → option_or b (option_or c None) ≡ None → (b ≡ None) × (c ≡ None)
    at_range b c is = let k = or_none b (option_or c None) is in (k.0, (or_none c None k.1).0)

    at_shared : (x y z a b c : Option Why) → option_or x (option_or y (option_or z (option_or a (option_or b (option_or c None))))) ≡ None → (b ≡ None) × (c ≡ None)
    at_shared x y z a b c is =
        let h = or_none x _ is in let i = or_none y _ h.1 in let j = or_none z _ i.1 in at_static a b c j.1

    by_what : (what : What) → what_of mine ≡ what → is_mapping what ≡ true → (host_overlap front mine ≡ None) × (guest_overlap host front mine ≡ None)
    by_what (whats.Static at) is m = at_static (not_ram host.ram mine) (host_overlap front mine) (guest_overlap host front mine) (sym (ap (λ (w : What). first_there (reasons_by host front mine w)) is) ∙ none)
    by_what (whats.Range from size guest) is m = at_range (host_overlap front mine) (guest_overlap host front mine) (sym (ap (λ (w : What). first_there (reasons_by host front mine w)) is) ∙ none)
    by_what (whats.Shared id from guest size owner) is m =
        at_shared (shm_twice front mine) (shm_differs front mine) (owner_twice front mine) (not_ram host.ram mine) (host_overlap front mine) (guest_overlap host front mine) (sym (ap (λ (w : What). first_there (reasons_by host front mine w)) is) ∙ none)
    by_what _ is m = absurd cc

-- of two items that claim one frame, the later of which maps pages, both are of one region
pub one_region : (host : Host) (all : List Passed) (j k : ℕ) (earlier later : Passed) (front : List Passed) (frame : ℕ) → j < k → slice_get all j ≡ Some earlier → IsClear host all k later front →
    is_mapping (what_of later) ≡ true → holds earlier.claims frame ≡ true → holds later.claims frame ≡ true → are_one_region (what_of later) (what_of earlier) ≡ true
one_region host all j k earlier later front frame low at clear mapping one other =
    let reasons = no_reason later.entry.described.own (first_there (cross_reasons host front (passing front later.entry))) clear.clear in
    let cross : first_there (cross_reasons host front later) ≡ None = subst (λ (one : Passed). first_there (cross_reasons host front one) ≡ None) (sym clear.made) reasons.1 in
    let land = lands host front later mapping cross in
    let missed : blocks later earlier ≡ false = none_found (blocks later) front j earlier (not_named (blocks later) whys.HostOverlap front land.0) (clear.before j earlier low at) in
    by_test (are_one_region (what_of later) (what_of earlier)) (have_common earlier.claims later.claims) (common_hits earlier.claims later.claims frame one other) missed
  where
    by_test : (b c : Bool) → c ≡ true → (not b && c) ≡ false → b ≡ true
    by_test true c common miss = refl
    by_test false c common miss = not_both _ common miss

-- two items of one guest fill no page both, where the later maps pages
pub pages_apart : (host : Host) (all : List Passed) (j k number : ℕ) (earlier later : Passed) (front : List Passed) (page : ℕ) → j < k → slice_get all j ≡ Some earlier → IsClear host all k later front →
    is_mapping (what_of later) ≡ true → later.entry.guest ≡ Some number → belongs_to (Some number) earlier ≡ true → holds earlier.pages page ≡ true → holds later.pages page ≡ true → ⊥
pages_apart host all j k number earlier later front page low at clear mapping of_guest belongs one other =
    let reasons = no_reason later.entry.described.own (first_there (cross_reasons host front (passing front later.entry))) clear.clear in
    let cross : first_there (cross_reasons host front later) ≡ None = subst (λ (one : Passed). first_there (cross_reasons host front one) ≡ None) (sym clear.made) reasons.1 in
    let land = lands host front later mapping cross in
    by_layout (have_common (area_pages (layout_at host front later.entry.guest)) later.pages) land.1 (clear.before j earlier low at)
  where
    by_layout : (b : Bool) → cond b (Some (whys.GuestOverlap layout)) (naming_first (fills later) whys.GuestOverlap front) ≡ None → slice_get front j ≡ Some earlier → ⊥
    by_layout true is there = absurd cc
    by_layout false is there =
        let missed : fills later earlier ≡ false = none_found (fills later) front j earlier (not_named (fills later) whys.GuestOverlap front is) there in
        let here : belongs_to later.entry.guest earlier ≡ true = ap (λ (guest : Option ℕ). belongs_to guest earlier) of_guest ∙ belongs in
        let met : fills later earlier ≡ true = rw (here, common_hits earlier.pages later.pages page one other) refl in
        not_both _ met missed
