-- Where no item is refused and every guest drew, each guest's plan can be made.
use Rattle.std.proofs.Common.{◌≡◌, ℕ, zero, suc, ◌+◌, ◌^◌, ◌<◌, ◌≤◌, Bool, List, [], ◌∷◌, ◌++◌, length, get_or, map, Option, Some, None, Result, Ok, Err, All, refl, sym, ap, subst, ◌∙◌, arith}
use Rattle.std.specs.Prelude.{slice_get, option_map}
use Rattle.std.proofs.Common.{Vec, Global, take}
use Rattle.std.proofs.lemmas.List.{map-append, length-map, take_more, length-take-le, take_all}
use Rattle.std.proofs.lemmas.Option.{same_Some, slice_get-map}
use Rattle.texts.specs.declared.ranges.FrameRange.{FrameRange}
use Rattle.described.specs.declared.item.Described.{Described}
use Rattle.described.specs.declared.why.Why.TheVariants.{NoRam}
use Rattle.item_checks.specs.declared.guests.Guest.{Guest}
use Rattle.domain_bindings.specs.declared.host.Host.{Host}
use Rattle.described.specs.declared.loaded.Loaded.{Loaded}
use Rattle.domain_plan.specs.declared.planned.GuestPlan.{GuestPlan}
use Rattle.item_checks.specs.Entries.{joined, of_guest, is_read, items_of}
use Rattle.item_checks.specs.Taken.{Passed, passed_of, total}
use Rattle.item_checks.specs.Refusals.{Refusal, first_refused}
use Rattle.domain_plan.specs.Draws.{Drawn, Heaps, drawn, heaps, and_drawn, heap_item}
use Rattle.described.specs.Sound.{IsSound}
use Rattle.domain_plan.specs.Arguments.{AreRead, IsSoundGuest}
use Rattle.domain_plan.specs.PrivateLaying.{AreApart}
use Rattle.domain_plan.specs.Plans.{IsGuestPlan, AreGuestPlans}
use Rattle.domain_plan.specs.PrivateGiving.{IsReady}
use Rattle.frame_alloc.specs.Frames.{AreFrames}
use Rattle.domain_plan.proofs.HeadLemmas.{heaps_total, no_own}
use Rattle.domain_plan.proofs.GuestsLaw.{guests_apart, sound_guest}
use Rattle.domain_plan.proofs.OwnItems.{own_entries, own_passed, own_items, same_ranges}
use Rattle.domain_plan.proofs.LowRanges.{AllSound, own_sound, few_pages, drawn_low, guest_low}

each_sound : (number : ℕ) (read : Bool) (items : List Described) → AllSound (of_guest number read items) → All (λ (described : Described). IsSound described.what) items
each_sound number read [] sound k d low = absurd (omega arith)
each_sound number read (item ∷ items) sound zero d low = sound.0
each_sound number read (item ∷ items) sound (suc k) d low = each_sound number read items sound.1 k d (omega arith)

pub ready : (host : Host) (loads : List Loaded) (guests : List Guest) (all : Heaps) → AreRead host loads guests → first_refused host [] (joined host loads guests) ≡ None → (free : List ℕ) → AreFrames free → heaps guests free ≡ Ok all →
    (number : ℕ) (guest : Guest) (frames : List FrameRange) → slice_get guests number ≡ Some guest → slice_get all.drawn number ≡ Some frames → IsReady number guest (items_of guest) frames
ready host loads guests all read none free ascending drew number guest frames at at_drawn =
    let sound : AllSound (own_entries number guest) = own_sound host loads guests number guest (no_own host [] (joined host loads guests) none) read.items at in
    let own : IsSoundGuest guest = sound_guest host loads guests read none number guest at in
    let few : guest.domain.pages ≤ 2 ^ 22 = few_pages number guest sound own in
    let amount = heaps_total guests free all number frames drew at_drawn in
    let same : amount.0 ≡ guest = same_Some amount.0 guest (sym amount.1 ∙ at) in
    let pages : total frames ≡ guest.domain.pages = amount.2 ∙ ap (λ (one : Guest). one.domain.pages) same in
    let few_drawn : total frames ≤ 2 ^ 22 = omega arith in
    let low = drawn_low guests free all number frames ascending drew at_drawn in
    record {
      sound = each_sound number (is_read guest.partial) (items_of guest) sound;
      few = few;
      few_drawn = few_drawn;
      low = low;
      apart = subst AreApart (same_ranges number (passed_of host loads guests) (own_passed number guest) frames (own_items host loads guests number guest at)) (guests_apart host loads guests all read none free drew number frames at_drawn);
      low_ranges = guest_low number guest frames sound own few_drawn low;
    }

-- as many guests drew as there are
pub drawn_length : (guests : List Guest) (free : List ℕ) (all : Heaps) → heaps guests free ≡ Ok all → length all.drawn ≡ length guests
unfolding heaps
drawn_length [] free all is =
    let given : Heaps = record { drawn = []; left = free } in
    let same : given ≡ all = cc in
    ap (λ (one : Heaps). length one.drawn) (sym same)
drawn_length (guest ∷ guests) free all is = by_first (drawn guest.domain.pages free) (λ more later e. drawn_length guests more later e) is
  where
    by_later : (one : Drawn) (o : Result Heaps Refusal) → ((later : Heaps) → o ≡ Ok later → length later.drawn ≡ length guests) → and_drawn one.frames o ≡ Ok all → length all.drawn ≡ suc (length guests)
    by_later one (Err refusal) told e = absurd cc
    by_later one (Ok later) told e =
        let given : Heaps = record { drawn = one.frames ∷ later.drawn; left = later.left } in
        let same : given ≡ all = cc in
        ap (λ (h : Heaps). length h.drawn) (sym same) ∙ ap suc (told later refl)

    by_first : (o : Option Drawn) → ((more : List ℕ) (later : Heaps) → heaps guests more ≡ Ok later → length later.drawn ≡ length guests) →
        (elim o as (λ _. Result Heaps Refusal) [ None ↦ Err (heap_item guest, NoRam guest.domain.pages (length free)) | Some one ↦ and_drawn one.frames (heaps guests one.left) ]) ≡ Ok all → length all.drawn ≡ suc (length guests)
    by_first None told e = absurd cc
    by_first (Some one) told e = by_later one (heaps guests one.left) (λ later is. told one.left later is) e

-- an item at its place
pub item_at : {X : Type 0} (xs : List X) (i : ℕ) (x : X) → i < length xs → x ≡ get_or xs i x → slice_get xs i ≡ Some x
item_at [] i x low is = absurd (omega arith)
item_at (y ∷ ys) zero x low is = ap Some (sym is)
item_at (y ∷ ys) (suc i) x low is = item_at ys i x (omega arith) is

-- one guest's plan more
pub plans_more : (host : Host) (passed : List Passed) (number : ℕ) (gs : List Guest) (ds : List (List FrameRange)) (ps : List GuestPlan) (at : ℕ) (g : Guest) (d : List FrameRange) (p : GuestPlan) → AreGuestPlans host passed number gs ds ps → number + length gs ≡ at → IsGuestPlan host passed at g d p →
    AreGuestPlans host passed number (gs ++ g ∷ []) (ds ++ d ∷ []) (ps ++ p ∷ [])
plans_more host passed number [] [] [] at g d p are here plan = (subst (λ (n : ℕ). IsGuestPlan host passed n g d p) (let e : at ≡ number = omega arith in e) plan, tt)
plans_more host passed number (x ∷ gs) (y ∷ ds) (z ∷ ps) at g d p are here plan = (are.0, plans_more host passed (number + 1) gs ds ps at g d p are.1 (omega arith) plan)
plans_more host passed number [] [] (z ∷ ps) at g d p are here plan = absurd are
plans_more host passed number [] (y ∷ ds) [] at g d p are here plan = absurd are
plans_more host passed number [] (y ∷ ds) (z ∷ ps) at g d p are here plan = absurd are
plans_more host passed number (x ∷ gs) [] [] at g d p are here plan = absurd are
plans_more host passed number (x ∷ gs) [] (z ∷ ps) at g d p are here plan = absurd are
plans_more host passed number (x ∷ gs) (y ∷ ds) [] at g d p are here plan = absurd are

-- what the guest at a place drew
pub drawn_at : (ds : List (Vec FrameRange Global)) (i : ℕ) (d : Vec FrameRange Global) (frames : List FrameRange) → i < length ds → d ≡ get_or ds i d → frames ≡ d.items → slice_get (map (λ (one : Vec FrameRange Global). one.items) ds) i ≡ Some frames
drawn_at ds i d frames low is same =
    slice_get-map (λ (one : Vec FrameRange Global). one.items) ds i ∙ ap (option_map (λ (one : Vec FrameRange Global). one.items)) (item_at ds i d low is) ∙ ap Some (sym same)

-- as many as were drawn
pub as_many : (ds : List (Vec FrameRange Global)) (guests : List Guest) (free left : List ℕ) → heaps guests free ≡ Ok (record { drawn = map (λ (one : Vec FrameRange Global). one.items) ds; left = left }) → length ds ≡ length guests
as_many ds guests free left is = sym (length-map ds (λ (one : Vec FrameRange Global). one.items)) ∙ drawn_length guests free (record { drawn = map (λ (one : Vec FrameRange Global). one.items) ds; left = left }) is

-- the plans up to a place, and one more
pub plans_next : (host : Host) (passed : List Passed) (guests : List Guest) (ds : List (Vec FrameRange Global)) (i : ℕ) (g : Guest) (d : Vec FrameRange Global) (frames : List FrameRange) (plans new : List GuestPlan) (p : GuestPlan) →
    i < length guests → i < length ds → g ≡ get_or guests i g → d ≡ get_or ds i d → frames ≡ d.items → new ≡ plans ++ p ∷ [] →
    AreGuestPlans host passed 0 (take i guests) (map (λ (one : Vec FrameRange Global). one.items) (take i ds)) plans → IsGuestPlan host passed i g frames p →
    AreGuestPlans host passed 0 (take (i + 1) guests) (map (λ (one : Vec FrameRange Global). one.items) (take (i + 1) ds)) new
plans_next host passed guests ds i g d frames plans new p low low_ds g_is d_is same pushed are plan =
    let gs : take (i + 1) guests ≡ take i guests ++ g ∷ [] = take_more guests i g low ∙ ap (λ (one : Guest). take i guests ++ one ∷ []) (sym g_is) in
    let ones : take (i + 1) ds ≡ take i ds ++ d ∷ [] = take_more ds i d low_ds ∙ ap (λ (one : Vec FrameRange Global). take i ds ++ one ∷ []) (sym d_is) in
    let frames_of : map (λ (one : Vec FrameRange Global). one.items) (take (i + 1) ds) ≡ map (λ (one : Vec FrameRange Global). one.items) (take i ds) ++ frames ∷ [] =
    ap (map (λ (one : Vec FrameRange Global). one.items)) ones ∙ map-append (λ (one : Vec FrameRange Global). one.items) (take i ds) (d ∷ [])
    ∙ ap (λ (xs : List FrameRange). map (λ (one : Vec FrameRange Global). one.items) (take i ds) ++ xs ∷ []) (sym same) in
    let few : i ≤ length guests = omega arith in
    let count : 0 + length (take i guests) ≡ i = let e : length (take i guests) ≡ i = length-take-le i guests few in omega arith in
    subst (λ (xs : List Guest). AreGuestPlans host passed 0 xs (map (λ (one : Vec FrameRange Global). one.items) (take (i + 1) ds)) new) (sym gs)
    (subst (λ (xs : List (List FrameRange)). AreGuestPlans host passed 0 (take i guests ++ g ∷ []) xs new) (sym frames_of)
    (subst (λ (xs : List GuestPlan). AreGuestPlans host passed 0 (take i guests ++ g ∷ []) (map (λ (one : Vec FrameRange Global). one.items) (take i ds) ++ frames ∷ []) xs) (sym pushed)
    (plans_more host passed 0 (take i guests) (map (λ (one : Vec FrameRange Global). one.items) (take i ds)) plans i g frames p are count plan)))

-- all plans
pub plans_all : (host : Host) (passed : List Passed) (guests : List Guest) (ds : List (Vec FrameRange Global)) (i : ℕ) (plans : List GuestPlan) → length guests ≤ i → length ds ≤ i →
    AreGuestPlans host passed 0 (take i guests) (map (λ (one : Vec FrameRange Global). one.items) (take i ds)) plans → AreGuestPlans host passed 0 guests (map (λ (one : Vec FrameRange Global). one.items) ds) plans
plans_all host passed guests ds i plans past past_ds are =
    subst (λ (xs : List Guest). AreGuestPlans host passed 0 xs (map (λ (one : Vec FrameRange Global). one.items) ds) plans) (take_all i guests past)
    (subst (λ (xs : List (Vec FrameRange Global)). AreGuestPlans host passed 0 (take i guests) (map (λ (one : Vec FrameRange Global). one.items) xs) plans) (take_all i ds past_ds) are)
