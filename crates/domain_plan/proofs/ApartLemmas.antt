-- That guests are apart.
use Rattle.std.proofs.Common.{◌≡◌, ℕ, zero, suc, ◌+◌, ◌<◌, ◌≤◌, ◌⊎◌, ◌&&◌, not, Bool, true, false, cond, List, [], ◌∷◌, Option, Some, None, Result, Ok, Err, refl, sym, ap, ◌∙◌, arith, inl, inr}
use Rattle.std.specs.Prelude.{slice_get, ◌==◌, filter}
use Rattle.std.specs.List.{list_any}
use Rattle.std.proofs.lemmas.Option.{same_Some, none-some}
use Rattle.std.proofs.lemmas.Bool.Decides.{eqb_tells}
use Rattle.std.proofs.lemmas.Slice.Eq.{bytes_eq-Decides}
use Rattle.texts.specs.Consecutive.{is_in}
use Rattle.described.specs.Maps.{Target, target_of}
use Rattle.texts.specs.declared.ranges.FrameRange.{FrameRange}
use Rattle.described.specs.declared.map_range.Kind.TheVariants.{Ram, Shared}
use Rattle.described.specs.declared.item.What.{What}
use Rattle.described.specs.declared.item.What.TheVariants as whats
use Rattle.frame_alloc.specs.Frames.{frames_in, AreFrames, AreFramesFrom, AreFrameRanges}
use Rattle.frame_alloc.proofs.FreeFrames.{is_in_nil, is_in_cons, AreFramesFrom-weaker}
use Rattle.frame_alloc.proofs.AscendingFrames.{AreFrames-frames_in}
use Rattle.item_checks.specs.declared.guests.Guest.{Guest}
use Rattle.domain_bindings.specs.declared.host.Host.{Host}
use Rattle.described.specs.declared.loaded.Loaded.{Loaded}
use Rattle.frame_alloc.specs.Ranges.{holds}
use Rattle.item_checks.specs.Entries.{Entry, joined}
use Rattle.item_checks.specs.Taken.{Passed, what_of, belongs_to, all_passed, passed_of}
use Rattle.item_checks.specs.Reasons.{are_one_region}
use Rattle.item_checks.specs.Refusals.{Refusal, first_refused}
use Rattle.domain_plan.specs.Draws.{Heaps, is_claimed, free_frames, heaps}
use Rattle.domain_plan.specs.GuestMaps.{guest_ranges}
use Rattle.domain_plan.specs.Arguments.{AreSound}
use Rattle.domain_plan.specs.Regions.{Runs, requests, runs_drawn}
use Rattle.domain_plan.specs.Plans.{Draws, and_heaps, draws_after, draws, outcome, unless_refused}
use Rattle.domain_plan.specs.Apart.{is_in_one_region, MeetWhereShared}
use Rattle.frame_alloc.proofs.CommonFrames.{true_or_false, not_both, or_tells, or_left, or_right}
use Rattle.domain_plan.proofs.DrawLemmas.{AreDraws, heaps_tell}
use Rattle.domain_plan.proofs.ClearLemmas.{IsClear, all_clear, one_region}
use Rattle.domain_plan.proofs.MapLemmas.{IsMapped, item_tells, kind_of, IsMappedByItem, guest_tells}

-- a frame that passes the test and is in the list
pub is_in-filter : (p : ℕ → Bool) (xs : List ℕ) (x : ℕ) → is_in (filter p xs) x ≡ true → p x ≡ true
is_in-filter p [] x h = absurd (not_both _ h (is_in_nil x))
is_in-filter p (y ∷ ys) x h = by_test (p y) refl h (λ e. is_in-filter p ys x e)
  where
    by_test : (b : Bool) → p y ≡ b → is_in (cond b (y ∷ filter p ys) (filter p ys)) x ≡ true → (is_in (filter p ys) x ≡ true → p x ≡ true) → p x ≡ true
    by_test false is e later = later e
    by_test true is e later = by_head (or_tells (y == x) (is_in (filter p ys) x) (sym (is_in_cons x y (filter p ys)) ∙ e)) (eqb_tells y x)
      where
        by_head : ((y == x) ≡ true) ⊎ (is_in (filter p ys) x ≡ true) → (((y == x) ≡ true) × (y ≡ x)) ⊎ (((y == x) ≡ false) × (y ≡ x → ⊥)) → p x ≡ true
        by_head (inr deep) _ = later deep
        by_head (inl here) (inl k) = ap p (sym k.1) ∙ is
        by_head (inl here) (inr k) = not_both _ here k.0

any_at : (test : Passed → Bool) (xs : List Passed) (k : ℕ) (p : Passed) → slice_get xs k ≡ Some p → test p ≡ true → list_any test xs ≡ true
any_at test [] k p at h = absurd (none-some _ at)
any_at test (x ∷ xs) zero p at h = or_left (test x) (list_any test xs) (ap test (same_Some x p at) ∙ h)
any_at test (x ∷ xs) (suc k) p at h = or_right (test x) (list_any test xs) (any_at test xs k p at h)

-- a free frame is claimed by no item
pub free_unclaimed : (ram : List FrameRange) (passed : List Passed) (frame k : ℕ) (p : Passed) → is_in (free_frames ram passed) frame ≡ true → slice_get passed k ≡ Some p → holds p.claims frame ≡ true → ⊥
unfolding free_frames
free_unclaimed ram passed frame k p free at claims =
    not_both (is_claimed passed frame) (any_at (λ (one : Passed). holds one.claims frame) passed k p at claims) (turned (is_claimed passed frame) (is_in-filter (λ (one : ℕ). not (is_claimed passed one)) (frames_in ram) frame free))
  where
    turned : (b : Bool) → not b ≡ true → b ≡ false
    turned true h = absurd cc
    turned false h = refl

ascending_filter : (p : ℕ → Bool) (frames : List ℕ) (start : ℕ) → AreFramesFrom start frames → AreFramesFrom start (filter p frames)
ascending_filter p [] start ok = tt
ascending_filter p (x ∷ xs) start ok = choose (p x) (ascending_filter p xs (x + 1) ok.2)
  where
    choose : (b : Bool) → AreFramesFrom (x + 1) (filter p xs) → AreFramesFrom start (cond b (x ∷ filter p xs) (filter p xs))
    choose true rest = (ok.0, ok.1, rest)
    choose false rest = AreFramesFrom-weaker (filter p xs) start (x + 1) (let h : start ≤ x = ok.0 in omega arith) rest

pub free_ascending : (ram : List FrameRange) (passed : List Passed) → AreFrameRanges ram → AreFrames (free_frames ram passed)
unfolding free_frames
free_ascending ram passed sorted = ascending_filter (λ frame. not (is_claimed passed frame)) (frames_in ram) 0 (AreFrames-frames_in ram sorted)

-- two regions of one id are both shared, either way round
region_kinds : (a b : What) → are_one_region a b ≡ true → (kind_of a ≡ Shared) × (kind_of b ≡ Shared)
region_kinds (whats.Shared id host guest size owner) (whats.Shared other_id other_host other_guest other_size other_owner) h = (refl, refl)
region_kinds (whats.Shared id host guest size owner) _ h = absurd cc
region_kinds _ b h = absurd cc

region_turned : (a b : What) → are_one_region a b ≡ true → are_one_region b a ≡ true
region_turned (whats.Shared id host guest size owner) (whats.Shared other_id other_host other_guest other_size other_owner) h = (bytes_eq-Decides other_id id).1 (sym ((bytes_eq-Decides id other_id).0 h))
region_turned (whats.Shared id host guest size owner) _ h = absurd cc
region_turned _ b h = absurd cc

not_two : (one other : ℕ) (p q : Passed) → (one ≡ other → ⊥) → belongs_to (Some one) p ≡ true → belongs_to (Some other) q ≡ true → p ≡ q → ⊥
not_two one other p q apart mine theirs same = by_guest p.entry.guest refl
  where
    by_guest : (g : Option ℕ) → p.entry.guest ≡ g → ⊥
    by_guest None is = not_both false (sym (ap (λ (guest : Option ℕ). elim guest as (λ _. Bool) [ None ↦ false | Some number ↦ number == one ]) is) ∙ mine) refl
    by_guest (Some number) is =
        let a : (number == one) ≡ true = sym (ap (λ (guest : Option ℕ). elim guest as (λ _. Bool) [ None ↦ false | Some n ↦ n == one ]) is) ∙ mine in
        let q_is : q.entry.guest ≡ Some number = ap (λ (x : Passed). x.entry.guest) (sym same) ∙ is in
        let b : (number == other) ≡ true = sym (ap (λ (guest : Option ℕ). elim guest as (λ _. Bool) [ None ↦ false | Some n ↦ n == other ]) q_is) ∙ theirs in
        by_numbers number a b (eqb_tells number one) (eqb_tells number other)
      where
        by_numbers : (number : ℕ) → (number == one) ≡ true → (number == other) ≡ true → (((number == one) ≡ true) × (number ≡ one)) ⊎ (((number == one) ≡ false) × (number ≡ one → ⊥)) → (((number == other) ≡ true) × (number ≡ other)) ⊎ (((number == other) ≡ false) × (number ≡ other → ⊥)) → ⊥
        by_numbers number a b (inl h) (inl k) = apart (sym h.1 ∙ k.1)
        by_numbers number a b (inl h) (inr k) = not_both _ b k.0
        by_numbers number a b (inr h) k = not_both _ a h.0

-- the parts of an outcome without a refusal
pub record Drew (host : Host) (loads : List Loaded) (guests : List Guest) (all : Draws) : Type 0 where
  pub none : first_refused host [] (joined host loads guests) ≡ None
  pub left : List ℕ
  pub ran : runs_drawn (requests [] (passed_of host loads guests)) (free_frames host.ram (passed_of host loads guests)) ≡ Ok (record { runs = all.runs; left = left })
  pub drew : heaps guests left ≡ Ok all.heaps

pub draws_tell : (guests : List Guest) (o : Result Runs Refusal) (all : Draws) → draws_after guests o ≡ Ok all → (left : List ℕ) × (o ≡ Ok (record { runs = all.runs; left = left })) × (heaps guests left ≡ Ok all.heaps)
draws_tell guests (Err refusal) all is = absurd cc
draws_tell guests (Ok runs) all is = by_heaps (heaps guests runs.left) refl is
  where
    found : Result Runs Refusal
    found = Ok runs

    by_heaps : (o : Result Heaps Refusal) → heaps guests runs.left ≡ o → and_heaps runs.runs o ≡ Ok all → (left : List ℕ) × (found ≡ Ok (record { runs = all.runs; left = left })) × (heaps guests left ≡ Ok all.heaps)
    by_heaps (Err refusal) drew e = absurd cc
    by_heaps (Ok more) drew e =
        let given : Draws = record { runs = runs.runs; heaps = more } in
        let same : given ≡ all = cc in
        (runs.left, ap (λ (one : Draws). Ok (record { runs = one.runs; left = runs.left })) same, drew ∙ ap (λ (one : Draws). Ok one.heaps) same)

pub outcome_tells : (host : Host) (loads : List Loaded) (guests : List Guest) (all : Draws) → outcome host loads guests ≡ Ok all → Drew host loads guests all
unfolding outcome
outcome_tells host loads guests all is = by_refused (first_refused host [] (joined host loads guests)) refl is
  where
    by_refused : (o : Option Refusal) → first_refused host [] (joined host loads guests) ≡ o → unless_refused o (draws guests host.ram (passed_of host loads guests)) ≡ Ok all → Drew host loads guests all
    by_refused None e told =
        let parts = draws_tell guests (runs_drawn (requests [] (passed_of host loads guests)) (free_frames host.ram (passed_of host loads guests))) all told in
        record { none = e; left = parts.0; ran = parts.1; drew = parts.2 }
    by_refused (Some refusal) e told = absurd cc

-- two items of two guests that map one frame are one shared region
items_meet : (host : Host) (entries : List Entry) → first_refused host [] entries ≡ None → AreSound entries → (one other page other_page : ℕ) (target other_target : Target) → (one ≡ other → ⊥) →
    IsMappedByItem (all_passed [] entries) one page target → IsMappedByItem (all_passed [] entries) other other_page other_target → target.frame ≡ other_target.frame →
    MeetWhereShared (all_passed [] entries) one other target other_target
items_meet host entries none sound one other page other_page target other_target apart mine theirs same =
    let here = all_clear host [] entries none sound mine.place mine.mine (omega arith) mine.at in
    let there = all_clear host [] entries none sound theirs.place theirs.mine (omega arith) theirs.at in
    let a = item_tells host (all_passed [] entries) mine.place mine.mine here.0 page target here.1 mine.mapped in
    let b = item_tells host (all_passed [] entries) theirs.place theirs.mine there.0 other_page other_target there.1 theirs.mapped in
    let their_frame : holds theirs.mine.claims target.frame ≡ true = ap (holds theirs.mine.claims) same ∙ b.claimed in
    by_order (order mine.place theirs.place) here.0 here.1 there.0 there.1 a b their_frame
  where
    order : (j k : ℕ) → (j < k) ⊎ (k < j) ⊎ (j ≡ k)
    order j k = grind arith

    shared : are_one_region (what_of mine.mine) (what_of theirs.mine) ≡ true → IsMapped mine.mine page target → IsMapped theirs.mine other_page other_target → holds theirs.mine.claims target.frame ≡ true →
        MeetWhereShared (all_passed [] entries) one other target other_target
    shared region a b their_frame =
        let kinds = region_kinds (what_of mine.mine) (what_of theirs.mine) region in
        let inner : list_any (λ (q : Passed). belongs_to (Some other) q && are_one_region (what_of mine.mine) (what_of q) && holds q.claims target.frame) (all_passed [] entries) ≡ true =
        any_at (λ (q : Passed). belongs_to (Some other) q && are_one_region (what_of mine.mine) (what_of q) && holds q.claims target.frame) (all_passed [] entries) theirs.place theirs.mine theirs.at (all_three _ _ _ theirs.belongs region their_frame) in
        let outer : is_in_one_region (all_passed [] entries) one other target.frame ≡ true =
        any_at (λ (p : Passed). belongs_to (Some one) p && holds p.claims target.frame && list_any (λ (q : Passed). belongs_to (Some other) q && are_one_region (what_of p) (what_of q) && holds q.claims target.frame) (all_passed [] entries))
        (all_passed [] entries) mine.place mine.mine mine.at (all_three _ _ _ mine.belongs a.claimed inner) in
        record { here = a.same_kind ∙ kinds.0; there = b.same_kind ∙ kinds.1; region = outer }
      where
        all_three : (x y z : Bool) → x ≡ true → y ≡ true → z ≡ true → (x && y && z) ≡ true
        all_three x y z h k l = rw (h, k, l) refl

    by_order : (mine.place < theirs.place) ⊎ (theirs.place < mine.place) ⊎ (mine.place ≡ theirs.place) → (front : List Passed) → IsClear host (all_passed [] entries) mine.place mine.mine front →
        (other_front : List Passed) → IsClear host (all_passed [] entries) theirs.place theirs.mine other_front → IsMapped mine.mine page target → IsMapped theirs.mine other_page other_target → holds theirs.mine.claims target.frame ≡ true →
        MeetWhereShared (all_passed [] entries) one other target other_target
    by_order (inl low) front clear other_front other_clear a b f =
        shared (region_turned (what_of theirs.mine) (what_of mine.mine) (one_region host (all_passed [] entries) mine.place theirs.place mine.mine theirs.mine other_front target.frame low mine.at other_clear b.mapping a.claimed f)) a b f
    by_order (inr (inl high)) front clear other_front other_clear a b f =
        shared (one_region host (all_passed [] entries) theirs.place mine.place theirs.mine mine.mine front target.frame high theirs.at clear a.mapping f a.claimed) a b f
    by_order (inr (inr at)) front clear other_front other_clear a b f =
        absurd (not_two one other mine.mine theirs.mine apart mine.belongs theirs.belongs (same_Some mine.mine theirs.mine (sym mine.at ∙ ap (slice_get (all_passed [] entries)) at ∙ theirs.at)))

-- a frame of the maps of two guests is shared in both
pub guests_meet : (host : Host) (entries : List Entry) (guests : List Guest) (all : Heaps) → first_refused host [] entries ≡ None → AreSound entries → (free : List ℕ) → ((frame : ℕ) → is_in free frame ≡ true → is_in (free_frames host.ram (all_passed [] entries)) frame ≡ true) → heaps guests free ≡ Ok all →
    (one other page other_page : ℕ) (drawn other_drawn : List FrameRange) (target other_target : Target) → (one ≡ other → ⊥) → slice_get all.drawn one ≡ Some drawn → slice_get all.drawn other ≡ Some other_drawn →
    target_of (guest_ranges (all_passed [] entries) one drawn) page ≡ Some target → target_of (guest_ranges (all_passed [] entries) other other_drawn) other_page ≡ Some other_target →
    target.frame ≡ other_target.frame → MeetWhereShared (all_passed [] entries) one other target other_target
guests_meet host entries guests all none sound free unclaimed drew one other page other_page drawn other_drawn target other_target apart at other_at mapped other_mapped same =
    let draws = heaps_tell guests free all drew in
    by_part draws (guest_tells (all_passed [] entries) one drawn page target mapped) (guest_tells (all_passed [] entries) other other_drawn other_page other_target other_mapped)
  where
    goal : Type 0
    goal = MeetWhereShared (all_passed [] entries) one other target other_target

    not_claimed : (frame : ℕ) → is_in free frame ≡ true → (number page : ℕ) (t : Target) → t.frame ≡ frame → IsMappedByItem (all_passed [] entries) number page t → ⊥
    not_claimed frame inside number page t at_frame item =
        let clear = all_clear host [] entries none sound item.place item.mine (omega arith) item.at in
        let m = item_tells host (all_passed [] entries) item.place item.mine clear.0 page t clear.1 item.mapped in
        free_unclaimed host.ram (all_passed [] entries) frame item.place item.mine (unclaimed frame inside) item.at (ap (holds item.mine.claims) (sym at_frame) ∙ m.claimed)

    order : (j k : ℕ) → (j ≡ k → ⊥) → (j < k) ⊎ (k < j)
    order j k ne = grind arith

    both_drawn : AreDraws free all → (one < other) ⊎ (other < one) → holds drawn target.frame ≡ true → holds other_drawn other_target.frame ≡ true → ⊥
    both_drawn draws (inl low) h k = draws.apart one other target.frame drawn other_drawn low at other_at h (ap (holds other_drawn) same ∙ k)
    both_drawn draws (inr high) h k = draws.apart other one target.frame other_drawn drawn high other_at at (ap (holds other_drawn) same ∙ k) h

    by_part : AreDraws free all → ((target.kind ≡ Ram) × (holds drawn target.frame ≡ true)) ⊎ IsMappedByItem (all_passed [] entries) one page target →
        ((other_target.kind ≡ Ram) × (holds other_drawn other_target.frame ≡ true)) ⊎ IsMappedByItem (all_passed [] entries) other other_page other_target → MeetWhereShared (all_passed [] entries) one other target other_target
    by_part draws (inl h) (inl k) = absurd (both_drawn draws (order one other apart) h.1 k.1)
    by_part draws (inl h) (inr k) = absurd (not_claimed target.frame (draws.was_free one target.frame drawn at h.1) other other_page other_target (sym same) k)
    by_part draws (inr h) (inl k) = absurd (not_claimed other_target.frame (draws.was_free other other_target.frame other_drawn other_at k.1) one page target same h)
    by_part draws (inr h) (inr k) = items_meet host entries none sound one other page other_page target other_target apart h k same

-- what is left for tables is mapped by no guest
pub left_is_unmapped : (host : Host) (entries : List Entry) (guests : List Guest) (all : Heaps) → first_refused host [] entries ≡ None → AreSound entries → (free : List ℕ) → ((frame : ℕ) → is_in free frame ≡ true → is_in (free_frames host.ram (all_passed [] entries)) frame ≡ true) → heaps guests free ≡ Ok all →
    (number page : ℕ) (drawn : List FrameRange) (target : Target) → slice_get all.drawn number ≡ Some drawn → target_of (guest_ranges (all_passed [] entries) number drawn) page ≡ Some target → is_in all.left target.frame ≡ false
left_is_unmapped host entries guests all none sound free unclaimed drew number page drawn target at mapped =
    let draws = heaps_tell guests free all drew in
    by_part draws (guest_tells (all_passed [] entries) number drawn page target mapped)
  where
    by_left : AreDraws free all → IsMappedByItem (all_passed [] entries) number page target → (is_in all.left target.frame ≡ true) ⊎ (is_in all.left target.frame ≡ false) → is_in all.left target.frame ≡ false
    by_left draws item (inr out) = out
    by_left draws item (inl inside) =
        let clear = all_clear host [] entries none sound item.place item.mine (omega arith) item.at in
        let m = item_tells host (all_passed [] entries) item.place item.mine clear.0 page target clear.1 item.mapped in
        absurd (free_unclaimed host.ram (all_passed [] entries) target.frame item.place item.mine (unclaimed target.frame (draws.left_free target.frame inside)) item.at m.claimed)

    by_part : AreDraws free all → ((target.kind ≡ Ram) × (holds drawn target.frame ≡ true)) ⊎ IsMappedByItem (all_passed [] entries) number page target → is_in all.left target.frame ≡ false
    by_part draws (inl h) = draws.not_left number target.frame drawn at h.1
    by_part draws (inr item) = by_left draws item (true_or_false (is_in all.left target.frame))
