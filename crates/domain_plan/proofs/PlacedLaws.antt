-- The laws: where no item is refused, guests are apart, and a guest's listed memory is what its map gives it as its own.
use Rattle.std.proofs.Common.{◌≡◌, ℕ, zero, suc, ◌<◌, ◌≤◌, ◌⊎◌, ◌&&◌, ◌||◌, Bool, true, false, cond, not, List, [], ◌∷◌, ◌++◌, length, map, drop, Option, Some, None, Ok, refl, sym, ap, subst, ◌∙◌, inl, inr, arith}
use Rattle.std.specs.Prelude.{slice_get, option_map, sum_by, ◌==◌}
use Rattle.std.proofs.lemmas.Bool.Decides.{eqb_tells}
use Rattle.std.specs.List.{list_any, filter}
use Rattle.std.proofs.lemmas.Option.{same_Some, none-some, slice_get-map}
use Rattle.texts.specs.Consecutive.{is_in}
use Rattle.described.specs.Sound.{IsSound}
use Rattle.texts.specs.declared.ranges.FrameRange.{FrameRange}
use Rattle.described.specs.declared.item.What.{What}
use Rattle.frame_alloc.specs.Frames.{frames_in, AreFrames}
use Rattle.frame_alloc.proofs.FreeFrames.{is_in_cons}
use Rattle.frame_alloc.specs.Ranges.{holds}
use Rattle.frame_alloc.proofs.CommonFrames.{true_or_false, not_both}
use Rattle.domain_bindings.specs.declared.host.Host.{Host}
use Rattle.described.specs.declared.loaded.Loaded.{Loaded}
use Rattle.item_checks.specs.declared.guests.Guest.{Guest}
use Rattle.item_checks.specs.Entries.{Entry, joined, of_guest, is_read, items_of}
use Rattle.item_checks.specs.Taken.{Passed, what_of, says_direct, static_pages, all_passed, passed_of}
use Rattle.item_checks.specs.Refusals.{first_refused}
use Rattle.domain_plan.specs.Draws.{Heaps, is_claimed, free_frames, heaps}
use Rattle.domain_plan.specs.GuestMaps.{guest_ranges}
use Rattle.domain_plan.specs.Arguments.{AreRead, AreSound, whats_of}
use Rattle.domain_plan.specs.Regions.{requests, runs_drawn, placed_what, placed}
use Rattle.domain_plan.specs.Plans.{Draws, placed_of, memories_of, draws}
use Rattle.domain_plan.specs.Apart.{AreApart, GuestsAreApart}
use Rattle.domain_plan.specs.Memories.{is_ram, is_listed, HasOneKindOfMemory, MemoryIsMapped}
use Rattle.domain_plan.specs.PrivateLaying.{AreApart as AreRangesApart, AreLowRanges}
use Rattle.domain_plan.specs.PrivateGiving.{IsReady}
use Rattle.domain_plan.specs.declared.runs.Run.{Run}
use Rattle.domain_plan.proofs.ApartLemmas.{Drew, draws_tell, free_ascending, free_unclaimed, outcome_tells, guests_meet, left_is_unmapped}
use Rattle.domain_plan.proofs.ClearLemmas.{all_clear}
use Rattle.domain_plan.proofs.DrawLemmas.{heaps_ascend}
use Rattle.domain_plan.proofs.FunctionLemmas.{apart_function}
use Rattle.domain_plan.proofs.GuestsLaw.{passed_at, guests_apart}
use Rattle.domain_plan.proofs.HeadLemmas.{no_own}
use Rattle.domain_plan.proofs.MemoryLaw.{memory_mapped}
use Rattle.domain_plan.proofs.OwnItems.{own_of, own_items, own_passed}
use Rattle.domain_plan.proofs.ReadyLemmas.{ready}
use Rattle.domain_plan.proofs.Placing.{kept_what, claims_at, lift, all_lift}
use Rattle.domain_plan.proofs.PlacedClear.{is_unplaced, stays, AreRunsOf, filter_was, none_placed, refused_host}
use Rattle.domain_plan.proofs.RunDraws.{AreRuns, runs_tell}
use Rattle.domain_plan.proofs.RegionRuns.{Agree, agree_all, runs_free, runs_apart, sound_placed}
use Rattle.domain_plan.proofs.PlacedGuests.{placed_items, placed_host, placed_guest, placed_guests, read_placed, items_placed, joined_placed, sound_entries, whats_of_placed, statics_placed, each_guest_sound, heaps_placed}

filter_keeps : (p : ℕ → Bool) (xs : List ℕ) (x : ℕ) → is_in xs x ≡ true → p x ≡ true → is_in (filter p xs) x ≡ true
filter_keeps p [] x there pass = there
filter_keeps p (y ∷ ys) x there pass = by_head (y == x) (eqb_tells y x) (sym (is_in_cons x y ys) ∙ there) (λ e. filter_keeps p ys x e pass)
  where
    both : (b : Bool) → is_in (filter p ys) x ≡ true → is_in (cond b (y ∷ filter p ys) (filter p ys)) x ≡ true
    both true e = is_in_cons x y (filter p ys) ∙ rw e (either (y == x))
      where
        either : (c : Bool) → (c || true) ≡ true
        either true = refl
        either false = refl
    both false e = e

    by_head : (b : Bool) → (((y == x) ≡ true) × (y ≡ x)) ⊎ (((y == x) ≡ false) × (y ≡ x → ⊥)) → ((y == x) || is_in ys x) ≡ true → (is_in ys x ≡ true → is_in (filter p ys) x ≡ true) → is_in (cond (p y) (y ∷ filter p ys) (filter p ys)) x ≡ true
    by_head b (inl h) e later =
        let pass_y : p y ≡ true = ap p h.1 ∙ pass in
        rw pass_y (is_in_cons x y (filter p ys) ∙ rw h.0 refl)
    by_head b (inr h) e later = both (p y) (later (rw h.0 at e))

any_found : (test : Passed → Bool) (xs : List Passed) → list_any test xs ≡ true → (k : ℕ) × (p : Passed) × (slice_get xs k ≡ Some p) × (test p ≡ true)
any_found test [] h = absurd cc
any_found test (x ∷ xs) h = by_test (test x) refl h (λ e. let found = any_found test xs e in (suc found.0, found.1, found.2, found.3))
  where
    by_test : (b : Bool) → test x ≡ b → (b || list_any test xs) ≡ true → (list_any test xs ≡ true → (k : ℕ) × (p : Passed) × (slice_get (x ∷ xs) k ≡ Some p) × (test p ≡ true)) → (k : ℕ) × (p : Passed) × (slice_get (x ∷ xs) k ≡ Some p) × (test p ≡ true)
    by_test true here e later = (0, x, refl, here)
    by_test false here e later = later e

-- the description with each region at its host address is one as readers give it, of which no item is refused; its guests drew the same, of frames that no item claims
pub record IsPlaced (host : Host) (loads : List Loaded) (guests : List Guest) (all : Draws) : Type 0 where
  pub same : placed all.runs (joined host loads guests) ≡ joined (placed_host all.runs host) loads (placed_guests all.runs guests)
  pub read : AreRead (placed_host all.runs host) loads (placed_guests all.runs guests)
  pub none : first_refused (placed_host all.runs host) [] (joined (placed_host all.runs host) loads (placed_guests all.runs guests)) ≡ None
  pub left : List ℕ
  pub drew : heaps (placed_guests all.runs guests) left ≡ Ok all.heaps
  pub ascending : AreFrames left
  pub unclaimed : (frame : ℕ) → is_in left frame ≡ true → is_in (free_frames host.ram (passed_of (placed_host all.runs host) loads (placed_guests all.runs guests))) frame ≡ true

unclaimed_in : (ram : List FrameRange) (all : List Passed) (frame : ℕ) → is_in (frames_in ram) frame ≡ true → is_claimed all frame ≡ false → is_in (free_frames ram all) frame ≡ true
unfolding free_frames
unclaimed_in ram all frame there out = filter_keeps (λ (one : ℕ). not (is_claimed all one)) (frames_in ram) frame there (ap not out)

in_ram : (ram : List FrameRange) (all : List Passed) (frame : ℕ) → is_in (free_frames ram all) frame ≡ true → is_in (frames_in ram) frame ≡ true
unfolding free_frames
in_ram ram all frame free = filter_was (λ (one : ℕ). not (is_claimed all one)) (frames_in ram) frame free

pub is_placed : (host : Host) (loads : List Loaded) (guests : List Guest) (all : Draws) → AreRead host loads guests → Drew host loads guests all → IsPlaced host loads guests all
is_placed host loads guests all read drew = record {
  same = joined_placed runs host loads guests;
  read = record {
    ram = read.ram;
    devices = record { areas = read.devices.areas; console = read.devices.console };
    items = subst AreSound (joined_placed runs host loads guests) (sound_entries runs entries each);
    guests_sound = λ _. each_guest_sound runs guests (read.guests_sound (no_own host [] entries drew.none));
  };
  none = refused_host runs host [] (joined (placed_host runs host) loads (placed_guests runs guests))
      ∙ subst (λ (es : List Entry). first_refused host [] es ≡ None) (joined_placed runs host loads guests) (none_placed host runs passed [] entries runs_of refl drew.none);
  left = drew.left;
  drew = heaps_placed runs guests drew.left ∙ drew.drew;
  ascending = are.ascending;
  unclaimed = λ frame inside.
      subst (λ (es : List Entry). is_in (free_frames host.ram (all_passed [] es)) frame ≡ true) (joined_placed runs host loads guests)
      (subst (λ (ps : List Passed). is_in (free_frames host.ram ps) frame ≡ true) (sym (all_lift runs [] entries)) (unclaimed_in host.ram (map (lift runs) passed) frame (in_ram host.ram passed frame (are.left_free frame inside)) (not_claimed frame inside)));
}
  where
    runs : List Run
    runs = all.runs

    entries : List Entry
    entries = joined host loads guests

    passed : List Passed
    passed = passed_of host loads guests

    are : AreRuns (requests [] (passed_of host loads guests)) (free_frames host.ram (passed_of host loads guests)) drew.left all.runs
    are = runs_tell (requests [] passed) (free_frames host.ram passed) (record { runs = all.runs; left = drew.left }) (free_ascending host.ram passed read.ram) drew.ran

    agree : Agree (passed_of host loads guests)
    agree = agree_all host [] entries (λ k p at. absurd (none-some _ at)) drew.none

    sound : (j : ℕ) (q : Passed) → slice_get (passed_of host loads guests) j ≡ Some q → IsSound (what_of q)
    sound j q at = (all_clear host [] entries drew.none read.items j q (omega arith) at).1.sound

    free : (k frame : ℕ) (p : Passed) → slice_get (passed_of host loads guests) k ≡ Some p → is_unplaced (what_of p) ≡ true → holds (claims_at all.runs (what_of p) p.claims) frame ≡ true → (is_in (free_frames host.ram (passed_of host loads guests)) frame ≡ true) × (is_in drew.left frame ≡ false)
    free = runs_free passed agree (free_frames host.ram passed) drew.left runs are sound

    runs_of : AreRunsOf host.ram all.runs (passed_of host loads guests)
    runs_of = record { free = λ k frame p at drawn held. (free k frame p at drawn held).0; apart = runs_apart passed agree (free_frames host.ram passed) drew.left runs are sound }

    each : (k : ℕ) (entry : Entry) → slice_get (joined host loads guests) k ≡ Some entry → IsSound (placed_what all.runs entry.described.what)
    each k entry at =
        let p = passed_at entries k entry at in
        subst (λ (e : Entry). IsSound (placed_what all.runs e.described.what)) p.2 (sound_placed passed agree (free_frames host.ram passed) drew.left runs are sound k p.0 p.1)

    not_claimed : (frame : ℕ) → is_in drew.left frame ≡ true → is_claimed (map (lift all.runs) (passed_of host loads guests)) frame ≡ false
    not_claimed frame inside = by_test (true_or_false (is_claimed (map (lift runs) passed) frame))
      where
        by_test : (is_claimed (map (lift all.runs) (passed_of host loads guests)) frame ≡ true) ⊎ (is_claimed (map (lift all.runs) (passed_of host loads guests)) frame ≡ false) → is_claimed (map (lift all.runs) (passed_of host loads guests)) frame ≡ false
        by_test (inr out) = out
        by_test (inl hit) = absurd (by_item (any_found (λ (one : Passed). holds one.claims frame) (map (lift runs) passed) hit))
          where
            by_place : (k : ℕ) (p : Passed) → slice_get (passed_of host loads guests) k ≡ Some p → holds (claims_at all.runs (what_of p) p.claims) frame ≡ true → (is_unplaced (what_of p) ≡ true) ⊎ (is_unplaced (what_of p) ≡ false) → ⊥
            by_place k p at held (inl drawn) = not_both (is_in drew.left frame) inside (free k frame p at drawn held).1
            by_place k p at held (inr stay) =
                free_unclaimed host.ram passed frame k p (are.left_free frame inside) at (ap (λ (claims : List FrameRange). holds claims frame) (sym (stays runs (what_of p) p.claims stay)) ∙ held)

            by_item : (k : ℕ) × (p : Passed) × (slice_get (map (lift all.runs) (passed_of host loads guests)) k ≡ Some p) × (holds p.claims frame ≡ true) → ⊥
            by_item (k, p, at, held) = by_found (slice_get passed k) refl (sym (slice_get-map (lift runs) passed k) ∙ at)
              where
                by_found : (o : Option Passed) → slice_get (passed_of host loads guests) k ≡ o → option_map (lift all.runs) o ≡ Some p → ⊥
                by_found None is e = none-some _ e
                by_found (Some q) is e =
                    by_place k q is (ap (λ (one : Passed). holds one.claims frame) (same_Some (lift all.runs q) p e) ∙ held) (true_or_false (is_unplaced (what_of q)))

-- what was drawn where no item is refused
pub drew_of : (host : Host) (loads : List Loaded) (guests : List Guest) (all : Draws) → first_refused host [] (joined host loads guests) ≡ None → draws guests host.ram (passed_of host loads guests) ≡ Ok all → Drew host loads guests all
drew_of host loads guests all none is =
    let told = draws_tell guests (runs_drawn (requests [] (passed_of host loads guests)) (free_frames host.ram (passed_of host loads guests))) all is in
    record { none = none; left = told.0; ran = told.1; drew = told.2 }

-- guests are apart
pub guests_are_apart : (host : Host) (loads : List Loaded) (guests : List Guest) → AreRead host loads guests → GuestsAreApart host loads guests
guests_are_apart host loads guests read all is =
    let c = is_placed host loads guests all read (outcome_tells host loads guests all is) in
    let own : Host = placed_host all.runs host in
    let others : List Guest = placed_guests all.runs guests in
    subst (λ (es : List Entry). AreApart (all_passed [] es) all.heaps) (sym c.same) (record {
      function = λ number drawn at. apart_function (guest_ranges (passed_of own loads others) number drawn) (guests_apart own loads others all.heaps c.read c.none c.left c.drew number drawn at);
      meet = λ one other page other_page drawn other_drawn target other_target apart at other_at mapped other_mapped same.
          guests_meet own (joined own loads others) others all.heaps c.none c.read.items c.left c.unclaimed c.drew one other page other_page drawn other_drawn target other_target apart at other_at mapped other_mapped same;
      left_unmapped = λ number page drawn target at mapped. left_is_unmapped own (joined own loads others) others all.heaps c.none c.read.items c.left c.unclaimed c.drew number page drawn target at mapped;
      left_once = heaps_ascend others c.left all.heaps c.ascending c.drew;
    })

guest_at : (runs : List Run) (guests : List Guest) (number : ℕ) (guest : Guest) → slice_get guests number ≡ Some guest → slice_get (placed_guests runs guests) number ≡ Some (placed_guest runs guest)
guest_at runs guests number guest at = slice_get-map (placed_guest runs) guests number ∙ ap (option_map (placed_guest runs)) at

one_kind : (runs : List Run) (guest : Guest) → HasOneKindOfMemory guest → HasOneKindOfMemory (placed_guest runs guest)
one_kind runs guest kinds = record {
  drawn_alone = λ some. (ap (sum_by static_pages) (whats_of_placed runs guest) ∙ statics_placed runs (whats_of guest) ∙ (kinds.drawn_alone some).0, (kinds.drawn_alone some).1);
  head_alone = ap (λ (ws : List What). list_any says_direct (drop 1 ws)) (whats_of_placed runs guest) ∙ later (whats_of guest) ∙ kinds.head_alone;
}
  where
    says : (ws : List What) → list_any says_direct (map (placed_what runs) ws) ≡ list_any says_direct ws
    says [] = refl
    says (w ∷ ws) = rw (kept_what says_direct runs (λ id one other page many owns. refl) w, says ws) refl

    later : (ws : List What) → list_any says_direct (drop 1 (map (placed_what runs) ws)) ≡ list_any says_direct (drop 1 ws)
    later [] = refl
    later (w ∷ ws) = says ws

-- a guest's listed memory is what its map gives it as its own
pub memory_is_mapped : (host : Host) (loads : List Loaded) (guests : List Guest) → AreRead host loads guests → MemoryIsMapped host loads guests
memory_is_mapped host loads guests read all number guest drawn is at at_drawn kinds page =
    let c = is_placed host loads guests all read (outcome_tells host loads guests all is) in
    subst (λ (es : List Entry). is_listed (memories_of (all_passed [] es) number guest) page ≡ is_ram (guest_ranges (all_passed [] es) number drawn) page) (sym c.same)
    (memory_mapped (placed_host all.runs host) loads (placed_guests all.runs guests) all.heaps c.read c.none c.left c.ascending c.drew number (placed_guest all.runs guest) drawn (guest_at all.runs guests number guest at) at_drawn (one_kind all.runs guest kinds) page)

-- the guest whose regions lie at their host addresses is ready
pub ready_guest : (host : Host) (loads : List Loaded) (guests : List Guest) (all : Draws) → AreRead host loads guests → Drew host loads guests all → (number : ℕ) (guest : Guest) (frames : List FrameRange) → slice_get guests number ≡ Some guest → slice_get all.heaps.drawn number ≡ Some frames →
    IsReady number (placed_guest all.runs guest) (items_of (placed_guest all.runs guest)) frames
ready_guest host loads guests all read drew number guest frames at at_drawn =
    let c = is_placed host loads guests all read drew in
    ready (placed_host all.runs host) loads (placed_guests all.runs guests) all.heaps c.read c.none c.left c.ascending c.drew number (placed_guest all.runs guest) frames (guest_at all.runs guests number guest at) at_drawn

-- each guest's plan can be made, with its regions at their host addresses
pub ready_placed : (host : Host) (loads : List Loaded) (guests : List Guest) (all : Draws) → AreRead host loads guests → Drew host loads guests all → (number : ℕ) (guest : Guest) (frames : List FrameRange) → slice_get guests number ≡ Some guest → slice_get all.heaps.drawn number ≡ Some frames →
    IsReady number guest (placed_items all.runs (items_of guest)) frames
ready_placed host loads guests all read drew number guest frames at at_drawn =
    let made = ready_guest host loads guests all read drew number guest frames at at_drawn in
    subst (λ items. IsReady number guest items frames) (sym (items_placed all.runs guest)) (record {
      sound = made.sound;
      few = made.few;
      few_drawn = made.few_drawn;
      low = made.low;
      apart = subst (λ (read : Bool). AreRangesApart (guest_ranges (all_passed [] (of_guest number read (items_of (placed_guest all.runs guest)))) number frames)) (read_placed all.runs guest.partial) made.apart;
      low_ranges = subst (λ (read : Bool). AreLowRanges (guest_ranges (all_passed [] (of_guest number read (items_of (placed_guest all.runs guest)))) number frames)) (read_placed all.runs guest.partial) made.low_ranges;
    })

-- the items of a guest among all, each region at its host address
pub own_guest : (runs : List Run) (host : Host) (loads : List Loaded) (guests : List Guest) (number : ℕ) (guest : Guest) → slice_get guests number ≡ Some guest →
    own_of number (placed_of runs host loads guests) ≡ own_of number (own_passed number (placed_guest runs guest))
own_guest runs host loads guests number guest at =
    ap (λ (es : List Entry). own_of number (all_passed [] es)) (joined_placed runs host loads guests)
    ∙ own_items (placed_host runs host) loads (placed_guests runs guests) number (placed_guest runs guest) (guest_at runs guests number guest at)

-- what a guest is given depends on its own items alone
pub own_placed : (runs : List Run) (host : Host) (loads : List Loaded) (guests : List Guest) (number : ℕ) (guest : Guest) → slice_get guests number ≡ Some guest →
    own_of number (placed_of runs host loads guests) ≡ own_of number (all_passed [] (of_guest number (is_read guest.partial) (placed_items runs (items_of guest))))
own_placed runs host loads guests number guest at =
    own_guest runs host loads guests number guest at
    ∙ ap (λ (read : Bool). own_of number (all_passed [] (of_guest number read (items_of (placed_guest runs guest))))) (read_placed runs guest.partial)
    ∙ ap (λ items. own_of number (all_passed [] (of_guest number (is_read guest.partial) items))) (sym (items_placed runs guest))
