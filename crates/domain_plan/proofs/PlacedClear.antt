-- Where no item is refused, none is with each region at its host address.
use Rattle.std.proofs.Common.{◌≡◌, ℕ, zero, suc, ◌<◌, ◌≤◌, ◌⊎◌, ◌&&◌, ◌||◌, Bool, true, false, cond, not, List, [], ◌∷◌, ◌++◌, length, length-append, map, Option, Some, None, refl, sym, ap, subst, ◌∙◌, inl, inr, arith}
use Rattle.std.specs.Prelude.{slice_get, option_map, bytes_eq, ◌==◌, is_some}
use Rattle.std.specs.Option.{option_or}
use Rattle.std.specs.List.{find, list_all, list_any, filter}
use Rattle.std.proofs.lemmas.Option.{same_Some, none-some, slice_get_within}
use Rattle.std.proofs.lemmas.List.{map-append}
use Rattle.std.proofs.lemmas.Bool.Decides.{eqb_tells}
use Rattle.std.proofs.lemmas.Slice.Eq.{bytes_eq-Decides}
use Rattle.texts.specs.Consecutive.{is_in}
use Rattle.texts.specs.declared.ranges.FrameRange.{FrameRange}
use Rattle.described.specs.declared.item.Item.{Item}
use Rattle.described.specs.declared.item.What.{What}
use Rattle.described.specs.declared.item.What.TheVariants as whats
use Rattle.described.specs.declared.layout.Layout.{Layout}
use Rattle.described.specs.declared.why.Why.{Why}
use Rattle.described.specs.declared.why.Why.TheVariants as whys
use Rattle.described.specs.Reasons.{where_so}
use Rattle.frame_alloc.specs.Frames.{frames_in}
use Rattle.frame_alloc.proofs.FreeFrames.{is_in_cons}
use Rattle.domain_bindings.specs.declared.host.Host.{Host}
use Rattle.frame_alloc.specs.Ranges.{holds, have_common, lie_in}
use Rattle.frame_alloc.proofs.CommonFrames.{true_or_false, not_both, or_tells, and_tells, common_tells, common_misses, is_in-frames_in}
use Rattle.item_checks.specs.Entries.{Entry}
use Rattle.item_checks.specs.Taken.{Passed, item_of, what_of, belongs_to, passing, all_passed}
use Rattle.domain_plan.specs.Draws.{free_frames, is_claimed}
use Rattle.item_checks.specs.Reasons.{naming_first, of_one_guest, of_another_guest, is_not_ram, not_ram, are_one_region, blocks, host_overlap, layout, area_pages, layout_at, fills, guest_overlap, is_past_spis, irq_too_high, has_console, is_irq, irq_of_console, irq_of_another, shm_twice, is_same_host, have_one_base, unlike, shm_differs, is_owner, owner_twice}
use Rattle.item_checks.specs.Refusals.{why, or_later, first_refused, first_there, cross_reasons, reasons_by}
use Rattle.domain_plan.specs.Regions.{host_in, placed_what, placed_entry, placed}
use Rattle.domain_plan.specs.declared.runs.Run.{Run}
use Rattle.domain_plan.proofs.ApartLemmas.{free_unclaimed, is_in-filter}
use Rattle.domain_plan.proofs.ClearLemmas.{kept, seam, no_reason, clear_first, none_found, not_named}
use Rattle.domain_plan.proofs.Placing.{kept_what, claims_at, lift, belongs_lift, any_lift, find_lift, naming_lift, says_lift, passing_lift, one_region_lift, layout_lift}
use Rattle.domain_plan.proofs.PlacedGuests.{placed_host}

-- a region without a host address
abbrev pub is_unplaced : What → Bool
is_unplaced (whats.Shared id None guest size owner) = true
is_unplaced _ = false

-- all others keep their frames
pub stays : (runs : List Run) (what : What) (claims : List FrameRange) → is_unplaced what ≡ false → claims_at runs what claims ≡ claims
stays runs (whats.Shared id None guest size owner) claims is = absurd cc
stays runs (whats.Shared id (Some base) guest size owner) claims is = refl
stays runs _ claims is = refl

-- the runs of regions were free, and those of two ids are apart
pub record AreRunsOf (ram : List FrameRange) (runs : List Run) (all : List Passed) : Type 0 where
  pub free : (k frame : ℕ) (p : Passed) → slice_get all k ≡ Some p → is_unplaced (what_of p) ≡ true → holds (claims_at runs (what_of p) p.claims) frame ≡ true → is_in (free_frames ram all) frame ≡ true
  pub apart : (j k frame : ℕ) (p q : Passed) → slice_get all j ≡ Some p → slice_get all k ≡ Some q → is_unplaced (what_of p) ≡ true → is_unplaced (what_of q) ≡ true → are_one_region (what_of p) (what_of q) ≡ false
      → holds (claims_at runs (what_of p) p.claims) frame ≡ true → holds (claims_at runs (what_of q) q.claims) frame ≡ true → ⊥

pub filter_was : (p : ℕ → Bool) (xs : List ℕ) (x : ℕ) → is_in (filter p xs) x ≡ true → is_in xs x ≡ true
filter_was p [] x h = h
filter_was p (y ∷ ys) x h = by_test (p y) h (λ e. filter_was p ys x e)
  where
    by_test : (b : Bool) → is_in (cond b (y ∷ filter p ys) (filter p ys)) x ≡ true → (is_in (filter p ys) x ≡ true → is_in ys x ≡ true) → is_in (y ∷ ys) x ≡ true
    by_test false e later = is_in_cons x y ys ∙ rw (later e) (either (y == x))
      where
        either : (b : Bool) → (b || true) ≡ true
        either true = refl
        either false = refl
    by_test true e later = is_in_cons x y ys ∙ by_head (y == x) (sym (is_in_cons x y (filter p ys)) ∙ e)
      where
        by_head : (b : Bool) → (b || is_in (filter p ys) x) ≡ true → (b || is_in ys x) ≡ true
        by_head true is = refl
        by_head false is = later is

-- a free frame is one of the host's memory
free_ram : (ram : List FrameRange) (all : List Passed) (frame : ℕ) → is_in (free_frames ram all) frame ≡ true → holds ram frame ≡ true
unfolding free_frames
free_ram ram all frame free = sym (is_in-frames_in ram frame) ∙ filter_was (λ (one : ℕ). not (is_claimed all one)) (frames_in ram) frame free

all_members : (p : ℕ → Bool) (xs : List ℕ) → ((x : ℕ) → is_in xs x ≡ true → p x ≡ true) → list_all p xs ≡ true
all_members p [] each = refl
all_members p (x ∷ xs) each = rw (each x (is_in_cons x x xs ∙ here (eqb_tells x x)), all_members p xs (λ y there. each y (is_in_cons y x xs ∙ later y (x == y) there))) refl
  where
    here : (((x == x) ≡ true) × (x ≡ x)) ⊎ (((x == x) ≡ false) × (x ≡ x → ⊥)) → ((x == x) || is_in xs x) ≡ true
    here (inl h) = rw h.0 refl
    here (inr h) = absurd (h.1 refl)

    later : (y : ℕ) (b : Bool) → is_in xs y ≡ true → (b || is_in xs y) ≡ true
    later y true there = refl
    later y false there = there

lies_in : (ram ranges : List FrameRange) → ((frame : ℕ) → holds ranges frame ≡ true → holds ram frame ≡ true) → lie_in ram ranges ≡ true
unfolding lie_in
lies_in ram ranges each = all_members (holds ram) (frames_in ranges) (λ frame there. each frame (sym (is_in-frames_in ranges frame) ∙ there))

-- none of several reasons is there
abbrev pub AllNone : List (Option Why) → Type 0
AllNone [] = Unit {0}
AllNone (reason ∷ reasons) = (reason ≡ None) × AllNone reasons

pub each_none : (reasons : List (Option Why)) → first_there reasons ≡ None → AllNone reasons
each_none [] is = tt
each_none (None ∷ reasons) is = (refl, each_none reasons is)
each_none (Some why ∷ reasons) is = absurd cc

none_there : (reasons : List (Option Why)) → AllNone reasons → first_there reasons ≡ None
none_there [] all = refl
none_there (reason ∷ reasons) all = rw (all.0, none_there reasons all.1) refl

pub same_host_self : (host : Option ℕ) → is_same_host host host ≡ true
same_host_self None = refl
same_host_self (Some base) = by_test (eqb_tells base base)
  where
    by_test : (((base == base) ≡ true) × (base ≡ base)) ⊎ (((base == base) ≡ false) × (base ≡ base → ⊥)) → (base == base) ≡ true
    by_test (inl h) = h.0
    by_test (inr h) = absurd (h.1 refl)

-- regions of one id with one base keep one
base_lift : (runs : List Run) (a b : What) → are_one_region a b ≡ true → have_one_base a b ≡ true → have_one_base (placed_what runs a) (placed_what runs b) ≡ true
base_lift runs (whats.Shared id host guest size owner) (whats.Shared other_id other_host other_guest other_size other_owner) one is = by_host host other_host (and_tells (is_same_host host other_host) (size == other_size) is)
  where
    ids : id ≡ other_id
    ids = (bytes_eq-Decides id other_id).0 one

    by_host : (host other : Option ℕ) → (is_same_host host other ≡ true) × ((size == other_size) ≡ true) → (is_same_host (host_in runs id host) (host_in runs other_id other) && (size == other_size)) ≡ true
    by_host None None h =
        let same : is_same_host (host_in runs id None) (host_in runs other_id None) ≡ true = ap (λ (i : List ℕ). is_same_host (host_in runs id None) (host_in runs i None)) (sym ids) ∙ same_host_self (host_in runs id None) in
        rw (same, h.1) refl
    by_host None (Some base) h = not_both _ h.0 refl
    by_host (Some base) None h = not_both _ h.0 refl
    by_host (Some base) (Some other) h = rw (h.0, h.1) refl
base_lift runs (whats.Shared id host guest size owner) _ one is = absurd cc
base_lift runs _ b one is = absurd cc

find_hits : (test : Passed → Bool) (xs : List Passed) (p : Passed) → find test xs ≡ Some p → test p ≡ true
find_hits test [] p is = absurd (none-some _ is)
find_hits test (x ∷ xs) p is = by_test (test x) refl is (λ e. find_hits test xs p e)
  where
    by_test : (b : Bool) → test x ≡ b → cond b (Some x) (find test xs) ≡ Some p → (find test xs ≡ Some p → test p ≡ true) → test p ≡ true
    by_test true here e later = ap test (sym (same_Some x p e)) ∙ here
    by_test false here e later = later e

found_none : (runs : List Run) (test : Passed → Bool) (xs : List Passed) → ((k : ℕ) (p : Passed) → slice_get xs k ≡ Some p → test (lift runs p) ≡ false) → find test (map (lift runs) xs) ≡ None
found_none runs test [] each = refl
found_none runs test (x ∷ xs) each = rw (each zero x refl, found_none runs test xs (λ k p at. each (suc k) p at)) refl

-- the reasons against one item
module _ (host : Host) (runs : List Run) (all : List Passed) (are : AreRunsOf host.ram runs all) (before : List Passed) (within : (j : ℕ) (p : Passed) → slice_get before j ≡ Some p → slice_get all j ≡ Some p) (place : ℕ) (mine : Passed) (at : slice_get all place ≡ Some mine) where
  not_ram_lift : not_ram host.ram mine ≡ None → not_ram host.ram (lift runs mine) ≡ None
  not_ram_lift none = by_place (true_or_false (is_unplaced (what_of mine)))
    where
      by_place : (is_unplaced (what_of mine) ≡ true) ⊎ (is_unplaced (what_of mine) ≡ false) → not_ram host.ram (lift runs mine) ≡ None
      by_place (inr stay) = ap (λ (claims : List FrameRange). where_so (not (lie_in host.ram claims)) whys.NotRam) (stays runs (what_of mine) mine.claims stay) ∙ none
      by_place (inl drawn) =
          ap (λ (b : Bool). where_so (not b) whys.NotRam) (lies_in host.ram (claims_at runs (what_of mine) mine.claims) (λ frame held. free_ram host.ram all frame (are.free place frame mine at drawn held)))

  misses : (j : ℕ) (p : Passed) → slice_get before j ≡ Some p → blocks mine p ≡ false → blocks (lift runs mine) (lift runs p) ≡ false
  misses j p there out = by_test (true_or_false (blocks (lift runs mine) (lift runs p)))
    where
      by_test : (blocks (lift runs mine) (lift runs p) ≡ true) ⊎ (blocks (lift runs mine) (lift runs p) ≡ false) → blocks (lift runs mine) (lift runs p) ≡ false
      by_test (inr miss) = miss
      by_test (inl hit) = absurd (by_frame both.0 (common_tells (claims_at runs (what_of p) p.claims) (claims_at runs (what_of mine) mine.claims) both.1))
        where
          both : (not (are_one_region (placed_what runs (what_of mine)) (placed_what runs (what_of p))) ≡ true) × (have_common (claims_at runs (what_of p) p.claims) (claims_at runs (what_of mine) mine.claims) ≡ true)
          both = and_tells (not (are_one_region (placed_what runs (what_of mine)) (placed_what runs (what_of p)))) (have_common (claims_at runs (what_of p) p.claims) (claims_at runs (what_of mine) mine.claims)) hit

          turned : (b : Bool) → not b ≡ true → b ≡ false
          turned true h = absurd cc
          turned false h = refl

          by_frame : not (are_one_region (placed_what runs (what_of mine)) (placed_what runs (what_of p))) ≡ true → (frame : ℕ) × (holds (claims_at runs (what_of p) p.claims) frame ≡ true) × (holds (claims_at runs (what_of mine) mine.claims) frame ≡ true) → ⊥
          by_frame other (frame, theirs, ours) = by_place (true_or_false (is_unplaced (what_of mine))) (true_or_false (is_unplaced (what_of p)))
            where
              two : are_one_region (what_of mine) (what_of p) ≡ false
              two = sym (one_region_lift runs (what_of mine) (what_of p)) ∙ turned (are_one_region (placed_what runs (what_of mine)) (placed_what runs (what_of p))) other

              by_place : (is_unplaced (what_of mine) ≡ true) ⊎ (is_unplaced (what_of mine) ≡ false) → (is_unplaced (what_of p) ≡ true) ⊎ (is_unplaced (what_of p) ≡ false) → ⊥
              by_place (inl drawn) (inl drew) = are.apart place j frame mine p at (within j p there) drawn drew two ours theirs
              by_place (inl drawn) (inr stay) =
                  free_unclaimed host.ram all frame j p (are.free place frame mine at drawn ours) (within j p there) (ap (λ (claims : List FrameRange). holds claims frame) (sym (stays runs (what_of p) p.claims stay)) ∙ theirs)
              by_place (inr stay) (inl drew) =
                  free_unclaimed host.ram all frame place mine (are.free j frame p (within j p there) drew theirs) at (ap (λ (claims : List FrameRange). holds claims frame) (sym (stays runs (what_of mine) mine.claims stay)) ∙ ours)
              by_place (inr stay) (inr stayed) =
                  let apart : (not (are_one_region (what_of mine) (what_of p)) && have_common p.claims mine.claims) ≡ false = out in
                  let common : have_common p.claims mine.claims ≡ false = rw two at apart in
                  common_misses p.claims mine.claims frame common (ap (λ (claims : List FrameRange). holds claims frame) (sym (stays runs (what_of p) p.claims stayed)) ∙ theirs)
                  (ap (λ (claims : List FrameRange). holds claims frame) (sym (stays runs (what_of mine) mine.claims stay)) ∙ ours)

  host_lift : host_overlap before mine ≡ None → host_overlap (map (lift runs) before) (lift runs mine) ≡ None
  host_lift none =
      ap (option_map (λ (p : Passed). whys.HostOverlap (item_of p)))
      (found_none runs (blocks (lift runs mine)) before (λ j p there. misses j p there (none_found (blocks mine) before j p (not_named (blocks mine) whys.HostOverlap before none) there)))

  guest_lift : guest_overlap host (map (lift runs) before) (lift runs mine) ≡ guest_overlap host before mine
  guest_lift =
      ap (λ (l : Layout). cond (have_common (area_pages l) mine.pages) (Some (whys.GuestOverlap layout)) (naming_first (fills (lift runs mine)) whys.GuestOverlap (map (lift runs) before))) (layout_lift runs host before mine.entry.guest)
      ∙ ap (λ (o : Option Why). cond (have_common (area_pages (layout_at host before mine.entry.guest)) mine.pages) (Some (whys.GuestOverlap layout)) o)
      (naming_lift runs (fills (lift runs mine)) (fills mine) whys.GuestOverlap (λ p. ap (λ (b : Bool). b && have_common p.pages mine.pages) (belongs_lift runs mine.entry.guest p)) before)

  too_high_lift : (number : ℕ) → irq_too_high (map (lift runs) before) number (lift runs mine) ≡ irq_too_high before number mine
  too_high_lift number =
      ap (λ (b : Bool). where_so b whys.TooHigh)
      (any_lift runs (λ (p : Passed). of_one_guest mine p && is_past_spis number (what_of p)) (says_lift runs mine.entry.guest (is_past_spis number) (λ id one other page many owns. refl)) before)

  console_lift : (number : ℕ) → irq_of_console (map (lift runs) before) number (lift runs mine) ≡ irq_of_console before number mine
  console_lift number =
      ap (λ (o : Option Why). cond (number == 0) o None)
      (naming_lift runs (λ (p : Passed). of_one_guest mine p && has_console (what_of p)) (λ (p : Passed). of_one_guest mine p && has_console (what_of p)) whys.IrqTaken (says_lift runs mine.entry.guest has_console (λ id one other page many owns. refl)) before)

  another_lift : (number : ℕ) → irq_of_another (map (lift runs) before) number (lift runs mine) ≡ irq_of_another before number mine
  another_lift number =
      naming_lift runs (λ (p : Passed). of_another_guest mine p && is_irq number (what_of p)) (λ (p : Passed). of_another_guest mine p && is_irq number (what_of p)) whys.IrqTaken
      (λ p. rw (belongs_lift runs mine.entry.guest p, kept_what (is_irq number) runs (λ id one other page many owns. refl) (what_of p)) refl) before

  twice_lift : shm_twice (map (lift runs) before) (lift runs mine) ≡ shm_twice before mine
  twice_lift =
      naming_lift runs (λ (p : Passed). of_one_guest mine p && are_one_region (placed_what runs (what_of mine)) (what_of p)) (λ (p : Passed). of_one_guest mine p && are_one_region (what_of mine) (what_of p)) whys.ShmTwice
      (λ p. rw (belongs_lift runs mine.entry.guest p, one_region_lift runs (what_of mine) (what_of p)) refl) before

  differs_lift : shm_differs before mine ≡ None → shm_differs (map (lift runs) before) (lift runs mine) ≡ None
  differs_lift none =
      ap (unlike (placed_what runs (what_of mine)))
      (find_lift runs (λ (p : Passed). are_one_region (placed_what runs (what_of mine)) (what_of p)) (λ (p : Passed). are_one_region (what_of mine) (what_of p)) (λ p. one_region_lift runs (what_of mine) (what_of p)) before)
      ∙ by_found (find (λ (p : Passed). are_one_region (what_of mine) (what_of p)) before) refl none
    where
      by_found : (o : Option Passed) → find (λ (p : Passed). are_one_region (what_of mine) (what_of p)) before ≡ o → unlike (what_of mine) o ≡ None → unlike (placed_what runs (what_of mine)) (option_map (lift runs) o) ≡ None
      by_found None found is = refl
      by_found (Some p) found is =
          let like : have_one_base (what_of mine) (what_of p) ≡ true = by_base (have_one_base (what_of mine) (what_of p)) is in
          let one : are_one_region (what_of mine) (what_of p) ≡ true = find_hits (λ (q : Passed). are_one_region (what_of mine) (what_of q)) before p found in
          ap (λ (b : Bool). where_so (not b) (whys.ShmDiffers (item_of p))) (base_lift runs (what_of mine) (what_of p) one like)
        where
          by_base : (b : Bool) → where_so (not b) (whys.ShmDiffers (item_of p)) ≡ None → b ≡ true
          by_base true is = refl
          by_base false is = absurd cc

  owner_lift : owner_twice (map (lift runs) before) (lift runs mine) ≡ owner_twice before mine
  owner_lift =
      ap (λ (b : Bool). cond b (naming_first (λ p. are_one_region (placed_what runs (what_of mine)) (what_of p) && is_owner (what_of p)) whys.OwnerTwice (map (lift runs) before)) None) (kept_what is_owner runs (λ id one other page many owns. refl) (what_of mine))
      ∙ ap (λ (o : Option Why). cond (is_owner (what_of mine)) o None)
      (naming_lift runs (λ (p : Passed). are_one_region (placed_what runs (what_of mine)) (what_of p) && is_owner (what_of p)) (λ (p : Passed). are_one_region (what_of mine) (what_of p) && is_owner (what_of p)) whys.OwnerTwice
      (λ p. rw (one_region_lift runs (what_of mine) (what_of p), kept_what is_owner runs (λ id one other page many owns. refl) (what_of p)) refl) before)

  by_what : (what : What) → AllNone (reasons_by host before mine what) → AllNone (reasons_by host (map (lift runs) before) (lift runs mine) (placed_what runs what))
  by_what (whats.Load where_to) h = (not_ram_lift h.0, (host_lift h.1.0, tt))
  by_what (whats.Module kind where_to) h = (not_ram_lift h.0, (host_lift h.1.0, (h.1.1.0, tt)))
  by_what (whats.Static where_to) h = (not_ram_lift h.0, (host_lift h.1.0, (guest_lift ∙ h.1.1.0, tt)))
  by_what (whats.Range from size guest) h = (host_lift h.0, (guest_lift ∙ h.1.0, tt))
  by_what (whats.Irq number) h = (too_high_lift number ∙ h.0, (console_lift number ∙ h.1.0, (another_lift number ∙ h.1.1.0, tt)))
  by_what (whats.Shared id from guest size owner) h = (twice_lift ∙ h.0, (differs_lift h.1.0, (owner_lift ∙ h.1.1.0, (not_ram_lift h.1.1.1.0, (host_lift h.1.1.1.1.0, (guest_lift ∙ h.1.1.1.1.1.0, tt))))))
  by_what _ h = tt

  cross_lift : first_there (cross_reasons host before mine) ≡ None → first_there (cross_reasons host (map (lift runs) before) (lift runs mine)) ≡ None
  cross_lift none = none_there (reasons_by host (map (lift runs) before) (lift runs mine) (placed_what runs (what_of mine))) (by_what (what_of mine) (each_none (reasons_by host before mine (what_of mine)) none))

-- no item is refused
pub none_placed : (host : Host) (runs : List Run) (all before : List Passed) (entries : List Entry) → AreRunsOf host.ram runs all → all ≡ all_passed before entries → first_refused host before entries ≡ None
    → first_refused host (map (lift runs) before) (placed runs entries) ≡ None
unfolding all_passed first_refused
none_placed host runs all before [] are is none = refl
none_placed host runs all before (entry ∷ entries) are is none =
    let parts = clear_first entry.described.item (why host before entry) (first_refused host (before ++ passing before entry ∷ []) entries) none in
    let own = no_reason entry.described.own (first_there (cross_reasons host before (passing before entry))) parts.0 in
    let cross : first_there (cross_reasons host (map (lift runs) before) (lift runs (passing before entry))) ≡ None = cross_lift host runs all are before within (length before) (passing before entry) here own.1 in
    let clear : why host (map (lift runs) before) (placed_entry runs entry) ≡ None =
    ap (λ (o : Option Why). option_or o (first_there (cross_reasons host (map (lift runs) before) (passing (map (lift runs) before) (placed_entry runs entry))))) own.0
    ∙ ap (λ (p : Passed). first_there (cross_reasons host (map (lift runs) before) p)) (passing_lift runs before entry) ∙ cross in
    let rest = none_placed host runs all (before ++ passing before entry ∷ []) entries are (is ∙ more) parts.1 in
    ap (λ (o : Option Why). or_later entry.described.item o (first_refused host (map (lift runs) before ++ passing (map (lift runs) before) (placed_entry runs entry) ∷ []) (placed runs entries))) clear
    ∙ ap (λ (p : Passed). first_refused host (map (lift runs) before ++ p ∷ []) (placed runs entries)) (passing_lift runs before entry)
    ∙ ap (λ (xs : List Passed). first_refused host xs (placed runs entries)) (sym (map-append (lift runs) before (passing before entry ∷ [])))
    ∙ rest
  where
    more : all_passed before (entry ∷ entries) ≡ all_passed (before ++ passing before entry ∷ []) entries
    more = refl

    within : (j : ℕ) (p : Passed) → slice_get before j ≡ Some p → slice_get all j ≡ Some p
    within j p there = ap (λ (xs : List Passed). slice_get xs j) is ∙ kept before (entry ∷ entries) j (slice_get_within before j p there) ∙ there

    here : slice_get all (length before) ≡ Some (passing before entry)
    here =
        ap (λ (xs : List Passed). slice_get xs (length before)) (is ∙ more)
        ∙ kept (before ++ passing before entry ∷ []) entries (length before) (omega (arith, length-append before (passing before entry ∷ [])))
        ∙ seam before (passing before entry)

-- the reasons look at the host's memory and devices, and at no item of it
pub refused_host : (runs : List Run) (host : Host) (before : List Passed) (entries : List Entry) → first_refused (placed_host runs host) before entries ≡ first_refused host before entries
unfolding first_refused
refused_host runs host before [] = refl
refused_host runs host before (entry ∷ entries) =
    ap (or_later entry.described.item (why host before entry)) (refused_host runs host (before ++ passing before entry ∷ []) entries)
