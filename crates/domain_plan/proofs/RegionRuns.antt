-- The runs that regions draw are free, apart, and as long as each region of their id.
use Rattle.std.proofs.Common.{◌≡◌, ℕ, zero, suc, ◌+◌, ◌*◌, ◌/◌, ◌%◌, ◌^◌, ◌<◌, ◌≤◌, ◌⊎◌, ◌&&◌, Bool, true, false, cond, not, List, [], ◌∷◌, ◌++◌, length, length-append, Option, Some, None, refl, sym, ap, subst, ◌∙◌, inl, inr, arith}
use Rattle.std.specs.Prelude.{slice_get, option_map, bytes_eq, ◌==◌}
use Rattle.std.specs.Option.{option_or}
use Rattle.std.specs.List.{find, list_any}
use Rattle.std.proofs.lemmas.Option.{same_Some, none-some, slice_get_within}
use Rattle.std.proofs.lemmas.List.Folds.{find-append}
use Rattle.std.proofs.lemmas.Bool.Decides.{eqb_tells}
use Rattle.std.proofs.lemmas.Slice.Eq.{bytes_eq-Decides}
use Rattle.texts.specs.Consecutive.{is_in}
use Rattle.described.specs.Sound.{AreWholePages, IsSound, IsSoundRegion}
use Rattle.texts.specs.declared.ranges.FrameRange.{FrameRange}
use Rattle.described.specs.declared.item.What.{What}
use Rattle.described.specs.declared.item.What.TheVariants as whats
use Rattle.described.specs.declared.why.Why.{Why}
use Rattle.described.specs.declared.why.Why.TheVariants as whys
use Rattle.described.specs.Reasons.{where_so}
use Rattle.frame_alloc.specs.Frames.{is_within}
use Rattle.domain_bindings.specs.declared.host.Host.{Host}
use Rattle.frame_alloc.specs.Ranges.{holds, touched}
use Rattle.frame_alloc.proofs.CommonFrames.{true_or_false, not_both, and_tells, within_bounds, holds_one}
use Rattle.item_checks.specs.Entries.{Entry}
use Rattle.item_checks.specs.Taken.{Passed, item_of, what_of, region_claims, passing, all_passed}
use Rattle.domain_plan.specs.Draws.{free_frames}
use Rattle.item_checks.specs.Reasons.{are_one_region, is_same_host, have_one_base, unlike, shm_differs}
use Rattle.item_checks.specs.Refusals.{why, first_refused, first_there, cross_reasons, reasons_by}
use Rattle.domain_plan.specs.Regions.{Request, request_in, requests, host_in, placed_what}
use Rattle.domain_plan.specs.declared.runs.Run.{Run}
use Rattle.domain_plan.proofs.ClearLemmas.{no_reason, clear_first}
use Rattle.domain_plan.proofs.MapLemmas.{touched_whole}
use Rattle.domain_plan.proofs.Placing.{claims_at}
use Rattle.domain_plan.proofs.PlacedClear.{is_unplaced, AreRunsOf, same_host_self, AllNone, each_none}
use Rattle.domain_plan.proofs.RunDraws.{IsRunAt, AreRuns}

-- an item describes a region without a host address, which this request asks for
pub record Asks (request : Request) (what : What) : Type 0 where
  pub guest : ℕ
  pub size : ℕ
  pub owner : Bool
  pub says : what ≡ whats.Shared request.id None guest size owner
  pub count : request.count ≡ size / 4096

-- a request is that of an item
pub request_item : (before rest : List Passed) (k : ℕ) (request : Request) → slice_get (requests before rest) k ≡ Some request → (j : ℕ) × (q : Passed) × (slice_get rest j ≡ Some q) × Asks request (what_of q)
unfolding requests
request_item before [] k request at = absurd (none-some _ at)
request_item before (p ∷ ps) k request at =
    by_test (list_any (λ (one : Passed). are_one_region (what_of p) (what_of one)) before) (what_of p) refl k at
    (λ j there. let found = request_item (before ++ p ∷ []) ps j request there in (suc found.0, found.1, found.2, found.3))
  where
    goal : Type 0
    goal = (j : ℕ) × (q : Passed) × (slice_get (p ∷ ps) j ≡ Some q) × Asks request (what_of q)

    by_test : (b : Bool) (what : What) → what_of p ≡ what → (k : ℕ) → slice_get (cond b [] (request_in (item_of p).path what) ++ requests (before ++ p ∷ []) ps) k ≡ Some request →
        ((j : ℕ) → slice_get (requests (before ++ p ∷ []) ps) j ≡ Some request → (j : ℕ) × (q : Passed) × (slice_get (p ∷ ps) j ≡ Some q) × Asks request (what_of q)) → (j : ℕ) × (q : Passed) × (slice_get (p ∷ ps) j ≡ Some q) × Asks request (what_of q)
    by_test true what is k there later = later k there
    by_test false (whats.Shared id None guest size owner) is zero there later =
        let mine : Request = record { path = (item_of p).path; id = id; count = size / 4096 } in
        let same : mine ≡ request = same_Some mine request there in
        (0, p, refl, record { guest = guest; size = size; owner = owner; says = is ∙ ap (λ (r : Request). whats.Shared r.id None guest size owner) same; count = ap (λ (r : Request). r.count) (sym same) })
    by_test false (whats.Shared id None guest size owner) is (suc k) there later = later k there
    by_test false (whats.Shared id (Some base) guest size owner) is k there later = later k there
    by_test false _ is k there later = later k there

-- each region is like the first of its id
abbrev pub Agree : List Passed → Type 0
Agree xs = (k : ℕ) (p : Passed) → slice_get xs k ≡ Some p → unlike (what_of p) (find (λ (q : Passed). are_one_region (what_of p) (what_of q)) xs) ≡ None

base_self : (a : What) → are_one_region a a ≡ true → have_one_base a a ≡ true
base_self (whats.Shared id host guest size owner) one = rw (same_host_self host, same_size (eqb_tells size size)) refl
  where
    same_size : (((size == size) ≡ true) × (size ≡ size)) ⊎ (((size == size) ≡ false) × (size ≡ size → ⊥)) → (size == size) ≡ true
    same_size (inl h) = h.0
    same_size (inr h) = absurd (h.1 refl)
base_self _ one = absurd cc

region_self : (a : What) (b : Bool) → are_one_region a a ≡ b → (are_one_region a a ≡ true) ⊎ ((c : What) → are_one_region a c ≡ false)
region_self (whats.Shared id host guest size owner) b is = inl ((bytes_eq-Decides id id).1 refl)
region_self _ b is = inr (λ c. refl)

none_of : (test : Passed → Bool) (xs : List Passed) → ((p : Passed) → test p ≡ false) → find test xs ≡ None
none_of test [] each = refl
none_of test (x ∷ xs) each = rw (each x, none_of test xs each) refl

found_at : (test : Passed → Bool) (xs : List Passed) (k : ℕ) (p : Passed) → slice_get xs k ≡ Some p → test p ≡ true → (q : Passed) × (find test xs ≡ Some q)
found_at test [] k p at hit = absurd (none-some _ at)
found_at test (x ∷ xs) zero p at hit = (x, rw (ap test (same_Some x p at) ∙ hit) refl)
found_at test (x ∷ xs) (suc k) p at hit = by_test (test x) (found_at test xs k p at hit)
  where
    by_test : (b : Bool) → (q : Passed) × (find test xs ≡ Some q) → (q : Passed) × (cond b (Some x) (find test xs) ≡ Some q)
    by_test true later = (x, refl)
    by_test false later = later

seam_cases : (xs : List Passed) (x : Passed) (k : ℕ) (p : Passed) → slice_get (xs ++ x ∷ []) k ≡ Some p → (slice_get xs k ≡ Some p) ⊎ (x ≡ p)
seam_cases [] x zero p at = inr (same_Some x p at)
seam_cases [] x (suc k) p at = absurd (none-some _ at)
seam_cases (y ∷ ys) x zero p at = inl at
seam_cases (y ∷ ys) x (suc k) p at = seam_cases ys x k p at

agree_more : (xs : List Passed) (x : Passed) → Agree xs → (are_one_region (what_of x) (what_of x) ≡ true → shm_differs xs x ≡ None) → Agree (xs ++ x ∷ [])
agree_more xs x agree differs k p at = ap (unlike (what_of p)) (find-append (λ (q : Passed). are_one_region (what_of p) (what_of q)) xs (x ∷ [])) ∙ by_case (seam_cases xs x k p at)
  where
    test : Passed → Bool
    test q = are_one_region (what_of p) (what_of q)

    tail : Option Passed
    tail = find (λ (q : Passed). are_one_region (what_of p) (what_of q)) (x ∷ [])

    by_region : (are_one_region (what_of p) (what_of p) ≡ true) ⊎ ((c : What) → are_one_region (what_of p) c ≡ false) → (slice_get xs k ≡ Some p) ⊎ (x ≡ p) → unlike (what_of p) (option_or (find (λ (q : Passed). are_one_region (what_of p) (what_of q)) xs) (find (λ (q : Passed). are_one_region (what_of p) (what_of q)) (x ∷ []))) ≡ None
    by_region (inr none) _ = rw (none_of (λ (q : Passed). are_one_region (what_of p) (what_of q)) xs (λ q. none (what_of q)), none_of (λ (q : Passed). are_one_region (what_of p) (what_of q)) (x ∷ []) (λ q. none (what_of q))) refl
    by_region (inl self) (inl there) =
        let found = found_at (λ (q : Passed). are_one_region (what_of p) (what_of q)) xs k p there self in
        ap (λ (o : Option Passed). unlike (what_of p) (option_or o (find (λ (q : Passed). are_one_region (what_of p) (what_of q)) (x ∷ [])))) found.1
        ∙ sym (ap (unlike (what_of p)) found.1) ∙ agree k p there
    by_region (inl self) (inr same) = by_found (find (λ (q : Passed). are_one_region (what_of p) (what_of q)) xs) refl
      where
        by_found : (o : Option Passed) → find (λ (q : Passed). are_one_region (what_of p) (what_of q)) xs ≡ o → unlike (what_of p) (option_or o (find (λ (q : Passed). are_one_region (what_of p) (what_of q)) (x ∷ []))) ≡ None
        by_found (Some q) found =
            let own : shm_differs xs p ≡ None = subst (λ (one : Passed). shm_differs xs one ≡ None) same (differs (subst (λ (one : Passed). are_one_region (what_of one) (what_of one) ≡ true) (sym same) self)) in
            sym (ap (unlike (what_of p)) found) ∙ own
        by_found None found =
            let hit : are_one_region (what_of p) (what_of x) ≡ true = ap (λ (one : Passed). are_one_region (what_of p) (what_of one)) same ∙ self in
            let like : have_one_base (what_of p) (what_of x) ≡ true = ap (λ (one : Passed). have_one_base (what_of p) (what_of one)) same ∙ base_self (what_of p) self in
            rw hit (ap (λ (b : Bool). where_so (not b) (whys.ShmDiffers (item_of x))) like)

    by_case : (slice_get xs k ≡ Some p) ⊎ (x ≡ p) → unlike (what_of p) (option_or (find (λ (q : Passed). are_one_region (what_of p) (what_of q)) xs) (find (λ (q : Passed). are_one_region (what_of p) (what_of q)) (x ∷ []))) ≡ None
    by_case which = by_region (region_self (what_of p) (are_one_region (what_of p) (what_of p)) refl) which

-- what is against a region includes ShmDiffers
differs_none : (host : Host) (before : List Passed) (mine : Passed) → are_one_region (what_of mine) (what_of mine) ≡ true → first_there (cross_reasons host before mine) ≡ None → shm_differs before mine ≡ None
differs_none host before mine self none = by_what (what_of mine) self (each_none (reasons_by host before mine (what_of mine)) none)
  where
    by_what : (what : What) → are_one_region what what ≡ true → AllNone (reasons_by host before mine what) → shm_differs before mine ≡ None
    by_what (whats.Shared id from guest size owner) one h = h.1.0
    by_what _ one h = absurd cc

pub agree_all : (host : Host) (before : List Passed) (entries : List Entry) → Agree before → first_refused host before entries ≡ None → Agree (all_passed before entries)
unfolding all_passed first_refused
agree_all host before [] agree none = agree
agree_all host before (entry ∷ entries) agree none =
    let parts = clear_first entry.described.item (why host before entry) (first_refused host (before ++ passing before entry ∷ []) entries) none in
    let own = no_reason entry.described.own (first_there (cross_reasons host before (passing before entry))) parts.0 in
    agree_all host (before ++ passing before entry ∷ []) entries (agree_more before (passing before entry) agree (λ self. differs_none host before (passing before entry) self own.1)) parts.1

-- two regions of one id have one size
one_size : (xs : List Passed) → Agree xs → (j k : ℕ) (p q : Passed) (id : List ℕ) (host other : Option ℕ) (guest size other_guest other_size : ℕ) (owner other_owner : Bool) → slice_get xs j ≡ Some p → slice_get xs k ≡ Some q →
    what_of p ≡ whats.Shared id host guest size owner → what_of q ≡ whats.Shared id other other_guest other_size other_owner → size ≡ other_size
one_size xs agree j k p q id host other guest size other_guest other_size owner other_owner p_at q_at p_is q_is = by_first (found_at (λ (x : Passed). are_one_region (whats.Shared id host guest size owner) (what_of x)) xs j p p_at self)
  where
    self : are_one_region (whats.Shared id host guest size owner) (what_of p) ≡ true
    self = ap (are_one_region (whats.Shared id host guest size owner)) p_is ∙ (bytes_eq-Decides id id).1 refl

    same_test : (xs : List Passed) → find (λ (x : Passed). are_one_region (whats.Shared id other other_guest other_size other_owner) (what_of x)) xs ≡ find (λ (x : Passed). are_one_region (whats.Shared id host guest size owner) (what_of x)) xs
    same_test [] = refl
    same_test (x ∷ xs) = rw (test (what_of x), same_test xs) refl
      where
        test : (w : What) → are_one_region (whats.Shared id other other_guest other_size other_owner) w ≡ are_one_region (whats.Shared id host guest size owner) w
        test (whats.Shared a b c d e) = refl
        test _ = refl

    like : (what : What) (f : Passed) → unlike what (Some f) ≡ None → have_one_base what (what_of f) ≡ true
    like what f is = by_base (have_one_base what (what_of f)) is
      where
        by_base : (b : Bool) → where_so (not b) (whys.ShmDiffers (item_of f)) ≡ None → b ≡ true
        by_base true e = refl
        by_base false e = absurd cc

    by_what : (w : What) → have_one_base (whats.Shared id host guest size owner) w ≡ true → have_one_base (whats.Shared id other other_guest other_size other_owner) w ≡ true → size ≡ other_size
    by_what (whats.Shared a b c d e) h i = sizes (eqb_tells size d) (eqb_tells other_size d) (and_tells (is_same_host host b) (size == d) h).1 (and_tells (is_same_host other b) (other_size == d) i).1
      where
        sizes : (((size == d) ≡ true) × (size ≡ d)) ⊎ (((size == d) ≡ false) × (size ≡ d → ⊥)) → (((other_size == d) ≡ true) × (other_size ≡ d)) ⊎ (((other_size == d) ≡ false) × (other_size ≡ d → ⊥)) → (size == d) ≡ true → (other_size == d) ≡ true → size ≡ other_size
        sizes (inl m) (inl n) x y = m.1 ∙ sym n.1
        sizes (inr m) n x y = not_both _ x m.0
        sizes (inl m) (inr n) x y = not_both _ y n.0
    by_what _ h i = absurd cc

    by_first : (f : Passed) × (find (λ (x : Passed). are_one_region (whats.Shared id host guest size owner) (what_of x)) xs ≡ Some f) → size ≡ other_size
    by_first (f, found) =
        let one : unlike (whats.Shared id host guest size owner) (Some f) ≡ None = sym (ap (unlike (whats.Shared id host guest size owner)) found) ∙ subst (λ (w : What). unlike w (find (λ (x : Passed). are_one_region w (what_of x)) xs) ≡ None) p_is (agree j p p_at) in
        let two : unlike (whats.Shared id other other_guest other_size other_owner) (Some f) ≡ None = sym (ap (unlike (whats.Shared id other other_guest other_size other_owner)) (same_test xs ∙ found)) ∙ subst (λ (w : What). unlike w (find (λ (x : Passed). are_one_region w (what_of x)) xs) ≡ None) q_is (agree k q q_at) in
        by_what (what_of f) (like (whats.Shared id host guest size owner) f one) (like (whats.Shared id other other_guest other_size other_owner) f two)

-- where a run is found, it is at a place
run_at : (id : List ℕ) (runs : List Run) (run : Run) → find (λ (one : Run). bytes_eq id one.id) runs ≡ Some run → (k : ℕ) × (slice_get runs k ≡ Some run) × (id ≡ run.id)
run_at id [] run is = absurd (none-some _ is)
run_at id (x ∷ xs) run is = by_test (bytes_eq id x.id) refl is (λ e. let found = run_at id xs run e in (suc found.0, found.1, found.2))
  where
    by_test : (b : Bool) → bytes_eq id x.id ≡ b → cond b (Some x) (find (λ (one : Run). bytes_eq id one.id) xs) ≡ Some run → (find (λ (one : Run). bytes_eq id one.id) xs ≡ Some run → (k : ℕ) × (slice_get (x ∷ xs) k ≡ Some run) × (id ≡ run.id)) →
        (k : ℕ) × (slice_get (x ∷ xs) k ≡ Some run) × (id ≡ run.id)
    by_test true here e later = (0, e, (bytes_eq-Decides id x.id).0 here ∙ ap (λ (one : Run). one.id) (same_Some x run e))
    by_test false here e later = later e

-- the run of a region without a host address: it lies at its place, is as long as the region, and its frames are those of the region
pub record IsRunOf (wanted : List Request) (runs : List Run) (id : List ℕ) (size : ℕ) (run : Run) : Type 0 where
  pub place : ℕ
  pub request : Request
  pub at : slice_get runs place ≡ Some run
  pub asked : slice_get wanted place ≡ Some request
  pub same_id : id ≡ run.id
  pub count : request.count ≡ size / 4096
  pub whole : AreWholePages run.host size

module _ (all : List Passed) (agree : Agree all) (free left : List ℕ) (runs : List Run) (are : AreRuns (requests [] all) free left runs) where
  pub run_of : (k : ℕ) (p : Passed) (id : List ℕ) (guest size : ℕ) (owner : Bool) (run : Run) → slice_get all k ≡ Some p → what_of p ≡ whats.Shared id None guest size owner → AreWholePages guest size → find (λ (one : Run). bytes_eq id one.id) runs ≡ Some run →
      IsRunOf (requests [] all) runs id size run
  run_of k p id guest size owner run at is whole found =
      let there = run_at id runs run found in
      let drawn = are.each there.0 run there.1 in
      let item = request_item [] all there.0 drawn.request drawn.at in
      let asks = item.3 in
      let same : id ≡ drawn.request.id = there.2 ∙ drawn.same_id in
      let size_is : size ≡ asks.size = one_size all agree k item.0 p item.1 id None None guest size asks.guest asks.size owner asks.owner at item.2 is (asks.says ∙ ap (λ (i : List ℕ). whats.Shared i None asks.guest asks.size asks.owner) (sym same)) in
      let count : drawn.request.count ≡ size / 4096 = asks.count ∙ ap (λ (n : ℕ). n / 4096) (sym size_is) in
      let size_whole : size % 4096 ≡ 0 = whole.size_whole in
      let some : 0 < size = whole.some in
      let low = drawn.low (omega arith) in
      record {
        place = there.0;
        request = drawn.request;
        at = there.1;
        asked = drawn.at;
        same_id = there.2;
        count = count;
        whole = record { base_whole = drawn.whole; size_whole = size_whole; some = some; low = omega (arith, low, drawn.whole) };
      }

  -- a frame of a region without a host address lies in its run
  pub record InRun (id : List ℕ) (size frame : ℕ) : Type 0 where
    pub run : Run
    pub found : find (λ (one : Run). bytes_eq id one.id) runs ≡ Some run
    pub is : IsRunOf (requests [] all) runs id size run
    pub low : run.host / 4096 ≤ frame
    pub high : frame < run.host / 4096 + is.request.count

  in_run : (k frame : ℕ) (p : Passed) (id : List ℕ) (guest size : ℕ) (owner : Bool) → slice_get all k ≡ Some p → what_of p ≡ whats.Shared id None guest size owner → AreWholePages guest size → holds (region_claims (host_in runs id None) size) frame ≡ true → InRun id size frame
  in_run k frame p id guest size owner at is whole held = by_found (find (λ (one : Run). bytes_eq id one.id) runs) refl held
    where
      by_found : (o : Option Run) → find (λ (one : Run). bytes_eq id one.id) runs ≡ o → holds (region_claims (option_map (λ (run : Run). run.host) o) size) frame ≡ true → InRun id size frame
      by_found None found e = not_both _ e refl
      by_found (Some run) found e =
          let mine = run_of k p id guest size owner run at is whole found in
          let same : touched (record { base = run.host; size = size }) ≡ record { first = run.host / 4096; count = size / 4096 } = touched_whole run.host size mine.whole in
          let range : FrameRange = record { first = run.host / 4096; count = size / 4096 } in
          let within : is_within (run.host / 4096) (size / 4096) frame ≡ true = sym (holds_one range frame) ∙ ap (λ (one : FrameRange). holds (one ∷ []) frame) (sym same) ∙ e in
          let bounds = within_bounds (run.host / 4096) (size / 4096) frame within in
          record { run = run; found = found; is = mine; low = bounds.0; high = omega (arith, bounds.1, mine.count) }

  unplaced_tells : (what : What) → is_unplaced what ≡ true → (id : List ℕ) × (guest : ℕ) × (size : ℕ) × (owner : Bool) × (what ≡ whats.Shared id None guest size owner)
  unplaced_tells (whats.Shared id None guest size owner) is = (id, guest, size, owner, refl)
  unplaced_tells (whats.Shared id (Some base) guest size owner) is = absurd cc
  unplaced_tells _ is = absurd cc

  -- its frame, told by the item
  pub frame_tells : (k frame : ℕ) (p : Passed) → ((j : ℕ) (q : Passed) → slice_get all j ≡ Some q → IsSound (what_of q)) → slice_get all k ≡ Some p → is_unplaced (what_of p) ≡ true → holds (claims_at runs (what_of p) p.claims) frame ≡ true →
      (id : List ℕ) × (guest : ℕ) × (size : ℕ) × (owner : Bool) × (what_of p ≡ whats.Shared id None guest size owner) × InRun id size frame
  frame_tells k frame p sound at drawn held =
      let t = unplaced_tells (what_of p) drawn in
      let whole : AreWholePages t.1 t.2 = subst IsSound t.4 (sound k p at) in
      (t.0, t.1, t.2, t.3, t.4, in_run k frame p t.0 t.1 t.2 t.3 at t.4 whole (subst (λ (w : What). holds (claims_at runs w p.claims) frame ≡ true) t.4 held))

  pub runs_free : ((j : ℕ) (q : Passed) → slice_get all j ≡ Some q → IsSound (what_of q)) → (k frame : ℕ) (p : Passed) → slice_get all k ≡ Some p → is_unplaced (what_of p) ≡ true → holds (claims_at runs (what_of p) p.claims) frame ≡ true →
      (is_in free frame ≡ true) × (is_in left frame ≡ false)
  runs_free sound k frame p at drawn held =
      let t = frame_tells k frame p sound at drawn held in
      let r = t.5 in
      let own = are.each r.is.place r.run r.is.at in
      let same : own.request ≡ r.is.request = same_Some own.request r.is.request (sym own.at ∙ r.is.asked) in
      let count = ap (λ (one : Request). one.count) same in
      (own.was_free frame r.low (omega (arith, r.high, count)), own.gone frame r.low (omega (arith, r.high, count)))

  pub runs_apart : ((j : ℕ) (q : Passed) → slice_get all j ≡ Some q → IsSound (what_of q)) → (j k frame : ℕ) (p q : Passed) → slice_get all j ≡ Some p → slice_get all k ≡ Some q → is_unplaced (what_of p) ≡ true → is_unplaced (what_of q) ≡ true → are_one_region (what_of p) (what_of q) ≡ false →
      holds (claims_at runs (what_of p) p.claims) frame ≡ true → holds (claims_at runs (what_of q) q.claims) frame ≡ true → ⊥
  runs_apart sound j k frame p q p_at q_at p_drawn q_drawn two p_held q_held =
      let a = frame_tells j frame p sound p_at p_drawn p_held in
      let b = frame_tells k frame q sound q_at q_drawn q_held in
      let r = a.5 in
      let s = b.5 in
      by_order r.is.place s.is.place r.run s.run r.is.request s.is.request (order r.is.place s.is.place) r.is.at s.is.at r.is.asked s.is.asked
      (λ ids. differ a.0 b.0 a.1 b.1 a.2 b.2 a.3 b.3 a.4 b.4 (r.is.same_id ∙ ids ∙ sym s.is.same_id)) r.low r.high s.low s.high
    where
      order : (j k : ℕ) → (j < k) ⊎ (k < j) ⊎ (j ≡ k)
      order j k = grind arith

      differ : (id other : List ℕ) (guest other_guest size other_size : ℕ) (owner other_owner : Bool) → what_of p ≡ whats.Shared id None guest size owner → what_of q ≡ whats.Shared other None other_guest other_size other_owner → id ≡ other → ⊥
      differ id other guest other_guest size other_size owner other_owner p_is q_is same =
          not_both (bytes_eq id other) ((bytes_eq-Decides id other).1 same) (sym (ap (are_one_region (whats.Shared id None guest size owner)) q_is) ∙ sym (ap (λ (w : What). are_one_region w (what_of q)) p_is) ∙ two)

      by_order : (m n : ℕ) (x y : Run) (one other : Request) → (m < n) ⊎ (n < m) ⊎ (m ≡ n) → slice_get runs m ≡ Some x → slice_get runs n ≡ Some y → slice_get (requests [] all) m ≡ Some one → slice_get (requests [] all) n ≡ Some other → (x.id ≡ y.id → ⊥) →
          x.host / 4096 ≤ frame → frame < x.host / 4096 + one.count → y.host / 4096 ≤ frame → frame < y.host / 4096 + other.count → ⊥
      by_order m n x y one other (inl low) x_at y_at x_asked y_asked apart a b c d = are.apart m n frame x y one other low x_at y_at x_asked y_asked a b c d
      by_order m n x y one other (inr (inl high)) x_at y_at x_asked y_asked apart a b c d = are.apart n m frame y x other one high y_at x_at y_asked x_asked c d a b
      by_order m n x y one other (inr (inr same)) x_at y_at x_asked y_asked apart a b c d = apart (ap (λ (run : Run). run.id) (same_Some x y (sym x_at ∙ ap (slice_get runs) same ∙ y_at)))

  -- what an item describes stays sound
  pub sound_placed : ((j : ℕ) (q : Passed) → slice_get all j ≡ Some q → IsSound (what_of q)) → (k : ℕ) (p : Passed) → slice_get all k ≡ Some p → IsSound (placed_what runs (what_of p))
  sound_placed sound k p at = by_what (what_of p) refl (sound k p at)
    where
      by_run : (id : List ℕ) (guest size : ℕ) (owner : Bool) → what_of p ≡ whats.Shared id None guest size owner → AreWholePages guest size → (o : Option Run) → find (λ (one : Run). bytes_eq id one.id) runs ≡ o → IsSoundRegion (option_map (λ (run : Run). run.host) o) guest size
      by_run id guest size owner is whole None found = whole
      by_run id guest size owner is whole (Some run) found = ((run_of k p id guest size owner run at is whole found).whole, whole)

      by_what : (what : What) → what_of p ≡ what → IsSound what → IsSound (placed_what runs what)
      by_what (whats.Shared id None guest size owner) is whole = by_run id guest size owner is whole (find (λ (one : Run). bytes_eq id one.id) runs) refl
      by_what (whats.Shared id (Some base) guest size owner) is whole = whole
      by_what (whats.Head cpus pages spis direct console) is whole = whole
      by_what (whats.Static where_to) is whole = whole
      by_what (whats.Range host size guest) is whole = whole
      by_what (whats.Irq number) is whole = whole
      by_what _ is whole = tt
