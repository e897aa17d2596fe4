-- Region after region, as they draw.
use Rattle.std.proofs.Common.{◌≡◌, ℕ, zero, suc, ◌+◌, ◌*◌, ◌/◌, ◌%◌, ◌<◌, ◌≤◌, ◌&&◌, ◌||◌, Bool, true, false, cond, not, List, [], ◌∷◌, ◌++◌, length, length-append, take, drop, get_or, Option, Some, None, Result, Ok, Err, All, refl, sym, ap, subst, ◌∙◌, arith, append-nil, append_assoc}
use Rattle.std.specs.Prelude.{slice_get, bytes_eq}
use Rattle.std.specs.List.{list_any}
use Rattle.std.proofs.lemmas.List.{drop_more, drop_all, take_more}
use Rattle.std.proofs.lemmas.List.Folds.{list_any-append}
use Rattle.described.specs.Sound.{AreWholePages, IsSound}
use Rattle.texts.specs.declared.ranges.FrameRange.{FrameRange}
use Rattle.described.specs.declared.item.What.{What}
use Rattle.described.specs.declared.item.What.TheVariants as whats
use Rattle.described.specs.declared.why.Why.TheVariants.{NoRam}
use Rattle.frame_alloc.specs.Frames.{without, lowest_run}
use Rattle.item_checks.specs.declared.state.Region.{Region}
use Rattle.item_checks.specs.Taken.{Passed, item_of, what_of}
use Rattle.item_checks.specs.Reasons.{are_one_region}
use Rattle.item_checks.specs.Refusals.{Refusal}
use Rattle.domain_plan.specs.Draws.{free_frames}
use Rattle.domain_plan.specs.Regions.{Request, Runs, request_in, requests, region_item, and_run, runs_drawn}
use Rattle.domain_plan.specs.PrivateRuns.{has_id, is_requested, request_of, asked, requests_in}
use Rattle.item_checks.specs.Standing.{region_in, regions_from}
use Rattle.domain_plan.specs.declared.runs.Run.{Run}
use Rattle.item_checks.proofs.RegionLemmas.{regions_from-more}

-- what regions before drew, and then the others
abbrev pub after_runs : List Run → Result Runs Refusal → Result Runs Refusal
after_runs before (Err refusal) = Err refusal
after_runs before (Ok later) = Ok (record { runs = before ++ later.runs; left = later.left })

pub runs_start : (o : Result Runs Refusal) → o ≡ after_runs [] o
runs_start (Err refusal) = refl
runs_start (Ok later) = refl

after_twice : (before more : List Run) (o : Result Runs Refusal) → after_runs before (after_runs more o) ≡ after_runs (before ++ more) o
after_twice before more (Err refusal) = refl
after_twice before more (Ok later) = ap (λ (xs : List Run). Ok (record { runs = xs; left = later.left })) (sym (append_assoc before more later.runs))

one_front : (run : Run) (more : List Run) (o : Result Runs Refusal) → and_run run (after_runs more o) ≡ after_runs (run ∷ more) o
one_front run more (Err refusal) = refl
one_front run more (Ok later) = refl

-- requests that are met, before others
runs_then : (wanted others : List Request) (free left : List ℕ) (more : List Run) → runs_drawn wanted free ≡ Ok (record { runs = more; left = left }) → runs_drawn (wanted ++ others) free ≡ after_runs more (runs_drawn others left)
unfolding runs_drawn
runs_then [] others free left more is =
    let given : Runs = record { runs = []; left = free } in
    let all : Runs = record { runs = more; left = left } in
    let same : given ≡ all = cc in
    runs_start (runs_drawn others free) ∙ ap (λ (one : Runs). after_runs one.runs (runs_drawn others one.left)) same
runs_then (request ∷ wanted) others free left more is = by_first (lowest_run request.count free) is (λ rest later e. runs_then wanted others rest later.left later.runs e)
  where
    by_rest : (run : Run) (rest : List ℕ) (o : Result Runs Refusal) → runs_drawn wanted rest ≡ o → and_run run o ≡ Ok (record { runs = more; left = left }) →
        ((rest : List ℕ) (later : Runs) → runs_drawn wanted rest ≡ Ok later → runs_drawn (wanted ++ others) rest ≡ after_runs later.runs (runs_drawn others later.left)) →
        and_run run (runs_drawn (wanted ++ others) rest) ≡ after_runs more (runs_drawn others left)
    by_rest run rest (Err refusal) drew e met = absurd cc
    by_rest run rest (Ok later) drew e met =
        let given : Runs = record { runs = run ∷ later.runs; left = later.left } in
        let all : Runs = record { runs = more; left = left } in
        let same : given ≡ all = cc in
        ap (and_run run) (met rest later drew) ∙ one_front run later.runs (runs_drawn others later.left) ∙ ap (λ (one : Runs). after_runs one.runs (runs_drawn others one.left)) same

    by_first : (o : Option ℕ) →
        (elim o as (λ _. Result Runs Refusal) [ None ↦ Err (region_item request, NoRam request.count (length free)) | Some first ↦ and_run (record { id = request.id; host = first * 4096 }) (runs_drawn wanted (without first request.count free)) ]) ≡ Ok (record { runs = more; left = left }) →
        ((rest : List ℕ) (later : Runs) → runs_drawn wanted rest ≡ Ok later → runs_drawn (wanted ++ others) rest ≡ after_runs later.runs (runs_drawn others later.left)) →
        (elim o as (λ _. Result Runs Refusal) [ None ↦ Err (region_item request, NoRam request.count (length free)) | Some first ↦ and_run (record { id = request.id; host = first * 4096 }) (runs_drawn (wanted ++ others) (without first request.count free)) ]) ≡ after_runs more (runs_drawn others left)
    by_first None e met = absurd cc
    by_first (Some first) e met =
        by_rest (record { id = request.id; host = first * 4096 }) (without first request.count free) (runs_drawn wanted (without first request.count free)) refl e met

-- requests of which one is not
runs_short : (wanted others : List Request) (free : List ℕ) (refusal : Refusal) → runs_drawn wanted free ≡ Err refusal → runs_drawn (wanted ++ others) free ≡ Err refusal
unfolding runs_drawn
runs_short [] others free refusal is = absurd cc
runs_short (request ∷ wanted) others free refusal is = by_first (lowest_run request.count free) is (λ rest other e. runs_short wanted others rest other e)
  where
    by_rest : (run : Run) (rest : List ℕ) (o : Result Runs Refusal) → runs_drawn wanted rest ≡ o → and_run run o ≡ Err refusal →
        ((rest : List ℕ) (other : Refusal) → runs_drawn wanted rest ≡ Err other → runs_drawn (wanted ++ others) rest ≡ Err other) → and_run run (runs_drawn (wanted ++ others) rest) ≡ Err refusal
    by_rest run rest (Err other) drew e short = ap (and_run run) (short rest other drew) ∙ e
    by_rest run rest (Ok later) drew e short = absurd cc

    by_first : (o : Option ℕ) →
        (elim o as (λ _. Result Runs Refusal) [ None ↦ Err (region_item request, NoRam request.count (length free)) | Some first ↦ and_run (record { id = request.id; host = first * 4096 }) (runs_drawn wanted (without first request.count free)) ]) ≡ Err refusal →
        ((rest : List ℕ) (other : Refusal) → runs_drawn wanted rest ≡ Err other → runs_drawn (wanted ++ others) rest ≡ Err other) →
        (elim o as (λ _. Result Runs Refusal) [ None ↦ Err (region_item request, NoRam request.count (length free)) | Some first ↦ and_run (record { id = request.id; host = first * 4096 }) (runs_drawn (wanted ++ others) (without first request.count free)) ]) ≡ Err refusal
    by_first None e short = e
    by_first (Some first) e short =
        by_rest (record { id = request.id; host = first * 4096 }) (without first request.count free) (runs_drawn wanted (without first request.count free)) refl e short

pub nothing_drawn : (free : List ℕ) → runs_drawn [] free ≡ Ok (record { runs = []; left = free })
unfolding runs_drawn
nothing_drawn free = refl

pub asked_one : (before : List Region) (region : Region) → is_requested before region ≡ true → asked before region ≡ request_of region ∷ []
asked_one before region wanted = ap (λ (b : Bool). cond b (request_of region ∷ []) []) wanted

pub asked_none : (before : List Region) (region : Region) → is_requested before region ≡ false → asked before region ≡ []
asked_none before region not_wanted = ap (λ (b : Bool). cond b (request_of region ∷ []) []) not_wanted

-- what draws of one region come to
pub drawn_one : (request : Request) (free : List ℕ) (first : ℕ) (id : List ℕ) (host : ℕ) → lowest_run request.count free ≡ Some first → id ≡ request.id → host ≡ first * 4096 → runs_drawn (request ∷ []) free ≡ Ok (record { runs = record { id = id; host = host } ∷ []; left = without first request.count free })
unfolding runs_drawn
drawn_one request free first id host found same at =
    ap (λ (o : Option ℕ). elim o as (λ _. Result Runs Refusal) [ None ↦ Err (region_item request, NoRam request.count (length free)) | Some low ↦ and_run (record { id = request.id; host = low * 4096 }) (runs_drawn [] (without low request.count free)) ]) found
    ∙ ap (λ (name : List ℕ). made name (first * 4096)) (sym same) ∙ ap (made id) (sym at)
  where
    made : List ℕ → ℕ → Result Runs Refusal
    made name address = Ok (record { runs = record { id = name; host = address } ∷ []; left = without first request.count free })

pub short_one : (request : Request) (free : List ℕ) → lowest_run request.count free ≡ None → runs_drawn (request ∷ []) free ≡ Err (region_item request, NoRam request.count (length free))
unfolding runs_drawn
short_one request free none =
    ap (λ (o : Option ℕ). elim o as (λ _. Result Runs Refusal) [ None ↦ Err (region_item request, NoRam request.count (length free)) | Some low ↦ and_run (record { id = request.id; host = low * 4096 }) (runs_drawn [] (without low request.count free)) ]) none

split : (regions : List Region) (i : ℕ) (r : Region) → i < length regions → r ≡ get_or regions i r → requests_in (take i regions) (drop i regions) ≡ asked (take i regions) r ++ requests_in (take (i + 1) regions) (drop (i + 1) regions)
unfolding requests_in
split regions i r low is =
    ap (requests_in (take i regions)) (drop_more regions i r low ∙ ap (λ (one : Region). one ∷ drop (i + 1) regions) (sym is))
    ∙ ap (λ (xs : List Region). asked (take i regions) r ++ requests_in xs (drop (i + 1) regions)) (sym (take_more regions i r low ∙ ap (λ (one : Region). take i regions ++ one ∷ []) (sym is)))

pub region_met : (regions : List Region) (i : ℕ) (r : Region) (free left : List ℕ) (before more : List Run) → i < length regions → r ≡ get_or regions i r → runs_drawn (asked (take i regions) r) free ≡ Ok (record { runs = more; left = left }) →
    after_runs before (runs_drawn (requests_in (take i regions) (drop i regions)) free) ≡ after_runs (before ++ more) (runs_drawn (requests_in (take (i + 1) regions) (drop (i + 1) regions)) left)
region_met regions i r free left before more low is met =
    let others : List Request = requests_in (take (i + 1) regions) (drop (i + 1) regions) in
    ap (λ (xs : List Request). after_runs before (runs_drawn xs free)) (split regions i r low is)
    ∙ ap (after_runs before) (runs_then (asked (take i regions) r) others free left more met)
    ∙ after_twice before more (runs_drawn others left)

pub region_unmet : (regions : List Region) (i : ℕ) (r : Region) (free : List ℕ) (before : List Run) (refusal : Refusal) → i < length regions → r ≡ get_or regions i r → runs_drawn (asked (take i regions) r) free ≡ Err refusal →
    after_runs before (runs_drawn (requests_in (take i regions) (drop i regions)) free) ≡ Err refusal
region_unmet regions i r free before refusal low is unmet =
    ap (λ (xs : List Request). after_runs before (runs_drawn xs free)) (split regions i r low is)
    ∙ ap (after_runs before) (runs_short (asked (take i regions) r) (requests_in (take (i + 1) regions) (drop (i + 1) regions)) free refusal unmet)

pub regions_done : (regions : List Region) (i : ℕ) (free : List ℕ) (before : List Run) → length regions ≤ i → after_runs before (runs_drawn (requests_in (take i regions) (drop i regions)) free) ≡ Ok (record { runs = before; left = free })
unfolding requests_in runs_drawn
regions_done regions i free before past =
    ap (λ (xs : List Region). after_runs before (runs_drawn (requests_in (take i regions) xs) free)) (drop_all i regions past) ∙ ap (λ (xs : List Run). Ok (record { runs = xs; left = free })) (append-nil before)

-- the regions that the state keeps ask for what the items ask for
has_id_from : (id : List ℕ) (host : Option ℕ) (guest size : ℕ) (owner : Bool) (place : ℕ) (ps : List Passed) → has_id (regions_from place ps) id ≡ list_any (λ (one : Passed). are_one_region (whats.Shared id host guest size owner) (what_of one)) ps
unfolding regions_from
has_id_from id host guest size owner place [] = refl
has_id_from id host guest size owner place (p ∷ ps) =
    list_any-append (λ (region : Region). bytes_eq id region.id) (region_in (item_of p) place p.entry.guest (what_of p)) (regions_from (place + 1) ps)
    ∙ rw (one (what_of p), has_id_from id host guest size owner (place + 1) ps) refl
  where
    alone : (b : Bool) → (b || false) ≡ b
    alone true = refl
    alone false = refl

    one : (w : What) → list_any (λ (region : Region). bytes_eq id region.id) (region_in (item_of p) place p.entry.guest w) ≡ are_one_region (whats.Shared id host guest size owner) w
    one (whats.Shared a b c d e) = alone (bytes_eq id a)
    one _ = refl

asked_next : (before : List Passed) (p : Passed) (ps : List Passed) (place : ℕ) → place ≡ 0 + length before → requests_in (regions_from 0 (before ++ p ∷ [])) (regions_from (place + 1) ps) ≡ requests (before ++ p ∷ []) ps
    → requests_in (regions_from 0 before) (regions_from place (p ∷ ps)) ≡ requests before (p ∷ ps)
unfolding requests requests_in regions_from
asked_next before p ps place at later = by_what (what_of p) refl
  where
    more : regions_from 0 (before ++ p ∷ []) ≡ regions_from 0 before ++ region_in (item_of p) place p.entry.guest (what_of p)
    more = regions_from-more 0 before p ∙ ap (λ (n : ℕ). regions_from 0 before ++ region_in (item_of p) n p.entry.guest (what_of p)) (sym at)

    nothing : (b : Bool) (xs : List Request) → xs ≡ cond {A = List Request} b [] [] ++ xs
    nothing true xs = refl
    nothing false xs = refl

    turned : (b : Bool) (r : Request) (xs : List Request) → (cond (not b) (r ∷ []) [] ++ xs) ≡ (cond b [] (r ∷ []) ++ xs)
    turned true r xs = refl
    turned false r xs = refl

    by_host : (id : List ℕ) (host : Option ℕ) (guest size : ℕ) (owner : Bool) → what_of p ≡ whats.Shared id host guest size owner →
        requests_in (regions_from 0 before) (region_in (item_of p) place p.entry.guest (whats.Shared id host guest size owner) ++ regions_from (place + 1) ps)
        ≡ (cond (list_any (λ (one : Passed). are_one_region (whats.Shared id host guest size owner) (what_of one)) before) [] (request_in (item_of p).path (whats.Shared id host guest size owner)) ++ requests (before ++ p ∷ []) ps)
    by_host id None guest size owner is =
        ap (λ (xs : List Region). cond (not (has_id (regions_from 0 before) id)) (record { path = (item_of p).path; id = id; count = size / 4096 } ∷ []) [] ++ requests_in xs (regions_from (place + 1) ps))
        (sym (more ∙ ap (λ (w : What). regions_from 0 before ++ region_in (item_of p) place p.entry.guest w) is))
        ∙ ap (λ (xs : List Request). cond (not (has_id (regions_from 0 before) id)) (record { path = (item_of p).path; id = id; count = size / 4096 } ∷ []) [] ++ xs) later
        ∙ turned (has_id (regions_from 0 before) id) (record { path = (item_of p).path; id = id; count = size / 4096 }) (requests (before ++ p ∷ []) ps)
        ∙ ap (λ (b : Bool). cond b [] (record { path = (item_of p).path; id = id; count = size / 4096 } ∷ []) ++ requests (before ++ p ∷ []) ps) (has_id_from id None guest size owner 0 before)
    by_host id (Some base) guest size owner is =
        ap (λ (xs : List Region). requests_in xs (regions_from (place + 1) ps)) (sym (more ∙ ap (λ (w : What). regions_from 0 before ++ region_in (item_of p) place p.entry.guest w) is))
        ∙ later ∙ nothing (list_any (λ (one : Passed). are_one_region (whats.Shared id (Some base) guest size owner) (what_of one)) before) (requests (before ++ p ∷ []) ps)

    none : (w : What) → what_of p ≡ w → region_in (item_of p) place p.entry.guest w ≡ [] → request_in (item_of p).path w ≡ [] →
        requests_in (regions_from 0 before) (region_in (item_of p) place p.entry.guest w ++ regions_from (place + 1) ps)
        ≡ (cond (list_any (λ (one : Passed). are_one_region w (what_of one)) before) [] (request_in (item_of p).path w) ++ requests (before ++ p ∷ []) ps)
    none w is no_region no_request =
        ap (λ (xs : List Region). requests_in (regions_from 0 before) (xs ++ regions_from (place + 1) ps)) no_region
        ∙ ap (λ (xs : List Region). requests_in xs (regions_from (place + 1) ps)) (sym (more ∙ ap (λ (v : What). regions_from 0 before ++ region_in (item_of p) place p.entry.guest v) is ∙ ap (λ (xs : List Region). regions_from 0 before ++ xs) no_region ∙ append-nil (regions_from 0 before)))
        ∙ later ∙ nothing (list_any (λ (one : Passed). are_one_region w (what_of one)) before) (requests (before ++ p ∷ []) ps)
        ∙ ap (λ (xs : List Request). cond (list_any (λ (one : Passed). are_one_region w (what_of one)) before) [] xs ++ requests (before ++ p ∷ []) ps) (sym no_request)

    by_what : (w : What) → what_of p ≡ w →
        requests_in (regions_from 0 before) (region_in (item_of p) place p.entry.guest w ++ regions_from (place + 1) ps)
        ≡ (cond (list_any (λ (one : Passed). are_one_region w (what_of one)) before) [] (request_in (item_of p).path w) ++ requests (before ++ p ∷ []) ps)
    by_what (whats.Shared id host guest size owner) is = by_host id host guest size owner is
    by_what whats.Host is = none whats.Host is refl refl
    by_what whats.Device is = none whats.Device is refl refl
    by_what (whats.Memory entries) is = none (whats.Memory entries) is refl refl
    by_what (whats.Reserved entries) is = none (whats.Reserved entries) is refl refl
    by_what (whats.StaticList entries) is = none (whats.StaticList entries) is refl refl
    by_what (whats.Reserve where_to) is = none (whats.Reserve where_to) is refl refl
    by_what (whats.Load where_to) is = none (whats.Load where_to) is refl refl
    by_what (whats.Static where_to) is = none (whats.Static where_to) is refl refl
    by_what (whats.Module kind where_to) is = none (whats.Module kind where_to) is refl refl
    by_what (whats.Head cpus pages spis direct console) is = none (whats.Head cpus pages spis direct console) is refl refl
    by_what (whats.Partial gic) is = none (whats.Partial gic) is refl refl
    by_what (whats.Range host size guest) is = none (whats.Range host size guest) is refl refl
    by_what (whats.Irq number) is = none (whats.Irq number) is refl refl
    by_what (whats.Port port peer peer_port) is = none (whats.Port port peer peer_port) is refl refl
    by_what whats.Unread is = none whats.Unread is refl refl

asked_from : (before rest : List Passed) (place : ℕ) → place ≡ 0 + length before → requests_in (regions_from 0 before) (regions_from place rest) ≡ requests before rest
unfolding requests requests_in regions_from
asked_from before [] place at = refl
asked_from before (p ∷ ps) place at = asked_next before p ps place at (asked_from (before ++ p ∷ []) ps (place + 1) (omega (arith, at, length-append before (p ∷ []))))

pub all_asked : (passed : List Passed) → requests_in [] (regions_from 0 passed) ≡ requests [] passed
unfolding regions_from
all_asked passed = asked_from [] passed 0 refl

-- a sound region has frames
abbrev AreSome : List Region → Type 0
AreSome [] = Unit {0}
AreSome (region ∷ regions) = (0 < region.size / 4096) × AreSome regions

some_pages : (base size : ℕ) → AreWholePages base size → 0 < size / 4096
some_pages base size whole = let a : size % 4096 ≡ 0 = whole.size_whole in let b : 0 < size = whole.some in omega arith

some_from : (place : ℕ) (ps : List Passed) → ((k : ℕ) (p : Passed) → slice_get ps k ≡ Some p → IsSound (what_of p)) → AreSome (regions_from place ps)
unfolding regions_from
some_from place [] sound = tt
some_from place (p ∷ ps) sound = by_what (what_of p) (sound zero p refl) (some_from (place + 1) ps (λ k q at. sound (suc k) q at))
  where
    by_what : (w : What) → IsSound w → AreSome (regions_from (place + 1) ps) → AreSome (region_in (item_of p) place p.entry.guest w ++ regions_from (place + 1) ps)
    by_what (whats.Shared id None guest size owner) whole rest = (some_pages guest size whole, rest)
    by_what (whats.Shared id (Some base) guest size owner) whole rest = (some_pages guest size whole.1, rest)
    by_what (whats.Head cpus pages spis direct console) whole rest = rest
    by_what (whats.Static where_to) whole rest = rest
    by_what (whats.Range host size guest) whole rest = rest
    by_what (whats.Irq number) whole rest = rest
    by_what _ whole rest = rest

at_each : (regions : List Region) → AreSome regions → All (λ (region : Region). 0 < region.size / 4096) regions
at_each [] some k d low = absurd (omega arith)
at_each (region ∷ regions) some zero d low = some.0
at_each (region ∷ regions) some (suc k) d low = at_each regions some.1 k d (omega arith)

pub all_some : (regions : List Region) (passed : List Passed) → regions ≡ regions_from 0 passed → ((k : ℕ) (p : Passed) → slice_get passed k ≡ Some p → IsSound (what_of p)) → All (λ (region : Region). 0 < region.size / 4096) regions
all_some regions passed are sound = subst (All (λ (region : Region). 0 < region.size / 4096)) (sym are) (at_each (regions_from 0 passed) (some_from 0 passed sound))

-- what the state's regions draw is what the items' do
pub ran_for : (ram : List FrameRange) (passed : List Passed) (regions : List Region) (free : List ℕ) (o : Result Runs Refusal) → regions ≡ regions_from 0 passed → free ≡ free_frames ram passed → runs_drawn (requests_in [] regions) free ≡ o →
    runs_drawn (requests [] passed) (free_frames ram passed) ≡ o
ran_for ram passed regions free o are is ran =
    ap (λ (xs : List Request). runs_drawn xs (free_frames ram passed)) (sym (all_asked passed))
    ∙ ap (λ (rs : List Region). runs_drawn (requests_in [] rs) (free_frames ram passed)) (sym are)
    ∙ ap (runs_drawn (requests_in [] regions)) (sym is) ∙ ran
