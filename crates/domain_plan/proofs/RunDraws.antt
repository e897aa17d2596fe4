-- What regions draw.
use Rattle.std.proofs.Common.{◌≡◌, ℕ, zero, suc, ◌+◌, ◌*◌, ◌/◌, ◌%◌, ◌^◌, ◌<◌, ◌≤◌, ◌⊎◌, Bool, true, false, List, [], ◌∷◌, length, Option, Some, None, Result, Ok, Err, refl, sym, ap, subst, ◌∙◌, inl, inr, arith}
use Rattle.std.specs.Prelude.{slice_get}
use Rattle.std.proofs.lemmas.Option.{same_Some, none-some}
use Rattle.texts.specs.Consecutive.{is_in}
use Rattle.described.specs.declared.why.Why.TheVariants.{NoRam}
use Rattle.frame_alloc.specs.Frames.{AreFrames, without, lowest_run}
use Rattle.frame_alloc.proofs.FreeFrames.{is_in-from_without, is_in-without_taken, AreFrames-without, lowest_run-tells}
use Rattle.frame_alloc.proofs.AscendingFrames.{lowest_run-bound}
use Rattle.frame_alloc.proofs.CommonFrames.{true_or_false, not_both}
use Rattle.item_checks.specs.Refusals.{Refusal}
use Rattle.domain_plan.specs.Regions.{Request, Runs, region_item, and_run, runs_drawn}
use Rattle.domain_plan.specs.declared.runs.Run.{Run}

-- a run that was drawn for the request at its place: its frames were free, and are not left
pub record IsRunAt (wanted : List Request) (free left : List ℕ) (k : ℕ) (run : Run) : Type 0 where
  pub request : Request
  pub at : slice_get wanted k ≡ Some request
  pub same_id : run.id ≡ request.id
  pub whole : run.host % 4096 ≡ 0
  pub low : 0 < request.count → run.host / 4096 + request.count ≤ 2 ^ 28
  pub was_free : (frame : ℕ) → run.host / 4096 ≤ frame → frame < run.host / 4096 + request.count → is_in free frame ≡ true
  pub gone : (frame : ℕ) → run.host / 4096 ≤ frame → frame < run.host / 4096 + request.count → is_in left frame ≡ false

-- the runs of several requests, which are apart
pub record AreRuns (wanted : List Request) (free left : List ℕ) (runs : List Run) : Type 0 where
  pub each : (k : ℕ) (run : Run) → slice_get runs k ≡ Some run → IsRunAt wanted free left k run
  pub apart : (j k frame : ℕ) (one other : Run) (request other_request : Request) → j < k → slice_get runs j ≡ Some one → slice_get runs k ≡ Some other → slice_get wanted j ≡ Some request → slice_get wanted k ≡ Some other_request →
      one.host / 4096 ≤ frame → frame < one.host / 4096 + request.count → other.host / 4096 ≤ frame → frame < other.host / 4096 + other_request.count → ⊥
  pub left_free : (frame : ℕ) → is_in left frame ≡ true → is_in free frame ≡ true
  pub ascending : AreFrames left

no_runs : (free : List ℕ) → AreFrames free → AreRuns [] free free []
no_runs free ok = record {
  each = λ k run at. absurd (none-some _ at);
  apart = λ j k frame one other request other_request low at. absurd (none-some _ at);
  left_free = λ frame h. h;
  ascending = ok;
}

-- one run, and then those from what it leaves
run_then : (request : Request) (wanted : List Request) (free : List ℕ) (first : ℕ) (later : Runs) → AreFrames free → lowest_run request.count free ≡ Some first → AreRuns wanted (without first request.count free) later.left later.runs →
    AreRuns (request ∷ wanted) free later.left (record { id = request.id; host = first * 4096 } ∷ later.runs)
run_then request wanted free first later ok found are = record { each = each; apart = apart; left_free = λ frame h. (is_in-from_without first request.count free frame (are.left_free frame h)).0; ascending = are.ascending }
  where
    mine : Run
    mine = record { id = request.id; host = first * 4096 }

    address : first * 4096 / 4096 ≡ first
    address = omega arith

    gone : (frame : ℕ) → first ≤ frame → frame < first + request.count → is_in later.left frame ≡ false
    gone frame low high = by_test (true_or_false (is_in later.left frame))
      where
        by_test : (is_in later.left frame ≡ true) ⊎ (is_in later.left frame ≡ false) → is_in later.left frame ≡ false
        by_test (inr out) = out
        by_test (inl inside) = not_both _ (are.left_free frame inside) (is_in-without_taken first request.count free frame low high)

    each : (k : ℕ) (run : Run) → slice_get (mine ∷ later.runs) k ≡ Some run → IsRunAt (request ∷ wanted) free later.left k run
    each zero run at = subst (λ (one : Run). IsRunAt (request ∷ wanted) free later.left 0 one) (same_Some mine run at) (record {
      request = request;
      at = refl;
      same_id = refl;
      whole = omega arith;
      low = λ some. let bound = lowest_run-bound request.count free first some ok found in omega (arith, bound, address);
      was_free = λ frame low high. lowest_run-tells request.count free first found frame (omega (arith, low, address)) (omega (arith, high, address));
      gone = λ frame low high. gone frame (omega (arith, low, address)) (omega (arith, high, address));
    })
    each (suc k) run at =
        let is = are.each k run at in
        record {
          request = is.request;
          at = is.at;
          same_id = is.same_id;
          whole = is.whole;
          low = is.low;
          was_free = λ frame low high. (is_in-from_without first request.count free frame (is.was_free frame low high)).0;
          gone = is.gone;
        }

    apart : (j k frame : ℕ) (one other : Run) (own other_request : Request) → j < k → slice_get (mine ∷ later.runs) j ≡ Some one → slice_get (mine ∷ later.runs) k ≡ Some other → slice_get (request ∷ wanted) j ≡ Some own → slice_get (request ∷ wanted) k ≡ Some other_request →
        one.host / 4096 ≤ frame → frame < one.host / 4096 + own.count → other.host / 4096 ≤ frame → frame < other.host / 4096 + other_request.count → ⊥
    apart j zero frame one other own other_request low at other_at asked other_asked a b c d = absurd (omega arith)
    apart zero (suc k) frame one other own other_request low at other_at asked other_asked a b c d =
        let is = are.each k other other_at in
        let same : is.request ≡ other_request = same_Some is.request other_request (sym is.at ∙ other_asked) in
        let count : is.request.count ≡ other_request.count = ap (λ (r : Request). r.count) same in
        let there : is_in (without first request.count free) frame ≡ true = is.was_free frame c (omega (arith, d, count)) in
        let host : first * 4096 ≡ one.host = ap (λ (r : Run). r.host) (same_Some mine one at) in
        let asks : request.count ≡ own.count = ap (λ (r : Request). r.count) (same_Some request own asked) in
        not_both _ there (is_in-without_taken first request.count free frame (omega (arith, a, host)) (omega (arith, b, host, asks)))
    apart (suc j) (suc k) frame one other own other_request low at other_at asked other_asked a b c d = are.apart j k frame one other own other_request (omega arith) at other_at asked other_asked a b c d

pub runs_tell : (wanted : List Request) (free : List ℕ) (all : Runs) → AreFrames free → runs_drawn wanted free ≡ Ok all → AreRuns wanted free all.left all.runs
unfolding runs_drawn
runs_tell [] free all ok is =
    let given : Runs = record { runs = []; left = free } in
    let same : given ≡ all = cc in
    subst (λ (one : Runs). AreRuns [] free one.left one.runs) same (no_runs free ok)
runs_tell (request ∷ wanted) free all ok is = by_first (lowest_run request.count free) refl (λ more later fine e. runs_tell wanted more later fine e) is
  where
    by_later : (first : ℕ) → lowest_run request.count free ≡ Some first → (o : Result Runs Refusal) → ((later : Runs) → o ≡ Ok later → AreRuns wanted (without first request.count free) later.left later.runs) →
        and_run (record { id = request.id; host = first * 4096 }) o ≡ Ok all → AreRuns (request ∷ wanted) free all.left all.runs
    by_later first found (Err refusal) told e = absurd cc
    by_later first found (Ok later) told e =
        let given : Runs = record { runs = record { id = request.id; host = first * 4096 } ∷ later.runs; left = later.left } in
        let same : given ≡ all = cc in
        subst (λ (one : Runs). AreRuns (request ∷ wanted) free one.left one.runs) same (run_then request wanted free first later ok found (told later refl))

    by_first : (o : Option ℕ) → lowest_run request.count free ≡ o → ((more : List ℕ) (later : Runs) → AreFrames more → runs_drawn wanted more ≡ Ok later → AreRuns wanted more later.left later.runs) →
        (elim o as (λ _. Result Runs Refusal) [ None ↦ Err (region_item request, NoRam request.count (length free)) | Some first ↦ and_run (record { id = request.id; host = first * 4096 }) (runs_drawn wanted (without first request.count free)) ]) ≡ Ok all →
        AreRuns (request ∷ wanted) free all.left all.runs
    by_first None found told e = absurd cc
    by_first (Some first) found told e =
        by_later first found (runs_drawn wanted (without first request.count free)) (λ later is. told (without first request.count free) later (AreFrames-without first request.count free ok) is) e
