-- Over files that tell what they hold a step calls for one outcome, where what follows does.
use Rattle.std.proofs.Common.{◌≡◌, ◌∙◌, sym, subst, ℕ, List, [], ◌∷◌, codes, Some, None, inl, inr}
use Rattle.std.specs.Prelude.{Option, Result, Ok, Err}
use Rattle.outside.specs.Outside.{File}
use Rattle.outside.specs.declared.files.FileError.{FileError}
use Rattle.outside.specs.declared.files.FileError.TheVariants as read_errors
use Rattle.outside.specs.declared.status.Status.{Status}
use Rattle.outside.specs.declared.status.Status.TheVariants as statuses
use Rattle.run_steps.specs.Messages.{file_message}
use Rattle.run_steps.specs.Endings.{Outcome, Refuses, Builds, Finds, Fails}
use Rattle.run_steps.specs.Steps.{IsRefusal, IsWriting, IsFinding, OnResult, OnOption, IsReading, IsReadRefusal, AfterReading, IsSize, OrFails, AfterSize, AfterSizes, AfterEach}
use Rattle.run_steps.specs.Laws.{Agree, IsDetermined}
use Rattle.run_steps.proofs.Step.{Next, hand_on}

-- a step calls for one outcome, where what follows does
abbrev pub Decides : {A : Type 0} → (Next A → Outcome → Type 0) → Type 1
Decides {A} step = (next : Next A) → ((x : A) → IsDetermined (next x)) → IsDetermined (step next)

pub both_decide : {A B : Type 0} (first : Next A → Outcome → Type 0) (second : A → Next B → Outcome → Type 0) → Decides first → ((x : A) → Decides (second x))
    → Decides (λ (next : Next B) outcome. first (λ x. second x next) outcome)
both_decide first second one other next determined = one (λ x. second x next) (λ x. other x next determined)

pub hand_on_decides : {A : Type 0} (x : A) → Decides (hand_on x)
hand_on_decides x next determined = determined x

-- refusals, writings and findings
pub refusals_agree : (status : Status) (message : List ℕ) → IsDetermined (IsRefusal status message)
refusals_agree status message (Refuses s l) (Refuses t m) p q = (p.0 ∙ sym q.0, p.1 ∙ sym q.1)
refusals_agree status message (Refuses s l) (Builds o r) p q = elim q [ ]
refusals_agree status message (Refuses s l) (Finds t m) p q = elim q [ ]
refusals_agree status message (Refuses s l) (Fails n) p q = elim q [ ]
refusals_agree status message (Builds o r) b p q = elim p [ ]
refusals_agree status message (Finds s l) b p q = elim p [ ]
refusals_agree status message (Fails n) b p q = elim p [ ]

pub writings_agree : (outputs : List File) (report : List ℕ) → IsDetermined (IsWriting outputs report)
writings_agree outputs report (Builds o r) (Builds u s) p q = (p.0 ∙ sym q.0, p.1 ∙ sym q.1)
writings_agree outputs report (Builds o r) (Refuses s l) p q = elim q [ ]
writings_agree outputs report (Builds o r) (Finds s l) p q = elim q [ ]
writings_agree outputs report (Builds o r) (Fails n) p q = elim q [ ]
writings_agree outputs report (Refuses s l) b p q = elim p [ ]
writings_agree outputs report (Finds s l) b p q = elim p [ ]
writings_agree outputs report (Fails n) b p q = elim p [ ]

pub findings_agree : (status : Status) (list : List ℕ) → IsDetermined (IsFinding status list)
findings_agree status list (Finds s l) (Finds t m) p q = (p.0 ∙ sym q.0, p.1 ∙ sym q.1)
findings_agree status list (Finds s l) (Builds o r) p q = elim q [ ]
findings_agree status list (Finds s l) (Refuses t m) p q = elim q [ ]
findings_agree status list (Finds s l) (Fails n) p q = elim q [ ]
findings_agree status list (Builds o r) b p q = elim p [ ]
findings_agree status list (Refuses s l) b p q = elim p [ ]
findings_agree status list (Fails n) b p q = elim p [ ]

pub never_agrees : IsDetermined (λ outcome. ⊥)
never_agrees a b p q = elim p [ ]

-- results, and what may be missing
pub on_result_decides : {A E : Type 0} (refusal : E → Outcome → Type 0) → ((fault : E) → IsDetermined (refusal fault)) → (result : Result A E) → Decides (λ next. OnResult refusal next result)
on_result_decides refusal one (Ok value) = hand_on_decides value
on_result_decides refusal one (Err fault) = λ next determined. one fault

pub on_option_decides : {A : Type 0} (refusal : Outcome → Type 0) → IsDetermined refusal → (option : Option A) → Decides (λ next. OnOption refusal next option)
on_option_decides refusal one (Some value) = hand_on_decides value
on_option_decides refusal one None = λ next determined. one

-- an answer of the outside, where it gives but one
pub asked_decides : {R A : Type 0} (Is : R → Type 0) (on : R → Next A → Outcome → Type 0) → ((r s : R) → Is r → Is s → r ≡ s) → ((r : R) → Decides (on r))
    → Decides (λ (next : Next A) outcome. (r : R) × Is r × on r next outcome)
asked_decides {R} Is on one law next determined a b p q = law p.0 next determined a b p.2 (subst (λ (r : R). on r next b) (one q.0 p.0 q.1 p.1) q.2)

-- a call that fails agrees with all
fails_agrees : (name : List ℕ) (other : Outcome) → Agree other (Fails name)
fails_agrees name (Refuses s l) = tt
fails_agrees name (Builds o r) = tt
fails_agrees name (Finds s l) = tt
fails_agrees name (Fails n) = tt

pub may_fail_decides : {A : Type 0} (name : List ℕ) (step : Next A → Outcome → Type 0) → Decides step → Decides (λ next outcome. OrFails name (step next outcome) outcome)
may_fail_decides name step law next determined a b (inl p) q = subst (λ (x : Outcome). Agree x b) (sym p) tt
may_fail_decides name step law next determined a b (inr p) (inl q) = subst (Agree a) (sym q) (fails_agrees name a)
may_fail_decides name step law next determined a b (inr p) (inr q) = law next determined a b p q

-- a step for each element of a list
pub each_decides : {A B : Type 0} (step : A → Next B → Outcome → Type 0) → ((x : A) → Decides (step x)) → (xs : List A) → Decides (AfterEach step xs)
each_decides step each [] = hand_on_decides []
each_decides step each (x ∷ xs) = both_decide (step x) (λ y next. AfterEach step xs (λ ys. next (y ∷ ys))) (each x)
    (λ y. both_decide (AfterEach step xs) (λ ys. hand_on (y ∷ ys)) (each_decides step each xs) (λ ys. hand_on_decides (y ∷ ys)))

-- reading a file
read_refusals_agree : (name : List ℕ) (limit : ℕ) (error : FileError) → IsDetermined (IsReadRefusal name limit error)
read_refusals_agree name limit read_errors.Absent = refusals_agree _ _
read_refusals_agree name limit read_errors.Longer = refusals_agree _ _
read_refusals_agree name limit read_errors.Failed = never_agrees
read_refusals_agree name limit read_errors.Memory = never_agrees

pub reading_decides : (held : List File) (name : List ℕ) (limit : ℕ) → Decides (AfterReading (Some held) name limit)
reading_decides held name limit =
    may_fail_decides name _ (asked_decides (IsReading (Some held) name limit) (λ result next. OnResult (IsReadRefusal name limit) next result) (λ one other p q. sym p ∙ q)
    (on_result_decides (IsReadRefusal name limit) (read_refusals_agree name limit)))

-- measuring files
pub size_decides : (held : List File) (name : List ℕ) → Decides (AfterSize (Some held) name)
size_decides held name =
    may_fail_decides name _ (asked_decides (IsSize (Some held) name) (λ size next. OnOption (IsRefusal statuses.Read (file_message name (codes "not found"))) next size) (λ one other p q. sym p ∙ q)
    (on_option_decides (IsRefusal statuses.Read (file_message name (codes "not found"))) (refusals_agree _ _)))

pub sizes_decide : (held : List File) (names : List (List ℕ)) → Decides (AfterSizes (Some held) names)
sizes_decide held names = each_decides (AfterSize (Some held)) (size_decides held) names
