-- What a step of a run is, and how steps compose: each hands on something that it found, or it refuses.
use Rattle.std.proofs.Common.{◌≡◌, ◌∙◌, refl, sym, ap, subst, suc, List, [], ◌∷◌, ◌++◌, length, inl, inr}
use Rattle.std.specs.Prelude.{◌⊎◌, ℕ, Option, Some, None, Result, Ok, Err}
use Rattle.outside.specs.Outside.{File}
use Rattle.outside.specs.declared.status.Status.{Status}
use Rattle.run_steps.specs.Endings.{Outcome, Refuses, Builds, Finds}
use Rattle.run_steps.specs.Steps.{OnResult, OnOption, OrFails, AfterEach, GiveEach, nothing}

-- what follows a step: what it calls for, given what the step hands on
abbrev pub Next : Type 0 → Type 1
Next A = A → Outcome → Type 0

-- A step hands on what it found, whatever follows, or it refuses; a refusal of its own does not depend on what follows, and builds and finds nothing.
pub record IsStep {A : Type 0} (Found : A → Type 0) (step : Next A → Outcome → Type 0) : Type 1 where
  pub splits : (next : Next A) (outcome : Outcome) → step next outcome → ((x : A) × Found x × next x outcome) ⊎ step nothing outcome
  pub gives : (x : A) → Found x → (next : Next A) (outcome : Outcome) → next x outcome → step next outcome
  pub stays : (next : Next A) (outcome : Outcome) → step nothing outcome → step next outcome
  pub refuses : (outputs : List File) (report : List ℕ) → step nothing (Builds outputs report) → ⊥
  pub finds : (status : Status) (list : List ℕ) → step nothing (Finds status list) → ⊥

-- the step refuses with no such status
abbrev pub Avoids : {A : Type 0} → Status → (Next A → Outcome → Type 0) → Type 0
Avoids status step = (message : List ℕ) → step nothing (Refuses status message) → ⊥

-- what a step found before something is built
pub found_by : {A : Type 0} (Found : A → Type 0) (step : Next A → Outcome → Type 0) → IsStep Found step → (next : Next A) (outputs : List File) (report : List ℕ) → step next (Builds outputs report)
    → (x : A) × Found x × next x (Builds outputs report)
found_by {A} Found step law next outputs report p = elim (law.splits next (Builds outputs report) p) [
  | inl given ↦ given
  | inr refused ↦ absurd (law.refuses outputs report refused)
]

-- and before a list is found
pub found_before : {A : Type 0} (Found : A → Type 0) (step : Next A → Outcome → Type 0) → IsStep Found step → (next : Next A) (status : Status) (list : List ℕ) → step next (Finds status list)
    → (x : A) × Found x × next x (Finds status list)
found_before {A} Found step law next status list p = elim (law.splits next (Finds status list) p) [
  | inl given ↦ given
  | inr refused ↦ absurd (law.finds status list refused)
]

-- the same step, with what it finds said in other words
pub said_as : {A : Type 0} (Found Other : A → Type 0) (step : Next A → Outcome → Type 0) → IsStep Found step → ((x : A) → Found x → Other x) → ((x : A) → Other x → Found x) → IsStep Other step
said_as Found Other step law to from = record {
  splits = λ next outcome p. elim (law.splits next outcome p) [
    | inl given ↦ inl (given.0, to given.0 given.1, given.2)
    | inr refused ↦ inr refused
  ];
  gives = λ x other next outcome p. law.gives x (from x other) next outcome p;
  stays = law.stays;
  refuses = law.refuses;
  finds = law.finds;
}

-- handing on at once
abbrev pub hand_on : {A : Type 0} → A → Next A → Outcome → Type 0
hand_on x next outcome = next x outcome

pub hand_on_step : {A : Type 0} (x : A) → IsStep (λ y. y ≡ x) (hand_on x)
hand_on_step x = record {
  splits = λ next outcome p. inl (x, refl, p);
  gives = λ y is next outcome p. subst (λ z. next z outcome) is p;
  stays = λ next outcome p. elim p [ ];
  refuses = λ outputs report p. p;
  finds = λ status list p. p;
}

pub hand_on_avoids : {A : Type 0} (status : Status) (x : A) → Avoids status (hand_on x)
hand_on_avoids status x message p = p

-- one step, and then another
module _ {A B : Type 0} (FoundFirst : A → Type 0) (FoundThen : A → B → Type 0) (first : Next A → Outcome → Type 0) (second : A → Next B → Outcome → Type 0)
    (one : IsStep FoundFirst first) (other : (x : A) → IsStep (FoundThen x) (second x)) where
  abbrev both : Next B → Outcome → Type 0
  both next outcome = first (λ x. second x next) outcome

  abbrev FoundBoth : B → Type 0
  FoundBoth y = (x : A) × FoundFirst x × FoundThen x y

  both_split : (next : Next B) (outcome : Outcome) → ((x : A) × FoundFirst x × second x next outcome) ⊎ first nothing outcome → ((y : B) × FoundBoth y × next y outcome) ⊎ both nothing outcome
  both_split next outcome (inr refused) = inr (one.stays (λ x. second x nothing) outcome refused)
  both_split next outcome (inl given) = elim ((other given.0).splits next outcome given.2) [
    | inl found ↦ inl (found.0, (given.0, given.1, found.1), found.2)
    | inr refused ↦ inr (one.gives given.0 given.1 (λ x. second x nothing) outcome refused)
  ]

  pub and_then : IsStep FoundBoth both
  and_then = record {
    splits = λ next outcome p. both_split next outcome (one.splits (λ x. second x next) outcome p);
    gives = λ y found next outcome p. one.gives found.0 found.1 (λ x. second x next) outcome ((other found.0).gives y found.2 next outcome p);
    stays = λ next outcome p. elim (one.splits (λ x. second x nothing) outcome p) [
      | inl given ↦ one.gives given.0 given.1 (λ x. second x next) outcome ((other given.0).stays next outcome given.2)
      | inr refused ↦ one.stays (λ x. second x next) outcome refused
    ];
    refuses = λ outputs report p. elim (one.splits (λ x. second x nothing) (Builds outputs report) p) [
      | inl given ↦ (other given.0).refuses outputs report given.2
      | inr refused ↦ one.refuses outputs report refused
    ];
    finds = λ status list p. elim (one.splits (λ x. second x nothing) (Finds status list) p) [
      | inl given ↦ (other given.0).finds status list given.2
      | inr refused ↦ one.finds status list refused
    ];
  }

-- two steps without a refusal of a status have none together
module _ {A B : Type 0} (Found : A → Type 0) (status : Status) (first : Next A → Outcome → Type 0) (second : A → Next B → Outcome → Type 0) (one : IsStep Found first) where
  pub both_avoid : Avoids status first → ((x : A) → Avoids status (second x)) → Avoids status (λ (next : Next B) outcome. first (λ x. second x next) outcome)
  both_avoid not_first not_second message p = elim (one.splits (λ x. second x nothing) (Refuses status message) p) [
    | inl given ↦ not_second given.0 message given.2
    | inr refused ↦ not_first message refused
  ]

-- a result, whose fault is refused
module _ {A E : Type 0} (refusal : E → Outcome → Type 0) (never : (fault : E) (outputs : List File) (report : List ℕ) → refusal fault (Builds outputs report) → ⊥)
    (no_list : (fault : E) (status : Status) (list : List ℕ) → refusal fault (Finds status list) → ⊥) where
  on_result_splits : (result : Result A E) (next : Next A) (outcome : Outcome) → OnResult refusal next result outcome → ((x : A) × (result ≡ Ok x) × next x outcome) ⊎ OnResult refusal nothing result outcome
  on_result_splits (Ok value) next outcome p = inl (value, refl, p)
  on_result_splits (Err fault) next outcome p = inr p

  on_result_stays : (result : Result A E) (next : Next A) (outcome : Outcome) → OnResult refusal nothing result outcome → OnResult refusal next result outcome
  on_result_stays (Ok value) next outcome p = elim p [ ]
  on_result_stays (Err fault) next outcome p = p

  on_result_refuses : (result : Result A E) (outputs : List File) (report : List ℕ) → OnResult refusal nothing result (Builds outputs report) → ⊥
  on_result_refuses (Ok value) outputs report p = p
  on_result_refuses (Err fault) outputs report p = never fault outputs report p

  on_result_finds : (result : Result A E) (status : Status) (list : List ℕ) → OnResult refusal nothing result (Finds status list) → ⊥
  on_result_finds (Ok value) status list p = p
  on_result_finds (Err fault) status list p = no_list fault status list p

  pub on_result_step : (result : Result A E) → IsStep (λ x. result ≡ Ok x) (λ next. OnResult refusal next result)
  on_result_step result = record {
    splits = on_result_splits result;
    gives = λ x is next outcome p. subst (λ r. OnResult refusal next r outcome) (sym is) p;
    stays = on_result_stays result;
    refuses = on_result_refuses result;
    finds = on_result_finds result;
  }

-- what may be missing, which is refused
module _ {A : Type 0} (refusal : Outcome → Type 0) (never : (outputs : List File) (report : List ℕ) → refusal (Builds outputs report) → ⊥)
    (no_list : (status : Status) (list : List ℕ) → refusal (Finds status list) → ⊥) where
  on_option_splits : (option : Option A) (next : Next A) (outcome : Outcome) → OnOption refusal next option outcome → ((x : A) × (option ≡ Some x) × next x outcome) ⊎ OnOption refusal nothing option outcome
  on_option_splits (Some value) next outcome p = inl (value, refl, p)
  on_option_splits None next outcome p = inr p

  on_option_stays : (option : Option A) (next : Next A) (outcome : Outcome) → OnOption refusal nothing option outcome → OnOption refusal next option outcome
  on_option_stays (Some value) next outcome p = elim p [ ]
  on_option_stays None next outcome p = p

  on_option_refuses : (option : Option A) (outputs : List File) (report : List ℕ) → OnOption refusal nothing option (Builds outputs report) → ⊥
  on_option_refuses (Some value) outputs report p = p
  on_option_refuses None outputs report p = never outputs report p

  on_option_finds : (option : Option A) (status : Status) (list : List ℕ) → OnOption refusal nothing option (Finds status list) → ⊥
  on_option_finds (Some value) status list p = p
  on_option_finds None status list p = no_list status list p

  pub on_option_step : (option : Option A) → IsStep (λ x. option ≡ Some x) (λ next. OnOption refusal next option)
  on_option_step option = record {
    splits = on_option_splits option;
    gives = λ x is next outcome p. subst (λ o. OnOption refusal next o outcome) (sym is) p;
    stays = on_option_stays option;
    refuses = on_option_refuses option;
    finds = on_option_finds option;
  }

-- an answer of the outside, which is not settled, and then a step on it
module _ {R A : Type 0} (Is : R → Type 0) (Found : R → A → Type 0) (on : R → Next A → Outcome → Type 0) (law : (r : R) → IsStep (Found r) (on r)) where
  pub asked_step : IsStep (λ x. (r : R) × Is r × Found r x) (λ next outcome. (r : R) × Is r × on r next outcome)
  asked_step = record {
    splits = λ next outcome p. elim ((law p.0).splits next outcome p.2) [
      | inl given ↦ inl (given.0, (p.0, p.1, given.1), given.2)
      | inr refused ↦ inr (p.0, p.1, refused)
    ];
    gives = λ x found next outcome p. (found.0, found.1, (law found.0).gives x found.2 next outcome p);
    stays = λ next outcome p. (p.0, p.1, (law p.0).stays next outcome p.2);
    refuses = λ outputs report p. (law p.0).refuses outputs report p.2;
    finds = λ status list p. (law p.0).finds status list p.2;
  }

-- a step that may fail
module _ {A : Type 0} (Found : A → Type 0) (name : List ℕ) (step : Next A → Outcome → Type 0) (law : IsStep Found step) where
  may_fail_splits : (next : Next A) (outcome : Outcome) → OrFails name (step next outcome) outcome → ((x : A) × Found x × next x outcome) ⊎ OrFails name (step nothing outcome) outcome
  may_fail_splits next outcome (inl fails) = inr (inl fails)
  may_fail_splits next outcome (inr p) = elim (law.splits next outcome p) [
    | inl given ↦ inl given
    | inr refused ↦ inr (inr refused)
  ]

  may_fail_stays : (next : Next A) (outcome : Outcome) → OrFails name (step nothing outcome) outcome → OrFails name (step next outcome) outcome
  may_fail_stays next outcome (inl fails) = inl fails
  may_fail_stays next outcome (inr p) = inr (law.stays next outcome p)

  may_fail_refuses : (outputs : List File) (report : List ℕ) → OrFails name (step nothing (Builds outputs report)) (Builds outputs report) → ⊥
  may_fail_refuses outputs report (inl fails) = cc
  may_fail_refuses outputs report (inr p) = law.refuses outputs report p

  may_fail_finds : (status : Status) (list : List ℕ) → OrFails name (step nothing (Finds status list)) (Finds status list) → ⊥
  may_fail_finds status list (inl fails) = cc
  may_fail_finds status list (inr p) = law.finds status list p

  pub may_fail_step : IsStep Found (λ next outcome. OrFails name (step next outcome) outcome)
  may_fail_step = record {
    splits = may_fail_splits;
    gives = λ x found next outcome p. inr (law.gives x found next outcome p);
    stays = may_fail_stays;
    refuses = may_fail_refuses;
    finds = may_fail_finds;
  }

-- a step for each element of a list
module _ {A B : Type 0} (Found : A → B → Type 0) (step : A → Next B → Outcome → Type 0) (each : (x : A) → IsStep (Found x) (step x)) where
  abbrev FoundRest : List A → B → List B → Type 0
  FoundRest xs y ys = (later : List B) × GiveEach Found xs later × (ys ≡ y ∷ later)

  pub each_step : (xs : List A) → IsStep (GiveEach Found xs) (AfterEach step xs)
  each_step [] = hand_on_step []
  each_step (x ∷ xs) =
      said_as (λ ys. (y : B) × Found x y × FoundRest xs y ys) (GiveEach Found (x ∷ xs)) (AfterEach step (x ∷ xs))
      (and_then (Found x) (FoundRest xs) (step x) (λ y next. AfterEach step xs (λ ys. next (y ∷ ys))) (each x)
      (λ y. and_then (GiveEach Found xs) (λ later ys. ys ≡ y ∷ later) (AfterEach step xs) (λ ys. hand_on (y ∷ ys)) (each_step xs) (λ ys. hand_on_step (y ∷ ys))))
      (λ ys given. (given.0, given.2.0, given.1, given.2.1, given.2.2))
      (λ ys given. (given.0, given.2, (given.1, given.3, given.4)))

  module _ (status : Status) (not : (x : A) → Avoids status (step x)) where
    pub each_avoids : (xs : List A) → Avoids status (AfterEach step xs)
    each_avoids [] = λ message p. p
    each_avoids (x ∷ xs) = both_avoid (Found x) status (step x) (λ y next. AfterEach step xs (λ ys. next (y ∷ ys))) (each x) (not x)
        (λ y. both_avoid (GiveEach Found xs) status (AfterEach step xs) (λ ys. hand_on (y ∷ ys)) (each_step xs) (each_avoids xs) (λ ys. hand_on_avoids status (y ∷ ys)))

  -- an element refuses, where those before it gave something
  pub each_refuses : (before : List A) (x : A) (after : List A) (ys : List B) → GiveEach Found before ys → (outcome : Outcome) → step x nothing outcome → AfterEach step (before ++ x ∷ after) nothing outcome
  each_refuses [] x after ys given outcome refused = (each x).stays _ outcome refused
  each_refuses (y ∷ before) x after ys given outcome refused =
      (each y).gives given.0 given.2 _ outcome (each_refuses before x after given.1 given.3 outcome refused)

-- one more element gives one more
pub give_more : {A B : Type 0} (Gives : A → B → Type 0) (xs : List A) (x : A) (ys : List B) (y : B) → GiveEach Gives xs ys → Gives x y → GiveEach Gives (xs ++ x ∷ []) (ys ++ y ∷ [])
give_more Gives [] x ys y given one = subst (λ zs. GiveEach Gives (x ∷ []) (zs ++ y ∷ [])) (sym given) (y, [], one, refl, refl)
give_more Gives (z ∷ xs) x ys y given one =
    (given.0, given.1 ++ y ∷ [], given.2, give_more Gives xs x given.1 y given.3 one, ap (λ zs. zs ++ y ∷ []) given.4)

-- there are as many as there are elements
pub as_many : {A B : Type 0} (Gives : A → B → Type 0) (xs : List A) (ys : List B) → GiveEach Gives xs ys → length ys ≡ length xs
as_many Gives [] ys given = ap length given
as_many Gives (x ∷ xs) ys given = ap length given.4 ∙ ap suc (as_many Gives xs given.1 given.3)
