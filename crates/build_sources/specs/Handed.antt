-- What a step hands on where it refuses nothing.
use Rattle.std.specs.Prelude.{◌≡◌, []}
use Rattle.run_steps.specs.Endings.{Outcome, Builds}

-- what follows is no more than that this was handed on
abbrev pub is : {A : Type 0} → A → A → Outcome → Type 0
is wanted found outcome = found ≡ wanted

-- some outcome that is no refusal
abbrev pub unrefused : Outcome
unrefused = Builds [] []

-- the step refuses nothing, and hands on this
abbrev pub HandsOn : {A : Type 0} → ((A → Outcome → Type 0) → Outcome → Type 0) → A → Type 0
HandsOn step x = step (is x) unrefused
