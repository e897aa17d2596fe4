-- Fronts of lists.
use Rattle.std.specs.Prelude.{Bool, true, false, cond, List, [], ◌∷◌}

-- the longest front whose members all pass, and what follows it
abbrev pub run_of : {A : Type 0} → (A → Bool) → List A → List A
run_of p [] = []
run_of p (x ∷ xs) = cond (p x) (x ∷ run_of p xs) []

-- what follows that front
abbrev pub after_run : {A : Type 0} → (A → Bool) → List A → List A
after_run p [] = []
after_run p (x ∷ xs) = cond (p x) (after_run p xs) (x ∷ xs)

-- whether the list has a first member, and that one passes
abbrev pub first_is : {A : Type 0} → (A → Bool) → List A → Bool
first_is p [] = false
first_is p (x ∷ xs) = p x

-- whether the list has no member
abbrev pub is_empty : {A : Type 0} → List A → Bool
is_empty [] = true
is_empty (x ∷ xs) = false
