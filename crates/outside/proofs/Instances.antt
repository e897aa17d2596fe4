-- What some files give, as computed.
use Rattle.std.proofs.Common.{◌≡◌, refl, List, [], ◌∷◌, ◌-◌, ◌^◌, lit≤, arith}
use Rattle.std.specs.Prelude.{codes, Ok, Err}
use Rattle.outside.specs.Outside.{File, reading, Rose, less_file}
use Rattle.outside.specs.declared.files.FileError.TheVariants.{Absent, Longer}

abbrev two_files : List File
two_files = (codes "a", 1 ∷ 2 ∷ 3 ∷ []) ∷ (codes "b", []) ∷ []

read_a : reading two_files (codes "a") 3 ≡ Ok (1 ∷ 2 ∷ 3 ∷ [])
read_a = refl

read_a_too_long : reading two_files (codes "a") 2 ≡ Err Longer
read_a_too_long = refl

read_c : reading two_files (codes "c") 2 ≡ Err Absent
read_c = refl

-- the count at its last value counts as risen
risen_at_last : Rose (2 ^ 64 - 1) (2 ^ 64 - 1)
risen_at_last = lit≤ tt

not_risen : Rose 4 4 → ⊥
not_risen h = absurd (omega arith)

room_for_one : less_file (1, 10) (codes "ab") (7 ∷ []) ≡ (0, 7)
room_for_one = refl
