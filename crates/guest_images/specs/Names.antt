-- The names of the files of guests.
use Rattle.std.specs.Prelude.{ℕ, List, ◌++◌, codes, decimal}

-- a file of the guest with this number, as `domU0.s2`
abbrev pub guest_name : ℕ → List ℕ → List ℕ
guest_name number ending = codes "domU" ++ (decimal number ++ ending)

-- its image
abbrev pub image_name : ℕ → List ℕ
image_name number = guest_name number (codes ".s2")
