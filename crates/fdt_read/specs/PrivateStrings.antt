-- For proofs and private contracts alone: how far the names of a strings block go.
use Rattle.std.specs.Prelude.{◌≡◌, ℕ, ◌==◌, ◌+◌, ◌^◌, ◌<◌, ◌≤◌, List, [], ◌∷◌, length, take, drop}
use Rattle.std.specs.List.{position_or_len}
use Rattle.fdt_tree.specs.Tree.{Bytes}

-- How many bytes stand before the first NUL, or before the end where there is none.
abbrev pub length_before_nul : Bytes → ℕ
length_before_nul bytes = position_or_len (λ byte. byte == 0) bytes

-- For each byte, how many bytes from it on stand before the first NUL, or before the end where none follows.
abbrev pub lengths_of : Bytes → List ℕ
lengths_of [] = []
lengths_of (byte ∷ bytes) = length_before_nul (byte ∷ bytes) ∷ lengths_of bytes

-- The lengths are those of a block at an offset of a file.
pub record AreLengths (file : Bytes) (start : ℕ) (lengths : List ℕ) : Type 0 where
  pub within : start + length lengths ≤ length file
  pub short : start + length lengths < 2 ^ 64
  pub known : lengths ≡ lengths_of (take (length lengths) (drop start file))
