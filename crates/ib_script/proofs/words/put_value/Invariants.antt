use Rattle.std.proofs.Common.{◌≡◌, ◌++◌, take, map, string_bytes}
use Rattle.ib_script.specs.Text.{spaced, piece_word}
use Rattle.ib_script.proofs.words.put_value.Given as goal

-- the pieces so far stand behind a space each
abbrev pub invariant-loop-piece : goal.invariant-loop-piece
invariant-loop-piece l = string_bytes l.out ≡ string_bytes l.initial.out ++ spaced (map piece_word (take l.piece-index l.value))
