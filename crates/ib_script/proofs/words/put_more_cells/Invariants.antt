use Rattle.std.proofs.Common.{◌≡◌, ◌++◌, take, map, string_bytes}
use Rattle.texts.specs.NumberTexts.{hexadecimal}
use Rattle.ib_script.specs.Text.{spaced}
use Rattle.ib_script.proofs.words.put_more_cells.Given as goal

-- the cells so far stand behind a space each
abbrev pub invariant-loop-cell : goal.invariant-loop-cell
invariant-loop-cell l = string_bytes l.out ≡ string_bytes l.initial.out ++ spaced (map hexadecimal (take l.cell-index l.cells))
