use Rattle.std.proofs.Common.{◌≡◌, ◌++◌, take, flat_map}
use Rattle.fdt_write.specs.Blocks.{word_bytes}
use Rattle.fdt_write.proofs.blocks.push_words.Given as goal

-- The words so far are written.
abbrev pub invariant-loop-word : goal.invariant-loop-word
invariant-loop-word l =
    l.out.items ≡ l.initial.out.items ++ flat_map word_bytes (take l.word-index l.words)
