-- The ranges that stand before others, for private contracts and proofs alone.
use Rattle.std.specs.Prelude.{List, [], ◌∷◌}
use Rattle.fdt_nodes.specs.declared.entries.Window.{Window}
use Rattle.passthrough_dtb.specs.Ranges.{and_range, Entry}

-- what stands before the ranges that follow these
abbrev pub ranges_before : List Window → List Entry → List Window
ranges_before before [] = before
ranges_before before (entry ∷ rest) = ranges_before (and_range before entry.range) rest
