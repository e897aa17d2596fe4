-- Only private contracts and proofs use this file: what the words that the code keeps mean.
use Rattle.std.specs.Prelude.{map, string_bytes}
use Rattle.fdt_overlay.specs.Asked as words
use Rattle.fdt_overlay.specs.declared.words.Asked.{Asked}

-- what is asked for
abbrev pub meant : Asked → words.Asked
meant asked = record { base = asked.base.now; out = asked.out.now; overlays = map string_bytes asked.overlays.now }
