-- Only private contracts and proofs use this file: what the words and the parts that the code keeps mean.
use Rattle.std.specs.Option.{option_copied}
use Rattle.tree_files.specs.Trees.{flat_tree}
use Rattle.guest_load.specs.Words as words
use Rattle.guest_load.specs.Parts as parts
use Rattle.guest_load.specs.declared.words.Asked.{Asked}
use Rattle.guest_load.specs.declared.parts.Parts.{Parts}

-- what is asked for
abbrev pub meant : Asked → words.Asked
meant asked = record { tree = asked.tree.now; kernel = asked.kernel.now; out = asked.out.now; ramdisk = option_copied asked.ramdisk }

-- the parts
abbrev pub meant_parts : Parts → parts.Parts
meant_parts kept = record { tree = flat_tree kept.tree; bank = kept.bank; head = kept.head; kernel = kept.kernel; ramdisk = kept.ramdisk }
