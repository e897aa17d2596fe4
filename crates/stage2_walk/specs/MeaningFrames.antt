-- For private contracts and proofs: how large the frame of a meaning is.
use Rattle.std.specs.Prelude.{◌^◌, ◌<◌}
use Rattle.stage2_walk.specs.declared.descriptor.Meaning.{Meaning}
use Rattle.stage2_walk.specs.declared.descriptor.Meaning.TheVariants.{Invalid, Reserved, Table, Leaf}

-- the frame of a meaning has 36 bits, as output addresses have 48
abbrev pub HasLowFrame : Meaning → Type 0
HasLowFrame Invalid = Unit {0}
HasLowFrame Reserved = Unit {0}
HasLowFrame (Table frame) = frame < 2 ^ 36
HasLowFrame (Leaf frame attr) = frame < 2 ^ 36
