-- For private contracts and proofs alone.
-- Where bytes in memory are kept.
use Rattle.std.specs.Prelude.{ℕ, List}
use Rattle.texts.specs.declared.bytes.Store.{Store}
use Rattle.texts.specs.declared.bytes.Store.TheVariants.{Own, Shared}

-- the bytes that a store keeps
abbrev pub stored : Store → List ℕ
stored (Own bytes) = bytes.items
stored (Shared bytes) = bytes.value.items
