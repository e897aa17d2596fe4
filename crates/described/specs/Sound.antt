-- What holds of the numbers of described items, up to the first one with a reason of its own.
use Rattle.std.specs.Prelude.{◌≡◌, ℕ, ◌+◌, ◌%◌, ◌^◌, ◌<◌, ◌≤◌, List, [], ◌∷◌, Option, Some, None}
use Rattle.described.specs.declared.item.Described.{Described}
use Rattle.described.specs.declared.item.What.{What}
use Rattle.described.specs.declared.item.What.TheVariants as whats
use Rattle.described.specs.declared.why.Why.{Why}

-- whole pages of 4,096 bytes, at least one, that end at or below 2^40
pub record AreWholePages (base size : ℕ) : Type 0 where
  pub base_whole : base % 4096 ≡ 0
  pub size_whole : size % 4096 ≡ 0
  pub some : 0 < size
  pub low : base + size ≤ 2 ^ 40

-- a region lies in whole pages of the guest, and of the host where it has a host address
abbrev pub IsSoundRegion : Option ℕ → ℕ → ℕ → Type 0
IsSoundRegion None guest size = AreWholePages guest size
IsSoundRegion (Some host) guest size = AreWholePages host size × AreWholePages guest size

-- what holds of the numbers of an item without a reason of its own: 2^22 pages are 16 GiB, and a GIC has 988 shared interrupts
abbrev pub IsSound : What → Type 0
IsSound (whats.Head cpus pages spis direct console) = pages ≤ 2 ^ 22
IsSound (whats.Static at) = AreWholePages at.base at.size
IsSound (whats.Range host size guest) = AreWholePages host size × AreWholePages guest size
IsSound (whats.Irq number) = number < 988
IsSound (whats.Shared id host guest size owner) = IsSoundRegion host guest size
IsSound _ = Unit {0}

-- an item with a reason of its own ends what is said
abbrev pub SoundUnless : Option Why → What → Type 0 → Type 0
SoundUnless (Some why) what later = Unit {0}
SoundUnless None what later = IsSound what × later

-- the items are sound up to the first one with a reason of its own
abbrev pub AreSound : List Described → Type 0
AreSound [] = Unit {0}
AreSound (item ∷ items) = SoundUnless item.own item.what (AreSound items)
