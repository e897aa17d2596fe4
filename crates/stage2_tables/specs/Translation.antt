-- Which addresses an image translates.
use Rattle.std.specs.Prelude.{◌≡◌, ℕ, ◌+◌, ◌*◌, ◌/◌, ◌%◌, ◌^◌, ◌<◌, List, Option, Some, None}
use Rattle.described.specs.Maps.{Target, attributes, target_of}
use Rattle.described.specs.declared.map_range.MapRange.{MapRange}
use Rattle.stage2_walk.specs.Pages.{Page}
use Rattle.stage2_walk.specs.Walks.{walk, reached}
use Rattle.stage2_walk.specs.declared.walk.Step.{Step}
use Rattle.stage2_walk.specs.declared.walk.Step.TheVariants.{Mapped, Fault, NoPage}

-- where an address of a mapped page goes: the same place in the page's frame, with the attributes of the kind
abbrev pub translated : ℕ → Option Target → Option (ℕ × ℕ)
translated address None = None
translated address (Some target) = Some (target.frame * 2 ^ 12 + address % 2 ^ 12, attributes target.kind)

-- every address below 2^40 is walked to where the map sends its page, and to nowhere where the map has no page
abbrev pub TranslatesBy : List Page → ℕ → (ℕ → Option Target) → Type 0
TranslatesBy pages root map =
    (address : ℕ) → address < 2 ^ 40 → reached (walk pages root address) ≡ translated address (map (address / 2 ^ 12))

-- the same for a map in ranges
abbrev pub TranslatesAs : List Page → ℕ → List MapRange → Type 0
TranslatesAs pages root ranges = TranslatesBy pages root (target_of ranges)

-- a walk finds every table that it is sent to
abbrev pub FindsTables : Step → Type 0
FindsTables (Mapped address attr) = Unit {0}
FindsTables (Fault level) = Unit {0}
FindsTables (NoPage level frame) = ⊥

-- no walk comes to a table that the image lacks
abbrev pub IsComplete : List Page → ℕ → Type 0
IsComplete pages root = (address : ℕ) → address < 2 ^ 40 → FindsTables (walk pages root address)
