-- For proofs, private contracts and the model of `Takings` alone: ranges by where they begin, by which it is told that others have nothing of them.
use Rattle.std.specs.Prelude.{◌≡◌, ℕ, ◌<◌, ◌≤◌, true, List, Some, map}
use Rattle.std.specs.Ordering.{nat_cmp}
use Rattle.std.specs.BTreeMap.{BTreeMap, get}
use Rattle.texts.specs.declared.ranges.FrameRange.{FrameRange}
use Rattle.frame_alloc.specs.Ranges.{holds}
use Rattle.item_checks.specs.declared.state.Taken.{Taken}

-- where ranges end, by where they begin
abbrev pub Ends : Type 0
Ends = BTreeMap ℕ ℕ

-- a range begins here and ends there
abbrev pub Has : Ends → ℕ → ℕ → Type 0
Has ends first end = get nat_cmp ends first ≡ Some end

-- a frame lies in one of the ranges
abbrev pub IsCovered : Ends → ℕ → Type 0
IsCovered ends frame = (first : ℕ) × (end : ℕ) × Has ends first end × (first ≤ frame) × (frame < end)

-- of the ranges that begin past a frame, the later ones end no earlier
abbrev pub AreRisingPast : ℕ → Ends → Type 0
AreRisingPast start ends =
    (one other end last : ℕ) → start < one → one ≤ other → Has ends one end → Has ends other last → end ≤ last

-- ranges that begin later end no earlier
abbrev pub AreRising : Ends → Type 0
AreRising ends = (one other end last : ℕ) → one ≤ other → Has ends one end → Has ends other last → end ≤ last

-- the ranges cover what is taken
pub record IsIndex (ends : Ends) (taken : List Taken) : Type 0 where
  pub rising : AreRising ends
  pub covers : (frame : ℕ) → holds (map (λ (one : Taken). one.range) taken) frame ≡ true → IsCovered ends frame

-- none of the frames of some ranges is covered
abbrev pub AreClear : Ends → List FrameRange → Type 0
AreClear ends ranges = (frame : ℕ) → holds ranges frame ≡ true → IsCovered ends frame → ⊥
