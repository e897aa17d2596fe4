-- Extents of free frames, and the frames in them.
use Rattle.std.specs.Prelude.{ℕ, ◌+◌, ◌^◌, ◌<◌, ◌≤◌, List, [], ◌∷◌, flat_map}
use Rattle.texts.specs.Consecutive.{numbers}
use Rattle.frame_alloc.specs.declared.extents.Extent.{Extent}

-- the frames of the extents, in order
abbrev pub frames_of : List Extent → List ℕ
frames_of extents = flat_map (λ (extent : Extent). numbers extent.first extent.count) extents

-- the extents begin at or above a frame, are ascending and do not touch, none is empty, and all end at or below frame 2^28
abbrev pub AreExtentsFrom : ℕ → List Extent → Type 0
AreExtentsFrom start [] = Unit {0}
AreExtentsFrom start (extent ∷ extents) =
    (start ≤ extent.first) × (0 < extent.count) × (extent.first + extent.count ≤ 2 ^ 28) ×
    AreExtentsFrom (extent.first + extent.count + 1) extents
