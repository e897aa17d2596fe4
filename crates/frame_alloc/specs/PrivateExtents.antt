-- Where extents end, for private contracts and proofs alone.
use Rattle.std.specs.Prelude.{ℕ, ◌+◌, List, [], ◌∷◌}
use Rattle.frame_alloc.specs.declared.extents.Extent.{Extent}

-- the frame past the last extent, or a frame where there is none
abbrev pub end_from : ℕ → List Extent → ℕ
end_from start [] = start
end_from start (extent ∷ extents) = end_from (extent.first + extent.count) extents
