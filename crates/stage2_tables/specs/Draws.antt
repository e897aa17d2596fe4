-- Which free frames become tables: the lowest pair, and then the lowest frames of what is left.
use Rattle.std.specs.Prelude.{ℕ, ◌+◌, ◌-◌, List, ◌∷◌, take, drop, Option, Some, None}
use Rattle.frame_alloc.specs.Frames.{lowest_pair, without}

-- the frames of `count` tables in the order of drawing, where the pair begins at `root`
abbrev pub drawn_after : ℕ → List ℕ → ℕ → List ℕ
drawn_after count free root = root ∷ (root + 1) ∷ take (count - 2) (without root 2 free)

-- the frames of `count` tables in the order of drawing, if there is a pair
abbrev pub drawn_from : ℕ → List ℕ → Option ℕ → Option (List ℕ)
drawn_from count free None = None
drawn_from count free (Some root) = Some (drawn_after count free root)

-- the frames of `count` tables in the order of drawing, if the free frames have a pair
abbrev pub table_frames : ℕ → List ℕ → Option (List ℕ)
table_frames count free = drawn_from count free (lowest_pair free)

-- the free frames that are left behind a pair, if there is one
abbrev pub left_after : ℕ → List ℕ → Option ℕ → List ℕ
left_after count free None = free
left_after count free (Some root) = drop (count - 2) (without root 2 free)

-- the free frames that are left when those of `count` tables are drawn
abbrev pub free_after : ℕ → List ℕ → List ℕ
free_after count free = left_after count free (lowest_pair free)
