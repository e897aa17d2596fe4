-- The image files of guests, as a function of their plans and of the free frames.
use Rattle.std.specs.Prelude.{ℕ, List, [], ◌∷◌, unwrap_or}
use Rattle.described.specs.Maps.{target_of}
use Rattle.described.specs.declared.map_range.MapRange.{MapRange}
use Rattle.stage2_walk.specs.Files.{file_of}
use Rattle.stage2_tables.specs.Draws.{table_frames}
use Rattle.stage2_tables.specs.Least.{least_image}
use Rattle.domain_plan.specs.declared.planned.GuestPlan.{GuestPlan}
use Rattle.guest_images.specs.Requests.{tables_needed, left_by}

-- the file of the least tables of a map in ranges, in these frames, the first of which is the root
abbrev pub least_file : List MapRange → List ℕ → List ℕ
least_file ranges [] = []
least_file ranges (root ∷ frames) = file_of root (least_image (target_of ranges) (root ∷ frames))

-- the frames that are drawn for a guest's tables: the lowest pair of the free frames, and then the lowest of what is left
abbrev pub frames_for : GuestPlan → List ℕ → List ℕ
frames_for plan free = unwrap_or (table_frames (tables_needed plan) free) []

-- the files of guests in their order, each in the frames that those before it left
abbrev pub least_files : List GuestPlan → List ℕ → List (List ℕ)
least_files [] free = []
least_files (plan ∷ plans) free = least_file plan.ranges (frames_for plan free) ∷ least_files plans (left_by plan free)
