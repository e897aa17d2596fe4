-- The files that a build writes, in their order, and its report.
use Rattle.std.specs.Prelude.{ℕ, ◌+◌, List, [], ◌∷◌, length, map, Option}
use Rattle.std.specs.List.{zip, flat_map}
use Rattle.outside.specs.Outside.{File}
use Rattle.fdt_tree.specs.Tree.{Tree}
use Rattle.domain_plan.specs.declared.planned.GuestPlan.{GuestPlan}
use Rattle.fdt_write.specs.Flattened.{flattened}
use Rattle.guest_fdt.specs.GuestTree.{guest_tree}
use Rattle.guest_images.specs.Images.{least_files}
use Rattle.guest_images.specs.Requests.{tables_needed, left_by_all}
use Rattle.build_outputs.specs.Report.{report}
use Rattle.run_steps.specs.Names.{joined}
use Rattle.domain_plan.specs.Descriptions.{Description, partial_at}
use Rattle.domain_plan.specs.TreePlans.{TreePlan}
use Rattle.guest_images.specs.Names.{image_name}
use Rattle.build_outputs.specs.Names.{host_name, tree_name}

-- the host's tree, with its reservations and the processor that boots
abbrev pub host_output : ℕ → Description → File
host_output boot description = (host_name, flattened description.reserves boot description.root)

-- the images of all guests: the files of least tables, in the frames that are drawn guest by guest
abbrev pub images_of : TreePlan → List (List ℕ)
images_of plan = least_files plan.guests plan.free

-- the tree of a guest with its partial tree, where that was read: without reservations, and processor 0 boots
abbrev pub tree_output : GuestPlan → Option Tree → File
tree_output guest partial = (tree_name guest.number, flattened [] 0 (guest_tree guest partial))

-- those of guests, the first of which has this number
abbrev pub tree_outputs : List (Option Tree) → ℕ → List GuestPlan → List File
tree_outputs partials number [] = []
tree_outputs partials number (guest ∷ guests) = tree_output guest (partial_at partials number) ∷ tree_outputs partials (number + 1) guests

-- the image of a guest
abbrev pub image_output : GuestPlan × List ℕ → File
image_output guest = (image_name guest.0.number, guest.1)

-- those of guests that have these images
abbrev pub image_outputs : List GuestPlan → List (List ℕ) → List File
image_outputs guests images = map image_output (zip guests images)

-- files of two kinds, one of each in turn
abbrev pub in_turn : List File → List File → List File
in_turn files others = flat_map (λ pair. pair.0 ∷ pair.1 ∷ []) (zip files others)

-- files in a folder, where one is given
abbrev pub in_folder : Option (List ℕ) → List File → List File
in_folder folder files = map (λ (file : File). (joined folder file.0, file.1)) files

-- all trees of a build: the host's, and those of its guests
abbrev pub written_trees : ℕ → Description → TreePlan → List File
written_trees boot description plan = host_output boot description ∷ tree_outputs description.partials 0 plan.guests

-- all files of a build: the host's tree, and guest by guest its tree and its image
abbrev pub outputs_of : ℕ → Description → TreePlan → List File
outputs_of boot description plan =
    host_output boot description ∷ in_turn (tree_outputs description.partials 0 plan.guests) (image_outputs plan.guests (images_of plan))

-- each guest, with how many tables its image has
abbrev pub with_tables : List GuestPlan → List (GuestPlan × ℕ)
with_tables guests = map (λ (guest : GuestPlan). (guest, tables_needed guest)) guests

-- how many frames are left when all tables are drawn
abbrev pub frames_left : TreePlan → ℕ
frames_left plan = length (left_by_all plan.guests plan.free)

-- the report of a build
abbrev pub report_of : TreePlan → List ℕ
report_of plan = report (with_tables plan.guests) (frames_left plan)
