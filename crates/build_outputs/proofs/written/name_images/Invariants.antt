use Rattle.std.proofs.Common.{◌≡◌, map}
use Rattle.std.specs.Option.{option_copied}
use Rattle.build_outputs.specs.Made.{files_in}
use Rattle.build_outputs.specs.Outputs.{image_output, in_folder}
use Rattle.build_outputs.proofs.written.name_images.Given as goal

-- the images of the guests so far
abbrev pub invariant-loop-guest : goal.invariant-loop-guest
invariant-loop-guest l = files_in l.outputs ≡ in_folder (option_copied l.folder) (map (λ p. image_output (p.0.now, p.1.file)) l.yielded)
