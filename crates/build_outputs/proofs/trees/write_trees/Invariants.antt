use Rattle.std.proofs.Common.{◌≡◌, take, None}
use Rattle.std.specs.Option.{option_copied}
use Rattle.domain_plan.specs.Descriptions.{trees_in}
use Rattle.build_outputs.specs.Lengths.{refused_trees}
use Rattle.build_outputs.specs.Made.{files_in}
use Rattle.build_outputs.specs.Outputs.{in_folder, tree_outputs}
use Rattle.build_outputs.specs.PrivateSpelled.{AreSpelled}
use Rattle.build_outputs.proofs.trees.write_trees.Given as goal

-- the trees of the guests so far are written, spell what they are to spell, and are not too long
abbrev pub invariant-loop-number : goal.invariant-loop-number
invariant-loop-number l = record {
  written : files_in l.trees ≡ in_folder (option_copied l.folder) (tree_outputs (trees_in l.partials) 0 (take l.number l.guests));
  spelled : AreSpelled (trees_in l.partials) (take l.number l.guests);
  fit : refused_trees (tree_outputs (trees_in l.partials) 0 (take l.number l.guests)) ≡ None;
}
