use Rattle.std.proofs.Common.{◌≡◌, ◌∷◌, flat_map}
use Rattle.std.specs.Option.{option_copied}
use Rattle.run_steps.specs.Names.{joined}
use Rattle.build_outputs.specs.Made.{files_in}
use Rattle.build_outputs.specs.Names.{host_name}
use Rattle.build_outputs.proofs.Zipped.{two}
use Rattle.build_outputs.proofs.written.put_in_turn.Given as goal

-- the files of the guests so far stand behind the host's tree
abbrev pub invariant-loop-tree : goal.invariant-loop-tree
invariant-loop-tree l = files_in l.outputs ≡ (joined (option_copied l.fn.folder) host_name, l.fn.host) ∷ flat_map two l.yielded
