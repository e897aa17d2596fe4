use Rattle.std.proofs.Common.{◌≡◌, take}
use Rattle.std.specs.Option.{option_copied}
use Rattle.build_sources.specs.Partials.{load_at}
use Rattle.build_sources.proofs.partials.find_load.Given as goal

-- the last so far
abbrev pub invariant-loop-load : goal.invariant-loop-load
invariant-loop-load l = option_copied l.found ≡ load_at (take l.load-index l.loads) l.address
