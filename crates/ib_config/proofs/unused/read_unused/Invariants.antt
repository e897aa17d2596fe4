use Rattle.std.proofs.Common.{◌≡◌, ◌++◌, map, filter, not, drop}
use Rattle.ib_config.specs.PrivateScan.{held}
use Rattle.ib_config.specs.Settings.{is_tested, shown_key, unused_names}
use Rattle.ib_config.proofs.unused.read_unused.Given as goal

-- the unused names so far, and then those of the other keys
abbrev pub invariant-loop-place : goal.invariant-loop-place
invariant-loop-place l = unused_names (held l.assigned) l.count
    ≡ l.unused ++ map shown_key (filter (λ key. not (is_tested (held l.assigned) l.count key)) (drop l.place (held l.assigned).keys))
