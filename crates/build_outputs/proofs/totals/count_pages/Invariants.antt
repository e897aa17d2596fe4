use Rattle.std.proofs.Common.{◌≡◌, take}
use Rattle.build_outputs.specs.Totals.{all_pages}
use Rattle.build_outputs.proofs.totals.count_pages.Given as goal

-- the pages so far are counted
abbrev pub invariant-loop-guest : goal.invariant-loop-guest
invariant-loop-guest l = l.pages ≡ all_pages (take l.guest-index l.guests)
