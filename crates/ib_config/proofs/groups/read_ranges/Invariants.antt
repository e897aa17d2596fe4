use Rattle.std.proofs.Common.{◌≡◌, length}
use Rattle.ib_config.specs.Rules.{words_of, pairs}
use Rattle.ib_config.specs.PrivateWords.{onto}
use Rattle.ib_config.proofs.WordLemmas.{IsAtWord}
use Rattle.ib_config.proofs.groups.read_ranges.Given as goal

-- the groups so far, and then those of the rest
abbrev pub invariant-loop-rest : goal.invariant-loop-rest
invariant-loop-rest l = record {
  same : pairs (words_of l.text) ≡ onto l.ranges (pairs (words_of l.rest));
  at : IsAtWord l.rest;
}

abbrev pub decreases-loop-rest : goal.decreases-loop-rest
decreases-loop-rest l = length l.rest
