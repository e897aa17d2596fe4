use Rattle.std.proofs.Common.{arith, ap, sym}
use Rattle.std.proofs.lemmas.Bool.Decides.{nat_tests}
use Rattle.ib_config.specs.Rules.{pairs}
use Rattle.ib_config.specs.PrivateWords.{after_word}
use Rattle.ib_config.proofs.WordLemmas.{groups_start, words_same, at_first, at_word, shorter_2, ranges_on, ranges_bad}
use Rattle.ib_config.proofs.groups.read_ranges.Goals as goal

pub loop-rest-init : goal.loop-rest-init
loop-rest-init c = record {
  same = groups_start _ _ _ c.new-ranges.ensures (ap pairs (words_same c.args.text.now c.skip_spaces-rest.result.now c.skip_spaces-rest.ensures));
  at = at_first c.args.text.now c.skip_spaces-rest.result.now c.skip_spaces-rest.ensures;
}

pub returns-in-None : goal.returns-in-None
returns-in-None c = sym (ranges_bad _ c.loop-rest.ranges c.loop-rest.rest.now c.range_at-range.result.0 c.loop-rest.invariant.same c.loop-rest.invariant.at (grind (arith, nat_tests)) c.range_at-range.ensures.range c.in-None.is)

pub loop-rest-smaller : goal.loop-rest-smaller
loop-rest-smaller c = shorter_2 c.loop-rest.rest.now c.range_at-range.result.1.now c.range_at-range.ensures.rest (grind (arith, nat_tests))

pub loop-rest-preserved : goal.loop-rest-preserved
loop-rest-preserved c = record {
  same = ranges_on _ c.loop-rest.ranges c.push.new.self c.loop-rest.rest.now c.range_at-range.result.1.now c.range_at-range.result.0 _ c.loop-rest.invariant.same c.loop-rest.invariant.at
      (grind (arith, nat_tests)) c.range_at-range.ensures.range c.range_at-range.ensures.rest c.in-Some.is c.in_ok-push-in-Some.ensures.ok;
  at = at_word (after_word c.loop-rest.rest.now) c.range_at-range.result.1.now c.range_at-range.ensures.rest;
}
