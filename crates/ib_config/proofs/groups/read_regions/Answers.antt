use Rattle.std.proofs.Common.{arith, ap, sym}
use Rattle.std.proofs.lemmas.Bool.Decides.{nat_tests}
use Rattle.ib_config.specs.Rules.{shm_groups}
use Rattle.ib_config.specs.PrivateWords.{after_word}
use Rattle.ib_config.proofs.WordLemmas.{groups_start, words_same, at_first, at_word, shorter_4, regions_on, regions_bad}
use Rattle.ib_config.proofs.groups.read_regions.Goals as goal

pub loop-rest-init : goal.loop-rest-init
loop-rest-init c = record {
  same = groups_start _ _ _ c.new-regions.ensures (ap shm_groups (words_same c.args.text.now c.skip_spaces-rest.result.now c.skip_spaces-rest.ensures));
  at = at_first c.args.text.now c.skip_spaces-rest.result.now c.skip_spaces-rest.ensures;
}

pub returns-in-None : goal.returns-in-None
returns-in-None c = sym (regions_bad _ c.loop-rest.regions c.loop-rest.rest.now c.in_ok-region.region c.loop-rest.invariant.same c.loop-rest.invariant.at (grind (arith, nat_tests)) (c.in_ok-region.ensures.0) c.in-None.is)

pub loop-rest-smaller : goal.loop-rest-smaller
loop-rest-smaller c = shorter_4 c.loop-rest.rest.now c.in_ok-region.more.now (c.in_ok-region.ensures.1) (grind (arith, nat_tests))

pub loop-rest-preserved : goal.loop-rest-preserved
loop-rest-preserved c = record {
  same = regions_on _ c.loop-rest.regions c.push.new.self c.loop-rest.rest.now c.in_ok-region.more.now c.in_ok-region.region _ c.loop-rest.invariant.same c.loop-rest.invariant.at
      (grind (arith, nat_tests)) (c.in_ok-region.ensures.0) (c.in_ok-region.ensures.1) c.in-Some.is c.in_ok-push-in-Some.ensures.ok;
  at = at_word (after_word (after_word (after_word c.loop-rest.rest.now))) c.in_ok-region.more.now (c.in_ok-region.ensures.1);
}
