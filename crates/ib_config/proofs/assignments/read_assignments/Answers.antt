use Rattle.std.proofs.Common.{arith}
use Rattle.std.proofs.lemmas.Bool.Decides.{nat_tests}
use Rattle.ib_config.specs.PrivateScan.{held}
use Rattle.ib_config.proofs.AssignLemmas.{read_end, read_on}
use Rattle.ib_config.proofs.assignments.read_assignments.Goals as goal

pub loop-rest-preserved : goal.loop-rest-preserved
loop-rest-preserved c = record {
  same = read_on c.loop-rest.number (held c.loop-rest.assignments) _ c.loop-rest.rest.now c.cut_line.result.0.now c.cut_line.result.1.now _ c.loop-rest.invariant.same
      c.cut_line.ensures.line c.cut_line.ensures.rest c.in_ok-found.ensures c.in_ok-note.ensures;
  count = let less = c.cut_line.ensures.shorter (grind (arith, nat_tests)) in omega arith;
}

pub returns : goal.returns
returns c = read_end c.loop-rest.number (held c.loop-rest.assignments) c.loop-rest.rest.now c.loop-rest.invariant.same (grind (arith, nat_tests))
