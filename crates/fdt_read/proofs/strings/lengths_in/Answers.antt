use Rattle.std.proofs.Common.{arith}
use Rattle.fdt_read.proofs.NameLengths.{at_most}
use Rattle.fdt_read.proofs.strings.lengths_in.Goals as goal

pub length_at-run-requires : goal.length_at-run-requires
length_at-run-requires c =
    omega (arith, c.requires, c.bytes-test.true, c.bytes.invariant.within, c.bytes.invariant.run, at_most c.args.bytes.now c.bytes.at)
