use Rattle.std.proofs.Common.{rules, take, drop, ap}
use Rattle.fdt_read.proofs.NameLengths.{measured}
use Rattle.fdt_read.proofs.strings.Strings.new.Goals as goal

pub invariant_of-result : goal.invariant_of-result
invariant_of-result c =
    (measured c.args.file.now c.as_slice.result.now c.args.start c.args.size c.in_ok-lengths.lengths.items c.as_slice.ensures c.requires.within (search rules) c.in_ok-lengths.ensures).1

pub returns : goal.returns
returns c =
    ap (λ n. take n (drop c.args.start c.args.file.now)) (measured c.args.file.now c.as_slice.result.now c.args.start c.args.size c.in_ok-lengths.lengths.items c.as_slice.ensures c.requires.within (search rules) c.in_ok-lengths.ensures).0
