use Rattle.std.proofs.Common.{arith, inr, refl}
use Rattle.fdt_read.proofs.Reserved.{unaligned, outside, without_end, aligned_end, all_read}
use Rattle.fdt_read.proofs.flat.reserves_of.Goals as goal
use Rattle.fdt_read.proofs.flat.reserves_of.Goals.{then-start-ne0-via-then-start-ne0, then-start-ne0-via-else-start-ne0+then-start-total}

pub returns-then-start-ne0-clause-refused : goal.returns-then-start-ne0-clause-refused
returns-then-start-ne0-clause-refused c =
    inr (elim c.then-start-ne0.branch [ then-start-ne0-via-then-start-ne0 w ↦ unaligned c.args.bytes.now _ _ c.word_of-start.ensures c.word_of-total.ensures w.if-start-ne0.true | then-start-ne0-via-else-start-ne0+then-start-total w ↦ outside c.args.bytes.now _ _ c.word_of-start.ensures c.word_of-total.ensures (omega arith) ], refl)

pub returns-in-Ok-Some-clause-fine : goal.returns-in-Ok-Some-clause-fine
returns-in-Ok-Some-clause-fine c =
    aligned_end c.args.bytes.now _ _ c.word_of-start.ensures c.word_of-total.ensures (omega arith) (omega arith) (rw c.in-Ok-Some.field-0-is at c.in-Ok-Some.ensures.ends)

pub returns-in-Ok-Some-clause-read : goal.returns-in-Ok-Some-clause-read
returns-in-Ok-Some-clause-read c =
    all_read c.args.bytes.now _ _ c.word_of-start.ensures c.word_of-total.ensures c.in-Ok-Some.reserves (omega arith) (rw c.in-Ok-Some.field-0-is at c.in-Ok-Some.ensures.listed)

pub returns-in-Ok-None-clause-refused : goal.returns-in-Ok-None-clause-refused
returns-in-Ok-None-clause-refused c =
    inr (without_end c.args.bytes.now _ _ c.word_of-start.ensures c.word_of-total.ensures (omega arith) (rw c.in-Ok-None.field-0-is at c.in-Ok-None.ensures.ends), refl)
