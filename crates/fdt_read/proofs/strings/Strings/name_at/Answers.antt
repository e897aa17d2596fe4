use Rattle.std.proofs.Common.{Some, drop, ap, ◌∙◌, arith}
use Rattle.fdt_read.specs.Built.{has_no_nul}
use Rattle.fdt_read.specs.Tokens.{text}
use Rattle.fdt_read.proofs.NameLengths.{name_found, name_missing, name_ended}
use Rattle.fdt_read.proofs.strings.Strings.name_at.Goals as goal

pub returns-then-length-len-clause-text : goal.returns-then-length-len-clause-text
returns-then-length-len-clause-text c =
    name_missing c.self.inside.file.now c.self.inside.start c.self.inside.lengths.items c.args.offset c.index.result.now c.self.invariant (omega (arith, c.if-offset-len.false, c.len.ensures, c.self.inside.lengths.ok.0)) c.index.ensures (omega (arith, c.if-length-len.true, c.len-2.ensures, c.self.inside.lengths.ok.0)) ∙ ap (λ z. text (drop c.args.offset z)) c.self.view_is

pub overflow_add-first : goal.overflow_add-first
overflow_add-first c =
    omega (arith, c.self.invariant.short, c.if-offset-len.false, c.len.ensures, c.self.inside.lengths.ok.0)

pub overflow_add-first-2 : goal.overflow_add-first-2
overflow_add-first-2 c =
    omega (arith, c.self.invariant.short, c.if-offset-len.false, c.len.ensures, c.self.inside.lengths.ok.0, c.if-length-len.false, c.len-2.ensures)

pub returns-clause-text : goal.returns-clause-text
returns-clause-text c =
    ap Some c.new.ensures ∙ (name_found c.self.inside.file.now c.self.inside.start c.self.inside.lengths.items c.args.offset c.index.result.now c.self.invariant (omega (arith, c.if-offset-len.false, c.len.ensures, c.self.inside.lengths.ok.0)) c.index.ensures (omega (arith, c.if-length-len.false, c.len-2.ensures, c.self.inside.lengths.ok.0)) ∙ ap (λ z. text (drop c.args.offset z)) c.self.view_is)

pub returns-clause-no_nul : goal.returns-clause-no_nul
returns-clause-no_nul c =
    ap has_no_nul c.new.ensures ∙ name_ended c.self.inside.file.now c.self.inside.start c.self.inside.lengths.items c.args.offset c.index.result.now c.self.invariant (omega (arith, c.if-offset-len.false, c.len.ensures, c.self.inside.lengths.ok.0)) c.index.ensures (omega (arith, c.if-length-len.false, c.len-2.ensures, c.self.inside.lengths.ok.0))
