use Rattle.std.proofs.Common.{◌+◌, zero-le, inr, refl, sym, ap, ◌∙◌}
use Rattle.fdt_tree.specs.Document.{Document}
use Rattle.fdt_read.specs.Built.{before}
use Rattle.fdt_read.proofs.Turns.{refused_here, onward, finished, beginning}
use Rattle.fdt_read.proofs.structure.structure.Goals as goal

pub returns-in-Some-clause-refused : goal.returns-in-Some-clause-refused
returns-in-Some-clause-refused c = inr (refused_here _ _ _ _ _ _ _ _ c.tokens.invariant c.token-found.ensures.token c.in-Some.ensures)

pub returns-then-is_last-clause-fine : goal.returns-then-is_last-clause-fine
returns-then-is_last-clause-fine c = (finished _ _ _ _ _ _ _ c.tokens.invariant c.token-found.ensures.token c.in-None.ensures (sym c.is_last.ensures ∙ c.if-is_last.true)).0

pub returns-then-is_last-clause-read : goal.returns-then-is_last-clause-read
returns-then-is_last-clause-read c = (finished _ _ _ _ _ _ _ c.tokens.invariant c.token-found.ensures.token c.in-None.ensures (sym c.is_last.ensures ∙ c.if-is_last.true)).1

pub tokens-init : goal.tokens-init
tokens-init c = beginning _ _ _ _ _ refl (record { level = refl; shallow = zero-le; started = refl; past_child = refl; live = tt; shape = before refl refl refl refl (ap (λ (d : Document). d.tree) c.in-Ok.ensures) })

pub tokens-preserved : goal.tokens-preserved
tokens-preserved c = let e = sym c.is_last.ensures ∙ c.if-is_last.false in let f = c.token-found.ensures.onward e in onward _ (c.args.start + c.args.size) _ _ _ _ _ _ c.tokens.invariant c.token-found.ensures.token c.in-None.ensures (c.in-Ok-apply.ensures c.tokens.invariant.done c.tokens.invariant.built) f.0 f.1 e
