use Rattle.std.proofs.Common.{◌∙◌, ap, sym, Some, arith}
use Rattle.guest_load.proofs.BankLemmas.{first_entry}
use Rattle.guest_load.proofs.bank.first_entry.Goals as goal

pub returns : goal.returns
returns c =
    ap (λ e. Some e) c.region.ensures
    ∙ sym (first_entry c.args.cells c.args.bytes.now (omega arith) (omega arith) (cc))
