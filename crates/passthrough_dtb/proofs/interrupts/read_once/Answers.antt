use Rattle.std.proofs.Common.{subst, []}
use Rattle.std.specs.Prelude.{Option}
use Rattle.std.specs.Option.{option_map_or}
use Rattle.fdt_tree.specs.Tree.{Bytes}
use Rattle.passthrough_dtb.specs.Interrupts.{interrupts_in}
use Rattle.passthrough_dtb.specs.PrivateTables.{Tells, IsTable}
use Rattle.passthrough_dtb.proofs.KnownNodes.{one_known}
use Rattle.passthrough_dtb.proofs.interrupts.read_once.Goals as goal

pub returns-in_ok-insert-clause-tables : goal.returns-in_ok-insert-clause-tables
returns-in_ok-insert-clause-tables c =
    one_known (λ node table. IsTable c.args.host.now node table.items) c.args.tables.now c.insert.new.self c.args.node c.in_ok-table.table c.requires.tables c.in_ok-insert.ensures.updates (record {
      whole = c.in_ok-table.ensures.whole;
      tells = subst (λ (value : Option Bytes). Tells c.in_ok-table.table.items [] (option_map_or interrupts_in value [])) c.prop.ensures c.in_ok-table.ensures.tells;
    })
