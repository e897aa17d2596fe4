use Rattle.std.proofs.Common.{◌∙◌, sym, ap}
use Rattle.std.specs.Prelude.{is_some}
use Rattle.fdt_tree.specs.Tree.{Bytes}
use Rattle.fdt_nodes.specs.ChildMaps.{named}
use Rattle.indexed_tree.proofs.NameMaps.{entered-new}
use Rattle.indexed_tree.proofs.names.enter.Goals as goal

pub returns-clause-ok : goal.returns-clause-ok
returns-clause-ok c =
    entered-new c.args.numbers.now c.insert.new.self c.args.name c.args.number (ap (λ (n : Bytes). is_some (named c.args.numbers.now n)) (sym c.as_slice.ensures.value) ∙ sym c.if-contains_key.ensures) c.in_ok-insert.ensures.updates
