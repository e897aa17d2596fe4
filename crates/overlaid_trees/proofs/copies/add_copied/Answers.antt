use Rattle.std.proofs.Common.{◌≡◌, true, false}
use Rattle.std.specs.Prelude.{bytes_eq, codes}
use Rattle.overlaid_trees.proofs.CopyLemmas.{placed-none, placed-some, placed-other}
use Rattle.overlaid_trees.proofs.copies.add_copied.Goals as goal

pub returns-in_ok-add_prop-in-None-clause-added : goal.returns-in_ok-add_prop-in-None-clause-added
returns-in_ok-add_prop-in-None-clause-added c =
    placed-none c.args.phandle (c.args.name.now, c.args.value.now) c.args.tree.now c.add_prop.new.self c.args.copy c.in-None.is c.in_ok-add_prop-in-None.ensures.ok

pub returns-in_ok-add_prop-in-Some-clause-added : goal.returns-in_ok-add_prop-in-Some-clause-added
returns-in_ok-add_prop-in-Some-clause-added c =
    let named : bytes_eq c.args.name.now (codes "phandle") ≡ true = cc (c.as_slice.ensures, c.eq.ensures, c.if-eq.true) in
    placed-some c.args.phandle c.in-Some.number c.args.name.now c.args.value.now c.to_be_bytes.result c.args.tree.now c.add_prop-then-eq.new.self c.args.copy c.in-Some.is named c.to_be_bytes.ensures c.in_ok-add_prop-in-Some.ensures.ok

pub returns-in_ok-add_prop-in-Some-2-clause-added : goal.returns-in_ok-add_prop-in-Some-2-clause-added
returns-in_ok-add_prop-in-Some-2-clause-added c =
    let named : bytes_eq c.args.name.now (codes "phandle") ≡ false = cc (c.as_slice.ensures, c.eq.ensures, c.if-eq.false) in
    placed-other c.args.phandle c.in-Some.number c.args.name.now c.args.value.now c.args.tree.now c.add_prop-else-eq.new.self c.args.copy c.in-Some.is named c.in_ok-add_prop-in-Some-2.ensures.ok
