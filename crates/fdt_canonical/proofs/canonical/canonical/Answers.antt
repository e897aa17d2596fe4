use Rattle.std.proofs.Common.{rules, ◌≡◌, Err, arith}
use Rattle.run_steps.specs.Steps.{nothing}
use Rattle.run_steps.proofs.Due.{own_due}
use Rattle.tree_files.specs.Trees.{flat_tree, AfterTree}
use Rattle.tree_files.specs.Lengths.{IsLengthRefusal}
use Rattle.tree_files.proofs.TreeSteps.{tree_step}
use Rattle.fdt_canonical.specs.Job.{IsRespelling}
use Rattle.fdt_canonical.proofs.SpellingLemmas.{is_canonical, only_written, length_refused}
use Rattle.fdt_canonical.proofs.Settled.{settled}
use Rattle.fdt_canonical.proofs.canonical.canonical.Goals as goal

pub returns-in_err-tree-clause-stopped : goal.returns-in_err-tree-clause-stopped
returns-in_err-tree-clause-stopped c =
    let handed : c.from_residual.result ≡ Err (c.in_err-tree.field-0.0) = search rules in
    rw handed
    (own_due (AfterTree c.args.name.now c.args.file.now nothing) _ ((tree_step c.args.name.now c.args.file.now).stays (IsRespelling c.args.name.now)) (c.in_err-tree.field-0.0) c.in_err-tree.ensures.stopped)

pub returns-in_err-bytes-clause-stopped : goal.returns-in_err-bytes-clause-stopped
returns-in_err-bytes-clause-stopped c =
    let handed : c.from_residual-in_err-bytes.result ≡ Err (c.in_err-bytes.field-0.0) = search (rules, c.from_residual-in_err-bytes.ensures) in
    rw handed
    (own_due _ _ (length_refused c.args.file.now (flat_tree c.in_ok-tree.tree) c.in_ok-tree.ensures.read c.as_slice.result.now c.as_slice.ensures c.args.name.now) (c.in_err-bytes.field-0.0) c.in_err-bytes.ensures.stopped)

pub returns-clause-written : goal.returns-clause-written
returns-clause-written c =
    is_canonical c.args.file.now (flat_tree c.in_ok-tree.tree) c.in_ok-tree.ensures.read c.as_slice.result.now c.as_slice.ensures c.in_ok-bytes.bytes c.in_ok-bytes.ensures.written

pub returns-clause-only : goal.returns-clause-only
returns-clause-only c =
    only_written c.args.file.now (flat_tree c.in_ok-tree.tree) c.in_ok-tree.ensures.read c.as_slice.result.now c.as_slice.ensures c.in_ok-bytes.bytes c.in_ok-bytes.ensures.written

pub returns-clause-settled : goal.returns-clause-settled
returns-clause-settled c =
    let tree = flat_tree c.in_ok-tree.tree in
    settled c.args.file.now c.in_ok-bytes.bytes tree.reserves c.as_slice.result.now tree.boot tree.root (λ i. omega (arith, c.type_inv.file i)) c.in_ok-tree.ensures.read.spelled c.as_slice.ensures
    (rw c.as_slice.ensures c.in_ok-tree.ensures.reserved) c.in_ok-bytes.ensures.written c.in_ok-bytes.ensures.fits
