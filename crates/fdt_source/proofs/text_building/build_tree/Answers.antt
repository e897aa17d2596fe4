use Rattle.std.proofs.Common.{rules, ◌≡◌, inl, length, Err}
use Rattle.run_steps.proofs.Due.{own_due}
use Rattle.tree_files.specs.Lengths.{IsLengthRefusal}
use Rattle.fdt_source.specs.PrivateMeant.{source_tree}
use Rattle.fdt_source.specs.Job.{tree_of, IsBuilding}
use Rattle.fdt_source.proofs.text_building.build_tree.Goals as goal

pub returns-in_err-bytes-clause-stopped : goal.returns-in_err-bytes-clause-stopped
returns-in_err-bytes-clause-stopped c =
    let handed : c.from_residual.result ≡ Err (c.in_err-bytes.field-0.0) = search rules in
    let tree = source_tree c.args.source.now in
    rw handed (own_due (IsLengthRefusal c.args.out.now (length (tree_of tree))) (IsBuilding c.args.out.now tree) (λ outcome refused. inl refused) (c.in_err-bytes.field-0.0) (rw (c.as_slice.ensures) at c.in_err-bytes.ensures.stopped))
