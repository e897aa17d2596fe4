use Rattle.std.proofs.Common.{rules, ◌≡◌, inl, length, Err}
use Rattle.run_steps.proofs.Due.{own_due}
use Rattle.fdt_overlay.specs.PrivateSteps.{kept_made}
use Rattle.tree_files.specs.Lengths.{IsLengthRefusal}
use Rattle.fdt_overlay.specs.Job.{bytes_of, IsOutput}
use Rattle.fdt_overlay.proofs.prepare.build_output.Goals as goal

pub returns-in_err-bytes-clause-stopped : goal.returns-in_err-bytes-clause-stopped
returns-in_err-bytes-clause-stopped c =
    let handed : c.from_residual.result ≡ Err (c.in_err-bytes.field-0.0) = search rules in
    let made = kept_made c.args.flat.now in
    rw handed (own_due (IsLengthRefusal c.args.out.now (length (bytes_of made))) (IsOutput c.args.out.now made) (λ outcome refused. inl refused) (c.in_err-bytes.field-0.0) (rw (c.as_slice.ensures) at c.in_err-bytes.ensures.stopped))
