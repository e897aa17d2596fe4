use Rattle.std.proofs.Common.{rules, ◌≡◌, subst, List, Err}
use Rattle.std.specs.Prelude.{Option}
use Rattle.std.specs.Option.{option_copied}
use Rattle.outside.specs.Outside.{File}
use Rattle.run_steps.specs.Steps.{nothing}
use Rattle.tree_files.specs.Trees.{flat_tree}
use Rattle.run_steps.proofs.Due.{due_here, due_later, grew_twice}
use Rattle.guest_load.specs.Parts.{AfterGuest, AfterKernel, AfterRamdisk}
use Rattle.guest_load.specs.PrivateMeant.{meant}
use Rattle.guest_load.proofs.PartSteps.{IsKernel, refused_guest, refused_kernel, refused_ramdisk}
use Rattle.guest_load.proofs.parts.read_parts.Goals as goal

pub returns-in_err-tree-clause-stopped : goal.returns-in_err-tree-clause-stopped
returns-in_err-tree-clause-stopped g c =
    let handed : c.from_residual.result ≡ Err (c.in_err-tree.field-0.0) = search rules in
    rw handed
    (due_here (AfterGuest (g.F.Files.held c.args.files.now) c.args.asked.now.tree.now nothing) _
    (refused_guest (g.F.Files.held c.args.files.now) (meant c.args.asked.now))
    _ _ (c.in_err-tree.field-0.0) c.in_err-tree.ensures.stopped)

pub returns-in_err-head-clause-stopped : goal.returns-in_err-head-clause-stopped
returns-in_err-head-clause-stopped g c =
    let handed : c.from_residual-in_err-head.result ≡ Err (c.in_err-head.field-0.0) = search (rules, c.from_residual-in_err-head.ensures) in
    rw handed
    (due_later (AfterKernel (g.F.Files.held c.args.files.now) c.args.asked.now.kernel.now nothing) _
    (refused_kernel (g.F.Files.held c.args.files.now) (meant c.args.asked.now) (flat_tree c.in_ok-tree.tree, c.in_ok-tree.bank) (c.in_ok-tree.ensures.tree, c.in_ok-tree.ensures.bank))
    _ _ _ c.in_ok-tree.ensures.only_read.counted (c.in_err-head.field-0.0) (rw (c.in_ok-tree.ensures.only_read.held_kept) at c.in_err-head.ensures.stopped))

pub returns-in_err-ramdisk-clause-stopped : goal.returns-in_err-ramdisk-clause-stopped
returns-in_err-ramdisk-clause-stopped g c =
    let handed : c.from_residual-in_err-ramdisk.result ≡ Err (c.in_err-ramdisk.field-0.0) = search (rules, c.from_residual-in_err-ramdisk.ensures) in
    rw handed
    (due_later (AfterRamdisk (g.F.Files.held c.args.files.now) (option_copied c.args.asked.now.ramdisk) nothing) _
    (λ outcome.
    refused_ramdisk (g.F.Files.held c.args.files.now) (meant c.args.asked.now) (flat_tree c.in_ok-tree.tree, c.in_ok-tree.bank) (c.in_ok-tree.ensures.tree, c.in_ok-tree.ensures.bank) outcome
    (c.in_ok-head.head, c.in_ok-head.kernel)
    (subst (λ (told : Option (List File)). IsKernel told c.args.asked.now.kernel.now (c.in_ok-head.head, c.in_ok-head.kernel)) c.in_ok-tree.ensures.only_read.held_kept c.in_ok-head.ensures.read))
    _ _ _ (grew_twice _ _ _ c.in_ok-tree.ensures.only_read.counted c.in_ok-head.ensures.only_read.counted) (c.in_err-ramdisk.field-0.0) (rw (c.in_ok-head.ensures.only_read.held_kept, c.in_ok-tree.ensures.only_read.held_kept) at c.in_err-ramdisk.ensures.stopped))
