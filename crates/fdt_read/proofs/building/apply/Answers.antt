use Rattle.std.proofs.Common.{sym, subst, ◌++◌, ◌∷◌, []}
use Rattle.fdt_read.specs.Built.{IsBuilding}
use Rattle.fdt_read.specs.Found.{meant}
use Rattle.fdt_read.specs.declared.tokens.Found.{Found}
use Rattle.fdt_read.proofs.Kept.{building-nop}
use Rattle.fdt_read.proofs.building.apply.Goals as goal

pub returns-in-Nop : goal.returns-in-Nop
returns-in-Nop c done i =
    subst (λ (f : Found). IsBuilding (done ++ meant f ∷ []) c.args.building.now) (sym c.in-Nop.is) (building-nop done _ i)
