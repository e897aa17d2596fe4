use Rattle.dom0less.proofs.Absences.{read_of_absent}
use Rattle.dom0less.proofs.laws.read_of_absent.Goals as goal

pub returns : goal.returns
returns c = read_of_absent
