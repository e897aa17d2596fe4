use Rattle.std.proofs.Common.{sym, subst, rules, Option}
use Rattle.std.specs.Prelude.{IfSome}
use Rattle.described.specs.Sound.{AreSound}
use Rattle.domain_bindings.proofs.Assured.{host-sound, dom0-sound}
use Rattle.domain_bindings.proofs.HostDeviceLemmas.{AreUsable, IsUsablePage, areas-usable, console-usable}
use Rattle.domain_bindings.proofs.RamLemmas.{AreFrameRanges-merged}
use Rattle.domain_bindings.proofs.host.read_host.Goals as goal

pub returns-clause-items : goal.returns-clause-items
returns-clause-items c = search rules

pub returns-clause-sound : goal.returns-clause-sound
returns-clause-sound c = subst AreSound (sym (returns-clause-items c)) (host-sound c.args.tree.now.tree c.args.reserves.now)

pub returns-clause-sound_modules : goal.returns-clause-sound_modules
returns-clause-sound_modules c = subst AreSound (sym c.in_ok-modules.ensures) (dom0-sound c.args.tree.now.tree)

pub returns-clause-apart : goal.returns-clause-apart
returns-clause-apart c = AreFrameRanges-merged _ 0 c.in_ok-ram.ensures.merged

pub returns-clause-usable : goal.returns-clause-usable
returns-clause-usable c = record {
  areas = subst (λ areas. IfSome areas AreUsable) (sym c.in_ok-areas.ensures) (areas-usable c.args.tree.now.tree);
  console = subst (λ address. IfSome address IsUsablePage) (sym c.in_ok-console.ensures) (console-usable c.args.tree.now.tree);
}
