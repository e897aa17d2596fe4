use Rattle.std.proofs.Common.{◌≡◌, sym, arith, get_or, length, true}
use Rattle.std.specs.Prelude.{◌==◌}
use Rattle.std.proofs.lemmas.Bool.Decides.{nat_tests}
use Rattle.std.proofs.lemmas.List.Sums.{position_or_len_is}
use Rattle.ib_config.specs.declared.groups.PortGroup.{PortGroup}
use Rattle.ib_script.proofs.phandles.group_with.Goals as goal

-- what a look-up gives past the end
abbrev no_group : PortGroup
no_group = record { port = 0; peer = 0; peer_port = 0 }

pub returns-then-group-port-clause-value : goal.returns-then-group-port-clause-value
returns-then-group-port-clause-value c =
    let here : ((get_or c.args.groups.now c.loop-index.index no_group).port == c.args.port) ≡ true = grind (arith, nat_tests) in
    sym (position_or_len_is (λ (group : PortGroup). group.port == c.args.port) c.args.groups.now c.loop-index.index no_group (omega arith) (λ k h. c.loop-index.invariant k no_group h) (λ _. here))

pub returns-clause-value : goal.returns-clause-value
returns-clause-value c =
    sym (position_or_len_is (λ (group : PortGroup). group.port == c.args.port) c.args.groups.now (length c.args.groups.now) no_group (omega arith) (λ k h. c.loop-index.invariant k no_group (omega arith)) (λ past. absurd (omega arith)))
