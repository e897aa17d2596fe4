use Rattle.std.proofs.Common.{◌≡◌, true, false, is_some}
use Rattle.guest_load.proofs.BankLemmas.{all_left, live_here, first_found, passed, fewer}
use Rattle.guest_load.proofs.bank.first_memory.Goals as goal

pub loop-at-init : goal.loop-at-init
loop-at-init c = all_left c.args.tree.now c.root-root.result c.first_child-at.result c.numbering.ensures c.root-root.ensures.live c.root-root.ensures.place c.first_child-at.ensures.place c.first_child-at.ensures.live

pub memory_of-found-requires : goal.memory_of-found-requires
memory_of-found-requires c = live_here c.args.tree.now c.loop-at.at c.in-Some.node c.in-Some.is c.loop-at.invariant

pub returns-then-is_some : goal.returns-then-is_some
returns-then-is_some c =
    let there : is_some c.memory_of-found.result ≡ true = cc in
    first_found c.args.tree.now c.loop-at.at c.in-Some.node c.in-Some.is c.loop-at.invariant c.memory_of-found.result c.memory_of-found.ensures there

pub loop-at-smaller : goal.loop-at-smaller
loop-at-smaller c = fewer c.args.tree.now c.loop-at.at c.in-Some.node c.in-Some.is c.loop-at.invariant c.next_sibling-at.result c.next_sibling-at.ensures.place

pub loop-at-preserved : goal.loop-at-preserved
loop-at-preserved c =
    let none : is_some c.memory_of-found.result ≡ false = cc in
    passed c.args.tree.now c.loop-at.at c.in-Some.node c.in-Some.is c.loop-at.invariant c.next_sibling-at.result c.next_sibling-at.ensures.place
    c.memory_of-found.result c.memory_of-found.ensures none c.next_sibling-at.ensures.live
