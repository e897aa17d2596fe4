use Rattle.std.proofs.Common.{◌++◌, drop}
use Rattle.frame_alloc.proofs.Changes.{lists-linked}
use Rattle.frame_alloc.proofs.extent_list.insert_after.Goals as goal

pub take_slot-requires : goal.take_slot-requires
take_slot-requires c = lists-linked c.args.list.now (c.requires.front ++ c.requires.later) c.requires.unused c.requires.lists

pub put-requires : goal.put-requires
put-requires c = record {
  front = c.requires.front;
  later = c.requires.later;
  unused = drop 1 c.requires.unused;
  lists = c.in_ok-index.ensures.taken (c.requires.front ++ c.requires.later) c.requires.unused c.requires.lists;
  last = c.requires.last;
}

pub returns-clause-inserted : goal.returns-clause-inserted
returns-clause-inserted c = λ front later unused ok last.
    c.put.ensures.put front later (drop 1 unused) (c.in_ok-index.ensures.taken (front ++ later) unused ok) last
