use Rattle.std.proofs.Common.{◌<◌, ℕ, ◌++◌, length, set, None, Option, sym, subst, refl, arith}
use Rattle.std.specs.Prelude.{IfSome}
use Rattle.std.proofs.lemmas.List.{length-set}
use Rattle.frame_alloc.specs.declared.slots.Slot.{Slot}
use Rattle.frame_alloc.specs.PrivateLinks.{link_from}
use Rattle.frame_alloc.proofs.Linking.{linked-apart}
use Rattle.frame_alloc.proofs.Changes.{place-links, put_in}
use Rattle.frame_alloc.proofs.extent_list.put.Goals as goal

pub link-requires-clause-before_there : goal.link-requires-clause-before_there
link-requires-clause-before_there c =
    let slots = c.args.list.now.slots.items in
    let slot : Slot = record { extent = c.args.extent; before = None; after = None } in
    let here = (place-links slots c.args.list.now.first c.requires.front c.requires.later c.requires.lists.linked).0 in
    subst (λ n. IfSome c.args.before (λ i. i < n)) (sym (length-set slots c.args.index slot)) (subst (λ (o : Option ℕ). IfSome o (λ i. i < length slots)) c.requires.last here)

pub link-requires-clause-after_there : goal.link-requires-clause-after_there
link-requires-clause-after_there c =
    let list = c.args.list.now in
    let slot : Slot = record { extent = c.args.extent; before = None; after = None } in
    let slots = set list.slots.items c.args.index slot in
    let apart = c.requires.lists.apart in
    let kept = linked-apart list.slots.items c.args.index slot None list.first None (c.requires.front ++ c.requires.later) (omega (arith, apart)) c.requires.lists.linked in
    subst (λ (o : Option ℕ). IfSome (link_from slots list.first o) (λ i. i < length slots)) c.requires.last (place-links slots list.first c.requires.front c.requires.later kept).1

pub returns-clause-put : goal.returns-clause-put
returns-clause-put c =
    put_in c.args.list.now _ c.args.before c.args.index (record { extent = c.args.extent; before = None; after = None }) c.link.ensures.slots c.link.ensures.head refl refl
