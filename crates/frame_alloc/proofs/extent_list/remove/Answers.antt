use Rattle.std.proofs.Common.{◌≡◌, ◌<◌, List, length, None, sym, subst, ap, refl, ◌∙◌}
use Rattle.std.specs.Prelude.{IfSome}
use Rattle.frame_alloc.specs.declared.slots.Slot.{Slot}
use Rattle.frame_alloc.specs.Slots.{slot_at}
use Rattle.frame_alloc.specs.PrivateLinks.{linked}
use Rattle.frame_alloc.proofs.Linking.{length-joined}
use Rattle.frame_alloc.proofs.Changes.{used-links, unused-below, removed}
use Rattle.frame_alloc.proofs.extent_list.remove.Goals as goal

pub unlink-requires-clause-there : goal.unlink-requires-clause-there
unlink-requires-clause-there c = (used-links c.args.list.now c.requires.front c.requires.later c.requires.unused c.args.index c.requires.extent c.requires.lists).0

pub unlink-requires-clause-before_there : goal.unlink-requires-clause-before_there
unlink-requires-clause-before_there c = (used-links c.args.list.now c.requires.front c.requires.later c.requires.unused c.args.index c.requires.extent c.requires.lists).1

pub unlink-requires-clause-after_there : goal.unlink-requires-clause-after_there
unlink-requires-clause-after_there c = (used-links c.args.list.now c.requires.front c.requires.later c.requires.unused c.args.index c.requires.extent c.requires.lists).2

pub link-requires-clause-there : goal.link-requires-clause-there
link-requires-clause-there c =
    let slots = c.args.list.now.slots.items in
    let len : length c.unlink.new.slots.items ≡ length slots = ap length c.unlink.ensures.slots ∙ length-joined slots (slot_at slots c.args.index).before (slot_at slots c.args.index).after in
    subst (λ n. c.args.index < n) (sym len) (used-links c.args.list.now c.requires.front c.requires.later c.requires.unused c.args.index c.requires.extent c.requires.lists).0

pub link-requires-clause-after_there : goal.link-requires-clause-after_there
link-requires-clause-after_there c =
    let slots = c.args.list.now.slots.items in
    let len : length c.unlink.new.slots.items ≡ length slots = ap length c.unlink.ensures.slots ∙ length-joined slots (slot_at slots c.args.index).before (slot_at slots c.args.index).after in
    subst (λ n. IfSome c.args.list.now.unused (λ i. i < n)) (sym len) (unused-below c.args.list.now _ c.requires.unused c.requires.lists)

pub returns-clause-removed : goal.returns-clause-removed
returns-clause-removed c =
    let list = c.args.list.now in
    removed list _ c.args.index (c.link.ensures.slots ∙ ap (λ (s : List Slot). linked s list.unused None c.args.index) c.unlink.ensures.slots) c.unlink.ensures.head c.link.ensures.head refl
