use Rattle.std.proofs.Common.{◌≡◌, set, refl, ap, arith}
use Rattle.frame_alloc.specs.declared.slots.Slot.{Slot}
use Rattle.frame_alloc.specs.Slots.{slot_at}
use Rattle.frame_alloc.proofs.Changes.{used-links, changed}
use Rattle.frame_alloc.proofs.Walks.{slot-read}
use Rattle.frame_alloc.proofs.extent_list.change.Goals as goal

pub index-slot-requires : goal.index-slot-requires
index-slot-requires c =
    let there = (used-links c.args.list.now c.requires.front c.requires.later c.requires.unused c.args.index c.requires.extent c.requires.lists).0 in
    omega (arith, there, c.args.list.now.slots.ok.0)

pub index_mut-requires : goal.index_mut-requires
index_mut-requires c =
    let there = (used-links c.args.list.now c.requires.front c.requires.later c.requires.unused c.args.index c.requires.extent c.requires.lists).0 in
    omega (arith, there, c.args.list.now.slots.ok.0)

pub returns-clause-changed : goal.returns-clause-changed
returns-clause-changed c =
    let list = c.args.list.now in
    let there = (used-links list c.requires.front c.requires.later c.requires.unused c.args.index c.requires.extent c.requires.lists).0 in
    let same : c.index-slot.result.now ≡ slot_at list.slots.items c.args.index = slot-read list c.args.index c.index-slot.result.now there c.index-slot.ensures in
    changed list _ c.args.index c.args.extent (ap (λ (s : Slot). set list.slots.items c.args.index (record { extent = c.args.extent; before = s.before; after = s.after })) same) refl refl refl
