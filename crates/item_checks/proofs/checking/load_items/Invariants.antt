use Rattle.std.proofs.Common.{◌≡◌, take, map}
use Rattle.item_checks.specs.Entries.{load_item}
use Rattle.item_checks.proofs.checking.load_items.Given as goal

-- the loads before the index have their items
abbrev pub invariant-loop-load : goal.invariant-loop-load
invariant-loop-load l = l.items ≡ map load_item (take l.load-index l.loads)
