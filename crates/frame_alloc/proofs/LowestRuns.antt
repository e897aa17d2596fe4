-- The lowest run of a list of extents.
use Rattle.std.proofs.Common.{◌≡◌, ℕ, ◌+◌, ◌<◌, ◌≤◌, true, false, leb, Option, Some, None, ◌∙◌, arith}
use Rattle.std.proofs.lemmas.Bool.Decides.{nat_tests}
use Rattle.frame_alloc.specs.Frames.{begins_run, lowest_run}
use Rattle.frame_alloc.specs.Extents.{frames_of}
use Rattle.frame_alloc.specs.Slots.{extents_in}
use Rattle.frame_alloc.specs.declared.slots.Slot.{Slot}
use Rattle.frame_alloc.specs.declared.extent_list.ExtentList.{ExtentList}
use Rattle.frame_alloc.proofs.Searches.{IsSearchedAt, IsSearchTurn, search-ends}

-- an extent's first frame begins the lowest run where the extent is long enough
pub run_found : (count : ℕ) (list : ExtentList) (at : Option ℕ) (slot : Slot) → IsSearchTurn (begins_run count (frames_of (extents_in list))) list at slot → 0 < count → count ≤ slot.extent.count
    → lowest_run count (frames_of (extents_in list)) ≡ Some slot.extent.first
unfolding lowest_run
run_found count list at slot turn some fits =
    let yes : leb (slot.extent.first + count) (slot.extent.first + slot.extent.count) ≡ true = grind (arith, nat_tests) in
    turn.found slot.extent.first (omega arith) (omega arith) (turn.runs count slot.extent.first (omega arith) (omega arith) ∙ yes) (λ k from to. absurd (omega arith))

-- else no run begins in the extent
pub run_past : (count : ℕ) (list : ExtentList) (at : Option ℕ) (slot : Slot) → IsSearchTurn (begins_run count (frames_of (extents_in list))) list at slot → slot.extent.count < count
    → IsSearchedAt (begins_run count (frames_of (extents_in list))) list slot.after
run_past count list at slot turn short =
    turn.next (λ k from to. let no : leb (k + count) (slot.extent.first + slot.extent.count) ≡ false = grind (arith, nat_tests) in turn.runs count k from to ∙ no)

-- at the end there is no run
pub run_none : (count : ℕ) (list : ExtentList) (at : Option ℕ) → IsSearchedAt (begins_run count (frames_of (extents_in list))) list at → at ≡ None → lowest_run count (frames_of (extents_in list)) ≡ None
unfolding lowest_run
run_none count list at ok is = search-ends (begins_run count (frames_of (extents_in list))) list at ok is
