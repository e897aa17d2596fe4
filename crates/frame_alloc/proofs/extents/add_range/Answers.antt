use Rattle.std.proofs.Common.{◌≡◌, ◌<◌, ◌++◌, ◌⊎◌, inl, inr, length, Some, sym, ap, ◌∙◌, arith, append-nil}
use Rattle.texts.specs.Consecutive.{numbers}
use Rattle.texts.proofs.NumberLists.{numbers-zero}
use Rattle.frame_alloc.specs.Extents.{frames_of}
use Rattle.frame_alloc.specs.PrivateExtents.{end_from}
use Rattle.frame_alloc.specs.Slots.{extents_in}
use Rattle.frame_alloc.proofs.Additions.{IsAdded, last-below, last-at, last-bound, last-is_used, after-last, grown, last-apart, last-none, pushed_on}
use Rattle.frame_alloc.proofs.extents.add_range.Goals as goal
use Rattle.frame_alloc.proofs.extents.add_range.Goals.{in-Some+else-extent-range, in_default}

pub returns-then-range-eq0-clause-frames : goal.returns-then-range-eq0-clause-frames
returns-then-range-eq0-clause-frames c =
    let frames = frames_of (extents_in c.args.list.now) in
    sym (ap (λ xs. frames ++ xs) (ap (numbers c.args.range.first) c.if-range-eq0.true ∙ numbers-zero c.args.range.first) ∙ append-nil frames)

pub index-requires : goal.index-requires
index-requires c =
    let low = last-below c.args.list.now c.args.last c.in-Some.index c.requires.whole c.requires.last c.in-Some.is in
    omega (arith, low, c.args.list.now.slots.ok.0)

pub overflow_add-extent : goal.overflow_add-extent
overflow_add-extent c =
    let list = c.args.list.now in
    let here = last-at list c.args.last c.in-Some.index c.index.result.now c.requires.whole c.requires.last c.in-Some.is c.index.ensures in
    let bound = last-bound list c.in-Some.index c.index.result.now.extent c.requires.whole here in
    omega (arith, bound)

pub change-requires : goal.change-requires
change-requires c =
    let list = c.args.list.now in
    let here = last-at list c.args.last c.in-Some.index c.index.result.now c.requires.whole c.requires.last c.in-Some.is c.index.ensures in
    last-is_used list c.in-Some.index c.index.result.now.extent here

pub returns-then-extent-range-clause-frames : goal.returns-then-extent-range-clause-frames
returns-then-extent-range-clause-frames c =
    let list = c.args.list.now in
    let here = last-at list c.args.last c.in-Some.index c.index.result.now c.requires.whole c.requires.last c.in-Some.is c.index.ensures in
    let is : IsAdded list c.change.new.list c.args.range.first c.args.range.count (Some c.in-Some.index) = grown list c.change.new.list c.args.range.first c.args.range.count c.in-Some.index c.index.result.now.extent c.requires.whole here c.if-extent-range.true c.requires.low c.change.ensures.changed in
    is.frames

pub returns-then-extent-range-clause-whole : goal.returns-then-extent-range-clause-whole
returns-then-extent-range-clause-whole c =
    let list = c.args.list.now in
    let here = last-at list c.args.last c.in-Some.index c.index.result.now c.requires.whole c.requires.last c.in-Some.is c.index.ensures in
    let is : IsAdded list c.change.new.list c.args.range.first c.args.range.count (Some c.in-Some.index) = grown list c.change.new.list c.args.range.first c.args.range.count c.in-Some.index c.index.result.now.extent c.requires.whole here c.if-extent-range.true c.requires.low c.change.ensures.changed in
    is.whole

pub returns-then-extent-range-clause-end : goal.returns-then-extent-range-clause-end
returns-then-extent-range-clause-end c =
    let list = c.args.list.now in
    let here = last-at list c.args.last c.in-Some.index c.index.result.now c.requires.whole c.requires.last c.in-Some.is c.index.ensures in
    let is : IsAdded list c.change.new.list c.args.range.first c.args.range.count (Some c.in-Some.index) = grown list c.change.new.list c.args.range.first c.args.range.count c.in-Some.index c.index.result.now.extent c.requires.whole here c.if-extent-range.true c.requires.low c.change.ensures.changed in
    is.end

pub returns-then-extent-range-clause-last : goal.returns-then-extent-range-clause-last
returns-then-extent-range-clause-last c =
    let list = c.args.list.now in
    let here = last-at list c.args.last c.in-Some.index c.index.result.now c.requires.whole c.requires.last c.in-Some.is c.index.ensures in
    let is : IsAdded list c.change.new.list c.args.range.first c.args.range.count (Some c.in-Some.index) = grown list c.change.new.list c.args.range.first c.args.range.count c.in-Some.index c.index.result.now.extent c.requires.whole here c.if-extent-range.true c.requires.low c.change.ensures.changed in
    is.last_is

pub insert_after-requires : goal.insert_after-requires
insert_after-requires c =
    let same : c.match-last.last ≡ c.args.last = elim c.match-last.branch [
      | in-Some+else-extent-range w ↦ w.last-is ∙ sym w.in-Some.is
      | in_default w ↦ w.last-is
    ] in
    after-last c.args.list.now c.match-last.last c.requires.whole (same ∙ c.requires.last)

pub returns-clause-frames : goal.returns-clause-frames
returns-clause-frames c =
    let list = c.args.list.now in
    let same : c.match-last.last ≡ c.args.last = elim c.match-last.branch [
      | in-Some+else-extent-range w ↦ w.last-is ∙ sym w.in-Some.is
      | in_default w ↦ w.last-is
    ] in
    let apart : (length (extents_in list) ≡ 0) ⊎ (end_from 0 (extents_in list) < c.args.range.first) = elim c.match-last.branch [
      | in-Some+else-extent-range w ↦
          (let here = last-at list c.args.last w.in-Some.index w.index.result.now c.requires.whole c.requires.last w.in-Some.is w.index.ensures in
          inr (last-apart list c.args.range.first w.in-Some.index w.index.result.now.extent here c.requires.after w.if-extent-range.false))
      | in_default w ↦ inl (last-none list c.args.last c.requires.last w.in_default.is)
    ] in
    let some : 0 < c.args.range.count = let h = c.if-range-eq0.false in omega arith in
    let is : IsAdded list c.insert_after.new.list c.args.range.first c.args.range.count (Some c.in_ok-index.index) = pushed_on list c.insert_after.new.list c.args.range.first c.args.range.count c.match-last.last c.in_ok-index.index c.requires.whole (same ∙ c.requires.last) apart some c.requires.low c.in_ok-index.ensures.inserted in
    is.frames

pub returns-clause-whole : goal.returns-clause-whole
returns-clause-whole c =
    let list = c.args.list.now in
    let same : c.match-last.last ≡ c.args.last = elim c.match-last.branch [
      | in-Some+else-extent-range w ↦ w.last-is ∙ sym w.in-Some.is
      | in_default w ↦ w.last-is
    ] in
    let apart : (length (extents_in list) ≡ 0) ⊎ (end_from 0 (extents_in list) < c.args.range.first) = elim c.match-last.branch [
      | in-Some+else-extent-range w ↦
          (let here = last-at list c.args.last w.in-Some.index w.index.result.now c.requires.whole c.requires.last w.in-Some.is w.index.ensures in
          inr (last-apart list c.args.range.first w.in-Some.index w.index.result.now.extent here c.requires.after w.if-extent-range.false))
      | in_default w ↦ inl (last-none list c.args.last c.requires.last w.in_default.is)
    ] in
    let some : 0 < c.args.range.count = let h = c.if-range-eq0.false in omega arith in
    let is : IsAdded list c.insert_after.new.list c.args.range.first c.args.range.count (Some c.in_ok-index.index) = pushed_on list c.insert_after.new.list c.args.range.first c.args.range.count c.match-last.last c.in_ok-index.index c.requires.whole (same ∙ c.requires.last) apart some c.requires.low c.in_ok-index.ensures.inserted in
    is.whole

pub returns-clause-end : goal.returns-clause-end
returns-clause-end c =
    let list = c.args.list.now in
    let same : c.match-last.last ≡ c.args.last = elim c.match-last.branch [
      | in-Some+else-extent-range w ↦ w.last-is ∙ sym w.in-Some.is
      | in_default w ↦ w.last-is
    ] in
    let apart : (length (extents_in list) ≡ 0) ⊎ (end_from 0 (extents_in list) < c.args.range.first) = elim c.match-last.branch [
      | in-Some+else-extent-range w ↦
          (let here = last-at list c.args.last w.in-Some.index w.index.result.now c.requires.whole c.requires.last w.in-Some.is w.index.ensures in
          inr (last-apart list c.args.range.first w.in-Some.index w.index.result.now.extent here c.requires.after w.if-extent-range.false))
      | in_default w ↦ inl (last-none list c.args.last c.requires.last w.in_default.is)
    ] in
    let some : 0 < c.args.range.count = let h = c.if-range-eq0.false in omega arith in
    let is : IsAdded list c.insert_after.new.list c.args.range.first c.args.range.count (Some c.in_ok-index.index) = pushed_on list c.insert_after.new.list c.args.range.first c.args.range.count c.match-last.last c.in_ok-index.index c.requires.whole (same ∙ c.requires.last) apart some c.requires.low c.in_ok-index.ensures.inserted in
    is.end

pub returns-clause-last : goal.returns-clause-last
returns-clause-last c =
    let list = c.args.list.now in
    let same : c.match-last.last ≡ c.args.last = elim c.match-last.branch [
      | in-Some+else-extent-range w ↦ w.last-is ∙ sym w.in-Some.is
      | in_default w ↦ w.last-is
    ] in
    let apart : (length (extents_in list) ≡ 0) ⊎ (end_from 0 (extents_in list) < c.args.range.first) = elim c.match-last.branch [
      | in-Some+else-extent-range w ↦
          (let here = last-at list c.args.last w.in-Some.index w.index.result.now c.requires.whole c.requires.last w.in-Some.is w.index.ensures in
          inr (last-apart list c.args.range.first w.in-Some.index w.index.result.now.extent here c.requires.after w.if-extent-range.false))
      | in_default w ↦ inl (last-none list c.args.last c.requires.last w.in_default.is)
    ] in
    let some : 0 < c.args.range.count = let h = c.if-range-eq0.false in omega arith in
    let is : IsAdded list c.insert_after.new.list c.args.range.first c.args.range.count (Some c.in_ok-index.index) = pushed_on list c.insert_after.new.list c.args.range.first c.args.range.count c.match-last.last c.in_ok-index.index c.requires.whole (same ∙ c.requires.last) apart some c.requires.low c.in_ok-index.ensures.inserted in
    is.last_is
