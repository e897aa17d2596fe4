use Rattle.std.proofs.Common.{drop, Ok, Err, refl, sym, subst, arith}
use Rattle.std.specs.Prelude.{OnErr, Result}
use Rattle.frame_alloc.specs.declared.extent_list.ExtentList.{ExtentList}
use Rattle.frame_alloc.specs.Slots.{no_slot}
use Rattle.frame_alloc.specs.PrivateLinks.{AreListsBut}
use Rattle.frame_alloc.proofs.Changes.{unused-links, unused-some, taken, pushed}
use Rattle.frame_alloc.proofs.extent_list.take_slot.Goals as goal

pub unlink-requires-clause-after_there : goal.unlink-requires-clause-after_there
unlink-requires-clause-after_there c = unused-links c.args.list.now _ _ c.in-Some.index c.requires c.in-Some.is

on_err : {A B P : Type 0} (r : Result A B) → P → OnErr r P
on_err (Ok x) p = tt
on_err (Err e) p = p

pub returns-in_err-index-in-None-clause-err : goal.returns-in_err-index-in-None-clause-err
returns-in_err-index-in-None-clause-err c =
    on_err c.from_residual.result (record {
      slots = c.in_err-index-in-None.ensures.err;
      first = refl;
      unused = refl;
      unused_count = refl;
      capacity = c.in_err-index-in-None.ensures.room;
    })

pub returns-in-Some-clause-taken : goal.returns-in-Some-clause-taken
returns-in-Some-clause-taken c =
    let list = c.args.list.now in
    let some = unused-some list _ _ c.in-Some.index c.requires c.in-Some.is in
    taken list _ c.in-Some.index c.in-Some.is c.unlink.ensures.slots refl c.unlink.ensures.head (omega (arith, some))

pub returns-in_ok-index-in-None-clause-taken : goal.returns-in_ok-index-in-None-clause-taken
returns-in_ok-index-in-None-clause-taken c = λ used unused ok.
    let list = c.args.list.now in
    let new : ExtentList = record { slots = c.add_slot.new.slots; first = list.first; unused = list.unused; unused_count = list.unused_count } in
    subst (λ i. AreListsBut new used (drop 1 unused) i) (sym c.in_ok-index-in-None.ensures.index)
    (pushed list new no_slot c.in-None.is c.in_ok-index-in-None.ensures.items refl refl refl used unused ok)
