use Rattle.std.proofs.Common.{◌≡◌, true, List, map, sym, subst}
use Rattle.frame_alloc.specs.Ranges.{holds}
use Rattle.item_checks.specs.declared.state.Taken.{Taken}
use Rattle.item_checks.proofs.TakingsLemmas.{none_takes}
use Rattle.item_checks.proofs.takings.Takings.may_take.Goals as goal

pub returns : goal.returns
returns c none =
    none_takes c.args.ranges.now c.args.self.now (λ frame held other. c.may_meet_any.ensures none frame other (c.self.invariant.covers frame (subst (λ (taken : List Taken). holds (map (λ (one : Taken). one.range) taken) frame ≡ true) (sym c.self.view_is) held)))
