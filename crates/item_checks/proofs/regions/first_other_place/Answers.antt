use Rattle.std.proofs.Common.{◌≡◌, ◌+◌, true, false, get_or, drop, sym, ap, ◌∙◌}
use Rattle.std.specs.List.{find}
use Rattle.std.specs.Prelude.{option_map}
use Rattle.std.proofs.lemmas.List.{drop_more, drop_all}
use Rattle.item_checks.specs.declared.state.Taken.{Taken}
use Rattle.item_checks.proofs.RegionLemmas.{other_at, found, missed}
use Rattle.item_checks.proofs.regions.first_other_place.Goals as goal

pub returns-then-is_other_at : goal.returns-then-is_other_at
returns-then-is_other_at c =
    let d : Taken = record { range = record { first = 0; count = 0 }; item = 0 } in
    let es = c.args.taken.now in
    let i = c.loop-one.one-index in
    let here : other_at c.args.id.now c.args.regions.now c.args.ranges.now (get_or es i d) ≡ true = sym c.is_other_at.ensures ∙ c.if-is_other_at.true in
    ap (option_map (λ (one : Taken). one.item))
    (sym (found (other_at c.args.id.now c.args.regions.now c.args.ranges.now) (get_or es i d) (drop (i + 1) es) here) ∙ ap (find (other_at c.args.id.now c.args.regions.now c.args.ranges.now)) (sym (drop_more es i d c.loop-one-test.true)) ∙ c.loop-one.invariant)

pub loop-one-preserved : goal.loop-one-preserved
loop-one-preserved c =
    let d : Taken = record { range = record { first = 0; count = 0 }; item = 0 } in
    let es = c.args.taken.now in
    let i = c.loop-one.one-index in
    let here : other_at c.args.id.now c.args.regions.now c.args.ranges.now (get_or es i d) ≡ false = sym c.is_other_at.ensures ∙ c.if-is_other_at.false in
    sym (missed (other_at c.args.id.now c.args.regions.now c.args.ranges.now) (get_or es i d) (drop (i + 1) es) here) ∙ ap (find (other_at c.args.id.now c.args.regions.now c.args.ranges.now)) (sym (drop_more es i d c.loop-one-test.true)) ∙ c.loop-one.invariant

pub returns : goal.returns
returns c =
    ap (option_map (λ (one : Taken). one.item)) (ap (find (other_at c.args.id.now c.args.regions.now c.args.ranges.now)) (sym (drop_all c.loop-one.one-index c.args.taken.now c.loop-one-test.false)) ∙ c.loop-one.invariant)
