use Rattle.std.proofs.Common.{◌≡◌, ℕ, ◌+◌, true, false, Bool, get_or, drop, Some, List, ◌∷◌, refl, sym, ap, ◌∙◌}
use Rattle.std.specs.List.{find}
use Rattle.std.specs.Prelude.{option_map}
use Rattle.std.proofs.lemmas.List.{drop_more, drop_all}
use Rattle.item_checks.specs.declared.state.Taken.{Taken}
use Rattle.item_checks.proofs.EarliestLemmas.{takes_of}
use Rattle.item_checks.proofs.takings.first_of.Goals as goal

place : Taken → ℕ
place one = one.item

found : (test : Taken → Bool) (one : Taken) (rest : List Taken) → test one ≡ true → find test (one ∷ rest) ≡ Some one
found test one rest here = rw here refl

missed : (test : Taken → Bool) (one : Taken) (rest : List Taken) → test one ≡ false → find test (one ∷ rest) ≡ find test rest
missed test one rest here = rw here refl

pub returns-then-meets_any : goal.returns-then-meets_any
returns-then-meets_any c =
    let d : Taken = record { range = record { first = 0; count = 0 }; item = 0 } in
    let es = c.args.taken.now in
    let i = c.loop-one.one-index in
    let here : takes_of c.args.ranges.now (get_or es i d) ≡ true = sym c.meets_any.ensures ∙ c.if-meets_any.true in
    ap (option_map (λ (one : Taken). one.item))
    (sym (found (takes_of c.args.ranges.now) (get_or es i d) (drop (i + 1) es) here) ∙ ap (find (takes_of c.args.ranges.now)) (sym (drop_more es i d c.loop-one-test.true)) ∙ c.loop-one.invariant)

pub loop-one-preserved : goal.loop-one-preserved
loop-one-preserved c =
    let d : Taken = record { range = record { first = 0; count = 0 }; item = 0 } in
    let es = c.args.taken.now in
    let i = c.loop-one.one-index in
    let here : takes_of c.args.ranges.now (get_or es i d) ≡ false = sym c.meets_any.ensures ∙ c.if-meets_any.false in
    sym (missed (takes_of c.args.ranges.now) (get_or es i d) (drop (i + 1) es) here) ∙ ap (find (takes_of c.args.ranges.now)) (sym (drop_more es i d c.loop-one-test.true)) ∙ c.loop-one.invariant

pub returns : goal.returns
returns c =
    ap (option_map (λ (one : Taken). one.item)) (ap (find (takes_of c.args.ranges.now)) (sym (drop_all c.loop-one.one-index c.args.taken.now c.loop-one-test.false)) ∙ c.loop-one.invariant)
