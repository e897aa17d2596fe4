use Rattle.std.proofs.Common.{sym, subst, suc, [], ◌∷◌, ◌++◌, Some}
use Rattle.fdt_read.specs.Tokens.{begin_node, end_node, property}
use Rattle.fdt_read.proofs.Kept.{on_ok}
use Rattle.source_text.specs.declared.state.Action.{Action}
use Rattle.source_text.specs.PrivateTurns.{above, depth_behind}
use Rattle.source_text.specs.PrivateReadings.{IsGrown, IsRead, act}
use Rattle.source_text.proofs.Taken.{with_growing, taken_give, taken_empty, taken_open, taken_close}
use Rattle.source_text.proofs.reading.take.Goals as goal

pub returns-in-Give : goal.returns-in-Give
returns-in-Give c = λ b depth i.
    let r = c.args.reading.now in
    let g = c.give.new.growing in
    on_ok c.give.result (IsGrown (b.tokens ++ property (Some c.deref.result.now) c.deref-in-Give.result.now ∷ []) depth g) _
    (λ w. subst (λ (a : Action). IsRead (act a c.args.c b) (depth_behind a depth) (with_growing r g)) (sym c.in-Give.is) (taken_give b depth r i g c.args.c c.deref.result.now c.deref-in-Give.result.now c.deref.ensures.value c.deref-in-Give.ensures.value w))
    (c.give.ensures b.tokens depth i.grown)

pub returns-in-GiveEmpty : goal.returns-in-GiveEmpty
returns-in-GiveEmpty c = λ b depth i.
    let r = c.args.reading.now in
    let g = c.give-in-GiveEmpty.new.growing in
    on_ok c.give-in-GiveEmpty.result (IsGrown (b.tokens ++ property (Some c.deref-in-GiveEmpty.result.now) [] ∷ []) depth g) _
    (λ w. subst (λ (a : Action). IsRead (act a c.args.c b) (depth_behind a depth) (with_growing r g)) (sym c.in-GiveEmpty.is) (taken_empty b depth r i g c.args.c c.deref-in-GiveEmpty.result.now c.deref-in-GiveEmpty.ensures.value w))
    (c.give-in-GiveEmpty.ensures b.tokens depth i.grown)

pub returns-in-Open : goal.returns-in-Open
returns-in-Open c = λ b depth i.
    let r = c.args.reading.now in
    let g = c.open.new.growing in
    on_ok c.open.result (IsGrown (b.tokens ++ begin_node c.deref-in-Open.result.now ∷ []) (suc depth) g) _
    (λ w. subst (λ (a : Action). IsRead (act a c.args.c b) (depth_behind a depth) (with_growing r g)) (sym c.in-Open.is) (taken_open b depth r i g c.args.c c.deref-in-Open.result.now c.deref-in-Open.ensures.value w))
    (c.open.ensures b.tokens depth i.grown)

pub returns-in-Close : goal.returns-in-Close
returns-in-Close c = λ b depth i.
    let r = c.args.reading.now in
    let g = c.close.new.growing in
    on_ok c.close.result (IsGrown (b.tokens ++ end_node ∷ []) (above depth) g) _
    (λ w. subst (λ (a : Action). IsRead (act a c.args.c b) (depth_behind a depth) (with_growing r g)) (sym c.in-Close.is) (taken_close b depth r i g c.args.c w))
    (c.close.ensures b.tokens depth i.grown)
