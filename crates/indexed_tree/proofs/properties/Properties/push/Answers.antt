use Rattle.std.proofs.Common.{◌≡◌, ℕ, sym, ap, length, ◌∙◌}
use Rattle.fdt_tree.specs.Tree.{Bytes, Property}
use Rattle.indexed_tree.specs.PrivateIndex.{first_at, entered}
use Rattle.indexed_tree.proofs.PropertyIndex.{at-last}
use Rattle.indexed_tree.proofs.properties.Properties.push.Goals as goal

pub invariant_of-self-in-Ok : goal.invariant_of-self-in-Ok
invariant_of-self-in-Ok c = λ m.
    let ps = c.self.inside.items.items in
    let p : Property = (c.in_ok-copied.field-0, c.in_ok-copied-2.field-0) in
    let key : c.in_ok-key.key.items ≡ p.0 = c.in_ok-key.ensures.items_if_clones_equal (λ x y e. e) ∙ sym c.in_ok-copied.ensures in
    let index : c.len-index.result ≡ length ps = c.len-index.ensures ∙ c.self.inside.items.ok.0 in
    c.in-Ok.ensures.ok m
    ∙ (ap (entered c.in_ok-key.key.items c.len-index.result m) (c.self.invariant m)
    ∙ (ap (λ (k : Bytes). entered k c.len-index.result m (first_at m ps)) key
    ∙ (ap (λ (i : ℕ). entered p.0 i m (first_at m ps)) index
    ∙ (sym (at-last m p ps) ∙ ap (first_at m) (sym c.in_ok-push.ensures.items)))))
