use Rattle.std.proofs.Common.{◌≡◌, ◌++◌, ◌∷◌, [], ◌∙◌, sym, ap, subst, Some, List, arith}
use Rattle.std.specs.Prelude.{OnOk}
use Rattle.fdt_tree.specs.Tree.{Bytes, Property}
use Rattle.fdt_tree.specs.PathEdits.{set_property}
use Rattle.indexed_tree.specs.PrivateIndex.{first_at}
use Rattle.indexed_tree.proofs.PropertyIndex.{at-within, at-set, set-none, set-some}
use Rattle.indexed_tree.proofs.properties.Properties.set.Goals as goal

pub index_mut-held-requires : goal.index_mut-held-requires
index_mut-held-requires c =
    let there : first_at c.args.name.now c.self.inside.items.items ≡ Some c.in-Some.index = ap (first_at c.args.name.now) c.self.view_is ∙ (sym c.place.ensures ∙ c.in-Some.is) in
    let within = at-within c.args.name.now c.self.inside.items.items c.in-Some.index there in omega (arith, within, c.self.inside.items.ok.0)

pub invariant_of-self : goal.invariant_of-self
invariant_of-self c = λ m.
    let there : first_at c.args.name.now c.self.inside.items.items ≡ Some c.in-Some.index = ap (first_at c.args.name.now) c.self.view_is ∙ (sym c.place.ensures ∙ c.in-Some.is) in
    c.self.invariant m ∙ sym (at-set m c.in_ok-value-in-Some.value c.self.inside.items.items c.in-Some.index c.index_mut-held.result.now (at-within c.args.name.now c.self.inside.items.items c.in-Some.index there) c.index_mut-held.ensures.value)

pub returns-in-None-clause-ok : goal.returns-in-None-clause-ok
returns-in-None-clause-ok c =
    let same : c.args.self.now ++ (c.args.name.now, c.args.bytes.now) ∷ [] ≡ set_property c.args.name.now c.args.bytes.now c.args.self.now = sym (set-none c.args.name.now c.args.bytes.now c.args.self.now (sym c.place.ensures ∙ c.in-None.is)) in
    subst (λ (ps : List Property). OnOk c.push.result (c.push.new.self ≡ ps)) same c.push.ensures.ok

pub returns-in_ok-value-in-Some-clause-ok : goal.returns-in_ok-value-in-Some-clause-ok
returns-in_ok-value-in-Some-clause-ok c =
    let ps = c.self.inside.items.items in
    let n = c.args.name.now in
    let there : first_at n ps ≡ Some c.in-Some.index = ap (first_at n) c.self.view_is ∙ (sym c.place.ensures ∙ c.in-Some.is) in
    set-some n c.in_ok-value-in-Some.value ps c.in-Some.index c.index_mut-held.result.now there c.index_mut-held.ensures.value
    ∙ (ap (λ (b : Bytes). set_property n b ps) c.in_ok-value-in-Some.ensures ∙ ap (set_property n c.args.bytes.now) c.self.view_is)
