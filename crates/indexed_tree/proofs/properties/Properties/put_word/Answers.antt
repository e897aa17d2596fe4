use Rattle.std.proofs.Common.{◌≡◌, ◌∙◌, sym, ap, subst, Some, List, length, arith}
use Rattle.std.specs.Prelude.{IsSomeAnd, ◌+◌, ◌≤◌}
use Rattle.fdt_tree.specs.Tree.{Bytes, Property, property_of}
use Rattle.fdt_tree.specs.PathEdits.{set_property}
use Rattle.indexed_tree.specs.Words.{with_word}
use Rattle.indexed_tree.specs.PrivateIndex.{first_at}
use Rattle.indexed_tree.proofs.PropertyIndex.{at-within, at-value, at-none, at-set, set-some, fits}
use Rattle.indexed_tree.proofs.properties.Properties.put_word.Goals as goal

pub index_mut-held-requires : goal.index_mut-held-requires
index_mut-held-requires c =
    let there : first_at c.args.name.now c.self.inside.items.items ≡ Some c.in-Some.index = ap (first_at c.args.name.now) c.self.view_is ∙ (sym c.place.ensures ∙ c.in-Some.is) in
    let within = at-within c.args.name.now c.self.inside.items.items c.in-Some.index there in omega (arith, within, c.self.inside.items.ok.0)

pub put_word-requires : goal.put_word-requires
put_word-requires c =
    let there : first_at c.args.name.now c.self.inside.items.items ≡ Some c.in-Some.index = ap (first_at c.args.name.now) c.self.view_is ∙ (sym c.place.ensures ∙ c.in-Some.is) in
    fits c.args.name.now c.self.inside.items.items c.in-Some.index c.args.offset c.index_mut-held.result.now there c.index_mut-held.ensures.value
    (subst (λ (ps : List Property). IsSomeAnd (property_of ps c.args.name.now) (λ value. c.args.offset + 4 ≤ length value)) (sym c.self.view_is) c.requires)

pub invariant_of-self : goal.invariant_of-self
invariant_of-self c = λ m.
    let there : first_at c.args.name.now c.self.inside.items.items ≡ Some c.in-Some.index = ap (first_at c.args.name.now) c.self.view_is ∙ (sym c.place.ensures ∙ c.in-Some.is) in
    c.self.invariant m ∙ sym (at-set m c.put_word.new.self c.self.inside.items.items c.in-Some.index c.index_mut-held.result.now (at-within c.args.name.now c.self.inside.items.items c.in-Some.index there) c.index_mut-held.ensures.value)

pub returns-in-None : goal.returns-in-None
returns-in-None c = λ value is. absurd (let none : Some value ≡ _ = sym is ∙ at-none c.args.name.now c.args.self.now (sym c.place.ensures ∙ c.in-None.is) in cc)

pub returns-in-Some : goal.returns-in-Some
returns-in-Some c = λ value is.
    let ps = c.self.inside.items.items in
    let n = c.args.name.now in
    let i = c.in-Some.index in
    let there : first_at n ps ≡ Some i = ap (first_at n) c.self.view_is ∙ (sym c.place.ensures ∙ c.in-Some.is) in
    let found : Some c.index_mut-held.result.now.1 ≡ Some value = sym (at-value n ps i c.index_mut-held.result.now there c.index_mut-held.ensures.value) ∙ (ap (λ (qs : List Property). property_of qs n) c.self.view_is ∙ is) in
    let same : c.index_mut-held.result.now.1 ≡ value = cc in
    let made : c.put_word.new.self ≡ with_word value c.args.offset c.args.number = c.put_word.ensures ∙ ap (λ (v : Bytes). with_word v c.args.offset c.args.number) same in
    set-some n c.put_word.new.self ps i c.index_mut-held.result.now there c.index_mut-held.ensures.value
    ∙ (ap (λ (b : Bytes). set_property n b ps) made ∙ ap (set_property n (with_word value c.args.offset c.args.number)) c.self.view_is)
