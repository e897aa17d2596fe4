use Rattle.std.proofs.Common.{◌≡◌, ◌∙◌, ap, subst, ℕ, ◌∷◌, [], ◌++◌, ◌+◌, ◌-◌, List, inr, length, set, take, get_or, arith}
use Rattle.fdt_tree.specs.PrivateLinks.{modified}
use Rattle.indexed_tree.specs.PrivateArena.{IsMother}
use Rattle.indexed_tree.specs.declared.entry.Entry.{Entry}
use Rattle.indexed_tree.proofs.EntryLists.{set-append, read-before, all-but-last, length-changed}
use Rattle.indexed_tree.proofs.entry.grow.Goals as goal

pub returns-in-Ok-clause-ok : goal.returns-in-Ok-clause-ok
returns-in-Ok-clause-ok c =
    let old = c.args.entries.now.items in
    let above = c.index_mut-above.result.now in
    let mother = c.enter_child.new.above in
    let number : c.len-number.result ≡ length old = c.len-number.ensures ∙ c.args.entries.now.ok.0 in
    record {
      above = above;
      here = read-before old c.args.entry above c.args.parent c.requires.live (c.index_mut-above.ensures.value ∙ ap (λ (xs : List Entry). get_or xs c.args.parent above) c.in_ok-push.ensures.items);
      mother = mother;
      is_mother = subst (λ (n : ℕ). IsMother c.args.name.items n above mother) number c.in-Ok.ensures.ok;
      entries = ap (λ (xs : List Entry). set xs c.args.parent mother) c.in_ok-push.ensures.items ∙ set-append old c.args.entry mother c.args.parent c.requires.live;
    }

pub returns-in-Err-clause-err : goal.returns-in-Err-clause-err
returns-in-Err-clause-err c =
    let old = c.args.entries.now.items in
    let above = c.index_mut-above.result.now in
    let same = c.enter_child.new.above in
    let items : set c.push.new.self.items c.args.parent same ≡ modified (λ _. same) c.args.parent old ++ c.args.entry ∷ [] = ap (λ (xs : List Entry). set xs c.args.parent same) c.in_ok-push.ensures.items ∙ set-append old c.args.entry same c.args.parent c.requires.live in
    let long : c.push.new.self.len ≡ length (modified (λ _. same) c.args.parent old) + 1 = omega (arith, c.in_ok-push.ensures.len, c.args.entries.now.ok.0, length-changed same c.args.parent old) in
    inr (record {
      above = above;
      here = read-before old c.args.entry above c.args.parent c.requires.live (c.index_mut-above.ensures.value ∙ ap (λ (xs : List Entry). get_or xs c.args.parent above) c.in_ok-push.ensures.items);
      same = same;
      is_same = c.in-Err.ensures.err;
      entries = c.pop.ensures.rest ∙ (ap (λ (xs : List Entry). take (c.push.new.self.len - 1) xs) items ∙ all-but-last (modified (λ _. same) c.args.parent old) c.args.entry c.push.new.self.len long);
    })
