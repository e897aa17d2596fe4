use Rattle.std.proofs.Common.{option_map, Option, ℕ, sym, ap, ◌∙◌, subst}
use Rattle.fdt_tree.specs.Document.{place_of}
use Rattle.fdt_tree.specs.Assembled.{LeadsOn}
use Rattle.fdt_tree.proofs.Links.{reads}
use Rattle.fdt_tree.proofs.tree.Tree.first_child.Goals as goal

pub returns-in-None-clause-place : goal.returns-in-None-clause-place
returns-in-None-clause-place c =
    let f = reads _ _ _ _ _ _ _ c.self.invariant c.self.view_is c.node.view_is c.requires c.index.ensures in ap (option_map (place_of c.args.self.now)) (sym c.in-None.is) ∙ f.first

on : (c : goal.In-Some) → LeadsOn c.args.self.now c.args.node (c.index.result.now.first_child)
on c = let f = reads _ _ _ _ _ _ _ c.self.invariant c.self.view_is c.node.view_is c.requires c.index.ensures in f.first_on

pub returns-in-Some-clause-live : goal.returns-in-Some-clause-live
returns-in-Some-clause-live c = (subst (λ (o : Option ℕ). LeadsOn c.args.self.now c.args.node o) c.in-Some.is (on c)).1

pub returns-in-Some-clause-later : goal.returns-in-Some-clause-later
returns-in-Some-clause-later c = (subst (λ (o : Option ℕ). LeadsOn c.args.self.now c.args.node o) c.in-Some.is (on c)).0

pub returns-in-Some-clause-place : goal.returns-in-Some-clause-place
returns-in-Some-clause-place c =
    let f = reads _ _ _ _ _ _ _ c.self.invariant c.self.view_is c.node.view_is c.requires c.index.ensures in ap (option_map (place_of c.args.self.now)) (sym c.in-Some.is) ∙ f.first
