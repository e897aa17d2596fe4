use Rattle.std.proofs.Common.{◌==◌, ◌∙◌, ◌++◌, sym, ap, option_map}
use Rattle.fdt_tree.specs.Tree.{descend}
use Rattle.fdt_tree.specs.Document.{place_of, children_of}
use Rattle.texts.proofs.Cuts.{uncut, cut_at}
use Rattle.fdt_tree.proofs.Names.{onward}
use Rattle.fdt_nodes.proofs.PathSteps.{stops}
use Rattle.fdt_nodes.proofs.path_index.PathIndex.+find_below.Goals as goal

pub returns-in-None-clause-place : goal.returns-in-None-clause-place
returns-in-None-clause-place t c =
    c.child.ensures.place ∙ ap (λ parts. option_map (λ p. place_of c.args.self.now c.args.above ++ p) (descend parts (children_of c.args.self.now c.args.above))) (sym (uncut _ c.args.names.now (sym c.slash_in.ensures ∙ c.in-None.is)))

pub returns-in-None-child-clause-place : goal.returns-in-None-child-clause-place
returns-in-None-child-clause-place t c =
    stops (place_of c.args.self.now c.args.above) _ _ (children_of c.args.self.now c.args.above) c.in-None-child.ensures.place
    ∙ ap (λ parts. option_map (λ p. place_of c.args.self.now c.args.above ++ p) (descend parts (children_of c.args.self.now c.args.above))) (sym (cut_at (λ b. b == 47) c.args.names.now c.in-Some.at (sym c.slash_in.ensures ∙ c.in-Some.is)))

pub returns-in-Some-child-clause-place : goal.returns-in-Some-child-clause-place
returns-in-Some-child-clause-place t c =
    c.find_below.ensures.place ∙ (sym (onward c.args.self.now c.args.above c.in-Some-child.child _ _ c.in-Some-child.ensures.place)
    ∙ ap (λ parts. option_map (λ p. place_of c.args.self.now c.args.above ++ p) (descend parts (children_of c.args.self.now c.args.above))) (sym (cut_at (λ b. b == 47) c.args.names.now c.in-Some.at (sym c.slash_in.ensures ∙ c.in-Some.is))))
