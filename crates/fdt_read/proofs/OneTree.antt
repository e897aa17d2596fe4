-- Tokens spell one tree: read from the last to the first, they give it back.
use Rattle.std.proofs.Common.{◌≡◌, List, [], ◌∷◌, ◌++◌, Option, Some, refl, sym, ap, ◌∙◌, append_assoc}
use Rattle.fdt_tree.specs.Tree.{Bytes, Property, Trees, none, tree, Tree}
use Rattle.fdt_read.specs.Tokens.{Token, begin_node, end_node, property, nop, end, broken}
use Rattle.fdt_read.specs.Spelling.{spelled_properties, spelled, spelled_whole}

-- For each node whose end was met, the innermost first: the properties and the children that were read.
abbrev Frames : Type 0
Frames = List (List Property × Trees)

abbrev begun : Bytes → Frames → Frames
begun n (f ∷ g ∷ fs) = (g.0, tree n f.0 f.1 g.1) ∷ fs
begun n fs = fs

abbrev given : Option Bytes → Bytes → Frames → Frames
given (Some n) v (f ∷ fs) = ((n, v) ∷ f.0, f.1) ∷ fs
given n v fs = fs

abbrev frames : List Token → Frames
frames [] = []
frames (begin_node n ∷ ts) = begun n (frames ts)
frames (end_node ∷ ts) = ([], none) ∷ frames ts
frames (property n v ∷ ts) = given n v (frames ts)
frames (nop ∷ ts) = frames ts
frames (end ∷ ts) = ([], none) ∷ frames ts
frames (broken ∷ ts) = frames ts

frames-properties : (ps : List Property) (ts : List Token) (cs : Trees) (fs : Frames) → frames ts ≡ ([], cs) ∷ fs → frames (spelled_properties ps ++ ts) ≡ (ps, cs) ∷ fs
frames-properties [] ts cs fs e = e
frames-properties (p ∷ ps) ts cs fs e = ap (given (Some p.0) p.1) (frames-properties ps ts cs fs e)

-- The tokens of a node, with those of its later siblings taken together with what follows.
pub regroup : (ps : List Property) (cs rest : Trees) (xs : List Token) → (spelled_properties ps ++ (spelled cs ++ end_node ∷ spelled rest)) ++ xs ≡ spelled_properties ps ++ (spelled cs ++ end_node ∷ (spelled rest ++ xs))
regroup ps cs rest xs =
    append_assoc (spelled_properties ps) (spelled cs ++ end_node ∷ spelled rest) xs ∙ ap (λ z. spelled_properties ps ++ z) (append_assoc (spelled cs) (end_node ∷ spelled rest) xs)

frames-spelled : (ts : Trees) (xs : List Token) (qs : List Property) (fs : Frames) → frames xs ≡ (qs, none) ∷ fs → frames (spelled ts ++ xs) ≡ (qs, ts) ∷ fs
frames-spelled none xs qs fs e = e
frames-spelled (tree n ps cs rest) xs qs fs e =
    ap (λ z. begun n (frames z)) (regroup ps cs rest xs) ∙ ap (begun n) (frames-properties ps (spelled cs ++ end_node ∷ (spelled rest ++ xs)) cs ((qs, rest) ∷ fs) (frames-spelled cs (end_node ∷ (spelled rest ++ xs)) [] ((qs, rest) ∷ fs) (ap (λ (z : Frames). ([], none) ∷ z) (frames-spelled rest xs qs fs e))))

frames-whole : (t : Tree) → frames (spelled_whole t) ≡ ([], tree t.name t.properties t.children none) ∷ []
frames-whole t =
    ap (begun t.name) (frames-properties t.properties (spelled t.children ++ end_node ∷ end ∷ []) t.children (([], none) ∷ []) (frames-spelled t.children (end_node ∷ end ∷ []) [] (([], none) ∷ []) refl))

abbrev with_parts : Bytes → List Property → Trees → Tree
with_parts n ps cs = record { name = n; properties = ps; children = cs }

same_parts : (t u : Tree) → tree t.name t.properties t.children none ≡ tree u.name u.properties u.children none → t ≡ u
same_parts t u e =
    let n : t.name ≡ u.name = cc in let p : t.properties ≡ u.properties = cc in let c : t.children ≡ u.children = cc in ap (λ z. with_parts z t.properties t.children) n ∙ (ap (λ z. with_parts u.name z t.children) p ∙ ap (λ z. with_parts u.name u.properties z) c)

-- The children that the innermost frame has.
abbrev top : Frames → Trees
top [] = none
top (f ∷ fs) = f.1

pub one_tree : (t u : Tree) → spelled_whole t ≡ spelled_whole u → t ≡ u
one_tree t u e = same_parts t u (ap top (sym (frames-whole t) ∙ (ap frames e ∙ frames-whole u)))
