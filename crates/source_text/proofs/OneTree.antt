-- The tokens of a whole tree, but for its end, are those of one tree.
use Rattle.std.proofs.Common.{◌≡◌, ◌∙◌, sym, ap, List, [], ◌∷◌, ◌++◌, append_assoc}
use Rattle.fdt_tree.specs.Tree.{Bytes, Tree}
use Rattle.fdt_read.specs.Tokens.{Token, begin_node, end_node, end}
use Rattle.fdt_read.specs.Spelling.{spelled_properties, spelled}
use Rattle.fdt_read.proofs.OneTree.{one_tree}

-- The tokens of a whole tree, but for its end.
abbrev pub whole_tokens : Tree → List Token
whole_tokens t = begin_node [] ∷ (spelled_properties t.properties ++ spelled t.children)

-- The tokens of a whole tree are those of one tree.
whole_end : (t : Tree) → (whole_tokens t ++ end_node ∷ []) ++ end ∷ [] ≡ begin_node [] ∷ (spelled_properties t.properties ++ (spelled t.children ++ end_node ∷ end ∷ []))
whole_end t =
    append_assoc (whole_tokens t) (end_node ∷ []) (end ∷ []) ∙ ap (λ z. begin_node [] ∷ z) (append_assoc (spelled_properties t.properties) (spelled t.children) (end_node ∷ end ∷ []))

pub same_tree : (t u : Tree) → t.name ≡ [] → u.name ≡ [] → whole_tokens t ≡ whole_tokens u → t ≡ u
same_tree t u e f is =
    one_tree t u
    (ap (λ (z : Bytes). begin_node z ∷ (spelled_properties t.properties ++ (spelled t.children ++ end_node ∷ end ∷ []))) e
    ∙ (sym (whole_end t) ∙ (ap (λ (z : List Token). (z ++ end_node ∷ []) ++ end ∷ []) is ∙ (whole_end u ∙ ap (λ (z : Bytes). begin_node z ∷ (spelled_properties u.properties ++ (spelled u.children ++ end_node ∷ end ∷ []))) (sym f)))))
