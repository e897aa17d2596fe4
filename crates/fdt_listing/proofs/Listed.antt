-- The lines of the tokens that spell a tree are the lines of the tree.
use Rattle.std.proofs.Common.{◌≡◌, List, [], ◌∷◌, ◌++◌, flat_map, refl, sym, ap, ◌∙◌, append_assoc}
use Rattle.std.specs.Prelude.{codes}
use Rattle.std.proofs.lemmas.List.{append-nil}
use Rattle.fdt_tree.specs.Tree.{Bytes, Property, Trees, none, tree, Tree}
use Rattle.fdt_read.specs.Tokens.{Token, end_node, end}
use Rattle.fdt_read.specs.Spelling.{spelled_properties, spelled, spelled_whole}
use Rattle.fdt_write.specs.Opened.{path_below, shown, opened_after}
use Rattle.fdt_listing.specs.Listing.{line, property_line, trees_lines, tree_lines}
use Rattle.fdt_listing.specs.PrivateOpened.{token_line}

-- The lines of tokens, where a walk is in these nodes.
abbrev pub tokens_lines : List Bytes → List Token → Bytes
tokens_lines opened [] = []
tokens_lines opened (token ∷ rest) = token_line opened token ++ tokens_lines (opened_after opened token) rest

-- The lines of the tokens of properties, and of what follows.
properties-listed : (opened : List Bytes) (properties : List Property) (rest : List Token) → tokens_lines opened (spelled_properties properties ++ rest) ≡ flat_map property_line properties ++ tokens_lines opened rest
properties-listed opened [] rest = refl
properties-listed opened (p ∷ properties) rest =
    ap (λ (lines : Bytes). property_line p ++ lines) (properties-listed opened properties rest) ∙ sym (append_assoc (property_line p) (flat_map property_line properties) (tokens_lines opened rest))

-- A path below another is shown as it is.
shown-below : (above name : Bytes) → shown (path_below above name) ≡ path_below above name
shown-below [] name = refl
shown-below (byte ∷ above) name = refl

-- The lines of a node, where they stand before those of its children, those of the nodes after it, and others.
regrouped : (path_line properties children after others : Bytes) → path_line ++ (properties ++ (children ++ (after ++ others))) ≡ ((path_line ++ properties) ++ (children ++ after)) ++ others
regrouped path_line properties children after others = sym (simp append_assoc)

-- The tokens of a node, where they stand before others.
respelled : (properties children after others : List Token) → (properties ++ (children ++ end_node ∷ after)) ++ others ≡ properties ++ (children ++ end_node ∷ (after ++ others))
respelled properties children after others = simp append_assoc

-- The lines of the tokens of trees, and of what follows.
trees-listed : (above : Bytes) (others : List Bytes) (ts : Trees) (rest : List Token) → tokens_lines (above ∷ others) (spelled ts ++ rest) ≡ trees_lines above ts ++ tokens_lines (above ∷ others) rest
trees-listed above others none rest = refl
trees-listed above others (tree name properties children after) rest =
    let path : Bytes = path_below above name in
    let opened : List Bytes = path ∷ (above ∷ others) in
    let last : Bytes = tokens_lines (above ∷ others) rest in
    let inside : tokens_lines opened (spelled children ++ end_node ∷ (spelled after ++ rest)) ≡ trees_lines path children ++ (trees_lines above after ++ last) =
    trees-listed path (above ∷ others) children (end_node ∷ (spelled after ++ rest)) ∙ ap (λ (lines : Bytes). trees_lines path children ++ lines) (trees-listed above others after rest) in
    let below : tokens_lines opened (spelled_properties properties ++ (spelled children ++ end_node ∷ (spelled after ++ rest))) ≡ flat_map property_line properties ++ (trees_lines path children ++ (trees_lines above after ++ last)) =
    properties-listed opened properties (spelled children ++ end_node ∷ (spelled after ++ rest)) ∙ ap (λ (lines : Bytes). flat_map property_line properties ++ lines) inside in
    ap (λ (tokens : List Token). line (shown path) ++ tokens_lines opened tokens) (respelled (spelled_properties properties) (spelled children) (spelled after) rest)
    ∙ (ap (λ (shown_path : Bytes). line shown_path ++ tokens_lines opened (spelled_properties properties ++ (spelled children ++ end_node ∷ (spelled after ++ rest)))) (shown-below above name)
    ∙ (ap (λ (lines : Bytes). line path ++ lines) below
    ∙ regrouped (line path) (flat_map property_line properties) (trees_lines path children) (trees_lines above after) last))

-- The lines of all tokens of a tree.
tree-listed : (t : Tree) → tokens_lines [] (spelled_whole t) ≡ tree_lines t
tree-listed t =
    let opened : List Bytes = [] ∷ [] in
    ap (λ (lines : Bytes). line (codes "/") ++ lines) (properties-listed opened t.properties (spelled t.children ++ end_node ∷ end ∷ []) ∙ ap (λ (lines : Bytes). flat_map property_line t.properties ++ lines) (trees-listed [] [] t.children (end_node ∷ end ∷ []) ∙ append-nil (trees_lines [] t.children)))
    ∙ sym (append_assoc (line (codes "/")) (flat_map property_line t.properties) (trees_lines [] t.children))

-- Before the first token.
pub first-token : (t : Tree) (start : Bytes) (opened : List Bytes) (tokens : List Token) → opened ≡ [] → tokens ≡ spelled_whole t → start ++ tokens_lines opened tokens ≡ start ++ tree_lines t
first-token t start opened tokens o e =
    ap (λ (nodes : List Bytes). start ++ tokens_lines nodes tokens) o ∙ (ap (λ (found : List Token). start ++ tokens_lines [] found) e ∙ ap (λ (lines : Bytes). start ++ lines) (tree-listed t))
