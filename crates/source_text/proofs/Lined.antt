-- The lines of the tokens that spell a tree are the lines of the tree.
use Rattle.std.proofs.Common.{◌≡◌, ℕ, suc, ◌-◌, arith, List, [], ◌∷◌, ◌++◌, refl, sym, ap, ◌∙◌, append_assoc}
use Rattle.std.specs.Prelude.{codes}
use Rattle.std.proofs.lemmas.List.{append-nil}
use Rattle.fdt_tree.specs.Tree.{Bytes, Property, Trees, none, tree, Tree}
use Rattle.fdt_read.specs.Tokens.{Token, end_node, end}
use Rattle.fdt_read.specs.Spelling.{spelled_properties, spelled, spelled_whole}
use Rattle.source_text.specs.Printed.{line, property_line, properties_lines, trees_lines, tree_lines}
use Rattle.source_text.specs.PrivateOpened.{depth_after, token_line}

-- The lines of tokens, where so many nodes are open.
abbrev pub tokens_lines : ℕ → List Token → Bytes
tokens_lines depth [] = []
tokens_lines depth (token ∷ rest) = token_line depth token ++ tokens_lines (depth_after depth token) rest

-- The lines of the tokens of properties, and of what follows.
properties-lined : (depth : ℕ) (properties : List Property) (rest : List Token) → tokens_lines depth (spelled_properties properties ++ rest) ≡ properties_lines depth properties ++ tokens_lines depth rest
properties-lined depth [] rest = refl
properties-lined depth (p ∷ properties) rest =
    ap (λ (lines : Bytes). property_line depth p ++ lines) (properties-lined depth properties rest) ∙ sym (append_assoc (property_line depth p) (properties_lines depth properties) (tokens_lines depth rest))

-- A node ends.
closed : (depth : ℕ) (tokens : List Token) → tokens_lines (suc depth) (end_node ∷ tokens) ≡ line depth (codes "};") ++ tokens_lines depth tokens
closed depth tokens =
    let less : suc depth - 1 ≡ depth = omega arith in ap (λ d. line d (codes "};") ++ tokens_lines d tokens) less

-- The lines of a node, where they stand before those of the nodes after it, and others.
regrouped : (begun properties children ended after others : Bytes) → begun ++ (properties ++ (children ++ (ended ++ (after ++ others)))) ≡ (begun ++ (properties ++ (children ++ (ended ++ after)))) ++ others
regrouped begun properties children ended after others = sym (simp append_assoc)

-- The tokens of a node, where they stand before others.
respelled : (properties children after others : List Token) → (properties ++ (children ++ end_node ∷ after)) ++ others ≡ properties ++ (children ++ end_node ∷ (after ++ others))
respelled properties children after others = simp append_assoc

-- The lines of the tokens of trees, and of what follows.
trees-lined : (depth : ℕ) (ts : Trees) (rest : List Token) → tokens_lines (suc depth) (spelled ts ++ rest) ≡ trees_lines (suc depth) ts ++ tokens_lines (suc depth) rest
trees-lined depth none rest = refl
trees-lined depth (tree name properties children after) rest =
    let last : Bytes = tokens_lines (suc depth) rest in
    let begun : Bytes = line (suc depth) (name ++ codes " {") in
    let ended : Bytes = line (suc depth) (codes "};") in
    let ps : Bytes = properties_lines (suc (suc depth)) properties in
    let cs : Bytes = trees_lines (suc (suc depth)) children in
    let inside : tokens_lines (suc (suc depth)) (spelled children ++ end_node ∷ (spelled after ++ rest)) ≡ cs ++ (ended ++ (trees_lines (suc depth) after ++ last)) =
    trees-lined (suc depth) children (end_node ∷ (spelled after ++ rest)) ∙ ap (λ (lines : Bytes). cs ++ lines) (closed (suc depth) (spelled after ++ rest) ∙ ap (λ (lines : Bytes). ended ++ lines) (trees-lined depth after rest)) in
    let below : tokens_lines (suc (suc depth)) (spelled_properties properties ++ (spelled children ++ end_node ∷ (spelled after ++ rest))) ≡ ps ++ (cs ++ (ended ++ (trees_lines (suc depth) after ++ last))) =
    properties-lined (suc (suc depth)) properties (spelled children ++ end_node ∷ (spelled after ++ rest)) ∙ ap (λ (lines : Bytes). ps ++ lines) inside in
    ap (λ (tokens : List Token). begun ++ tokens_lines (suc (suc depth)) tokens) (respelled (spelled_properties properties) (spelled children) (spelled after) rest)
    ∙ (ap (λ (lines : Bytes). begun ++ lines) below
    ∙ regrouped begun ps cs ended (trees_lines (suc depth) after) last)

-- The lines of all tokens of a tree.
tree-lined : (t : Tree) → tokens_lines 0 (spelled_whole t) ≡ tree_lines t
tree-lined t =
    let ended : Bytes = line 0 (codes "};") in
    ap (λ (lines : Bytes). line 0 (codes "/ {") ++ lines) (properties-lined 1 t.properties (spelled t.children ++ end_node ∷ end ∷ []) ∙ ap (λ (lines : Bytes). properties_lines 1 t.properties ++ lines) (trees-lined 0 t.children (end_node ∷ end ∷ []) ∙ ap (λ (lines : Bytes). trees_lines 1 t.children ++ lines) (append-nil ended)))

-- Before the first token.
pub first-token : (t : Tree) (start : Bytes) (depth : ℕ) (tokens : List Token) → depth ≡ 0 → tokens ≡ spelled_whole t → start ++ tokens_lines depth tokens ≡ start ++ tree_lines t
first-token t start depth tokens o e =
    ap (λ d. start ++ tokens_lines d tokens) o ∙ (ap (λ (found : List Token). start ++ tokens_lines 0 found) e ∙ ap (λ (lines : Bytes). start ++ lines) (tree-lined t))
