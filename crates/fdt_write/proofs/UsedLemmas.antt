-- The names that the tokens of a tree use are the names of its properties.
use Rattle.std.proofs.Common.{◌≡◌, List, [], ◌∷◌, ◌++◌, Some, None, map, refl, sym, ap, ◌∙◌}
use Rattle.std.proofs.lemmas.List.{map-append, append-nil}
use Rattle.fdt_tree.specs.Tree.{Bytes, Property, Trees, none, tree, Tree}
use Rattle.fdt_read.specs.Tokens.{Token, begin_node, end_node, property, nop, end, broken}
use Rattle.fdt_read.specs.Spelling.{spelled_properties, spelled, spelled_whole}
use Rattle.fdt_write.specs.Strings.{names_of, names_in, firsts, strings}
use Rattle.fdt_write.specs.PrivateUsed.{with_used}
use Rattle.fdt_write.specs.Meaning.{meaning}
use Rattle.fdt_write.specs.declared.tree_tokens.TreeToken.{TreeToken}
use Rattle.fdt_write.proofs.NamesLemmas.{firsts-push}

-- The names of properties among tokens.
abbrev pub used : List Token → List Bytes
used [] = []
used (property (Some name) value ∷ rest) = name ∷ used rest
used (_ ∷ rest) = used rest

pub used-append : (before after : List Token) → used (before ++ after) ≡ used before ++ used after
used-append [] after = refl
used-append (begin_node name ∷ rest) after = used-append rest after
used-append (end_node ∷ rest) after = used-append rest after
used-append (property (Some name) value ∷ rest) after = ap (λ (ns : List Bytes). name ∷ ns) (used-append rest after)
used-append (property None value ∷ rest) after = used-append rest after
used-append (nop ∷ rest) after = used-append rest after
used-append (end ∷ rest) after = used-append rest after
used-append (broken ∷ rest) after = used-append rest after

used-properties : (properties : List Property) → used (spelled_properties properties) ≡ names_of properties
used-properties [] = refl
used-properties (p ∷ rest) = ap (λ (ns : List Bytes). p.0 ∷ ns) (used-properties rest)

used-trees : (ts : Trees) → used (spelled ts) ≡ names_in ts
used-trees none = refl
used-trees (tree name properties children rest) =
    used-append (spelled_properties properties) (spelled children ++ end_node ∷ spelled rest) ∙ (ap (λ (ns : List Bytes). ns ++ used (spelled children ++ end_node ∷ spelled rest)) (used-properties properties) ∙ ap (λ (ns : List Bytes). names_of properties ++ ns) (used-append (spelled children) (end_node ∷ spelled rest) ∙ (ap (λ (ns : List Bytes). ns ++ used (spelled rest)) (used-trees children) ∙ ap (λ (ns : List Bytes). names_in children ++ ns) (used-trees rest))))

pub used-whole : (t : Tree) → used (spelled_whole t) ≡ names_of t.properties ++ names_in t.children
used-whole t =
    used-append (spelled_properties t.properties) (spelled t.children ++ end_node ∷ end ∷ []) ∙ (ap (λ (ns : List Bytes). ns ++ used (spelled t.children ++ end_node ∷ end ∷ [])) (used-properties t.properties) ∙ ap (λ (ns : List Bytes). names_of t.properties ++ ns) (used-append (spelled t.children) (end_node ∷ end ∷ []) ∙ (append-nil (used (spelled t.children)) ∙ used-trees t.children)))

firsts-used : (tokens : List Token) (token : Token) → firsts [] (used (tokens ++ token ∷ [])) ≡ with_used (firsts [] (used tokens)) token
firsts-used tokens token = ap (firsts []) (used-append tokens (token ∷ [])) ∙ last token where
  last : (token : Token) → firsts [] (used tokens ++ used (token ∷ [])) ≡ with_used (firsts [] (used tokens)) token
  last (begin_node name) = ap (firsts []) (append-nil (used tokens))
  last end_node = ap (firsts []) (append-nil (used tokens))
  last (property (Some name) value) = firsts-push (used tokens) name
  last (property None value) = ap (firsts []) (append-nil (used tokens))
  last nop = ap (firsts []) (append-nil (used tokens))
  last end = ap (firsts []) (append-nil (used tokens))
  last broken = ap (firsts []) (append-nil (used tokens))

-- One token more.
pub names-step : (yielded : List TreeToken) (token : TreeToken) (before after : List Bytes) → before ≡ firsts [] (used (map meaning yielded)) → after ≡ with_used before (meaning token) → after ≡ firsts [] (used (map meaning (yielded ++ token ∷ [])))
names-step yielded token before after b a =
    a ∙ (ap (λ (ns : List Bytes). with_used ns (meaning token)) b ∙ (sym (firsts-used (map meaning yielded) (meaning token)) ∙ ap (λ (ts : List Token). firsts [] (used ts)) (sym (map-append meaning yielded (token ∷ [])))))

-- All tokens.
pub names-all : (t : Tree) (yielded : List TreeToken) (names : List Bytes) → names ≡ firsts [] (used (map meaning yielded)) → map meaning yielded ≡ spelled_whole t → names ≡ strings t
names-all t yielded names n e = n ∙ (ap (λ (ts : List Token). firsts [] (used ts)) e ∙ ap (firsts []) (used-whole t))
