-- The tokens of a tree that is kept come back.
use Rattle.std.proofs.Common.{◌≡◌, true, ◌&&◌, not, ◌==◌, List, [], ◌∷◌, ◌++◌, filter, length, refl, sym, ap, ◌∙◌, append_assoc}
use Rattle.std.specs.List.{list_all}
use Rattle.std.proofs.lemmas.Bool.{and_parts, and_from, or_left, or_right}
use Rattle.std.proofs.lemmas.List.Folds.{list_any-append}
use Rattle.std.proofs.lemmas.Slice.Eq.{bytes_eq-Decides}
use Rattle.std.specs.Str.{bytes_eq}
use Rattle.fdt_tree.specs.Tree.{Bytes, Property, Trees, none, tree, Tree, is_node_name, is_property_name}
use Rattle.fdt_read.specs.Tokens.{Token, begin_node, end_node, property, nop, end, broken}
use Rattle.fdt_read.specs.Spelling.{spelled_properties, spelled, spelled_whole, counts, is_name, are_named, are_names}
use Rattle.fdt_write.specs.Strings.{names_of, names_in, is_among, strings}
use Rattle.fdt_tree.specs.Document.{have_names}
use Rattle.fdt_tree.specs.Whole.{are_kept}
use Rattle.fdt_write.proofs.Texts.{no_nul}
use Rattle.fdt_write.proofs.Firsts.{among-all}
use Rattle.fdt_write.proofs.TokensRead.{AllComeBack, AllComeBack-append}

-- The strings block has these names.
abbrev pub Has : List Bytes → List Bytes → Type 0
Has names used = (name : Bytes) → is_among used name ≡ true → is_among names name ≡ true

pub Has-left : (names before after : List Bytes) → Has names (before ++ after) → Has names before
Has-left names before after h =
    λ name among. h name (list_any-append (λ other. bytes_eq other name) before after ∙ or_left (is_among before name) (is_among after name) among)

pub Has-right : (names before after : List Bytes) → Has names (before ++ after) → Has names after
Has-right names before after h =
    λ name among. h name (list_any-append (λ other. bytes_eq other name) before after ∙ or_right (is_among before name) (is_among after name) among)

properties-back : (names : List Bytes) (properties : List Property) → have_names properties ≡ true → Has names (names_of properties) → AllComeBack names (spelled_properties properties)
properties-back names [] kept has = tt
properties-back names (p ∷ rest) kept has =
    let parts = and_parts (is_property_name p.0) (have_names rest) kept in
    let name = and_parts (not (length p.0 == 0)) (no_nul p.0) parts.0 in
    ((name.1, has p.0 (or_left (bytes_eq p.0 p.0) (is_among (names_of rest) p.0) ((bytes_eq-Decides p.0 p.0).1 refl))), properties-back names rest parts.1 (λ other among. has other (or_right (bytes_eq p.0 other) (is_among (names_of rest) other) among)))

trees-back : (names : List Bytes) (ts : Trees) → are_kept ts ≡ true → Has names (names_in ts) → AllComeBack names (spelled ts)
trees-back names none kept has = tt
trees-back names (tree name properties children rest) kept has =
    let outer = and_parts (is_node_name name) (have_names properties && (are_kept children && are_kept rest)) kept in
    let inner = and_parts (have_names properties) (are_kept children && are_kept rest) outer.1 in
    let both = and_parts (are_kept children) (are_kept rest) inner.1 in
    let named = and_parts (not (length name == 0)) (no_nul name && list_all (λ b. not (b == 47)) name) outer.0 in
    let below : Has names (names_in children ++ names_in rest) = Has-right names (names_of properties) (names_in children ++ names_in rest) has in
    let first : AllComeBack names (spelled_properties properties) = properties-back names properties inner.0 (Has-left names (names_of properties) (names_in children ++ names_in rest) has) in
    let second : AllComeBack names (spelled children) = trees-back names children both.0 (Has-left names (names_in children) (names_in rest) below) in
    let third : AllComeBack names (spelled rest) = trees-back names rest both.1 (Has-right names (names_in children) (names_in rest) below) in
    ((and_parts (no_nul name) (list_all (λ b. not (b == 47)) name) named.1).0, AllComeBack-append names (spelled_properties properties) (spelled children ++ end_node ∷ spelled rest) first (AllComeBack-append names (spelled children) (end_node ∷ spelled rest) second (tt, third)))

-- The tokens of a tree without the END after them.
abbrev pub spelled_node : Tree → List Token
spelled_node t = begin_node t.name ∷ (spelled_properties t.properties ++ (spelled t.children ++ end_node ∷ []))

pub spelled_whole-ends : (t : Tree) → spelled_whole t ≡ spelled_node t ++ end ∷ []
spelled_whole-ends t =
    ap (λ (ts : List Token). begin_node t.name ∷ ts) (ap (λ (ts : List Token). spelled_properties t.properties ++ ts) (sym (append_assoc (spelled t.children) (end_node ∷ []) (end ∷ []))) ∙ sym (append_assoc (spelled_properties t.properties) (spelled t.children ++ end_node ∷ []) (end ∷ [])))

-- All tokens of a tree that is kept come back.
pub node-back : (t : Tree) → t.name ≡ [] → (have_names t.properties && are_kept t.children) ≡ true → AllComeBack (strings t) (spelled_node t)
node-back t unnamed kept =
    let names : List Bytes = strings t in
    let parts = and_parts (have_names t.properties) (are_kept t.children) kept in
    let has : Has names (names_of t.properties ++ names_in t.children) = λ name among. among-all (names_of t.properties ++ names_in t.children) name among in
    (ap no_nul unnamed, AllComeBack-append names (spelled_properties t.properties) (spelled t.children ++ end_node ∷ []) (properties-back names t.properties parts.0 (Has-left names (names_of t.properties) (names_in t.children) has)) (AllComeBack-append names (spelled t.children) (end_node ∷ []) (trees-back names t.children parts.1 (Has-right names (names_of t.properties) (names_in t.children) has)) (tt, tt)))

-- Every token that comes back counts.
pub all-count : (names : List Bytes) (tokens : List Token) → AllComeBack names tokens → filter counts (tokens ++ end ∷ []) ≡ tokens ++ end ∷ []
all-count names [] back = refl
all-count names (begin_node name ∷ rest) back = ap (λ (ts : List Token). begin_node name ∷ ts) (all-count names rest back.1)
all-count names (end_node ∷ rest) back = ap (λ (ts : List Token). end_node ∷ ts) (all-count names rest back.1)
all-count names (property name value ∷ rest) back = ap (λ (ts : List Token). property name value ∷ ts) (all-count names rest back.1)
all-count names (nop ∷ rest) back = absurd back.0
all-count names (end ∷ rest) back = absurd back.0
all-count names (broken ∷ rest) back = absurd back.0

-- Names that are kept are names of the format.
properties-named : (properties : List Property) → have_names properties ≡ true → are_named properties ≡ true
properties-named [] kept = refl
properties-named (p ∷ rest) kept =
    let parts = and_parts (is_property_name p.0) (have_names rest) kept in
    and_from (not (length p.0 == 0)) (are_named rest) (and_parts (not (length p.0 == 0)) (no_nul p.0) parts.0).0 (properties-named rest parts.1)

trees-named : (ts : Trees) → are_kept ts ≡ true → are_names ts ≡ true
trees-named none kept = refl
trees-named (tree name properties children rest) kept =
    let outer = and_parts (is_node_name name) (have_names properties && (are_kept children && are_kept rest)) kept in
    let inner = and_parts (have_names properties) (are_kept children && are_kept rest) outer.1 in
    let both = and_parts (are_kept children) (are_kept rest) inner.1 in
    let named = and_parts (not (length name == 0)) (no_nul name && list_all (λ b. not (b == 47)) name) outer.0 in
    let slashes = and_parts (no_nul name) (list_all (λ b. not (b == 47)) name) named.1 in
    and_from (is_name name) (are_named properties && (are_names children && are_names rest)) (and_from (not (length name == 0)) (list_all (λ b. not (b == 47)) name) named.0 slashes.1) (and_from (are_named properties) (are_names children && are_names rest) (properties-named properties inner.0) (and_from (are_names children) (are_names rest) (trees-named children both.0) (trees-named rest both.1)))

pub whole-named : (t : Tree) → (have_names t.properties && are_kept t.children) ≡ true → (are_named t.properties && are_names t.children) ≡ true
whole-named t kept =
    let parts = and_parts (have_names t.properties) (are_kept t.children) kept in
    and_from (are_named t.properties) (are_names t.children) (properties-named t.properties parts.0) (trees-named t.children parts.1)
