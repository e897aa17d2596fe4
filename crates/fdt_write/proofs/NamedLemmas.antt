-- The strings block has the names that the tokens of a tree use.
use Rattle.std.proofs.Common.{◌≡◌, ℕ, zero, suc, ◌^◌, ◌<◌, ◌≤◌, Bool, true, List, [], ◌∷◌, ◌++◌, Option, Some, None, length, get_or, flat_map, refl, ap, ◌∙◌, arith}
use Rattle.std.specs.List.{list_all}
use Rattle.std.specs.Option.{unwrap_or}
use Rattle.std.specs.Str.{bytes_eq}
use Rattle.std.proofs.lemmas.Bool.{and_parts, and_from, or_left, or_right, cond-true}
use Rattle.std.proofs.lemmas.List.Folds.{list_all-append, length-flat_map-take}
use Rattle.std.proofs.lemmas.Slice.Eq.{bytes_eq-Decides}
use Rattle.fdt_tree.specs.Tree.{Bytes, Property, Trees, none, tree, Tree}
use Rattle.fdt_read.specs.Tokens.{Token, end_node, end}
use Rattle.fdt_read.specs.Spelling.{spelled_properties, spelled, spelled_whole}
use Rattle.fdt_write.specs.Strings.{names_of, names_in, is_among, offset_in, strings, strings_of}
use Rattle.fdt_write.specs.Blocks.{token_bytes}
use Rattle.fdt_write.specs.Flattened.{length_limit}
use Rattle.fdt_write.specs.PrivateNames.{saturated, offset_of}
use Rattle.fdt_write.specs.PrivateUsed.{is_named}
use Rattle.fdt_write.proofs.Firsts.{among-all}
use Rattle.fdt_write.proofs.Spelled.{Has, Has-left, Has-right}
use Rattle.fdt_write.proofs.Texts.{offset_in-lt}

abbrev all_named : List Bytes → List Token → Bool
all_named names tokens = list_all (is_named names) tokens

both-named : (names : List Bytes) (before after : List Token) → all_named names before ≡ true → all_named names after ≡ true → all_named names (before ++ after) ≡ true
both-named names before after b a =
    list_all-append (is_named names) before after ∙ and_from (all_named names before) (all_named names after) b a

properties-named : (names : List Bytes) (properties : List Property) → Has names (names_of properties) → all_named names (spelled_properties properties) ≡ true
properties-named names [] has = refl
properties-named names (p ∷ rest) has =
    and_from (is_among names p.0) (all_named names (spelled_properties rest)) (has p.0 (or_left (bytes_eq p.0 p.0) (is_among (names_of rest) p.0) ((bytes_eq-Decides p.0 p.0).1 refl))) (properties-named names rest (λ other among. has other (or_right (bytes_eq p.0 other) (is_among (names_of rest) other) among)))

trees-named : (names : List Bytes) (ts : Trees) → Has names (names_in ts) → all_named names (spelled ts) ≡ true
trees-named names none has = refl
trees-named names (tree name properties children rest) has =
    let below : Has names (names_in children ++ names_in rest) = Has-right names (names_of properties) (names_in children ++ names_in rest) has in
    both-named names (spelled_properties properties) (spelled children ++ end_node ∷ spelled rest) (properties-named names properties (Has-left names (names_of properties) (names_in children ++ names_in rest) has)) (both-named names (spelled children) (end_node ∷ spelled rest) (trees-named names children (Has-left names (names_in children) (names_in rest) below)) (trees-named names rest (Has-right names (names_in children) (names_in rest) below)))

pub whole-named : (t : Tree) → list_all (is_named (strings t)) (spelled_whole t) ≡ true
whole-named t =
    let names : List Bytes = strings t in
    let has : Has names (names_of t.properties ++ names_in t.children) = λ name among. among-all (names_of t.properties ++ names_in t.children) name among in
    both-named names (spelled_properties t.properties) (spelled t.children ++ end_node ∷ end ∷ []) (properties-named names t.properties (Has-left names (names_of t.properties) (names_in t.children) has)) (both-named names (spelled t.children) (end_node ∷ end ∷ []) (trees-named names t.children (Has-right names (names_of t.properties) (names_in t.children) has)) refl)

named-in : (names : List Bytes) (tokens : List Token) (k : ℕ) (token : Token) → all_named names tokens ≡ true → k < length tokens → is_named names (get_or tokens k token) ≡ true
named-in names [] k token all lt = absurd (omega arith)
named-in names (first ∷ rest) zero token all lt = (and_parts (is_named names first) (all_named names rest) all).0
named-in names (first ∷ rest) (suc k) token all lt =
    named-in names rest k token (and_parts (is_named names first) (all_named names rest) all).1 (omega arith)

-- A token of a tree uses a name of its strings block.
pub named-at : (t : Tree) (names : List Bytes) (k : ℕ) (token : Token) → names ≡ strings t → (k < length (spelled_whole t)) × (token ≡ get_or (spelled_whole t) k token) → is_named names token ≡ true
named-at t names k token same here =
    ap (λ ns. is_named ns token) same ∙ (ap (is_named (strings t)) here.1 ∙ named-in (strings t) (spelled_whole t) k token (whole-named t) here.0)

-- A token takes no more than all.
pub fits-at : (t : Tree) (names : List Bytes) (k : ℕ) (token : Token) → names ≡ strings t → (k < length (spelled_whole t)) × (token ≡ get_or (spelled_whole t) k token) → length (flat_map (token_bytes (strings t)) (spelled_whole t)) ≤ length_limit → length (token_bytes names token) ≤ length_limit
fits-at t names k token same here fits =
    omega (arith, length-flat_map-take (token_bytes (strings t)) (spelled_whole t) k token here.0, ap (λ u. length (token_bytes (strings t) u)) here.1, ap (λ ns. length (token_bytes ns token)) same)

-- The offset that is found is that of the definition, and small.
pub offset-found : (names : List Bytes) (name : Bytes) (found : Option ℕ) (offset : ℕ) → is_among names name ≡ true → length (strings_of names) ≤ length_limit → found ≡ offset_of names name → offset ≡ unwrap_or found 0 → (offset ≡ offset_in names name) × (offset < 2 ^ 32)
offset-found names name found offset among fit f o =
    let small : offset_in names name < length (strings_of names) = offset_in-lt names name among in
    let there : offset ≡ saturated (offset_in names name) = o ∙ (ap (λ z. unwrap_or z 0) f ∙ ap (λ z. unwrap_or z 0) (cond-true (is_among names name) (Some (saturated (offset_in names name))) None among)) in
    (omega arith, omega arith)
