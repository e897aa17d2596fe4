-- The names that are read have no NUL.
use Rattle.std.proofs.Common.{◌≡◌, ℕ, zero, suc, ◌+◌, Bool, true, false, cond, ◌&&◌, not, ◌==◌, nat_lt, nat_le, List, [], ◌∷◌, ◌++◌, Option, Some, None, option_map, filter, take, drop, length, refl, sym, ap, ◌∙◌}
use Rattle.std.specs.List.{list_all, position, slice_range}
use Rattle.std.proofs.lemmas.Bool.{and_parts, and_from}
use Rattle.std.proofs.lemmas.List.Folds.{list_all-append}
use Rattle.fdt_tree.specs.Tree.{Bytes, Property, Trees, none, tree, Tree, is_node_name, is_property_name}
use Rattle.fdt_read.specs.Header.{word, strings_block, structure_offset, structure_size}
use Rattle.fdt_read.specs.Built.{has_no_nul, ends_names}
use Rattle.fdt_read.specs.Tokens.{Token, begin_node, end_node, property, nop, end, broken, text, padded, name_at, if_within, begin_node_at, property_at, token_of, token_at, is_final, tokens_from, tokens}
use Rattle.fdt_read.specs.Spelling.{spelled_properties, spelled, spelled_whole, counts, root_unnamed, counting, without_offsets, is_name, are_named, are_names}
use Rattle.fdt_read.proofs.Texts.{no_nul-before}
use Rattle.fdt_tree.specs.Document.{have_names}
use Rattle.fdt_tree.specs.Whole.{are_kept}

-- a name that was found has no NUL
abbrev pub IsEnded : Option Bytes → Type 0
IsEnded None = Unit {0}
IsEnded (Some name) = has_no_nul name ≡ true

-- the text before the first NUL has none
text-ended : (bytes : Bytes) → IsEnded (text bytes)
text-ended bytes = at_place (position (λ byte. byte == 0) bytes) refl
  where
    at_place : (place : Option ℕ) → position (λ byte. byte == 0) bytes ≡ place → IsEnded (option_map (λ length. take length bytes) place)
    at_place None e = tt
    at_place (Some n) e = no_nul-before bytes n e

-- whichever of two tokens is chosen, its names end
either : (b : Bool) (x y : Token × ℕ) → ends_names x.0 ≡ true → ends_names y.0 ≡ true → ends_names (cond b x y).0 ≡ true
either true x y h k = h
either false x y h k = k

begin-ended : (stop offset : ℕ) (name : Option Bytes) → IsEnded name → ends_names (begin_node_at stop offset name).0 ≡ true
begin-ended stop offset None h = refl
begin-ended stop offset (Some name) h =
    let next : ℕ = offset + 4 + padded (length name + 1) in
    either (nat_le next stop) (begin_node name, next) (broken, offset) h refl

named-ended : (name : Option Bytes) (value : Bytes) → IsEnded name → ends_names (property name value) ≡ true
named-ended None value h = refl
named-ended (Some name) value h = h

property-ended : (bytes : Bytes) (stop offset : ℕ) → ends_names (property_at bytes stop offset).0 ≡ true
property-ended bytes stop offset =
    let size : ℕ = word bytes (offset + 4) in
    let name : Option Bytes = name_at bytes (word bytes (offset + 8)) in
    let value : Bytes = slice_range bytes (offset + 12) (offset + 12 + size) in
    let next : ℕ = offset + 12 + padded size in
    either (nat_lt stop (offset + 12)) (broken, offset) (if_within stop offset (property name value) next) refl (either (nat_le next stop) (property name value, next) (broken, offset) (named-ended name value (text-ended (drop (word bytes (offset + 8)) (strings_block bytes)))) refl)

kind-ended : (kind : ℕ) (bytes : Bytes) (stop offset : ℕ) → ends_names (token_of kind bytes stop offset).0 ≡ true
kind-ended kind bytes stop offset =
    either (kind == 1) _ _ (begin-ended stop offset (text (slice_range bytes (offset + 4) stop)) (text-ended (slice_range bytes (offset + 4) stop))) (either (kind == 2) _ _ refl (either (kind == 3) _ _ (property-ended bytes stop offset) (either (kind == 4) _ _ refl (either (kind == 9) (end, offset + 4) (broken, offset) refl refl))))

token-ended : (bytes : Bytes) (stop offset : ℕ) → ends_names (token_at bytes stop offset).0 ≡ true
token-ended bytes stop offset =
    either (nat_lt stop (offset + 4)) (broken, offset) (token_of (word bytes offset) bytes stop offset) refl (kind-ended (word bytes offset) bytes stop offset)

unless-ended : (b : Bool) (rest : List (ℕ × Token)) → list_all ends_names (without_offsets rest) ≡ true → list_all ends_names (without_offsets (cond b [] rest)) ≡ true
unless-ended true rest h = refl
unless-ended false rest h = h

tokens-ended : (turns : ℕ) (bytes : Bytes) (stop offset : ℕ) → list_all ends_names (without_offsets (tokens_from turns bytes stop offset)) ≡ true
tokens-ended zero bytes stop offset = refl
tokens-ended (suc turns) bytes stop offset =
    let found : Token × ℕ = token_at bytes stop offset in
    and_from (ends_names found.0) (list_all ends_names (without_offsets (cond (is_final found.0) [] (tokens_from turns bytes stop found.1)))) (token-ended bytes stop offset) (unless-ended (is_final found.0) (tokens_from turns bytes stop found.1) (tokens-ended turns bytes stop found.1))

filtered-ended : (ts : List Token) → list_all ends_names ts ≡ true → list_all ends_names (filter counts ts) ≡ true
filtered-ended [] h = refl
filtered-ended (t ∷ ts) h =
    let parts = and_parts (ends_names t) (list_all ends_names ts) h in at_first (counts t) parts.0 (filtered-ended ts parts.1)
  where
    at_first : (b : Bool) → ends_names t ≡ true → list_all ends_names (filter counts ts) ≡ true → list_all ends_names (cond b (t ∷ filter counts ts) (filter counts ts)) ≡ true
    at_first true first rest = and_from (ends_names t) (list_all ends_names (filter counts ts)) first rest
    at_first false first rest = rest

unnamed-ended : (ts : List Token) → list_all ends_names ts ≡ true → list_all ends_names (root_unnamed ts) ≡ true
unnamed-ended [] h = refl
unnamed-ended (begin_node name ∷ ts) h = (and_parts (has_no_nul name) (list_all ends_names ts) h).1
unnamed-ended (end_node ∷ ts) h = h
unnamed-ended (property name value ∷ ts) h = h
unnamed-ended (nop ∷ ts) h = h
unnamed-ended (end ∷ ts) h = h
unnamed-ended (broken ∷ ts) h = h

-- the tokens of a file that count have names without NUL
counting-ended : (bytes : Bytes) → list_all ends_names (counting (tokens bytes)) ≡ true
counting-ended bytes =
    let found : List (ℕ × Token) = tokens bytes in
    unnamed-ended (filter counts (without_offsets found)) (filtered-ended (without_offsets found) (tokens-ended (structure_size bytes + 1) bytes (structure_offset bytes + structure_size bytes) (structure_offset bytes)))

-- the two parts of a row of tokens
both-ended : (before after : List Token) → list_all ends_names (before ++ after) ≡ true → (list_all ends_names before ≡ true) × (list_all ends_names after ≡ true)
both-ended before after h =
    and_parts (list_all ends_names before) (list_all ends_names after) (sym (list_all-append ends_names before after) ∙ h)

-- names that are not empty and end may be kept
properties-kept : (ps : List Property) → list_all ends_names (spelled_properties ps) ≡ true → are_named ps ≡ true → have_names ps ≡ true
properties-kept [] h named = refl
properties-kept (p ∷ ps) h named =
    let ended = and_parts (has_no_nul p.0) (list_all ends_names (spelled_properties ps)) h in
    let parts = and_parts (not (length p.0 == 0)) (are_named ps) named in
    and_from (is_property_name p.0) (have_names ps) (and_from (not (length p.0 == 0)) (has_no_nul p.0) parts.0 ended.0) (properties-kept ps ended.1 parts.1)

trees-kept : (ts : Trees) → list_all ends_names (spelled ts) ≡ true → are_names ts ≡ true → are_kept ts ≡ true
trees-kept none h named = refl
trees-kept (tree name ps cs rest) h named =
    let ended = and_parts (has_no_nul name) (list_all ends_names (spelled_properties ps ++ (spelled cs ++ end_node ∷ spelled rest))) h in
    let inner = both-ended (spelled_properties ps) (spelled cs ++ end_node ∷ spelled rest) ended.1 in
    let last = both-ended (spelled cs) (end_node ∷ spelled rest) inner.1 in
    let outer = and_parts (is_name name) (are_named ps && (are_names cs && are_names rest)) named in
    let own = and_parts (not (length name == 0)) (list_all (λ byte. not (byte == 47)) name) outer.0 in
    let below = and_parts (are_named ps) (are_names cs && are_names rest) outer.1 in
    let both = and_parts (are_names cs) (are_names rest) below.1 in
    and_from (is_node_name name) (have_names ps && (are_kept cs && are_kept rest)) (and_from (not (length name == 0)) (has_no_nul name && list_all (λ byte. not (byte == 47)) name) own.0 (and_from (has_no_nul name) (list_all (λ byte. not (byte == 47)) name) ended.0 own.1)) (and_from (have_names ps) (are_kept cs && are_kept rest) (properties-kept ps inner.0 below.0) (and_from (are_kept cs) (are_kept rest) (trees-kept cs last.0 both.0) (trees-kept rest last.1 both.1)))

-- a tree that a file spells has names that may be kept
pub names-kept : (bytes : Bytes) (t : Tree) → counting (tokens bytes) ≡ spelled_whole t → (are_named t.properties && are_names t.children) ≡ true → (have_names t.properties && are_kept t.children) ≡ true
names-kept bytes t spells named =
    let ended = and_parts (has_no_nul t.name) (list_all ends_names (spelled_properties t.properties ++ (spelled t.children ++ end_node ∷ end ∷ []))) (ap (list_all ends_names) (sym spells) ∙ counting-ended bytes) in
    let inner = both-ended (spelled_properties t.properties) (spelled t.children ++ end_node ∷ end ∷ []) ended.1 in
    let last = both-ended (spelled t.children) (end_node ∷ end ∷ []) inner.1 in
    let parts = and_parts (are_named t.properties) (are_names t.children) named in
    and_from (have_names t.properties) (are_kept t.children) (properties-kept t.properties inner.0 parts.0) (trees-kept t.children last.0 parts.1)
