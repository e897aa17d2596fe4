-- How many bytes tokens take.
use Rattle.std.proofs.Common.{◌≡◌, ℕ, ◌+◌, List, [], ◌∷◌, ◌++◌, Some, length, map, flat_map, ap, ◌∙◌, arith, length-append}
use Rattle.std.proofs.lemmas.List.{map-append, append-nil}
use Rattle.std.proofs.lemmas.List.Concat.{flat_map-append}
use Rattle.fdt_tree.specs.Tree.{Bytes, Tree}
use Rattle.fdt_read.specs.Tokens.{Token, begin_node, property, padded}
use Rattle.fdt_read.specs.Spelling.{spelled_whole}
use Rattle.fdt_write.specs.Strings.{strings, offset_in, ended}
use Rattle.fdt_write.specs.Blocks.{word_bytes, with_padding, token_bytes, structure_bytes}
use Rattle.fdt_write.specs.PrivateNames.{saturated}
use Rattle.fdt_write.specs.Meaning.{meaning}
use Rattle.fdt_write.specs.declared.tree_tokens.TreeToken.{TreeToken}
use Rattle.fdt_write.proofs.TokensRead.{length-with_padding}

pub length-begin : (names : List Bytes) (name : Bytes) → length (token_bytes names (begin_node name)) ≡ 4 + padded (length name + 1)
length-begin names name =
    omega (arith, length-append (word_bytes 1) (with_padding (ended name)), length-with_padding (ended name), ap padded (length-append name (0 ∷ [])))

pub length-property : (names : List Bytes) (name value : Bytes) → length (token_bytes names (property (Some name) value)) ≡ 12 + padded (length value)
length-property names name value =
    omega (arith, length-with_padding value, length-append (word_bytes 3) (word_bytes (length value) ++ (word_bytes (offset_in names name) ++ with_padding value)), length-append (word_bytes (length value)) (word_bytes (offset_in names name) ++ with_padding value), length-append (word_bytes (offset_in names name)) (with_padding value))

-- The bytes of tokens with one more.
pub bytes-step : (names : List Bytes) (yielded : List TreeToken) (token : TreeToken) → flat_map (token_bytes names) (map meaning (yielded ++ token ∷ [])) ≡ flat_map (token_bytes names) (map meaning yielded) ++ token_bytes names (meaning token)
bytes-step names yielded token =
    ap (flat_map (token_bytes names)) (map-append meaning yielded (token ∷ [])) ∙ (flat_map-append (token_bytes names) (map meaning yielded) (meaning token ∷ []) ∙ ap (λ (b : Bytes). flat_map (token_bytes names) (map meaning yielded) ++ b) (append-nil (token_bytes names (meaning token))))

pub size-step : (names : List Bytes) (yielded : List TreeToken) (token : TreeToken) (size more : ℕ) → size ≡ saturated (length (flat_map (token_bytes names) (map meaning yielded))) → more ≡ saturated (size + length (token_bytes names (meaning token))) → more ≡ saturated (length (flat_map (token_bytes names) (map meaning (yielded ++ token ∷ []))))
size-step names yielded token size more s m =
    let before : Bytes = flat_map (token_bytes names) (map meaning yielded) in
    let here : Bytes = token_bytes names (meaning token) in
    omega (arith, ap length (bytes-step names yielded token), length-append before here)

pub size-all : (t : Tree) (yielded : List TreeToken) (size : ℕ) → size ≡ saturated (length (flat_map (token_bytes (strings t)) (map meaning yielded))) → map meaning yielded ≡ spelled_whole t → size ≡ saturated (length (structure_bytes t))
size-all t yielded size s e =
    s ∙ ap (λ (ts : List Token). saturated (length (flat_map (token_bytes (strings t)) ts))) e
