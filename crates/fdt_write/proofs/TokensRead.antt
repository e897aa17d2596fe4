-- The tokens that were written are read.
use Rattle.std.proofs.Common.{◌≡◌, ℕ, zero, suc, ◌+◌, ◌-◌, ◌^◌, ◌<◌, ◌≤◌, true, false, cond, ltb, leb, List, [], ◌∷◌, ◌++◌, Option, Some, None, map, length, take, drop, replicate, flat_map, refl, sym, ap, ◌∙◌, arith, append_assoc, length-append}
use Rattle.std.specs.List.{slice_range}
use Rattle.std.proofs.lemmas.List.{take_at, length-replicate}
use Rattle.std.proofs.lemmas.Bool.{le-ltb, le-leb, cond-true, cond-false}
use Rattle.fdt_tree.specs.Tree.{Bytes}
use Rattle.fdt_read.specs.Header.{word}
use Rattle.fdt_read.specs.Tokens.{Token, begin_node, end_node, property, nop, end, broken, text, padded, name_at, if_within, begin_node_at, property_at, token_of, token_at, is_final, tokens_from}
use Rattle.fdt_write.specs.Strings.{is_among, offset_in, ended}
use Rattle.fdt_write.specs.Blocks.{word_bytes, with_padding, token_bytes}
use Rattle.fdt_write.proofs.Words.{drop_past, word-past, word-first}
use Rattle.fdt_write.proofs.Texts.{no_nul, text-cut}

pub padded-le : (n : ℕ) → n ≤ padded n
padded-le n = omega arith

pub length-with_padding : (bytes : Bytes) → length (with_padding bytes) ≡ padded (length bytes)
length-with_padding bytes =
    let room : length bytes ≤ padded (length bytes) = padded-le (length bytes) in
    omega (arith, length-append bytes (replicate (padded (length bytes) - length bytes) 0), length-replicate {A = ℕ} (padded (length bytes) - length bytes) 0)

-- A token that comes back: its names have no NUL, and the strings block has those of properties.
abbrev pub ComesBack : List Bytes → Token → Type 0
ComesBack names (begin_node name) = no_nul name ≡ true
ComesBack names end_node = Unit {0}
ComesBack names (property (Some name) value) = (no_nul name ≡ true) × (is_among names name ≡ true)
ComesBack names _ = ⊥

abbrev pub AllComeBack : List Bytes → List Token → Type 0
AllComeBack names [] = Unit {0}
AllComeBack names (token ∷ rest) = ComesBack names token × AllComeBack names rest

pub AllComeBack-append : (names : List Bytes) (before after : List Token) → AllComeBack names before → AllComeBack names after → AllComeBack names (before ++ after)
AllComeBack-append names [] after b a = a
AllComeBack-append names (token ∷ rest) after b a = (b.0, AllComeBack-append names rest after b.1 a)

-- A file whose strings block has these names, at small offsets.
pub record HasStrings (bytes : Bytes) (names : List Bytes) : Type 0 where
  pub found : (name : Bytes) → no_nul name ≡ true → is_among names name ≡ true → name_at bytes (offset_in names name) ≡ Some name
  pub small : (name : Bytes) → is_among names name ≡ true → offset_in names name < 2 ^ 32

-- What is read at an offset goes by what stands from there on.
word-here : (before after : Bytes) → word (before ++ after) (length before) ≡ word after 0
word-here before after =
    let at : length before ≡ length before + 0 = omega arith in ap (word (before ++ after)) at ∙ word-past before after 0

token-kind : (before after : Bytes) (stop kind : ℕ) → kind < 2 ^ 32 → length before + 4 ≤ stop → token_at (before ++ (word_bytes kind ++ after)) stop (length before) ≡ token_of kind (before ++ (word_bytes kind ++ after)) stop (length before)
token-kind before after stop kind small within =
    cond-false (ltb stop (length before + 4)) (broken, length before) (token_of (word (before ++ (word_bytes kind ++ after)) (length before)) (before ++ (word_bytes kind ++ after)) stop (length before)) (le-ltb stop (length before + 4) within) ∙ ap (λ k. token_of k (before ++ (word_bytes kind ++ after)) stop (length before)) (word-here before (word_bytes kind ++ after) ∙ word-first kind after small)

if_within-in : (stop offset : ℕ) (token : Token) (next : ℕ) → next ≤ stop → if_within stop offset token next ≡ (token, next)
if_within-in stop offset token next within =
    cond-true (leb next stop) (token, next) (broken, offset) (le-leb next stop within)

range-past : (before after : Bytes) (n stop : ℕ) → slice_range (before ++ after) (length before + n) stop ≡ take (stop - (length before + n)) (drop n after)
range-past before after n stop = ap (take (stop - (length before + n))) (drop_past before after n)

begin-read : (before after name : Bytes) (stop : ℕ) → no_nul name ≡ true → length before + (4 + padded (length name + 1)) ≤ stop → token_at (before ++ ((word_bytes 1 ++ with_padding (ended name)) ++ after)) stop (length before) ≡ (begin_node name, length before + (4 + padded (length name + 1)))
begin-read before after name stop h within =
    let padding : Bytes = replicate (padded (length (ended name)) - length (ended name)) 0 in
    let bytes : Bytes = before ++ (word_bytes 1 ++ (with_padding (ended name) ++ after)) in
    let regroup : with_padding (ended name) ++ after ≡ name ++ 0 ∷ (padding ++ after) = append_assoc (ended name) padding after ∙ append_assoc name (0 ∷ []) (padding ++ after) in
    let room : length name + 1 ≤ padded (length name + 1) = padded-le (length name + 1) in
    let cut : length name < stop - (length before + 4) = omega arith in
    let read : text (slice_range bytes (length before + 4) stop) ≡ Some name =
    ap text (range-past before (word_bytes 1 ++ (with_padding (ended name) ++ after)) 4 stop ∙ ap (take (stop - (length before + 4))) regroup) ∙ text-cut name (padding ++ after) (stop - (length before + 4)) h cut in
    let next : length before + 4 + padded (length name + 1) ≡ length before + (4 + padded (length name + 1)) = omega arith in
    token-kind before (with_padding (ended name) ++ after) stop 1 (omega arith) (omega arith) ∙ (ap (begin_node_at stop (length before)) read ∙ (if_within-in stop (length before) (begin_node name) (length before + 4 + padded (length name + 1)) (omega arith) ∙ ap (λ n. (begin_node name, n)) next))

property-read : (names : List Bytes) (before after name value bytes : Bytes) (stop : ℕ) → HasStrings bytes names → no_nul name ≡ true → is_among names name ≡ true → length value < 2 ^ 32 → length before + (12 + padded (length value)) ≤ stop → bytes ≡ before ++ (token_bytes names (property (Some name) value) ++ after) → token_at bytes stop (length before) ≡ (property (Some name) value, length before + (12 + padded (length value)))
property-read names before after name value bytes stop has h among short within whole =
    let size : ℕ = length value in
    let offset : ℕ = offset_in names name in
    let padding : Bytes = replicate (padded size - size) 0 in
    let rest : Bytes = with_padding value ++ after in
    let here : Bytes = word_bytes 3 ++ (word_bytes size ++ (word_bytes offset ++ rest)) in
    let start : ℕ = length before in
    let room : size ≤ padded size = padded-le size in
    let sized : word bytes (start + 4) ≡ size =
    ap (λ (b : Bytes). word b (start + 4)) whole ∙ (word-past before here 4 ∙ (word-past (word_bytes 3) (word_bytes size ++ (word_bytes offset ++ rest)) 0 ∙ word-first size (word_bytes offset ++ rest) short)) in
    let placed : word bytes (start + 8) ≡ offset =
    ap (λ (b : Bytes). word b (start + 8)) whole ∙ (word-past before here 8 ∙ (word-past (word_bytes 3 ++ word_bytes size) (word_bytes offset ++ rest) 0 ∙ word-first offset rest (has.small name among))) in
    let cut : start + 12 + size - (start + 12) ≡ size = omega arith in
    let valued : slice_range bytes (start + 12) (start + 12 + size) ≡ value =
    ap (λ (b : Bytes). slice_range b (start + 12) (start + 12 + size)) whole ∙ (range-past before here 12 (start + 12 + size) ∙ (ap (λ n. take n rest) cut ∙ (ap (take size) (append_assoc value padding after) ∙ take_at value (padding ++ after) size refl))) in
    let named : name_at bytes (word bytes (start + 8)) ≡ Some name = ap (name_at bytes) placed ∙ has.found name h among in
    let next : start + 12 + padded size ≡ start + (12 + padded size) = omega arith in
    let kind : token_at bytes stop start ≡ property_at bytes stop start =
    ap (λ (b : Bytes). token_at b stop start) whole ∙ (token-kind before (word_bytes size ++ (word_bytes offset ++ rest)) stop 3 (omega arith) (omega arith) ∙ ap (λ (b : Bytes). property_at b stop start) (sym whole)) in
    kind ∙ (cond-false (ltb stop (start + 12)) (broken, start) (if_within stop start (property (name_at bytes (word bytes (start + 8))) (slice_range bytes (start + 12) (start + 12 + word bytes (start + 4)))) (start + 12 + padded (word bytes (start + 4)))) (le-ltb stop (start + 12) (omega arith)) ∙ (ap (λ k. if_within stop start (property (name_at bytes (word bytes (start + 8))) (slice_range bytes (start + 12) (start + 12 + k))) (start + 12 + padded k)) sized ∙ (ap (λ (n : Option Bytes). if_within stop start (property n (slice_range bytes (start + 12) (start + 12 + size))) (start + 12 + padded size)) named ∙ (ap (λ (v : Bytes). if_within stop start (property (Some name) v) (start + 12 + padded size)) valued ∙ (if_within-in stop start (property (Some name) value) (start + 12 + padded size) (omega arith) ∙ ap (λ n. (property (Some name) value, n)) next)))))

-- Each token that comes back is read where it was written, and its end is where the next one begins.
token-read : (names : List Bytes) (token : Token) (before after bytes : Bytes) (stop : ℕ) → HasStrings bytes names → ComesBack names token → length before + length (token_bytes names token) ≤ stop → stop < 2 ^ 32 → bytes ≡ before ++ (token_bytes names token ++ after) → token_at bytes stop (length before) ≡ (token, length before + length (token_bytes names token))
token-read names (begin_node name) before after bytes stop has back within small whole =
    let sized : length (token_bytes names (begin_node name)) ≡ 4 + padded (length name + 1) =
    omega (arith, length-append (word_bytes 1) (with_padding (ended name)), length-with_padding (ended name), ap padded (length-append name (0 ∷ []))) in
    ap (λ (b : Bytes). token_at b stop (length before)) whole ∙ (begin-read before after name stop back (omega arith) ∙ ap (λ n. (begin_node name, length before + n)) (sym sized))
token-read names end_node before after bytes stop has back within small whole =
    ap (λ (b : Bytes). token_at b stop (length before)) whole ∙ token-kind before after stop 2 (omega arith) within
token-read names (property (Some name) value) before after bytes stop has back within small whole =
    let padding : length (with_padding value) ≡ padded (length value) = length-with_padding value in
    let room : length value ≤ padded (length value) = padded-le (length value) in
    let sized : length (token_bytes names (property (Some name) value)) ≡ 12 + padded (length value) =
    omega (arith, length-append (word_bytes 3) (word_bytes (length value) ++ (word_bytes (offset_in names name) ++ with_padding value)), length-append (word_bytes (length value)) (word_bytes (offset_in names name) ++ with_padding value), length-append (word_bytes (offset_in names name)) (with_padding value)) in
    property-read names before after name value bytes stop has back.0 back.1 (omega arith) (omega arith) whole ∙ ap (λ n. (property (Some name) value, length before + n)) (sym sized)
token-read names (property None value) before after bytes stop has back within small whole = absurd back
token-read names nop before after bytes stop has back within small whole = absurd back
token-read names end before after bytes stop has back within small whole = absurd back
token-read names broken before after bytes stop has back within small whole = absurd back

goes-on : (names : List Bytes) (token : Token) → ComesBack names token → is_final token ≡ false
goes-on names (begin_node name) back = refl
goes-on names end_node back = refl
goes-on names (property name value) back = refl
goes-on names nop back = absurd back
goes-on names end back = absurd back
goes-on names broken back = absurd back

-- The tokens that were written, with END after them, are read, in as many turns as there are tokens.
pub tokens-read : (names : List Bytes) (tokens : List Token) (before after bytes : Bytes) (turns stop : ℕ) → HasStrings bytes names → AllComeBack names tokens → stop ≡ length before + length (flat_map (token_bytes names) (tokens ++ end ∷ [])) → stop < 2 ^ 32 → length tokens < turns → bytes ≡ before ++ (flat_map (token_bytes names) (tokens ++ end ∷ []) ++ after) → map (λ (t : ℕ × Token). t.1) (tokens_from turns bytes stop (length before)) ≡ tokens ++ end ∷ []
tokens-read names [] before after bytes zero stop has back ends small turns whole = absurd (omega arith)
tokens-read names [] before after bytes (suc turns) stop has back ends small enough whole =
    let last : token_at bytes stop (length before) ≡ (end, length before + 4) = ap (λ (b : Bytes). token_at b stop (length before)) whole ∙ token-kind before after stop 9 (omega arith) (omega arith) in
    ap (λ (t : Token × ℕ). t.0 ∷ map (λ (u : ℕ × Token). u.1) (cond (is_final t.0) [] (tokens_from turns bytes stop t.1))) last
tokens-read names (token ∷ rest) before after bytes zero stop has back ends small enough whole = absurd (omega arith)
tokens-read names (token ∷ rest) before after bytes (suc turns) stop has back ends small enough whole =
    let here : Bytes = token_bytes names token in
    let others : Bytes = flat_map (token_bytes names) (rest ++ end ∷ []) in
    let placed : bytes ≡ before ++ (here ++ (others ++ after)) = whole ∙ ap (λ (b : Bytes). before ++ b) (append_assoc here others after) in
    let onward : bytes ≡ (before ++ here) ++ (others ++ after) = placed ∙ sym (append_assoc before here (others ++ after)) in
    let next : length (before ++ here) ≡ length before + length here = length-append before here in
    let sum : length (here ++ others) ≡ length here + length others = length-append here others in
    let read : token_at bytes stop (length before) ≡ (token, length before + length here) = token-read names token before (others ++ after) bytes stop has back.0 (omega arith) small placed in
    let later : map (λ (u : ℕ × Token). u.1) (tokens_from turns bytes stop (length (before ++ here))) ≡ rest ++ end ∷ [] = tokens-read names rest (before ++ here) after bytes turns stop has back.1 (omega arith) small (omega arith) onward in
    ap (λ (t : Token × ℕ). t.0 ∷ map (λ (u : ℕ × Token). u.1) (cond (is_final t.0) [] (tokens_from turns bytes stop t.1))) read ∙ (ap (λ final. token ∷ map (λ (u : ℕ × Token). u.1) (cond final [] (tokens_from turns bytes stop (length before + length here)))) (goes-on names token back.0) ∙ ap (λ (ts : List Token). token ∷ ts) (ap (λ n. map (λ (u : ℕ × Token). u.1) (tokens_from turns bytes stop n)) (sym next) ∙ later))

takes-some : (names : List Bytes) (token : Token) → ComesBack names token → 0 < length (token_bytes names token)
takes-some names (begin_node name) back = omega (arith, length-append (word_bytes 1) (with_padding (ended name)))
takes-some names end_node back = omega arith
takes-some names (property (Some name) value) back =
    omega (arith, length-append (word_bytes 3) (word_bytes (length value) ++ (word_bytes (offset_in names name) ++ with_padding value)))
takes-some names (property None value) back = absurd back
takes-some names nop back = absurd back
takes-some names end back = absurd back
takes-some names broken back = absurd back

-- Each token takes a byte or more.
pub length-tokens : (names : List Bytes) (tokens : List Token) → AllComeBack names tokens → length tokens < length (flat_map (token_bytes names) (tokens ++ end ∷ []))
length-tokens names [] back = omega arith
length-tokens names (token ∷ rest) back =
    omega (arith, length-tokens names rest back.1, takes-some names token back.0, length-append (token_bytes names token) (flat_map (token_bytes names) (rest ++ end ∷ [])))
