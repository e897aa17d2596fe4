-- Numbers that were written are read, wherever they stand.
use Rattle.std.proofs.Common.{◌≡◌, ℕ, zero, suc, ◌+◌, ◌*◌, ◌^◌, ◌<◌, List, [], ◌∷◌, ◌++◌, Some, length, take, drop, flat_map, refl, sym, ap, ◌∙◌, arith, length-append}
use Rattle.std.specs.Int.{w32, w64, from_be_bytes}
use Rattle.std.specs.List.{slice_get}
use Rattle.std.proofs.lemmas.List.{drop_at, drop-drop}
use Rattle.std.proofs.lemmas.Nat.{from_be_bytes-to_be_bytes_4, from_be_bytes-to_be_bytes_8}
use Rattle.fdt_tree.specs.Tree.{Bytes}
use Rattle.fdt_read.specs.Header.{word, wide}
use Rattle.fdt_write.specs.Blocks.{word_bytes, wide_bytes}

pub length-word_bytes : (number : ℕ) → length (word_bytes number) ≡ 4
length-word_bytes number = refl

pub length-wide_bytes : (number : ℕ) → length (wide_bytes number) ≡ 8
length-wide_bytes number = refl

-- The rest after what stands before an offset, and more bytes.
pub drop_past : (before after : Bytes) (n : ℕ) → drop (length before + n) (before ++ after) ≡ drop n after
drop_past before after n =
    sym (drop-drop n (length before) (before ++ after)) ∙ ap (drop n) (drop_at before after (length before) refl)

-- A word that was written first is read there.
pub word-first : (number : ℕ) (after : Bytes) → number < 2 ^ 32 → word (word_bytes number ++ after) 0 ≡ number
word-first number after h = from_be_bytes-to_be_bytes_4 number h

pub wide-first : (number : ℕ) (after : Bytes) → number < 2 ^ 64 → wide (wide_bytes number ++ after) 0 ≡ number
wide-first number after h = from_be_bytes-to_be_bytes_8 number h

-- A number is read past an offset as in what stands from there on.
pub word-past : (before after : Bytes) (n : ℕ) → word (before ++ after) (length before + n) ≡ word after n
word-past before after n = ap (λ (rest : Bytes). from_be_bytes w32 (take 4 rest)) (drop_past before after n)

pub wide-past : (before after : Bytes) (n : ℕ) → wide (before ++ after) (length before + n) ≡ wide after n
wide-past before after n = ap (λ (rest : Bytes). from_be_bytes w64 (take 8 rest)) (drop_past before after n)

-- The words of a row of words.
pub word-row : (numbers : List ℕ) (after : Bytes) (k number : ℕ) → slice_get numbers k ≡ Some number → number < 2 ^ 32 → word (flat_map word_bytes numbers ++ after) (k * 4) ≡ number
word-row [] after k number e h = absurd (cc)
word-row (first ∷ rest) after zero number e h =
    let same : first ≡ number = cc in ap (λ (w : ℕ). word (word_bytes w ++ (flat_map word_bytes rest ++ after)) 0) same ∙ word-first number (flat_map word_bytes rest ++ after) h
word-row (first ∷ rest) after (suc k) number e h =
    let at : suc k * 4 ≡ 4 + k * 4 = omega arith in
    ap (word (word_bytes first ++ (flat_map word_bytes rest ++ after))) at ∙ (word-past (word_bytes first) (flat_map word_bytes rest ++ after) (k * 4) ∙ word-row rest after k number e h)

pub length-row : (numbers : List ℕ) → length (flat_map word_bytes numbers) ≡ length numbers * 4
length-row [] = refl
length-row (first ∷ rest) =
    let e : length (flat_map word_bytes rest) ≡ length rest * 4 = length-row rest in omega (arith, length-append (word_bytes first) (flat_map word_bytes rest))
