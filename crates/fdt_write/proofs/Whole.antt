-- A whole flattened tree, by its header and its blocks.
use Rattle.std.proofs.Common.{◌≡◌, ℕ, ◌+◌, ◌*◌, ◌≤◌, List, [], ◌++◌, length, refl, sym, ap, ◌∙◌, arith, length-append}
use Rattle.fdt_tree.specs.Tree.{Bytes, Tree}
use Rattle.fdt_tree.specs.declared.reserve.Reserve.{Reserve}
use Rattle.fdt_write.specs.Strings.{strings, strings_of}
use Rattle.fdt_write.specs.Blocks.{structure_bytes, reservation_bytes}
use Rattle.fdt_write.specs.Flattened.{header_words, header_bytes, flattened, length_limit}
use Rattle.fdt_write.specs.PrivateNames.{saturated}
use Rattle.fdt_write.proofs.Appending.{two-parts}
use Rattle.fdt_write.proofs.ReservesRead.{length-reservations}
use Rattle.fdt_write.proofs.Words.{length-row}

length-header : (boot reserved structured named : ℕ) → length (header_bytes boot reserved structured named) ≡ 40
unfolding header_bytes
length-header boot reserved structured named = length-row (header_words boot reserved structured named)

flattened-parts : (reserves : List Reserve) (boot : ℕ) (t : Tree) → flattened reserves boot t ≡ header_bytes boot (length (reservation_bytes reserves)) (length (structure_bytes t)) (length (strings_of (strings t))) ++ (reservation_bytes reserves ++ (structure_bytes t ++ strings_of (strings t)))
unfolding flattened
flattened-parts reserves boot t = refl

joined : (header reserved structured named : Bytes) → length header ≡ 40 → length (header ++ (reserved ++ (structured ++ named))) ≡ 40 + length reserved + length structured + length named
joined header reserved structured named h =
    omega (arith, length-append header (reserved ++ (structured ++ named)), length-append reserved (structured ++ named), length-append structured named)

pub length-flattened : (reserves : List Reserve) (boot : ℕ) (t : Tree) → length (flattened reserves boot t) ≡ 40 + length (reservation_bytes reserves) + length (structure_bytes t) + length (strings_of (strings t))
length-flattened reserves boot t =
    ap length (flattened-parts reserves boot t) ∙ joined (header_bytes boot (length (reservation_bytes reserves)) (length (structure_bytes t)) (length (strings_of (strings t)))) (reservation_bytes reserves) (structure_bytes t) (strings_of (strings t)) (length-header boot (length (reservation_bytes reserves)) (length (structure_bytes t)) (length (strings_of (strings t))))

total : (count reserved structured named r s n size whole : ℕ) → r ≡ saturated (16 * (count + 1)) → reserved ≡ 16 * (count + 1) → s ≡ saturated structured → n ≡ saturated named → size ≡ saturated (40 + r + s + n) → whole ≡ 40 + reserved + structured + named → size ≡ saturated whole
total count reserved structured named r s n size whole a b c d e f = omega arith

-- The size that is found is that of the whole.
pub size-whole : (reserves : List Reserve) (boot : ℕ) (t : Tree) (r s n size : ℕ) → r ≡ saturated (16 * (length reserves + 1)) → s ≡ saturated (length (structure_bytes t)) → n ≡ saturated (length (strings_of (strings t))) → size ≡ saturated (40 + r + s + n) → size ≡ saturated (length (flattened reserves boot t))
size-whole reserves boot t r s n size a c d e =
    total (length reserves) (length (reservation_bytes reserves)) (length (structure_bytes t)) (length (strings_of (strings t))) r s n size (length (flattened reserves boot t)) a (length-reservations reserves) c d e (length-flattened reserves boot t)

exact : (given wanted size others : ℕ) → given ≡ saturated wanted → size ≡ saturated (given + others) → size ≤ 2097152 → given ≡ wanted
exact given wanted size others g s fits = omega arith

-- Sizes that fit are those of the blocks.
pub record AreSizes (reserves : List Reserve) (t : Tree) (r s n : ℕ) : Type 0 where
  pub reserved : r ≡ length (reservation_bytes reserves)
  pub structured : s ≡ length (structure_bytes t)
  pub named : n ≡ length (strings_of (strings t))
  pub fits : 40 + r + s + n ≤ length_limit

pub sizes-exact : (reserves : List Reserve) (t : Tree) (r s n size : ℕ) → r ≡ saturated (16 * (length reserves + 1)) → s ≡ saturated (length (structure_bytes t)) → n ≡ saturated (length (strings_of (strings t))) → size ≡ saturated (40 + r + s + n) → size ≤ 2097152 → AreSizes reserves t r s n
sizes-exact reserves t r s n size a c d e fits = record {
  reserved = exact r (16 * (length reserves + 1)) size (40 + s + n) a (omega arith) fits ∙ sym (length-reservations reserves);
  structured = exact s (length (structure_bytes t)) size (40 + r + n) c (omega arith) fits;
  named = exact n (length (strings_of (strings t))) size (40 + r + s) d (omega arith) fits;
  fits = omega arith;
}

-- The header and the blocks, one after another, are the whole.
pub all-parts : (reserves : List Reserve) (boot : ℕ) (t : Tree) (names : List Bytes) (r s n : ℕ) (zero one two three four : Bytes) → AreSizes reserves t r s n → names ≡ strings t → zero ≡ [] → one ≡ zero ++ header_bytes boot r s n → two ≡ one ++ reservation_bytes reserves → three ≡ two ++ structure_bytes t → four ≡ three ++ strings_of names → four ≡ flattened reserves boot t
all-parts reserves boot t names r s n zero one two three four sizes same a b c d e =
    let header : header_bytes boot r s n ≡ header_bytes boot (length (reservation_bytes reserves)) (length (structure_bytes t)) (length (strings_of (strings t))) =
    ap (λ k. header_bytes boot k s n) sizes.reserved ∙ (ap (λ k. header_bytes boot (length (reservation_bytes reserves)) k n) sizes.structured ∙ ap (header_bytes boot (length (reservation_bytes reserves)) (length (structure_bytes t))) sizes.named) in
    let first : one ≡ header_bytes boot (length (reservation_bytes reserves)) (length (structure_bytes t)) (length (strings_of (strings t))) = b ∙ (ap (λ (z : Bytes). z ++ header_bytes boot r s n) a ∙ header) in
    let last : four ≡ three ++ strings_of (strings t) = e ∙ ap (λ (ns : List Bytes). three ++ strings_of ns) same in
    two-parts one (reservation_bytes reserves) (structure_bytes t ++ strings_of (strings t)) two four c (two-parts two (structure_bytes t) (strings_of (strings t)) three four d last) ∙ (ap (λ (z : Bytes). z ++ (reservation_bytes reserves ++ (structure_bytes t ++ strings_of (strings t)))) first ∙ sym (flattened-parts reserves boot t))
