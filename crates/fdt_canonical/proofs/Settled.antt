-- What is written of a file is the canonical spelling of itself.
use Rattle.std.proofs.Common.{◌≡◌, ℕ, zero, suc, ◌+◌, ◌^◌, ◌<◌, ◌≤◌, Bool, true, false, cond, not, nat_lt, List, [], ◌∷◌, length, get_or, take, drop, sym, ◌∙◌, subst, arith}
use Rattle.std.specs.Prelude.{All, IsTrue, take_while}
use Rattle.std.specs.List.{list_all}
use Rattle.std.proofs.lemmas.List.{get_or-drop}
use Rattle.std.proofs.lemmas.List.Elements.{All-cons}
use Rattle.std.proofs.lemmas.List.Sums.{take_while-cons}
use Rattle.fdt_tree.specs.Tree.{Bytes, Tree}
use Rattle.fdt_tree.specs.declared.reserve.Reserve.{Reserve}
use Rattle.fdt_read.specs.Header.{word, wide, total_size, reservations_offset}
use Rattle.fdt_read.specs.Reservations.{first_pair, pairs_up_to, pairs, is_last_pair, reservations_block, reservations}
use Rattle.fdt_read.specs.Spells.{Spells}
use Rattle.fdt_write.specs.Flattened.{flattened, length_limit}
use Rattle.fdt_tree.specs.Whole.{IsKept}
use Rattle.fdt_write.specs.Laws.{AreReserves, IsWide}
use Rattle.fdt_write.proofs.ReadBack.{is_read_back}
use Rattle.fdt_canonical.specs.Canonical.{IsCanonicalOf}
use Rattle.fdt_canonical.proofs.Ended.{names-kept}

-- the items are bytes
abbrev pub AreBytes : Bytes → Type 0
AreBytes bytes = (i : ℕ) → get_or bytes i 0 < 256

take-bytes : (n : ℕ) (bytes : Bytes) → AreBytes bytes → (i : ℕ) → get_or (take n bytes) i 0 < 256
take-bytes zero bytes h i = omega arith
take-bytes (suc n) [] h i = omega arith
take-bytes (suc n) (byte ∷ bytes) h zero = h 0
take-bytes (suc n) (byte ∷ bytes) h (suc i) = take-bytes n bytes (λ j. h (suc j)) i

drop-bytes : (n : ℕ) (bytes : Bytes) → AreBytes bytes → AreBytes (drop n bytes)
drop-bytes n bytes h i = rw get_or-drop (h (n + i))

-- a number of eight bytes has 64 bits, and one of four has 32
wide-lt : (bytes : Bytes) (offset : ℕ) → AreBytes bytes → wide bytes offset < 2 ^ 64
wide-lt bytes offset h =
    let at = take-bytes 8 (drop offset bytes) (drop-bytes offset bytes h) in
    omega (arith, at 0, at 1, at 2, at 3, at 4, at 5, at 6, at 7)

word-lt : (bytes : Bytes) (offset : ℕ) → AreBytes bytes → word bytes offset < 2 ^ 32
word-lt bytes offset h =
    let at = take-bytes 4 (drop offset bytes) (drop-bytes offset bytes h) in omega (arith, at 0, at 1, at 2, at 3)

pairs-wide : (most : ℕ) (bytes : Bytes) → AreBytes bytes → All IsWide (pairs_up_to most bytes)
pairs-wide zero bytes h = λ k d lt. absurd (omega arith)
pairs-wide (suc most) bytes h =
    at_first (nat_lt (length bytes) 16) (pairs-wide most (drop 16 bytes) (drop-bytes 16 bytes h))
  where
    at_first : (b : Bool) → All IsWide (pairs_up_to most (drop 16 bytes)) → All IsWide (cond b [] (first_pair bytes ∷ pairs_up_to most (drop 16 bytes)))
    at_first true rest = λ k d lt. absurd (omega arith)
    at_first false rest =
        All-cons IsWide (first_pair bytes) (pairs_up_to most (drop 16 bytes)) (wide-lt bytes 0 h, wide-lt bytes 8 h) rest

taken-wide : (p : Reserve → Bool) (rs : List Reserve) → All IsWide rs → All IsWide (take_while p rs)
taken-wide p [] h = h
taken-wide p (r ∷ rs) h =
    subst (λ (qs : List Reserve). All IsWide qs) (sym (take_while-cons p r rs)) (at_first (p r) (taken-wide p rs (λ k d lt. h (suc k) d (omega arith))))
  where
    at_first : (b : Bool) → All IsWide (take_while p rs) → All IsWide (cond b (r ∷ take_while p rs) [])
    at_first true rest = All-cons IsWide r (take_while p rs) (h 0 r (omega arith)) rest
    at_first false rest = λ k d lt. absurd (omega arith)

-- the reservations of a file are of 64 bits
reservations-wide : (file : Bytes) → AreBytes file → All IsWide (reservations file)
reservations-wide file h =
    let block : Bytes = reservations_block file in
    taken-wide (λ reserve. not (is_last_pair reserve)) (pairs block) (pairs-wide (length block) block (drop-bytes (reservations_offset file) (take (total_size file) file) (take-bytes (total_size file) file h)))

-- the canonical spelling of a file, if it is short enough, spells what the file spells
pub settled : (file bytes : Bytes) (reserves found : List Reserve) (boot : ℕ) (t : Tree) → AreBytes file → Spells file reserves boot t → found ≡ reserves
    → IsTrue (list_all (λ reserve. not (is_last_pair reserve)) found) → bytes ≡ flattened found boot t → length (flattened found boot t) ≤ length_limit → IsCanonicalOf bytes bytes
settled file bytes reserves found boot t are spelled same not_last canonical short =
    let wide : All IsWide found = subst (λ (rs : List Reserve). All IsWide rs) (spelled.reserved ∙ sym same) (reservations-wide file are) in
    let ends : AreReserves found = record { wide = wide; not_last = not_last } in
    let kept : IsKept t = record { unnamed = spelled.unnamed; names = names-kept file t spelled.structure spelled.names; shallow = spelled.depth } in
    let small : boot < 2 ^ 32 = subst (λ (n : ℕ). n < 2 ^ 32) spelled.processor (word-lt file 28 are) in
    record {
      reserves = found;
      boot = boot;
      whole = t;
      spelled = subst (λ (b : Bytes). Spells b found boot t) (sym canonical) (is_read_back found boot t ends small kept short);
      canonical = canonical;
    }
