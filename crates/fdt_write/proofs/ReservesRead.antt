-- The reservations that were written are read.
use Rattle.std.proofs.Common.{◌≡◌, ℕ, zero, suc, ◌+◌, ◌*◌, ◌<◌, true, false, ltb, not, List, [], ◌∷◌, ◌++◌, length, replicate, flat_map, refl, ap, ◌∙◌, arith, append_assoc, length-append}
use Rattle.std.specs.Prelude.{All}
use Rattle.std.specs.List.{list_any, list_all}
use Rattle.std.proofs.lemmas.Bool.{le-ltb, cond-true, cond-false, or_right, and_parts}
use Rattle.std.proofs.lemmas.List.Folds.{list_any-append}
use Rattle.std.proofs.lemmas.List.Sums.{take_while-cons}
use Rattle.fdt_tree.specs.Tree.{Bytes}
use Rattle.fdt_tree.specs.declared.reserve.Reserve.{Reserve}
use Rattle.fdt_read.specs.Header.{wide}
use Rattle.fdt_read.specs.Reservations.{pairs_up_to, is_last_pair, before_last}
use Rattle.fdt_write.specs.Blocks.{wide_bytes, reserve_bytes, reservation_bytes}
use Rattle.fdt_write.specs.Laws.{IsWide}
use Rattle.fdt_write.proofs.Words.{wide-past, wide-first}

-- The pair of zeros.
abbrev last_pair : Reserve
last_pair = record { address = 0; size = 0 }

pair-read : (reserve : Reserve) (after : Bytes) (turns : ℕ) → IsWide reserve → pairs_up_to (suc turns) (reserve_bytes reserve ++ after) ≡ reserve ∷ pairs_up_to turns after
pair-read reserve after turns h =
    let bytes : Bytes = wide_bytes reserve.address ++ (wide_bytes reserve.size ++ after) in
    let long : ltb (length bytes) 16 ≡ false = le-ltb (length bytes) 16 (omega (arith, length-append (wide_bytes reserve.address) (wide_bytes reserve.size ++ after), length-append (wide_bytes reserve.size) after)) in
    let first : wide bytes 0 ≡ reserve.address = wide-first reserve.address (wide_bytes reserve.size ++ after) h.0 in
    let second : wide bytes 8 ≡ reserve.size = wide-past (wide_bytes reserve.address) (wide_bytes reserve.size ++ after) 0 ∙ wide-first reserve.size after h.1 in
    cond-false (ltb (length bytes) 16) [] (record { address = wide bytes 0; size = wide bytes 8 } ∷ pairs_up_to turns after) long ∙ (ap (λ n. record { address = n; size = wide bytes 8 } ∷ pairs_up_to turns after) first ∙ ap (λ n. record { address = reserve.address; size = n } ∷ pairs_up_to turns after) second)

-- The pairs that are read are those that were written, a pair of zeros, and what follows.
pub pairs-read : (reserves : List Reserve) (after : Bytes) (turns : ℕ) → All IsWide reserves → length reserves < turns → (left : ℕ) × (pairs_up_to turns (reservation_bytes reserves ++ after) ≡ reserves ++ last_pair ∷ pairs_up_to left after)
pairs-read reserves after zero h enough = absurd (omega arith)
pairs-read [] after (suc turns) h enough = (turns, pair-read last_pair after turns (omega arith, omega arith))
pairs-read (reserve ∷ rest) after (suc turns) h enough =
    let later = pairs-read rest after turns (λ k d lt. h (suc k) d (omega arith)) (omega arith) in
    let regroup : reservation_bytes (reserve ∷ rest) ++ after ≡ reserve_bytes reserve ++ (reservation_bytes rest ++ after) =
    ap (λ (b : Bytes). b ++ after) (append_assoc (reserve_bytes reserve) (flat_map reserve_bytes rest) (replicate 16 0)) ∙ append_assoc (reserve_bytes reserve) (reservation_bytes rest) after in
    (later.0, ap (pairs_up_to (suc turns)) regroup ∙ (pair-read reserve (reservation_bytes rest ++ after) turns (h 0 reserve (omega arith)) ∙ ap (λ (rs : List Reserve). reserve ∷ rs) later.1))

-- A pair of zeros ends the list.
pub ends-at : (reserves after : List Reserve) → list_any is_last_pair (reserves ++ last_pair ∷ after) ≡ true
ends-at reserves after =
    list_any-append is_last_pair reserves (last_pair ∷ after) ∙ or_right (list_any is_last_pair reserves) true refl

pub before_last-at : (reserves after : List Reserve) → list_all (λ reserve. not (is_last_pair reserve)) reserves ≡ true → before_last (reserves ++ last_pair ∷ after) ≡ reserves
before_last-at [] after h = refl
before_last-at (reserve ∷ rest) after h =
    let parts = and_parts (not (is_last_pair reserve)) (list_all (λ r. not (is_last_pair r)) rest) h in
    take_while-cons (λ r. not (is_last_pair r)) reserve (rest ++ last_pair ∷ after) ∙ (cond-true (not (is_last_pair reserve)) (reserve ∷ before_last (rest ++ last_pair ∷ after)) [] parts.0 ∙ ap (λ (rs : List Reserve). reserve ∷ rs) (before_last-at rest after parts.1))

pub length-reservations : (reserves : List Reserve) → length (reservation_bytes reserves) ≡ 16 * (length reserves + 1)
length-reservations [] = refl
length-reservations (reserve ∷ rest) =
    let e : length (reservation_bytes rest) ≡ 16 * (length rest + 1) = length-reservations rest in
    let regroup : reservation_bytes (reserve ∷ rest) ≡ reserve_bytes reserve ++ reservation_bytes rest = append_assoc (reserve_bytes reserve) (flat_map reserve_bytes rest) (replicate 16 0) in
    omega (arith, ap length regroup, length-append (reserve_bytes reserve) (reservation_bytes rest), length-append (wide_bytes reserve.address) (wide_bytes reserve.size))
