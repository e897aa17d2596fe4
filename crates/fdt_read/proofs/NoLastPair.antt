-- No reservation that is read ends the list.
use Rattle.std.proofs.Common.{◌≡◌, refl, subst, ℕ, List, [], ◌∷◌, Bool, true, false, cond}
use Rattle.std.specs.Prelude.{IsTrue, not, Result, Ok, Err, IfOk}
use Rattle.std.specs.List.{list_all}
use Rattle.std.proofs.lemmas.List.Sums.{take_while-cons}
use Rattle.fdt_tree.specs.Tree.{Bytes, Tree}
use Rattle.fdt_tree.specs.declared.reserve.Reserve.{Reserve}
use Rattle.fdt_read.specs.Reservations.{pairs, reservations_block, before_last, is_last_pair}
use Rattle.fdt_read.specs.Spells.{Spells}
use Rattle.fdt_read.specs.declared.fault.FdtFault.{FdtFault}
use Rattle.fdt_read.specs.declared.flat.Flat.{Flat}

-- A pair that does not end the list, before others.
one_more : (reserve : Reserve) (later : List Reserve) (test : Bool) → not (is_last_pair reserve) ≡ test → IsTrue (list_all (λ reserve. not (is_last_pair reserve)) later)
    → IsTrue (list_all (λ reserve. not (is_last_pair reserve)) (cond test (reserve ∷ later) []))
one_more reserve later true e ok = rw e ok
one_more reserve later false e ok = refl

-- The pairs before the one that ends the list do not end it.
all_before_last : (reserves : List Reserve) → IsTrue (list_all (λ reserve. not (is_last_pair reserve)) (before_last reserves))
all_before_last [] = refl
all_before_last (reserve ∷ later) =
    rw (take_while-cons (λ (reserve : Reserve). not (is_last_pair reserve)) reserve later) (one_more reserve (before_last later) (not (is_last_pair reserve)) refl (all_before_last later))

-- No reservation of a file ends the list.
pub no_last_pairs : (bytes : Bytes) (reserves : List Reserve) (boot : ℕ) (root : Tree) → Spells bytes reserves boot root → IsTrue (list_all (λ reserve. not (is_last_pair reserve)) reserves)
no_last_pairs bytes reserves boot root spelled =
    subst (λ (read : List Reserve). IsTrue (list_all (λ reserve. not (is_last_pair reserve)) read)) spelled.reserved (all_before_last (pairs (reservations_block bytes)))

-- Nor does one of what was read.
pub none_read_ends : (bytes : Bytes) (result : Result Flat FdtFault) → IfOk result (λ flat. Spells bytes flat.reserves flat.boot flat.tree.tree)
    → IfOk result (λ flat. IsTrue (list_all (λ reserve. not (is_last_pair reserve)) flat.reserves))
none_read_ends bytes (Ok flat) spelled = no_last_pairs bytes flat.reserves flat.boot flat.tree.tree spelled
none_read_ends bytes (Err fault) spelled = tt
