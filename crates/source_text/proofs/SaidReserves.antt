-- No reservation that a text says ends a list of them.
use Rattle.std.proofs.Common.{◌≡◌, refl, sym, subst, List, [], ◌∷◌, Bool, true, false, cond}
use Rattle.std.specs.Prelude.{IsTrue, not, filter}
use Rattle.std.specs.List.{list_all}
use Rattle.fdt_tree.specs.Tree.{Bytes, Tree}
use Rattle.fdt_tree.specs.declared.reserve.Reserve.{Reserve}
use Rattle.fdt_read.specs.Reservations.{is_last_pair}
use Rattle.source_text.specs.Source.{IsSource, is_said}

-- no reservation that is said ends the list
one_more : (reserve : Reserve) (later : List Reserve) (test : Bool) → is_said reserve ≡ test → IsTrue (list_all (λ reserve. not (is_last_pair reserve)) later)
    → IsTrue (list_all (λ reserve. not (is_last_pair reserve)) (cond test (reserve ∷ later) later))
one_more reserve later true e ok = rw e ok
one_more reserve later false e ok = ok

all_said : (all : List Reserve) → IsTrue (list_all (λ reserve. not (is_last_pair reserve)) (filter is_said all))
all_said [] = refl
all_said (reserve ∷ later) = one_more reserve (filter is_said later) (is_said reserve) refl (all_said later)

pub no_pair_ends : (bytes : Bytes) (reserves : List Reserve) (root : Tree) → IsSource bytes reserves root → IsTrue (list_all (λ reserve. not (is_last_pair reserve)) reserves)
no_pair_ends bytes reserves root says =
    subst (λ (said : List Reserve). IsTrue (list_all (λ reserve. not (is_last_pair reserve)) said)) (sym says.reserved.2) (all_said says.reserved.0)
