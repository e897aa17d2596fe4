-- How deep what is below nodes is.
use Rattle.std.proofs.Common.{◌≡◌, ◌∙◌, ap, sym, ℕ, suc, ◌-◌, ◌<◌, max, [], ◌∷◌, ◌++◌, true, false, Option, Some, None, option_map, length, arith}
use Rattle.std.specs.Prelude.{nat_le, option_and_then}
use Rattle.std.proofs.lemmas.Bool.Decides.{nat_tests}
use Rattle.fdt_tree.specs.Document.{Document, place_of, children_of, next_place, if_there, IsNumbering}
use Rattle.fdt_tree.specs.Whole.{height}
use Rattle.fdt_nodes.proofs.Siblings.{siblings_from, first-siblings, node-siblings}

-- whether what is below a node is within some room is whether what the children from here on are is
abbrev pub IsMeasured : Document → ℕ → ℕ → Option ℕ → Type 0
IsMeasured d node room next = nat_le (height (children_of d node)) room ≡ nat_le (height (siblings_from d next)) room

pub IsMeasured-start : (d : Document) (node room : ℕ) (next : Option ℕ) → IsNumbering d → node < length d.places → option_map (λ n. place_of d n) next ≡ if_there d (place_of d node ++ 0 ∷ []) → IsMeasured d node room next
IsMeasured-start d node room next numbering live is = ap (λ ts. nat_le (height ts) room) (sym (first-siblings d node next (numbering.stand node live) is))

-- the first of the siblings has no room
no-room : (room a b : ℕ) → room ≡ 0 → nat_le (max (suc a) b) room ≡ false
no-room room a b h = grind (arith, nat_tests)

too-deep : (room a b : ℕ) → (room ≡ 0 → ⊥) → nat_le a (room - 1) ≡ false → nat_le (max (suc a) b) room ≡ false
too-deep room a b ne h = grind (arith, nat_tests)

-- the first of the siblings has room
with-room : (room a b : ℕ) → (room ≡ 0 → ⊥) → nat_le a (room - 1) ≡ true → nat_le (max (suc a) b) room ≡ nat_le b room
with-room room a b ne h = grind (arith, nat_tests)

module _ (d : Document) (node child room : ℕ) (here next : Option ℕ) (numbering : IsNumbering d) (live : child < length d.places) (is : here ≡ Some child) (following : option_map (λ n. place_of d n) next ≡ option_and_then (λ p. if_there d p) (next_place (place_of d child))) (measured : IsMeasured d node room here) where
  split : nat_le (height (children_of d node)) room ≡ nat_le (max (suc (height (children_of d child))) (height (siblings_from d next))) room
  split = measured ∙ ap (λ ts. nat_le (height ts) room) (ap (siblings_from d) is ∙ node-siblings d child next (numbering.stand child live) following)

  -- there is no room for the child
  pub IsMeasured-none : room ≡ 0 → nat_le (height (children_of d node)) room ≡ false
  IsMeasured-none h = split ∙ no-room room (height (children_of d child)) (height (siblings_from d next)) h

  -- what is below the child does not fit
  pub IsMeasured-deep : (room ≡ 0 → ⊥) → nat_le (height (children_of d child)) (room - 1) ≡ false → nat_le (height (children_of d node)) room ≡ false
  IsMeasured-deep ne h = split ∙ too-deep room (height (children_of d child)) (height (siblings_from d next)) ne h

  -- the child fits
  pub IsMeasured-next : (room ≡ 0 → ⊥) → nat_le (height (children_of d child)) (room - 1) ≡ true → IsMeasured d node room next
  IsMeasured-next ne h = split ∙ with-room room (height (children_of d child)) (height (siblings_from d next)) ne h

-- no child is left
pub IsMeasured-end : (d : Document) (node room : ℕ) (next : Option ℕ) → next ≡ None → IsMeasured d node room next → nat_le (height (children_of d node)) room ≡ true
IsMeasured-end d node room next end measured = measured ∙ (ap (λ (o : Option ℕ). nat_le (height (siblings_from d o)) room) end ∙ none-fits room)
  where
    none-fits : (n : ℕ) → nat_le 0 n ≡ true
    none-fits n = grind (arith, nat_tests)
