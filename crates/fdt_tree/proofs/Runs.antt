-- Properties of one node that stand side by side.
use Rattle.std.proofs.Common.{◌≡◌, ◌⊎◌, inl, inr, ℕ, zero, suc, ◌+◌, ◌-◌, ◌<◌, ◌≤◌, Bool, List, [], ◌∷◌, ◌++◌, Option, Some, None, IfSome, option_map, length, slice_get, unwrap_or, min, cond, refl, sym, ap, ◌∙◌, subst, arith, eq-eqb, ne_eqb}
use Rattle.std.proofs.lemmas.Bool.{cases_eq}
use Rattle.std.specs.Prelude.{drop}
use Rattle.std.specs.Option.{option_map_or}
use Rattle.fdt_tree.specs.Tree.{Property}
use Rattle.fdt_tree.specs.Assembled.{StandBeside, owned}
use Rattle.fdt_tree.specs.PrivateLinks.{from, modified, with_next, chained_after, run_with}
use Rattle.fdt_tree.specs.declared.node.Slot.{Slot}
use Rattle.fdt_tree.proofs.Lists.{get-within, get-append_old, get-append_new}
use Rattle.fdt_tree.proofs.Chains.{drop-get}

some_slot : (o : Option Slot) (owner : ℕ) → option_map (λ (s : Slot). s.owner) o ≡ Some owner → (s : Slot) × (o ≡ Some s) × (s.owner ≡ owner)
some_slot None owner e = absurd (cc)
some_slot (Some s) owner e = (s, refl, cc)

-- A link changes no owner.
owner-next : (xs : List Slot) (k l i : ℕ) → option_map (λ (s : Slot). s.owner) (slice_get (modified (with_next k) l xs) i) ≡ option_map (λ (s : Slot). s.owner) (slice_get xs i)
owner-next [] k l i = refl
owner-next (x ∷ xs) k zero zero = refl
owner-next (x ∷ xs) k zero (suc i) = refl
owner-next (x ∷ xs) k (suc l) zero = refl
owner-next (x ∷ xs) k (suc l) (suc i) = owner-next xs k l i

owner-after : (xs : List Slot) (s : Slot) (last : Option ℕ) (i : ℕ) → option_map (λ (t : Slot). t.owner) (slice_get (chained_after last xs s) i) ≡ option_map (λ (t : Slot). t.owner) (slice_get (xs ++ s ∷ []) i)
owner-after xs s None i = refl
owner-after xs s (Some l) i = owner-next (xs ++ s ∷ []) (length xs) l i

-- With one more slot, those that stood side by side still do.
pub beside-more : (owner : ℕ) (first : Option ℕ) (run : ℕ) (xs : List Slot) (s : Slot) (last : Option ℕ) → StandBeside owner first run xs → StandBeside owner first run (chained_after last xs s)
beside-more owner first run xs s last b start index e h =
    let was = b start index e h in
    let t = some_slot (slice_get xs (start + index)) owner was in
    owner-after xs s last (start + index) ∙ (ap (option_map (λ (z : Slot). z.owner)) (get-append_old xs s (start + index) (get-within xs (start + index) t.0 t.1)) ∙ was)

-- The newest slot of a node lengthens its run where it stands at its end, and is its first where it had none.
pub beside-new : (owner : ℕ) (first : Option ℕ) (run : ℕ) (xs : List Slot) (s : Slot) (last : Option ℕ) → s.owner ≡ owner → StandBeside owner first run xs → StandBeside owner (Some (unwrap_or first (length xs))) (run_with (length xs) first run) (chained_after last xs s)
beside-new owner None run xs s last ow b start index e h =
    let here : start + index ≡ length xs = let q : length xs ≡ start = cc in omega (arith, q, h) in
    newest xs s last owner (start + index) here ow
  where
    newest : (xs : List Slot) (s : Slot) (last : Option ℕ) (owner i : ℕ) → i ≡ length xs → s.owner ≡ owner → option_map (λ (z : Slot). z.owner) (slice_get (chained_after last xs s) i) ≡ Some owner
    newest xs s last owner i q ow = owner-after xs s last i ∙ (ap (λ k. option_map (λ (z : Slot). z.owner) (slice_get (xs ++ s ∷ []) k)) q ∙ (ap (option_map (λ (z : Slot). z.owner)) (get-append_new xs s) ∙ ap Some ow))
beside-new owner (Some first) run xs s last ow b start index e h =
    go (cases_eq (first + run + 1) (length xs))
  where
    same : first ≡ start
    same = cc

    newest : (i : ℕ) → i ≡ length xs → option_map (λ (z : Slot). z.owner) (slice_get (chained_after last xs s) i) ≡ Some owner
    newest i q = owner-after xs s last i ∙ (ap (λ k. option_map (λ (z : Slot). z.owner) (slice_get (xs ++ s ∷ []) k)) q ∙ (ap (option_map (λ (z : Slot). z.owner)) (get-append_new xs s) ∙ ap Some ow))

    longer : first + run + 1 ≡ length xs → index ≤ run + 1 → (index ≡ run + 1) ⊎ (index ≡ run + 1 → ⊥) → option_map (λ (z : Slot). z.owner) (slice_get (chained_after last xs s) (start + index)) ≡ Some owner
    longer q g (inl z) = newest (start + index) (omega (arith, q, z, same))
    longer q g (inr ne) = beside-more owner (Some first) run xs s last b start index e (omega (arith, g, ne))

    go : (first + run + 1 ≡ length xs) ⊎ (first + run + 1 ≡ length xs → ⊥) → option_map (λ (z : Slot). z.owner) (slice_get (chained_after last xs s) (start + index)) ≡ Some owner
    go (inl q) = longer q (subst (λ (c : Bool). index ≤ cond c (run + 1) run) (eq-eqb (first + run + 1) (length xs) q) h) (cases_eq index (run + 1))
    go (inr ne) = beside-more owner (Some first) run xs s last b start index e (subst (λ (c : Bool). index ≤ cond c (run + 1) run) (ne_eqb (first + run + 1) (length xs) ne) h)

-- A slot that stands beside the first is one of the slots.
pub beside-live : (owner : ℕ) (first : Option ℕ) (start run index : ℕ) (xs : List Slot) → StandBeside owner first run xs → first ≡ Some start → index ≤ run → start + index < length xs
beside-live owner first start run index xs b e h =
    let t = some_slot (slice_get xs (start + index)) owner (b start index e h) in get-within xs (start + index) t.0 t.1

-- The properties from a slot of a node on are those of the node among the slots from there on.
from-owned : (owner k : ℕ) (xs : List Slot) → option_map (λ (s : Slot). s.owner) (slice_get xs k) ≡ Some owner → from xs (Some k) ≡ owned owner (drop k xs)
from-owned owner k xs e =
    let t = some_slot (slice_get xs k) owner e in ap (λ o. option_map_or (λ (s : Slot). owned s.owner (drop k xs)) o []) t.1 ∙ ap (λ i. owned i (drop k xs)) t.2

-- The properties from a slot on are its own and those from the slot beside it on.
from-beside : (owner k : ℕ) (xs : List Slot) → option_map (λ (s : Slot). s.owner) (slice_get xs k) ≡ Some owner → option_map (λ (s : Slot). s.owner) (slice_get xs (suc k)) ≡ Some owner → (p : Property) × (from xs (Some k) ≡ p ∷ from xs (Some (suc k)))
from-beside owner k xs e f =
    let t = some_slot (slice_get xs k) owner e in
    ((t.0.name, t.0.value), from-owned owner k xs e ∙ (ap (owned owner) (drop-get xs k t.0 t.1) ∙ (ap (λ b. cond b ((t.0.name, t.0.value) ∷ owned owner (drop (suc k) xs)) (owned owner (drop (suc k) xs))) (eq-eqb t.0.owner owner t.2) ∙ ap (λ ps. (t.0.name, t.0.value) ∷ ps) (sym (from-owned owner (suc k) xs f)))))

-- The properties from a slot on, so many slots further on.
pub record IsOnward (all later : List Property) (steps : ℕ) : Type 0 where
  pub fewer : length all ≡ steps + length later
  pub same : (index : ℕ) → slice_get all (steps + index) ≡ slice_get later index

-- Going on by slots that stand side by side is going on by links.
pub onward : (owner start steps : ℕ) (xs : List Slot) → ((index : ℕ) → index ≤ steps → option_map (λ (s : Slot). s.owner) (slice_get xs (start + index)) ≡ Some owner) → IsOnward (from xs (Some start)) (from xs (Some (start + steps))) steps
onward owner start zero xs h =
    let here : start ≡ start + 0 = omega arith in
    record {
      fewer = ap (λ k. length (from xs (Some k))) here ∙ omega arith;
      same = λ index. let i : 0 + index ≡ index = omega arith in ap (λ k. slice_get (from xs (Some k)) (0 + index)) here ∙ ap (slice_get (from xs (Some (start + 0)))) i;
    }
onward owner start (suc steps) xs h =
    let before = onward owner start steps xs (λ index b. h index (omega arith)) in
    let next : start + suc steps ≡ suc (start + steps) = omega arith in
    let beside = from-beside owner (start + steps) xs (h steps (omega arith)) (ap (λ k. option_map (λ (s : Slot). s.owner) (slice_get xs k)) (sym next) ∙ h (suc steps) (omega arith)) in
    let step : from xs (Some (start + steps)) ≡ beside.0 ∷ from xs (Some (start + suc steps)) = beside.1 ∙ ap (λ k. beside.0 ∷ from xs (Some k)) (sym next) in
    record {
      fewer = omega (arith, before.fewer, ap length step);
      same = λ index. let i : suc steps + index ≡ steps + suc index = omega arith in ap (slice_get (from xs (Some start))) i ∙ (before.same (suc index) ∙ ap (λ ps. slice_get ps (suc index)) step);
    }

-- Going on from the first slot of a node, as far as the index and the slots beside it allow.
pub jumped : (owner start run index steps : ℕ) (first : Option ℕ) (xs : List Slot) → StandBeside owner first run xs → first ≡ Some start → steps ≡ min index run → (start + steps < length xs) × IsOnward (from xs first) (from xs (Some (start + steps))) steps
jumped owner start run index steps first xs b e q = (
  beside-live owner first start run steps xs b e (omega (arith, q)),
  subst (λ (o : Option ℕ). IsOnward (from xs o) (from xs (Some (start + steps))) steps) (sym e) (onward owner start steps xs (λ k h. b start k e (omega (arith, h, q)))),
)

-- The end of a run is a slot that stands already.
pub run-ends : (owner : ℕ) (first : Option ℕ) (run count : ℕ) (xs : List Slot) → StandBeside owner first run xs → count ≡ suc (length xs) → IfSome first (λ start. start + run < count - 1)
run-ends owner None run count xs b q = tt
run-ends owner (Some start) run count xs b q =
    omega (arith, beside-live owner (Some start) start run run xs b refl (omega arith), q)
