-- The lowest group of a list of extents.
use Rattle.std.proofs.Common.{◌≡◌, ◌≢◌, ℕ, ◌+◌, ◌*◌, ◌/◌, ◌<◌, ◌≤◌, ◌%◌, ◌⊎◌, ◌&&◌, true, false, leb, Option, Some, None, refl, ap, ◌∙◌, arith, inl, inr}
use Rattle.std.proofs.Math.Bool.{and-false}
use Rattle.std.proofs.Math.Nat.{mul-le-mul_left, div-add-mod}
use Rattle.std.proofs.lemmas.Bool.Decides.{nat_tests, leb_tells, eqb_tells}
use Rattle.std.specs.Prelude.{◌==◌, nat_le}
use Rattle.frame_alloc.specs.Frames.{begins_group, lowest_group}
use Rattle.frame_alloc.specs.Extents.{frames_of}
use Rattle.frame_alloc.specs.Slots.{extents_in}
use Rattle.frame_alloc.specs.declared.slots.Slot.{Slot}
use Rattle.frame_alloc.specs.declared.extent_list.ExtentList.{ExtentList}
use Rattle.frame_alloc.proofs.Searches.{IsSearchedAt, IsSearchTurn, search-ends}

-- two multiples of a size are that far apart
multiples_apart : (size k m : ℕ) → k % size ≡ 0 → m % size ≡ 0 → k < m → k + size ≤ m
multiples_apart size k m at_k at_m low =
    let k_is : size * (k / size) + k % size ≡ k = div-add-mod k size in
    let m_is : size * (m / size) + m % size ≡ m = div-add-mod m size in
    by_order (leb_tells (k / size + 1) (m / size)) k_is m_is
  where
    by_order : ((leb (k / size + 1) (m / size) ≡ true) × (k / size + 1 ≤ m / size)) ⊎ ((leb (k / size + 1) (m / size) ≡ false) × (m / size < k / size + 1)) → size * (k / size) + k % size ≡ k → size * (m / size) + m % size ≡ m → k + size ≤ m
    by_order (inl h) k_is m_is = let more : size * (k / size + 1) ≤ size * (m / size) = mul-le-mul_left size h.1 in omega arith
    by_order (inr h) k_is m_is = let fewer : size * (m / size) ≤ size * (k / size) = mul-le-mul_left size (let a = h.1 in omega arith) in absurd (omega arith)

-- no group begins at a frame that is no multiple, or from which on the extent is too short
group_not : (size k : ℕ) (list : ExtentList) (at : Option ℕ) (slot : Slot) → IsSearchTurn (begins_group size (frames_of (extents_in list))) list at slot → slot.extent.first ≤ k → k < slot.extent.first + slot.extent.count → (k % size ≡ 0 → slot.extent.first + slot.extent.count < k + size) → begins_group size (frames_of (extents_in list)) k ≡ false
group_not size k list at slot turn low high short = ap (λ b. (k % size == 0) && b) (turn.runs size k low high) ∙ by_test (eqb_tells (k % size) 0)
  where
    by_test : (((k % size == 0) ≡ true) × (k % size ≡ 0)) ⊎ (((k % size == 0) ≡ false) × (k % size ≢ 0)) → ((k % size == 0) && nat_le (k + size) (slot.extent.first + slot.extent.count)) ≡ false
    by_test (inr h) = rw h.0 refl
    by_test (inl h) = let past : slot.extent.first + slot.extent.count < k + size = short h.1 in let no : leb (k + size) (slot.extent.first + slot.extent.count) ≡ false = grind (arith, nat_tests) in rw no (and-false (k % size == 0))

-- the least multiple from an extent's first frame on begins the lowest group where the group ends in the extent
pub group_found : (size m : ℕ) (list : ExtentList) (at : Option ℕ) (slot : Slot) → IsSearchTurn (begins_group size (frames_of (extents_in list))) list at slot → 0 < size → slot.extent.first ≤ m → m < slot.extent.first + size → m % size ≡ 0 → m + size ≤ slot.extent.first + slot.extent.count
    → lowest_group size (frames_of (extents_in list)) ≡ Some m
unfolding lowest_group
group_found size m list at slot turn some low near multiple fits =
    turn.found m low (omega arith) begins
    (λ k from to. group_not size k list at slot turn from (omega arith) (λ at_k. let apart : k + size ≤ m = multiples_apart size k m at_k multiple to in absurd (omega arith)))
  where
    yes : leb (m + size) (slot.extent.first + slot.extent.count) ≡ true
    yes = grind (arith, nat_tests)

    begins : begins_group size (frames_of (extents_in list)) m ≡ true
    begins = ap (λ b. (m % size == 0) && b) (turn.runs size m low (omega arith)) ∙ ap (λ n. (n == 0) && nat_le (m + size) (slot.extent.first + slot.extent.count)) multiple ∙ yes

-- else no group begins in the extent
pub group_past : (size m : ℕ) (list : ExtentList) (at : Option ℕ) (slot : Slot) → IsSearchTurn (begins_group size (frames_of (extents_in list))) list at slot → slot.extent.first ≤ m → m < slot.extent.first + size → m % size ≡ 0 → slot.extent.first + slot.extent.count < m + size
    → IsSearchedAt (begins_group size (frames_of (extents_in list))) list slot.after
group_past size m list at slot turn low near multiple short = turn.next (λ k from to. group_not size k list at slot turn from to (λ at_k. at_least k from at_k (leb_tells m k)))
  where
    at_least : (k : ℕ) → slot.extent.first ≤ k → k % size ≡ 0 → ((leb m k ≡ true) × (m ≤ k)) ⊎ ((leb m k ≡ false) × (k < m)) → slot.extent.first + slot.extent.count < k + size
    at_least k from at_k (inl h) = let a = h.1 in omega arith
    at_least k from at_k (inr h) = let apart : k + size ≤ m = multiples_apart size k m at_k multiple h.1 in absurd (omega arith)

-- at the end there is no group
pub group_none : (size : ℕ) (list : ExtentList) (at : Option ℕ) → IsSearchedAt (begins_group size (frames_of (extents_in list))) list at → at ≡ None → lowest_group size (frames_of (extents_in list)) ≡ None
unfolding lowest_group
group_none size list at ok is = search-ends (begins_group size (frames_of (extents_in list))) list at ok is
