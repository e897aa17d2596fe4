-- Places of which none ends past the bank lie in it, and pairwise apart.
use Rattle.std.proofs.Common.{◌≡◌, ℕ, ◌≤◌, Bool, true, false, not, cond, List, [], ◌∷◌, Option, Some, None, option_map, arith, refl}
use Rattle.std.specs.Prelude.{find, nat_le}
use Rattle.std.proofs.lemmas.Bool.Decides.{nat_tests}
use Rattle.std.proofs.lemmas.List.Elements.{All-nil, All-cons}
use Rattle.guest_load.specs.declared.head.ImageHead.{ImageHead}
use Rattle.guest_load.specs.declared.places.Place.{Place}
use Rattle.guest_load.specs.declared.places.LoadPart.{LoadPart}
use Rattle.guest_load.specs.declared.places.LoadPart.TheVariants.{Kernel, Ramdisk, Tree}
use Rattle.guest_load.specs.LoadPlaces.{aligned, end_of, kernel_place, place_after, load_places, is_past, first_past, IsInside, FitIn}

-- the first of some parts that ends past the bank
abbrev past_among : Place → List (LoadPart × Place) → Option LoadPart
past_among bank parts = option_map (λ (part, place). part) (find (λ (part, place). is_past bank place) parts)

-- where there is none, the first part is none, and neither are the others
within : (bank : Place) (part : LoadPart) (place : Place) (later : List (LoadPart × Place)) → past_among bank ((part, place) ∷ later) ≡ None
    → (end_of place ≤ end_of bank) × (past_among bank later ≡ None)
within bank part place later none = by (nat_le (end_of place) (end_of bank)) refl none
  where
    by : (test : Bool) → nat_le (end_of place) (end_of bank) ≡ test
        → option_map (λ (part, place). part) (cond {A = Option (LoadPart × Place)} (not test) (Some (part, place)) (find (λ (part, place). is_past bank place) later)) ≡ None
        → (end_of place ≤ end_of bank) × (past_among bank later ≡ None)
    by true is others = (grind (arith, nat_tests), others)
    by false is others = absurd (cc)

-- a part lies in the bank; a place lies after another one
abbrev Inside : Place → LoadPart × Place → Type 0
Inside bank part = IsInside bank part.1

abbrev Behind : Place → Place → Type 0
Behind place later = end_of place ≤ later.address

both : {A B : Type 0} → A → B → A × B
both a b = (a, b)

not_below : (address : ℕ) → address ≤ aligned address
not_below address = omega arith

-- a part that lies after another one
follows : (before : Place) (size : ℕ) → end_of before ≤ (place_after before size).address
follows before size = not_below (end_of before)

kernel_inside : (bank : Place) (head : ImageHead) (kernel : ℕ) → bank.address ≤ (kernel_place bank head kernel).address
kernel_inside bank head kernel = let at = not_below bank.address in omega (arith, at)

pub places_fit : (bank : Place) (head : ImageHead) (kernel : ℕ) (ramdisk : Option ℕ) (size : ℕ) → first_past bank (load_places bank head kernel ramdisk size) ≡ None
    → FitIn bank (load_places bank head kernel ramdisk size)
places_fit bank head kernel None size none =
    let k = kernel_place bank head kernel in
    let t = place_after k size in
    let first = within bank Kernel k ((Tree, t) ∷ []) none in
    let last = within bank Tree t [] first.1 in
    let begins : bank.address ≤ k.address = kernel_inside bank head kernel in
    let next : end_of k ≤ t.address = follows k size in
    record {
      inside = All-cons (Inside bank) (Kernel, k) ((Tree, t) ∷ []) (both begins first.0) (All-cons (Inside bank) (Tree, t) [] (both (omega (arith, begins, next)) last.0) (All-nil (Inside bank)));
      apart = (All-cons (Behind k) t [] next (All-nil (Behind k)), (All-nil (Behind t), tt));
    }
places_fit bank head kernel (Some length) size none =
    let k = kernel_place bank head kernel in
    let r = place_after k length in
    let t = place_after r size in
    let first = within bank Kernel k ((Ramdisk, r) ∷ (Tree, t) ∷ []) none in
    let second = within bank Ramdisk r ((Tree, t) ∷ []) first.1 in
    let last = within bank Tree t [] second.1 in
    let begins : bank.address ≤ k.address = kernel_inside bank head kernel in
    let next : end_of k ≤ r.address = follows k length in
    let then : end_of r ≤ t.address = follows r size in
    record {
      inside = All-cons (Inside bank) (Kernel, k) ((Ramdisk, r) ∷ (Tree, t) ∷ []) (both begins first.0)
          (All-cons (Inside bank) (Ramdisk, r) ((Tree, t) ∷ []) (both (omega (arith, begins, next)) second.0)
          (All-cons (Inside bank) (Tree, t) [] (both (omega (arith, begins, next, then)) last.0) (All-nil (Inside bank))));
      apart = (
        All-cons (Behind k) r (t ∷ []) next (All-cons (Behind k) t [] (omega (arith, next, then)) (All-nil (Behind k))),
        (All-cons (Behind r) t [] then (All-nil (Behind r)), (All-nil (Behind t), tt)),
      );
    }
