-- The first of some items whose values pass a test.
use Rattle.std.proofs.Common.{◌≡◌, ◌∙◌, ap, refl, ℕ, ◌+◌, ◌<◌, length, List, ◌∷◌, ◌≤◌, drop, map, Bool, true, false, Some, None, add-one, slice_index_or, drop-cons}
use Rattle.std.specs.Prelude.{find}
use Rattle.std.proofs.lemmas.List.{drop_all}

-- the item at an index stands before those after it
pub item_first : {A : Type 0} (items : List A) (index : ℕ) (item : A) → index < length items → item ≡ slice_index_or items index item → drop index items ≡ item ∷ drop (index + 1) items
item_first items index item there is = drop-cons items index item there ∙ rw (← is, ← add-one index) refl

module _ {A : Type 0} {B : Type 0} (test : B → Bool) (f : A → B) (items : List A) (index : ℕ) where
  -- no item before the index passes the test
  abbrev pub NoneYet : Type 0
  NoneYet = find test (map f items) ≡ find test (map f (drop index items))

  pub found_here : (item : A) → NoneYet → index < length items → item ≡ slice_index_or items index item → test (f item) ≡ true → find test (map f items) ≡ Some (f item)
  found_here item yet there is passes = yet ∙ (ap (λ rest. find test (map f rest)) (item_first items index item there is) ∙ rw passes refl)

  pub passed_over : (item : A) → NoneYet → index < length items → item ≡ slice_index_or items index item → test (f item) ≡ false
      → find test (map f items) ≡ find test (map f (drop (index + 1) items))
  passed_over item yet there is fails = yet ∙ (ap (λ rest. find test (map f rest)) (item_first items index item there is) ∙ rw fails refl)

  pub none_left : NoneYet → length items ≤ index → find test (map f items) ≡ None
  none_left yet end = yet ∙ ap (λ rest. find test (map f rest)) (drop_all index items end)
