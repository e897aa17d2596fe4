-- The tree that is written has the length that is called for, wherever its ramdisk is said to lie.
use Rattle.std.proofs.Common.{◌≡◌, ◌∙◌, ap, sym, subst, refl, ℕ, ◌≤◌, List, length, inl, inr, is_some, Option, Some, None}
use Rattle.outside.specs.declared.status.Status.TheVariants as statuses
use Rattle.fdt_tree.specs.Tree.{Tree}
use Rattle.fdt_tree.specs.declared.reserve.Reserve.{Reserve}
use Rattle.fdt_write.specs.Flattened.{flattened, length_limit}
use Rattle.run_steps.specs.Endings.{Outcome, Refuses}
use Rattle.tree_files.specs.Lengths.{IsLengthRefusal}
use Rattle.guest_load.specs.declared.places.Place.{Place}
use Rattle.guest_load.specs.declared.places.LoadPart.{LoadPart}
use Rattle.guest_load.specs.LoadPlaces.{first_past, load_places, ramdisk_place}
use Rattle.guest_load.specs.Started.{started}
use Rattle.guest_load.specs.Lines.{no_room_message}
use Rattle.guest_load.specs.Parts.{Parts}
use Rattle.guest_load.specs.Job.{ramdisk_of, tree_of, plan_of, OnRoom, IsLoading}
use Rattle.guest_load.proofs.RamdiskLemmas.{one-length}

any_length : (reserves : List Reserve) (boot : ℕ) (t : Tree) (one other : Option Place) → is_some one ≡ is_some other
    → length (flattened reserves boot (started t one)) ≡ length (flattened reserves boot (started t other))
any_length reserves boot t None None are = refl
any_length reserves boot t (Some one) (Some other) are = one-length reserves boot t one other
any_length reserves boot t None (Some other) are = absurd (cc)
any_length reserves boot t (Some one) None are = absurd (cc)

placed : (kernel : Place) (ramdisk : Option ℕ) → is_some ramdisk ≡ is_some (ramdisk_place kernel ramdisk)
placed kernel None = refl
placed kernel (Some size) = refl

module _ (out : List ℕ) (parts : Parts) (place : Option Place) (there : is_some place ≡ is_some parts.ramdisk) where
  -- the tree with this place in the place of that of the plan
  abbrev written : List ℕ
  written = flattened parts.tree.reserves parts.tree.boot (started parts.tree.root place)

  same_length : length written ≡ length (tree_of parts)
  same_length = any_length parts.tree.reserves parts.tree.boot parts.tree.root place (ramdisk_of parts) (there ∙ placed _ parts.ramdisk)

  pub too_long : (outcome : Outcome) → IsLengthRefusal out (length written) outcome → IsLoading out parts outcome
  too_long outcome refused = inl (subst (λ (n : ℕ). IsLengthRefusal out n outcome) same_length refused)

  pub no_room : (bytes : List ℕ) → bytes ≡ written → length written ≤ length_limit → (part : LoadPart)
      → first_past parts.bank (load_places parts.bank parts.head parts.kernel parts.ramdisk (length bytes)) ≡ Some part
      → (message : List ℕ) → message ≡ no_room_message part → IsLoading out parts (Refuses statuses.Refused message)
  no_room bytes is fits part past message says =
      let same : length bytes ≡ length (tree_of parts) = ap length is ∙ same_length in
      let first : first_past parts.bank (plan_of parts) ≡ Some part = ap (λ (n : ℕ). first_past parts.bank (load_places parts.bank parts.head parts.kernel parts.ramdisk n)) (sym same) ∙ past in
      inr (
        subst (λ (n : ℕ). n ≤ length_limit) same_length fits,
        subst (λ (found : Option LoadPart). OnRoom out parts found (Refuses statuses.Refused message)) (sym first) (refl, says),
      )
