-- How many places a configuration's files have.
use Rattle.std.proofs.Common.{◌≡◌, ℕ, ◌+◌, List, [], ◌∷◌, ◌++◌, length, map, Some, None, refl, sym, ap, ◌∙◌, length-append, arith}
use Rattle.std.proofs.lemmas.List.{length-map}
use Rattle.std.specs.Prelude.{Option, is_some, option_to_list}
use Rattle.std.specs.List.{flat_map}
use Rattle.ib_config.specs.declared.settings.Settings.{Settings}
use Rattle.ib_placement.specs.Placement.{dom0_files, guest_files, files_of}
use Rattle.ib_placement.specs.declared.places.FilePlace.{FilePlace}
use Rattle.ib_script.specs.Properties.{one_if}

-- a file that may be set
one_counted : (file : Option (List ℕ)) → length (option_to_list file) ≡ one_if (is_some file)
one_counted None = refl
one_counted (Some name) = refl

-- the files of dom0
pub dom0_counted : (s : Settings) → length (dom0_files s) ≡ one_if (is_some s.dom0_kernel) + one_if (is_some s.dom0_ramdisk)
dom0_counted s = length-append (option_to_list s.dom0_kernel) (option_to_list s.dom0_ramdisk) ∙ rw (one_counted s.dom0_kernel, one_counted s.dom0_ramdisk)

-- all files: Xen's, those of dom0 and of the guests, and the device tree's
pub places_counted : (s : Settings) (places : List FilePlace) → map (λ (p : FilePlace). p.name) places ≡ files_of s
    → length places ≡ 1 + length (dom0_files s) + length (flat_map guest_files s.guests) + 1
unfolding files_of
places_counted s places named =
    let all : length places ≡ length ((s.xen ∷ dom0_files s) ++ flat_map guest_files s.guests ++ s.device_tree ∷ []) = sym (length-map places (λ (p : FilePlace). p.name)) ∙ ap length named in
    let last = length-append ((s.xen ∷ dom0_files s) ++ flat_map guest_files s.guests) (s.device_tree ∷ []) in
    let first = length-append (s.xen ∷ dom0_files s) (flat_map guest_files s.guests) in
    omega (arith, all, last, first)
