-- The commands of guests, one part after the other.
use Rattle.std.proofs.Common.{◌≡◌, ℕ, ◌+◌, ◌<◌, ◌≤◌, Bool, Bor, inl, inr, List, ◌∷◌, ◌++◌, length, drop, slice_get, Some, None, refl, sym, ap, ◌∙◌, append_assoc, append-nil, length-append, length-drop, arith}
use Rattle.std.specs.Prelude.{Option, IfSome, option_map, is_some, option_to_list}
use Rattle.std.specs.List.{flat_map, enumerate_from}
use Rattle.std.specs.Option.{option_copied}
use Rattle.std.proofs.lemmas.List.{drop_more, drop_all}
use Rattle.std.proofs.lemmas.Option.{slice_get_cases}
use Rattle.texts.specs.declared.ranges.BaseSize.{BaseSize}
use Rattle.ib_config.specs.declared.groups.PortGroup.{PortGroup}
use Rattle.ib_config.specs.declared.groups.ShmGroup.{ShmGroup}
use Rattle.ib_config.specs.declared.guests.Guest.{Guest}
use Rattle.ib_placement.specs.Placement.{guest_files}
use Rattle.ib_placement.specs.declared.places.FilePlace.{FilePlace}
use Rattle.ib_script.specs.Guests.{guest_path, node_commands, machine_commands, static_commands, enhanced_commands, kernel_commands, other_modules, shared_commands, port_commands, domain_commands, module_commands, link_commands, guest_commands, guests_commands}
use Rattle.ib_script.specs.PrivateCounts.{file_count}
use Rattle.ib_script.specs.Phandles.{first_phandle}
use Rattle.ib_script.specs.Properties.{place_at}
use Rattle.ib_script.specs.declared.command.Command.{Command}

-- what guest n is was added
pub domain_added : (n : ℕ) (o : Option Guest) (mib : Option ℕ) (vcpus : ℕ) (vpl011 : Bool) (ranges : List BaseSize) (direct : Bool) (groups : List PortGroup) (t t1 t2 t3 t4 : List Command)
    → option_map (λ (g : Guest). g.mem_mib) o ≡ Some mib → option_map (λ (g : Guest). g.vcpus) o ≡ Some vcpus → option_map (λ (g : Guest). g.vpl011) o ≡ Some vpl011
    → option_map (λ (g : Guest). g.static_mem) o ≡ Some ranges → option_map (λ (g : Guest). g.direct_map) o ≡ Some direct → option_map (λ (g : Guest). g.evtchns) o ≡ Some groups
    → t1 ≡ t ++ node_commands n → t2 ≡ t1 ++ machine_commands (guest_path n) mib vcpus vpl011 → t3 ≡ t2 ++ static_commands (guest_path n) ranges direct
    → t4 ≡ t3 ++ enhanced_commands (guest_path n) groups → IfSome o (λ g. t4 ≡ t ++ domain_commands n g)
unfolding domain_commands
domain_added n None mib vcpus vpl011 ranges direct groups t t1 t2 t3 t4 m v p r d e a b c f = tt
domain_added n (Some g) mib vcpus vpl011 ranges direct groups t t1 t2 t3 t4 m v p r d e a b c f =
    let mib_is : mib ≡ g.mem_mib = cc in
    let vcpus_is : vcpus ≡ g.vcpus = cc in
    let vpl011_is : vpl011 ≡ g.vpl011 = cc in
    let ranges_are : ranges ≡ g.static_mem = cc in
    let direct_is : direct ≡ g.direct_map = cc in
    let groups_are : groups ≡ g.evtchns = cc in
    rw (f, c, b, a, mib_is, vcpus_is, vpl011_is, ranges_are, direct_is, groups_are) (simp append_assoc)

-- the modules of guest n were added
pub modules_added : (n : ℕ) (o : Option Guest) (cmd ramdisk partial : Option (List ℕ)) (has_ramdisk has_partial : Bool) (places : List FilePlace) (t t1 t2 : List Command)
    → option_map (λ (g : Guest). g.cmd) o ≡ Some cmd → option_map (λ (g : Guest). g.ramdisk) o ≡ Some ramdisk → option_map (λ (g : Guest). g.passthrough_dtb) o ≡ Some partial
    → has_ramdisk ≡ is_some ramdisk → has_partial ≡ is_some partial
    → t1 ≡ t ++ kernel_commands (guest_path n) cmd (place_at places 0) → t2 ≡ t1 ++ other_modules (guest_path n) has_ramdisk has_partial places
    → IfSome o (λ g. t2 ≡ t ++ module_commands n g places)
unfolding module_commands
modules_added n None cmd ramdisk partial has_ramdisk has_partial places t t1 t2 c r p hr hp a b = tt
modules_added n (Some g) cmd ramdisk partial has_ramdisk has_partial places t t1 t2 c r p hr hp a b =
    let cmd_is : cmd ≡ g.cmd = cc in
    let ramdisk_is : ramdisk ≡ g.ramdisk = cc in
    let partial_is : partial ≡ g.passthrough_dtb = cc in
    rw (b, a, hr, hp, cmd_is, ramdisk_is, partial_is) (simp append_assoc)

-- what guest n shares was added
pub links_added : (guests : List Guest) (highest n first : ℕ) (o : Option Guest) (regions : List ShmGroup) (groups : List PortGroup) (t t1 t2 : List Command)
    → option_map (λ (g : Guest). g.shared_mem) o ≡ Some regions → option_map (λ (g : Guest). g.evtchns) o ≡ Some groups → first ≡ first_phandle guests highest n
    → t1 ≡ t ++ flat_map (shared_commands (guest_path n)) (enumerate_from 0 regions)
    → t2 ≡ t1 ++ flat_map (port_commands (guest_path n) guests highest first) (enumerate_from 0 groups)
    → IfSome o (λ g. t2 ≡ t ++ link_commands guests highest n g)
unfolding link_commands
links_added guests highest n first None regions groups t t1 t2 r e f a b = tt
links_added guests highest n first (Some g) regions groups t t1 t2 r e f a b =
    let regions_are : regions ≡ g.shared_mem = cc in
    let groups_are : groups ≡ g.evtchns = cc in
    rw (b, a, f, regions_are, groups_are) (simp append_assoc)

-- the parts of guest n were added
pub guest_added : (guests : List Guest) (highest n : ℕ) (o : Option Guest) (places : List FilePlace) (t t1 t2 t3 : List Command) → IfSome o (λ g. t1 ≡ t ++ domain_commands n g)
    → IfSome o (λ g. t2 ≡ t1 ++ module_commands n g places) → IfSome o (λ g. t3 ≡ t2 ++ link_commands guests highest n g) → IfSome o (λ g. t3 ≡ t ++ guest_commands guests highest n g places)
unfolding guest_commands
guest_added guests highest n None places t t1 t2 t3 a b c = tt
guest_added guests highest n (Some g) places t t1 t2 t3 a b c = rw (c, b, a) (simp append_assoc)

-- a borrowed value is there where the value is
pub is_some_copied : {A : Type 0} (o : Option (Bor A)) → is_some o ≡ is_some (option_copied o)
is_some_copied None = refl
is_some_copied (Some x) = refl

-- the same of a value that is known by another name
pub is_set : {A : Type 0} (found : Option (Bor A)) (value : Option A) (set : Bool) → set ≡ is_some found → option_copied found ≡ value → set ≡ is_some value
is_set found value set tested same = tested ∙ is_some_copied found ∙ ap (λ o. is_some o) same

-- how many files a guest has
files_counted : (g : Guest) → length (guest_files g) ≡ file_count (is_some g.ramdisk) (is_some g.passthrough_dtb)
files_counted g = by g.ramdisk g.passthrough_dtb
  where
    by : (ramdisk partial : Option (List ℕ)) → length (g.kernel ∷ (option_to_list ramdisk ++ option_to_list partial)) ≡ file_count (is_some ramdisk) (is_some partial)
    by None None = omega arith
    by None (Some p) = omega arith
    by (Some r) None = omega arith
    by (Some r) (Some p) = omega arith

pub count_is : (o : Option Guest) (ramdisk partial : Option (List ℕ)) (has_ramdisk has_partial : Bool) (count : ℕ) → option_map (λ (g : Guest). g.ramdisk) o ≡ Some ramdisk
    → option_map (λ (g : Guest). g.passthrough_dtb) o ≡ Some partial → has_ramdisk ≡ is_some ramdisk → has_partial ≡ is_some partial → count ≡ file_count has_ramdisk has_partial
    → IfSome o (λ g. count ≡ length (guest_files g))
count_is None ramdisk partial has_ramdisk has_partial count r p hr hp is = tt
count_is (Some g) ramdisk partial has_ramdisk has_partial count r p hr hp is =
    let ramdisk_is : ramdisk ≡ g.ramdisk = cc in
    let partial_is : partial ≡ g.passthrough_dtb = cc in
    is ∙ rw (hr, hp, ramdisk_is, partial_is) (sym (files_counted g))

-- the guest at a place
pub guest_at : (guests : List Guest) (n : ℕ) → n < length guests → (g : Guest) × (slice_get guests n ≡ Some g) × (drop n guests ≡ g ∷ drop (n + 1) guests)
guest_at guests n below = elim (slice_get_cases guests n).1 [
  | inl found ↦ (found.0, found.2, drop_more guests n found.0 below ∙ ap (λ x. x ∷ drop (n + 1) guests) found.3)
  | inr past ↦ absurd (omega arith)
]

-- a fact of the guest at a place
of_guest : (P : Guest → Type 0) (o : Option Guest) (g : Guest) → o ≡ Some g → IfSome o P → P g
of_guest P None g here holds = absurd (cc)
of_guest P (Some h) g here holds = let same : h ≡ g = cc in rw same at holds

-- the files of the guest at a place, and those of the guests behind it
module _ (guests : List Guest) (n : ℕ) (left : List FilePlace) (below : n < length guests) (enough : length (flat_map guest_files (drop n guests)) ≤ length left) where
  first_of : IfSome (slice_get guests n) (λ g. length (guest_files g) + length (flat_map guest_files (drop (n + 1) guests)) ≤ length left)
  first_of =
      let here : (g : Guest) × (slice_get guests n ≡ Some g) × (drop n guests ≡ g ∷ drop (n + 1) guests) = guest_at guests n below in
      let all : length (flat_map guest_files (drop n guests)) ≡ length (guest_files here.0) + length (flat_map guest_files (drop (n + 1) guests)) =
      rw here.2 (length-append (guest_files here.0) (flat_map guest_files (drop (n + 1) guests))) in
      rw here.1 (rw (← all) enough)

  pub enough_here : IfSome (slice_get guests n) (λ g. length (guest_files g) ≤ length left)
  enough_here =
      let here : (g : Guest) × (slice_get guests n ≡ Some g) × (drop n guests ≡ g ∷ drop (n + 1) guests) = guest_at guests n below in
      let part = of_guest (λ g. length (guest_files g) + length (flat_map guest_files (drop (n + 1) guests)) ≤ length left) (slice_get guests n) here.0 here.1 first_of in
      rw here.1 (omega (arith, part))

  pub enough_there : (count : ℕ) → IfSome (slice_get guests n) (λ g. count ≡ length (guest_files g)) → (count ≤ length left) × (length (flat_map guest_files (drop (n + 1) guests)) ≤ length (drop count left))
  enough_there count counted =
      let here : (g : Guest) × (slice_get guests n ≡ Some g) × (drop n guests ≡ g ∷ drop (n + 1) guests) = guest_at guests n below in
      let part = of_guest (λ g. length (guest_files g) + length (flat_map guest_files (drop (n + 1) guests)) ≤ length left) (slice_get guests n) here.0 here.1 first_of in
      let is = of_guest (λ g. count ≡ length (guest_files g)) (slice_get guests n) here.0 here.1 counted in
      (omega (arith, part, is), omega (arith, part, is, length-drop count left))

-- one guest more was added
pub next_guest : (guests : List Guest) (highest n count : ℕ) (left : List FilePlace) (all old new : List Command) → n < length guests
    → IfSome (slice_get guests n) (λ g. new ≡ old ++ guest_commands guests highest n g left) → IfSome (slice_get guests n) (λ g. count ≡ length (guest_files g))
    → all ≡ old ++ guests_commands guests highest n (drop n guests) left → all ≡ new ++ guests_commands guests highest (n + 1) (drop (n + 1) guests) (drop count left)
next_guest guests highest n count left all old new below added counted so_far =
    let here : (g : Guest) × (slice_get guests n ≡ Some g) × (drop n guests ≡ g ∷ drop (n + 1) guests) = guest_at guests n below in
    let new_is = of_guest (λ g. new ≡ old ++ guest_commands guests highest n g left) (slice_get guests n) here.0 here.1 added in
    let count_is_its = of_guest (λ g. count ≡ length (guest_files g)) (slice_get guests n) here.0 here.1 counted in
    so_far ∙ rw (here.2, new_is, count_is_its)
    (sym (append_assoc old (guest_commands guests highest n here.0 left) (guests_commands guests highest (n + 1) (drop (n + 1) guests) (drop (length (guest_files here.0)) left))))

-- no guest is left
pub all_guests : (guests : List Guest) (highest n : ℕ) (left : List FilePlace) (all old : List Command) → length guests ≤ n → all ≡ old ++ guests_commands guests highest n (drop n guests) left → old ≡ all
all_guests guests highest n left all old past so_far = sym (so_far ∙ rw (drop_all n guests past) (append-nil old))
