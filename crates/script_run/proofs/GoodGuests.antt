-- The commands of a guest that can be spoken are good commands.
use Rattle.std.proofs.Common.{◌≡◌, ℕ, zero, suc, ◌+◌, ◌*◌, Bool, true, false, ◌&&◌, List, [], ◌∷◌, ◌++◌, drop, Option, Some, None, length, refl}
use Rattle.std.specs.Prelude.{codes, flat_map, is_some}
use Rattle.std.specs.Option.{option_map_or}
use Rattle.std.specs.List.{list_all, enumerate_from}
use Rattle.std.proofs.lemmas.Bool.{and_parts}
use Rattle.texts.specs.declared.ranges.BaseSize.{BaseSize}
use Rattle.ib_config.specs.Line.{is_blank}
use Rattle.ib_config.specs.declared.guests.Guest.{Guest}
use Rattle.ib_config.specs.declared.groups.ShmGroup.{ShmGroup}
use Rattle.ib_config.specs.declared.groups.PortGroup.{PortGroup}
use Rattle.ib_placement.specs.declared.places.FilePlace.{FilePlace}
use Rattle.ib_placement.specs.Placement.{guest_files}
use Rattle.ib_script.specs.Phandles.{first_phandle, peer_phandle}
use Rattle.ib_script.specs.Properties.{two_cells, cells, word, below, numbered, two_and_two, module_at, place_at, one_if}
use Rattle.ib_script.specs.Guests.{guest_path, node_commands, machine_commands, range_cells, static_properties, static_commands, enhanced_commands, kernel_commands, other_modules, shared_commands, channel_commands, port_commands, domain_commands, module_commands, link_commands, guest_commands, guests_commands}
use Rattle.ib_script.specs.declared.command.Command.TheVariants.{Set}
use Rattle.script_run.specs.Words.{is_script_byte}
use Rattle.script_run.specs.Commands.{is_path}
use Rattle.script_run.proofs.CommandLemmas.{wordable, is_cell}
use Rattle.script_run.proofs.Printed.{IsGood, good_path, quotable}
use Rattle.script_run.proofs.PrintedLines.{AllGood}
use Rattle.script_run.proofs.GuestEdits.{domain}
use Rattle.script_run.proofs.GoodPaths.{AllGood-append, AllGood-flat, AllGood-on, wordy, wordy_domain, wordy_shm, wordy_evtchn, good_guest_path, good_child_path, good_name-wordy, wide_cells, all_cells, wide, wide_is}

-- a place that can be spoken
abbrev pub good_place : FilePlace → Bool
good_place p = wordable p.name && (wide p.address && wide p.size)

-- What a guest must be so that its commands are read back.
abbrev pub good_option : Option (List ℕ) → Bool
good_option text = option_map_or quotable text true

abbrev pub good_range : BaseSize → Bool
good_range r = wide r.base && wide r.size

abbrev pub good_region : ShmGroup → Bool
good_region r = quotable r.id && (wide r.host && (wide r.guest && wide r.size))

abbrev pub good_port : List Guest → ℕ → ℕ → ℕ × PortGroup → Bool
good_port guests highest first (k, group) = is_cell (first + k) && (is_cell group.port && is_cell (peer_phandle guests highest group))

abbrev pub good_guest : List Guest → ℕ → ℕ → Guest → Bool
good_guest guests highest n g =
    good_option g.cmd && (option_map_or (λ mib. wide (mib * 1024)) g.mem_mib true && (is_cell g.vcpus && (list_all good_range g.static_mem
    && (list_all good_region g.shared_mem && list_all (good_port guests highest (first_phandle guests highest n)) (enumerate_from 0 g.evtchns)))))

-- A guest's commands.
good_cells : (path prop : List ℕ) (ns : List ℕ) → good_path path ≡ true → wordable prop ≡ true → list_all is_cell ns ≡ true → IsGood (Set path prop (cells ns))
good_cells path prop ns p q h = (p, q, rw h refl)

pub good_word : (path prop text : List ℕ) → good_path path ≡ true → wordable prop ≡ true → quotable text ≡ true → IsGood (Set path prop (word text))
good_word path prop text p q h = (p, q, rw h refl)

good_machine : (path : List ℕ) (mib : Option ℕ) (vcpus : ℕ) (vpl011 : Bool) → good_path path ≡ true → option_map_or (λ mib. wide (mib * 1024)) mib true ≡ true → is_cell vcpus ≡ true → AllGood (machine_commands path mib vcpus vpl011)
unfolding machine_commands is_blank is_script_byte
good_machine path None vcpus true p m v = (good_cells path (codes "cpus") (vcpus ∷ []) p refl (rw v refl), ((p, refl, refl), tt))
good_machine path None vcpus false p m v = (good_cells path (codes "cpus") (vcpus ∷ []) p refl (rw v refl), tt)
good_machine path (Some mib) vcpus true p m v = (good_cells path (codes "memory") (two_cells (mib * 1024)) p refl (wide_cells (mib * 1024) (wide_is (mib * 1024) m)), (good_cells path (codes "cpus") (vcpus ∷ []) p refl (rw v refl), ((p, refl, refl), tt)))
good_machine path (Some mib) vcpus false p m v = (good_cells path (codes "memory") (two_cells (mib * 1024)) p refl (wide_cells (mib * 1024) (wide_is (mib * 1024) m)), (good_cells path (codes "cpus") (vcpus ∷ []) p refl (rw v refl), tt))

good_ranges : (rs : List BaseSize) → list_all good_range rs ≡ true → list_all is_cell (flat_map range_cells rs) ≡ true
good_ranges [] h = refl
good_ranges (r ∷ rs) h =
    let k = and_parts (good_range r) (list_all good_range rs) h in
    let g = and_parts (wide r.base) (wide r.size) k.0 in
    all_cells (range_cells r) (flat_map range_cells rs) (all_cells (two_cells r.base) (two_cells r.size) (wide_cells r.base (wide_is r.base g.0)) (wide_cells r.size (wide_is r.size g.1))) (good_ranges rs k.1)

good_static : (path : List ℕ) (ranges : List BaseSize) (direct : Bool) → good_path path ≡ true → list_all good_range ranges ≡ true → AllGood (static_commands path ranges direct)
unfolding static_commands static_properties is_blank is_script_byte
good_static path [] direct p h = tt
good_static path (r ∷ rs) true p h = ((p, refl, refl), ((p, refl, refl), (good_cells path (codes "xen,static-mem") (flat_map range_cells (r ∷ rs)) p refl (good_ranges (r ∷ rs) h), ((p, refl, refl), tt))))
good_static path (r ∷ rs) false p h = ((p, refl, refl), ((p, refl, refl), (good_cells path (codes "xen,static-mem") (flat_map range_cells (r ∷ rs)) p refl (good_ranges (r ∷ rs) h), tt)))

good_enhanced : (path : List ℕ) (groups : List PortGroup) → good_path path ≡ true → AllGood (enhanced_commands path groups)
unfolding enhanced_commands is_blank is_script_byte
good_enhanced path [] p = tt
good_enhanced path (g ∷ gs) p = ((p, refl, refl), tt)

pub good_two : (path : List ℕ) → good_path path ≡ true → AllGood (two_and_two path)
unfolding two_and_two is_blank is_script_byte
good_two path p = ((p, refl, refl), ((p, refl, refl), tt))

good_node : (n : ℕ) → AllGood (node_commands n)
unfolding node_commands is_path is_blank is_script_byte
good_node n = ((refl, good_name-wordy (domain n) (wordy_domain n)), ((good_guest_path n, refl, refl), good_two (guest_path n) (good_guest_path n)))

good_domain : (n : ℕ) (g : Guest) → option_map_or (λ mib. wide (mib * 1024)) g.mem_mib true ≡ true → is_cell g.vcpus ≡ true → list_all good_range g.static_mem ≡ true → AllGood (domain_commands n g)
unfolding domain_commands
good_domain n g m v r =
    AllGood-append _ _ (AllGood-append _ _ (AllGood-append _ _ (good_node n) (good_machine (guest_path n) g.mem_mib g.vcpus g.vpl011 (good_guest_path n) m v)) (good_static (guest_path n) g.static_mem g.direct_map (good_guest_path n) r))
    (good_enhanced (guest_path n) g.evtchns (good_guest_path n))

-- a module below a path
pub good_module : (parent name kind : List ℕ) (place : FilePlace) → good_path parent ≡ true → good_path (below parent name) ≡ true → wordy name ≡ true → quotable (codes "multiboot," ++ kind) ≡ true → wide place.address ≡ true → wide place.size ≡ true
    → AllGood (module_at parent name kind place)
unfolding module_at is_blank is_script_byte
good_module parent name kind place p b w q a s = (
  (p, good_name-wordy name w),
  (
    (b, refl, rw q refl),
    (
      good_cells (below parent name) (codes "reg") (two_cells place.address ++ two_cells place.size) b refl
          (all_cells (two_cells place.address) (two_cells place.size) (wide_cells place.address (wide_is place.address a)) (wide_cells place.size (wide_is place.size s))),
      tt,
    ),
  ),
)

-- the k-th of good places
pub place_good : (places : List FilePlace) (k : ℕ) → list_all good_place places ≡ true → (wide (place_at places k).address ≡ true) × (wide (place_at places k).size ≡ true)
unfolding wide
place_good [] k h = (refl, refl)
place_good (p ∷ ps) zero h =
    let a = and_parts (good_place p) (list_all good_place ps) h in
    let b = and_parts (wordable p.name) (wide p.address && wide p.size) a.0 in
    and_parts (wide p.address) (wide p.size) b.1
place_good (p ∷ ps) (suc k) h = place_good ps k (and_parts (good_place p) (list_all good_place ps) h).1

wordy_kernel : wordy (codes "kernel") ≡ true
unfolding is_blank is_script_byte
wordy_kernel = refl

wordy_ramdisk : wordy (codes "ramdisk") ≡ true
unfolding is_blank is_script_byte
wordy_ramdisk = refl

wordy_passthrough : wordy (codes "passthrough") ≡ true
unfolding is_blank is_script_byte
wordy_passthrough = refl

guest_module : (n : ℕ) (name kind : List ℕ) (places : List FilePlace) (k : ℕ) → wordy name ≡ true → quotable (codes "multiboot," ++ kind) ≡ true → list_all good_place places ≡ true → AllGood (module_at (guest_path n) name kind (place_at places k))
guest_module n name kind places k w q h = let p = place_good places k h in good_module (guest_path n) name kind (place_at places k) (good_guest_path n) (good_child_path n name w) w q p.0 p.1

good_kernel : (n : ℕ) (cmd : Option (List ℕ)) (places : List FilePlace) → good_option cmd ≡ true → list_all good_place places ≡ true → AllGood (kernel_commands (guest_path n) cmd (place_at places 0))
unfolding kernel_commands is_blank is_script_byte
good_kernel n None places c h = AllGood-append _ [] (guest_module n (codes "kernel") (codes "kernel") places 0 wordy_kernel refl h) tt
good_kernel n (Some cmd) places c h = AllGood-append _ _ (guest_module n (codes "kernel") (codes "kernel") places 0 wordy_kernel refl h)
    (good_word (below (guest_path n) (codes "kernel")) (codes "bootargs") cmd (good_child_path n (codes "kernel") wordy_kernel) refl c, tt)

good_others : (n : ℕ) (ramdisk partial : Bool) (places : List FilePlace) → list_all good_place places ≡ true → AllGood (other_modules (guest_path n) ramdisk partial places)
unfolding other_modules is_blank is_script_byte
good_others n ramdisk partial places h =
    AllGood-append _ _ (AllGood-on ramdisk _ (guest_module n (codes "ramdisk") (codes "ramdisk") places 1 wordy_ramdisk refl h))
    (AllGood-on partial _ (guest_module n (codes "passthrough") (codes "device-tree") places (1 + one_if ramdisk) wordy_passthrough refl h))

good_shared : (n : ℕ) (kg : ℕ × ShmGroup) → good_region kg.1 ≡ true → AllGood (shared_commands (guest_path n) kg)
unfolding shared_commands is_blank is_script_byte
good_shared n (k, g) h =
    let a = and_parts (quotable g.id) (wide g.host && (wide g.guest && wide g.size)) h in
    let b = and_parts (wide g.host) (wide g.guest && wide g.size) a.1 in
    let c = and_parts (wide g.guest) (wide g.size) b.1 in
    let child = good_child_path n (numbered (codes "shm") k) (wordy_shm k) in (
      (good_guest_path n, good_name-wordy (numbered (codes "shm") k) (wordy_shm k)),
      (
        (child, refl, refl),
        (
          good_word (below (guest_path n) (numbered (codes "shm") k)) (codes "xen,shm-id") g.id child refl a.0,
          (
            good_cells (below (guest_path n) (numbered (codes "shm") k)) (codes "xen,shared-mem") (two_cells g.host ++ two_cells g.guest ++ two_cells g.size) child refl
                (all_cells (two_cells g.host ++ two_cells g.guest) (two_cells g.size) (all_cells (two_cells g.host) (two_cells g.guest) (wide_cells g.host (wide_is g.host b.0)) (wide_cells g.guest (wide_is g.guest c.0))) (wide_cells g.size (wide_is g.size c.1))),
            tt,
          ),
        ),
      ),
    )

good_channel : (n : ℕ) (guests : List Guest) (highest first : ℕ) (kg : ℕ × PortGroup) → good_port guests highest first kg ≡ true → AllGood (port_commands (guest_path n) guests highest first kg)
unfolding port_commands channel_commands is_blank is_script_byte
good_channel n guests highest first (k, g) h =
    let a = and_parts (is_cell (first + k)) (is_cell g.port && is_cell (peer_phandle guests highest g)) h in
    let b = and_parts (is_cell g.port) (is_cell (peer_phandle guests highest g)) a.1 in
    let child = good_child_path n (numbered (codes "evtchn") k) (wordy_evtchn k) in (
      (good_guest_path n, good_name-wordy (numbered (codes "evtchn") k) (wordy_evtchn k)),
      (
        (child, refl, refl),
        (
          good_cells (below (guest_path n) (numbered (codes "evtchn") k)) (codes "phandle") ((first + k) ∷ []) child refl (rw a.0 refl),
          (good_cells (below (guest_path n) (numbered (codes "evtchn") k)) (codes "xen,evtchn") (g.port ∷ peer_phandle guests highest g ∷ []) child refl (rw (b.0, b.1) refl), tt),
        ),
      ),
    )

numbered_regions : (k : ℕ) (gs : List ShmGroup) → list_all good_region gs ≡ true → list_all (λ (kg : ℕ × ShmGroup). good_region kg.1) (enumerate_from k gs) ≡ true
numbered_regions k [] h = refl
numbered_regions k (g ∷ gs) h = let a = and_parts (good_region g) (list_all good_region gs) h in rw a.0 (numbered_regions (k + 1) gs a.1)

pub good_guest_commands : (guests : List Guest) (highest n : ℕ) (g : Guest) (places : List FilePlace) → good_guest guests highest n g ≡ true → list_all good_place places ≡ true → AllGood (guest_commands guests highest n g places)
unfolding guest_commands module_commands link_commands
good_guest_commands guests highest n g places h p =
    let a = and_parts (good_option g.cmd) _ h in
    let b = and_parts (option_map_or (λ mib. wide (mib * 1024)) g.mem_mib true) _ a.1 in
    let c = and_parts (is_cell g.vcpus) _ b.1 in
    let d = and_parts (list_all good_range g.static_mem) _ c.1 in
    let e = and_parts (list_all good_region g.shared_mem) _ d.1 in
    AllGood-append _ _ (AllGood-append _ _ (good_domain n g b.0 c.0 d.0) (AllGood-append _ _ (good_kernel n g.cmd places a.0 p) (good_others n (is_some g.ramdisk) (is_some g.passthrough_dtb) places p)))
    (AllGood-append _ _ (AllGood-flat (shared_commands (guest_path n)) (λ (kg : ℕ × ShmGroup). good_region kg.1) (good_shared n) (enumerate_from 0 g.shared_mem) (numbered_regions 0 g.shared_mem e.0))
    (AllGood-flat (port_commands (guest_path n) guests highest (first_phandle guests highest n)) (good_port guests highest (first_phandle guests highest n)) (good_channel n guests highest (first_phandle guests highest n)) (enumerate_from 0 g.evtchns) e.1))

pub all_drop : {A : Type 0} (p : A → Bool) (k : ℕ) (xs : List A) → list_all p xs ≡ true → list_all p (drop k xs) ≡ true
all_drop p zero xs h = h
all_drop p (suc k) [] h = refl
all_drop p (suc k) (x ∷ xs) h = all_drop p k xs (and_parts (p x) (list_all p xs) h).1

-- all guests from guest n on can be spoken
abbrev pub good_guests : List Guest → ℕ → ℕ → List Guest → Bool
good_guests guests highest n [] = true
good_guests guests highest n (g ∷ gs) = good_guest guests highest n g && good_guests guests highest (n + 1) gs

pub good_guests_commands : (guests : List Guest) (highest n : ℕ) (gs : List Guest) (places : List FilePlace) → good_guests guests highest n gs ≡ true → list_all good_place places ≡ true → AllGood (guests_commands guests highest n gs places)
good_guests_commands guests highest n [] places h p = tt
good_guests_commands guests highest n (g ∷ gs) places h p =
    let k = and_parts (good_guest guests highest n g) (good_guests guests highest (n + 1) gs) h in
    AllGood-append _ _ (good_guest_commands guests highest n g places k.0 p) (good_guests_commands guests highest (n + 1) gs (drop (length (guest_files g)) places) k.1 (all_drop good_place (length (guest_files g)) places p))
