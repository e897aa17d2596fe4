-- The memory of a configuration's guests is bounded.
use Rattle.std.proofs.Common.{◌≡◌, ℕ, zero, suc, ◌≤◌, Bool, true, false, List, [], ◌∷◌, slice_get, Some, None, Ok, Err, refl, ap, arith}
use Rattle.std.specs.Prelude.{Option, Result, IfSome, ok_or, option_map, if◌then◌else◌}
use Rattle.std.specs.Option.{option_map_or}
use Rattle.std.specs.Result.{result_map_both}
use Rattle.texts.specs.Consecutive.{numbers}
use Rattle.ib_config.specs.Rules.{number, number_between}
use Rattle.ib_config.specs.Line.{lines_of, first_line_fault, assignments_of}
use Rattle.ib_config.specs.Variables as table
use Rattle.ib_config.specs.Variables.{Assigned, Wrong, assigned_in, value_of, text_of, optional_by}
use Rattle.ib_config.specs.declared.fault.ConfigFault.TheVariants.{BadValue}
use Rattle.ib_config.specs.Settings.{config_of, settings_of, guest_settings, each, IsConfig, is_static, direct_value, ports_at}
use Rattle.ib_config.specs.declared.fault.ConfigFault.{ConfigFault}
use Rattle.ib_config.specs.declared.guests.Guest.{Guest}
use Rattle.ib_config.specs.declared.settings.Settings.{Settings}
use Rattle.ib_placement.proofs.ConfigBounds.{after, between}

-- a number of MiB is at most this
abbrev pub IsBounded : Option ℕ → Type 0
IsBounded mib = IfSome mib (λ mib. mib ≤ 1048576)

-- the memory that is read, or the default
of_rule : (r : Option ℕ) (mib : Option ℕ) (named : Wrong → ConfigFault) → IsBounded r → result_map_both (λ x. x) named (ok_or (option_map Some r) BadValue) ≡ Ok mib → IsBounded mib
of_rule None mib named bounded is = absurd (cc)
of_rule (Some m) mib named bounded is = let same : Some m ≡ mib = cc in rw (← same) bounded

of_default : (static : Bool) (mib : Option ℕ) (named : Wrong → ConfigFault) → result_map_both (λ x. x) named (Ok (if static then None else Some 512)) ≡ Ok mib → IsBounded mib
of_default true mib named is = let same : None ≡ mib = cc in rw (← same) tt
of_default false mib named is = let same : Some 512 ≡ mib = cc in rw (← same) (omega arith)

rule_bounded : (text : List ℕ) → IsBounded (number_between 1 1048576 text)
rule_bounded text = by (number_between 1 1048576 text) refl
  where
    by : (o : Option ℕ) → number_between 1 1048576 text ≡ o → IsBounded o
    by None read = tt
    by (Some n) read = between 1 1048576 n text read

of_text : (static : Bool) (mib : Option ℕ) (named : Wrong → ConfigFault) (text : Option (List ℕ))
    → result_map_both (λ x. x) named (option_map_or (optional_by (number_between 1 1048576)) text (Ok (if static then None else Some 512))) ≡ Ok mib → IsBounded mib
of_text static mib named None is = of_default static mib named is
of_text static mib named (Some text) is = of_rule (number_between 1 1048576 text) mib named (rule_bounded text) is

value_bounded : (assigned : Assigned) (static : Bool) (n : ℕ) (mib : Option ℕ) → value_of assigned (table.DOMU_MEM static) (Some n) ≡ Ok mib → IsBounded mib
unfolding value_of
value_bounded assigned static n mib is = of_text static mib _ (text_of assigned (table.DOMU_MEM static) (Some n)) is

-- the memory of a guest
mem_in : Result Guest ConfigFault → Option ℕ
mem_in (Ok guest) = guest.mem_mib
mem_in (Err fault) = None

abbrev HasBounded : Guest → Type 0
HasBounded guest = IsBounded guest.mem_mib

guest_bounded : (assigned : Assigned) (count n : ℕ) (g : Guest) → guest_settings assigned count n ≡ Ok g → HasBounded g
unfolding guest_settings mem_in
guest_bounded assigned count n g is =
    after (HasBounded g) (value_of assigned table.DOMU_KERNEL (Some n)) _ g is (λ kernel kernel_is rest.
    after (HasBounded g) (value_of assigned table.DOMU_RAMDISK (Some n)) _ g rest (λ ramdisk ramdisk_is rest.
    after (HasBounded g) (value_of assigned table.DOMU_CMD (Some n)) _ g rest (λ cmd cmd_is rest.
    after (HasBounded g) (value_of assigned (table.DOMU_MEM (is_static assigned n)) (Some n)) _ g rest (λ mem mem_is rest.
    after (HasBounded g) (value_of assigned table.DOMU_VCPUS (Some n)) _ g rest (λ vcpus vcpus_is rest.
    after (HasBounded g) (value_of assigned table.DOMU_VPL011 (Some n)) _ g rest (λ vpl011 vpl011_is rest.
    after (HasBounded g) (value_of assigned table.DOMU_STATIC_MEM (Some n)) _ g rest (λ static_mem static_is rest.
    after (HasBounded g) (direct_value assigned (is_static assigned n) n) _ g rest (λ direct direct_is rest.
    after (HasBounded g) (value_of assigned table.DOMU_PASSTHROUGH_DTB (Some n)) _ g rest (λ partial partial_is rest.
    after (HasBounded g) (value_of assigned table.DOMU_SHARED_MEM (Some n)) _ g rest (λ shared shared_is rest.
    after (HasBounded g) (value_of assigned (table.DOMU_EVTCHNS (ports_at assigned) count) (Some n)) _ g rest (λ ports ports_are rest.
    let same : mem ≡ g.mem_mib = ap mem_in rest in
    rw (← same) (value_bounded assigned (is_static assigned n) n mem mem_is))))))))))))

-- the guests that were read
each_holds : (P : Guest → Type 0) (f : ℕ → Result Guest ConfigFault) → ((n : ℕ) (g : Guest) → f n ≡ Ok g → P g) → (ns : List ℕ) (guests : List Guest) → each f ns ≡ Ok guests → (k : ℕ)
    → IfSome (slice_get guests k) P
each_holds P f each_one [] guests is k = let none : [] ≡ guests = cc in rw (← none) tt
each_holds P f each_one (n ∷ ns) guests is k =
    after (IfSome (slice_get guests k) P) (f n) _ guests is (λ first first_is rest.
    after (IfSome (slice_get guests k) P) (each f ns) _ guests rest (λ others others_are rest.
    let all : (first ∷ others) ≡ guests = cc in
    rw (← all) (by first others (each_one n first first_is) (each_holds P f each_one ns others others_are) k)))
  where
    by : (first : Guest) (others : List Guest) → P first → ((k : ℕ) → IfSome (slice_get others k) P) → (k : ℕ) → IfSome (slice_get (first ∷ others) k) P
    by first others holds hold zero = holds
    by first others holds hold (suc k) = hold k

guests_in : Result Settings ConfigFault → List Guest
guests_in (Ok settings) = settings.guests
guests_in (Err fault) = []

settings_bounded : (assigned : Assigned) (s : Settings) (k : ℕ) → settings_of assigned ≡ Ok s → IfSome (slice_get s.guests k) HasBounded
unfolding settings_of guests_in
settings_bounded assigned s k is =
    after (IfSome (slice_get s.guests k) HasBounded) (value_of assigned table.MEMORY_START None) _ s is (λ start start_is rest.
    after (IfSome (slice_get s.guests k) HasBounded) (value_of assigned table.MEMORY_END None) _ s rest (λ end end_is rest.
    after (IfSome (slice_get s.guests k) HasBounded) (value_of assigned table.DEVICE_TREE None) _ s rest (λ device_tree device_tree_is rest.
    after (IfSome (slice_get s.guests k) HasBounded) (value_of assigned table.XEN None) _ s rest (λ xen xen_is rest.
    after (IfSome (slice_get s.guests k) HasBounded) (value_of assigned table.XEN_CMD None) _ s rest (λ xen_cmd xen_cmd_is rest.
    after (IfSome (slice_get s.guests k) HasBounded) (value_of assigned table.DOM0_KERNEL None) _ s rest (λ dom0_kernel dom0_kernel_is rest.
    after (IfSome (slice_get s.guests k) HasBounded) (value_of assigned table.DOM0_RAMDISK None) _ s rest (λ dom0_ramdisk dom0_ramdisk_is rest.
    after (IfSome (slice_get s.guests k) HasBounded) (value_of assigned table.DOM0_CMD None) _ s rest (λ dom0_cmd dom0_cmd_is rest.
    after (IfSome (slice_get s.guests k) HasBounded) (value_of assigned table.NUM_DOMUS None) _ s rest (λ count count_is rest.
    after (IfSome (slice_get s.guests k) HasBounded) (each (guest_settings assigned count) (numbers 0 count)) _ s rest (λ guests guests_are rest.
    let same : guests ≡ s.guests = ap guests_in rest in
    rw (← same) (each_holds HasBounded (guest_settings assigned count) (λ n g. guest_bounded assigned count n g) (numbers 0 count) guests guests_are k)))))))))))

-- each guest of a configuration
config_bounded : (s : Settings) (k : ℕ) → IsConfig s → IfSome (slice_get s.guests k) HasBounded
unfolding config_of
config_bounded s k (bytes, short, is) = by (first_line_fault 1 (lines_of bytes)) is
  where
    by : (fault : Option ConfigFault) → option_map_or Err fault (settings_of (assigned_in (assignments_of bytes))) ≡ Ok s → IfSome (slice_get s.guests k) HasBounded
    by None read = settings_bounded (assigned_in (assignments_of bytes)) s k read
    by (Some fault) read = absurd (cc)

-- the memory that a configuration says of a guest
pub memory_bounded : (s : Settings) (k : ℕ) (mib : Option ℕ) → IsConfig s → option_map (λ (g : Guest). g.mem_mib) (slice_get s.guests k) ≡ Some mib → IsBounded mib
memory_bounded s k mib config is = by (slice_get s.guests k) is (config_bounded s k config)
  where
    by : (o : Option Guest) → option_map (λ (g : Guest). g.mem_mib) o ≡ Some mib → IfSome o HasBounded → IsBounded mib
    by None none bounded = absurd (cc)
    by (Some g) some bounded = let same : g.mem_mib ≡ mib = cc in rw (← same) bounded
