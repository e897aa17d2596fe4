-- The settings that a file says can be spoken in a script.
use Rattle.std.proofs.Common.{◌≡◌, ℕ, ◌+◌, ◌*◌, ◌^◌, ◌<◌, ◌≤◌, Bool, true, false, cond, List, [], ◌∷◌, Option, Some, None, Ok, Err, length, refl, ap, subst, arith}
use Rattle.std.specs.Prelude.{Result, codes, option_to_list}
use Rattle.std.specs.Option.{option_map_or}
use Rattle.std.specs.List.{list_all}
use Rattle.std.proofs.lemmas.Bool.Decides.{nat_tests}
use Rattle.texts.specs.Consecutive.{numbers}
use Rattle.texts.specs.declared.ranges.BaseSize.{BaseSize}
use Rattle.ib_config.specs.Line.{lines_of, first_line_fault, assignments_of}
use Rattle.ib_config.specs.Rules.{number_between, file_name, static_ranges, shared_regions, event_channels}
use Rattle.ib_config.specs.Variables as table
use Rattle.ib_config.specs.Variables.{Assigned, assigned_in, value_of, required_file, optional_file, optional}
use Rattle.ib_config.specs.Settings.{config_of, settings_of, guest_settings, each, IsConfig, is_static, direct_value, ports_at}
use Rattle.ib_config.specs.declared.fault.ConfigFault.{ConfigFault}
use Rattle.ib_config.specs.declared.fault.ConfigFault.TheVariants.{BadValue}
use Rattle.ib_config.specs.declared.groups.ShmGroup.{ShmGroup}
use Rattle.ib_config.specs.declared.groups.PortGroup.{PortGroup}
use Rattle.ib_config.specs.declared.guests.Guest.{Guest}
use Rattle.ib_config.specs.declared.settings.Settings.{Settings}
use Rattle.ib_config.proofs.GuestLemmas.{guest_number}
use Rattle.ib_placement.specs.Placement.{dom0_files, guest_files}
use Rattle.script_run.specs.Words.{is_script_byte}
use Rattle.script_run.proofs.CommandLemmas.{wordable, is_cell}
use Rattle.script_run.proofs.Printed.{quotable}
use Rattle.script_run.proofs.GoodPaths.{wide}
use Rattle.script_run.proofs.GoodGuests.{good_option, good_range, good_region}
use Rattle.script_run.proofs.Extensions.{all_both}
use Rattle.script_run.proofs.AssignedTexts.{Holds, file_texts, texts_held}
use Rattle.script_run.proofs.SpokenValues.{value_holds, rule_some, optional_some, between_high, text_quotable, file_wordable, ranges_good, regions_good, has_cell, channels_good, guest_count_low}
use Rattle.ib_placement.proofs.ConfigBounds.{after}

-- the value of a result, or another
abbrev value_in : {A E : Type 0} → A → Result A E → A
value_in other (Ok x) = x
value_in other (Err fault) = other

-- The variables of a file.
module _ (limit : ℕ) (assigned : Assigned) (held : Holds limit assigned) where
  file_holds : (name : List ℕ) (index : Option ℕ) (x : List ℕ) → value_of assigned (required_file name) index ≡ Ok x → wordable x ≡ true
  file_holds name index x is =
      value_holds (λ (w : List ℕ). wordable w ≡ true) limit assigned (required_file name) index x held
      (λ text ok y e. file_wordable text y (rule_some (file_name text) BadValue y e)) (λ y e. cc) is

  optional_file_holds : (name : List ℕ) (index : Option ℕ) (x : Option (List ℕ)) → value_of assigned (optional_file name) index ≡ Ok x → list_all wordable (option_to_list x) ≡ true
  optional_file_holds name index x is =
      value_holds (λ (w : Option (List ℕ)). list_all wordable (option_to_list w) ≡ true) limit assigned (optional_file name) index x held
      (λ text ok y e. optional_some (λ (w : Option (List ℕ)). list_all wordable (option_to_list w) ≡ true) (file_name text) BadValue y (λ z f. rw (file_wordable text z f) refl) e)
      (λ y e. let none : None ≡ y = cc in subst (λ (w : Option (List ℕ)). list_all wordable (option_to_list w) ≡ true) none refl) is

  optional_text_holds : (name : List ℕ) (index : Option ℕ) (x : Option (List ℕ)) → value_of assigned (optional name Some None) index ≡ Ok x → good_option x ≡ true
  optional_text_holds name index x is =
      value_holds (λ (w : Option (List ℕ)). good_option w ≡ true) limit assigned (optional name Some None) index x held
      (λ text ok y e. optional_some (λ (w : Option (List ℕ)). good_option w ≡ true) (Some text) BadValue y (λ z f. let same : text ≡ z = cc in subst (λ (w : List ℕ). quotable w ≡ true) same (text_quotable limit text ok)) e)
      (λ y e. let none : None ≡ y = cc in subst (λ (w : Option (List ℕ)). good_option w ≡ true) none refl) is

  xen_cmd_holds : (x : List ℕ) → value_of assigned table.XEN_CMD None ≡ Ok x → quotable x ≡ true
  unfolding is_script_byte
  xen_cmd_holds x is =
      value_holds (λ (w : List ℕ). quotable w ≡ true) limit assigned table.XEN_CMD None x held
      (λ text ok y e. let same : text ≡ y = cc in subst (λ (w : List ℕ). quotable w ≡ true) same (text_quotable limit text ok))
      (λ y e. let same : codes "console=dtuart" ≡ y = cc in subst (λ (w : List ℕ). quotable w ≡ true) same refl) is

  count_holds : (count : ℕ) → value_of assigned table.NUM_DOMUS None ≡ Ok count → count ≤ 16
  count_holds count is =
      value_holds (λ (n : ℕ). n ≤ 16) limit assigned table.NUM_DOMUS None count held
      (λ text ok y e. guest_count_low text y e) (λ y e. let same : 0 ≡ y = cc in omega arith) is

  mem_fits : (n : ℕ) → n ≤ 1048576 → wide (n * 1024) ≡ true
  unfolding wide
  mem_fits n h = grind (arith, nat_tests)

  mem_holds : (static : Bool) (n : ℕ) (x : Option ℕ) → value_of assigned (table.DOMU_MEM static) (Some n) ≡ Ok x → option_map_or (λ mib. wide (mib * 1024)) x true ≡ true
  mem_holds static n x is =
      value_holds (λ (w : Option ℕ). option_map_or (λ mib. wide (mib * 1024)) w true ≡ true) limit assigned (table.DOMU_MEM static) (Some n) x held
      (λ text ok y e. optional_some (λ (w : Option ℕ). option_map_or (λ mib. wide (mib * 1024)) w true ≡ true) (number_between 1 1048576 text) BadValue y
      (λ z f. mem_fits z (between_high 1 1048576 text z f)) e)
      (λ y e. by static y (ap (value_in None) e)) is
    where
      by : (b : Bool) (y : Option ℕ) → cond b None (Some 512) ≡ y → option_map_or (λ mib. wide (mib * 1024)) y true ≡ true
      by true y e = subst (λ (w : Option ℕ). option_map_or (λ mib. wide (mib * 1024)) w true ≡ true) e refl
      by false y e = subst (λ (w : Option ℕ). option_map_or (λ mib. wide (mib * 1024)) w true ≡ true) e (mem_fits 512 (omega arith))

  vcpus_holds : (n x : ℕ) → value_of assigned table.DOMU_VCPUS (Some n) ≡ Ok x → is_cell x ≡ true
  vcpus_holds n x is =
      value_holds (λ (w : ℕ). is_cell w ≡ true) limit assigned table.DOMU_VCPUS (Some n) x held
      (λ text ok y e. let high = between_high 1 128 text y (rule_some (number_between 1 128 text) BadValue y e) in grind (arith, nat_tests))
      (λ y e. let same : 1 ≡ y = cc in subst (λ (w : ℕ). is_cell w ≡ true) same refl) is

  static_holds : (n : ℕ) (x : List BaseSize) → value_of assigned table.DOMU_STATIC_MEM (Some n) ≡ Ok x → list_all good_range x ≡ true
  static_holds n x is =
      value_holds (λ (w : List BaseSize). list_all good_range w ≡ true) limit assigned table.DOMU_STATIC_MEM (Some n) x held
      (λ text ok y e. ranges_good text y (rule_some (static_ranges text) BadValue y e))
      (λ y e. let none : [] ≡ y = cc in subst (λ (w : List BaseSize). list_all good_range w ≡ true) none refl) is

  shared_holds : (n : ℕ) (x : List ShmGroup) → value_of assigned table.DOMU_SHARED_MEM (Some n) ≡ Ok x → (list_all good_region x ≡ true) × (length x ≤ limit + 1)
  shared_holds n x is =
      value_holds (λ (w : List ShmGroup). (list_all good_region w ≡ true) × (length w ≤ limit + 1)) limit assigned table.DOMU_SHARED_MEM (Some n) x held
      (λ text ok y e. regions_good limit text y ok (rule_some (shared_regions text) BadValue y e))
      (λ y e. let none : [] ≡ y = cc in subst (λ (w : List ShmGroup). (list_all good_region w ≡ true) × (length w ≤ limit + 1)) none (refl, omega arith)) is

  ports_hold : (ports : ℕ → List PortGroup) (count n : ℕ) (x : List PortGroup) → value_of assigned (table.DOMU_EVTCHNS ports count) (Some n) ≡ Ok x → list_all has_cell x ≡ true
  ports_hold ports count n x is =
      value_holds (λ (w : List PortGroup). list_all has_cell w ≡ true) limit assigned (table.DOMU_EVTCHNS ports count) (Some n) x held
      (λ text ok y e. channels_good ports count text y (rule_some (event_channels ports count text) BadValue y e))
      (λ y e. let none : [] ≡ y = cc in subst (λ (w : List PortGroup). list_all has_cell w ≡ true) none refl) is

-- a guest whose fields can be spoken
pub record IsSpokenGuest (limit : ℕ) (g : Guest) : Type 0 where
  pub files : list_all wordable (guest_files g) ≡ true
  pub cmd : good_option g.cmd ≡ true
  pub mem : option_map_or (λ mib. wide (mib * 1024)) g.mem_mib true ≡ true
  pub vcpus : is_cell g.vcpus ≡ true
  pub static : list_all good_range g.static_mem ≡ true
  pub shared : list_all good_region g.shared_mem ≡ true
  pub few : length g.shared_mem ≤ limit + 1
  pub ports : list_all has_cell g.evtchns ≡ true

abbrev pub AreSpoken : ℕ → List Guest → Type 0
AreSpoken limit [] = Unit {0}
AreSpoken limit (g ∷ gs) = IsSpokenGuest limit g × AreSpoken limit gs

-- settings whose fields can be spoken
pub record AreSpokenSettings (limit : ℕ) (s : Settings) : Type 0 where
  pub xen : wordable s.xen ≡ true
  pub device_tree : wordable s.device_tree ≡ true
  pub dom0 : list_all wordable (dom0_files s) ≡ true
  pub xen_cmd : quotable s.xen_cmd ≡ true
  pub dom0_cmd : good_option s.dom0_cmd ≡ true
  pub guests : AreSpoken limit s.guests
  pub number : length s.guests ≤ 16

guest_spoken : (limit : ℕ) (assigned : Assigned) → Holds limit assigned → (count n : ℕ) (g : Guest) → guest_settings assigned count n ≡ Ok g → IsSpokenGuest limit g
unfolding guest_settings
guest_spoken limit assigned held count n g is =
    let P : Type 0 = IsSpokenGuest limit g in
    after P (value_of assigned table.DOMU_KERNEL (Some n)) _ g is (λ kernel kernel_is rest.
    after P (value_of assigned table.DOMU_RAMDISK (Some n)) _ g rest (λ ramdisk ramdisk_is rest.
    after P (value_of assigned table.DOMU_CMD (Some n)) _ g rest (λ cmd cmd_is rest.
    after P (value_of assigned (table.DOMU_MEM (is_static assigned n)) (Some n)) _ g rest (λ mem mem_is rest.
    after P (value_of assigned table.DOMU_VCPUS (Some n)) _ g rest (λ vcpus vcpus_is rest.
    after P (value_of assigned table.DOMU_VPL011 (Some n)) _ g rest (λ vpl011 vpl011_is rest.
    after P (value_of assigned table.DOMU_STATIC_MEM (Some n)) _ g rest (λ static static_is rest.
    after P (direct_value assigned (is_static assigned n) n) _ g rest (λ direct direct_is rest.
    after P (value_of assigned table.DOMU_PASSTHROUGH_DTB (Some n)) _ g rest (λ partial partial_is rest.
    after P (value_of assigned table.DOMU_SHARED_MEM (Some n)) _ g rest (λ shared shared_is rest.
    after P (value_of assigned (table.DOMU_EVTCHNS (ports_at assigned) count) (Some n)) _ g rest (λ ports ports_are rest.
    let same : record { kernel = kernel; ramdisk = ramdisk; cmd = cmd; mem_mib = mem; vcpus = vcpus; vpl011 = vpl011; static_mem = static; direct_map = direct; passthrough_dtb = partial; shared_mem = shared; evtchns = ports } ≡ g = ap (value_in g) rest in
    let regions = shared_holds limit assigned held n shared shared_is in
    subst (IsSpokenGuest limit) same (record {
      files = rw (file_holds limit assigned held (codes "DOMU_KERNEL") (Some n) kernel kernel_is)
          (all_both wordable (option_to_list ramdisk) (option_to_list partial) (optional_file_holds limit assigned held (codes "DOMU_RAMDISK") (Some n) ramdisk ramdisk_is)
          (optional_file_holds limit assigned held (codes "DOMU_PASSTHROUGH_DTB") (Some n) partial partial_is));
      cmd = optional_text_holds limit assigned held (codes "DOMU_CMD") (Some n) cmd cmd_is;
      mem = mem_holds limit assigned held (is_static assigned n) n mem mem_is;
      vcpus = vcpus_holds limit assigned held n vcpus vcpus_is;
      static = static_holds limit assigned held n static static_is;
      shared = regions.0;
      few = regions.1;
      ports = ports_hold limit assigned held (ports_at assigned) count n ports ports_are;
    }))))))))))))

all_spoken : (limit : ℕ) (f : ℕ → Result Guest ConfigFault) → ((n : ℕ) (g : Guest) → f n ≡ Ok g → IsSpokenGuest limit g) → (ns : List ℕ) (gs : List Guest) → each f ns ≡ Ok gs → AreSpoken limit gs
all_spoken limit f one [] gs is = let none : [] ≡ gs = cc in subst (AreSpoken limit) none tt
all_spoken limit f one (n ∷ ns) gs is =
    after (AreSpoken limit gs) (f n) _ gs is (λ first first_is rest.
    after (AreSpoken limit gs) (each f ns) _ gs rest (λ others others_are rest.
    let same : first ∷ others ≡ gs = cc in
    subst (AreSpoken limit) same (one n first first_is, all_spoken limit f one ns others others_are)))

settings_spoken : (limit : ℕ) (assigned : Assigned) → Holds limit assigned → (s : Settings) → settings_of assigned ≡ Ok s → AreSpokenSettings limit s
unfolding settings_of
settings_spoken limit assigned held s is =
    let P : Type 0 = AreSpokenSettings limit s in
    after P (value_of assigned table.MEMORY_START None) _ s is (λ start start_is rest.
    after P (value_of assigned table.MEMORY_END None) _ s rest (λ end end_is rest.
    after P (value_of assigned table.DEVICE_TREE None) _ s rest (λ device_tree device_tree_is rest.
    after P (value_of assigned table.XEN None) _ s rest (λ xen xen_is rest.
    after P (value_of assigned table.XEN_CMD None) _ s rest (λ xen_cmd xen_cmd_is rest.
    after P (value_of assigned table.DOM0_KERNEL None) _ s rest (λ dom0_kernel dom0_kernel_is rest.
    after P (value_of assigned table.DOM0_RAMDISK None) _ s rest (λ dom0_ramdisk dom0_ramdisk_is rest.
    after P (value_of assigned table.DOM0_CMD None) _ s rest (λ dom0_cmd dom0_cmd_is rest.
    after P (value_of assigned table.NUM_DOMUS None) _ s rest (λ count count_is rest.
    after P (each (guest_settings assigned count) (numbers 0 count)) _ s rest (λ guests guests_are rest.
    let low : count ≤ 16 = count_holds limit assigned held count count_is in
    let number : length guests ≡ count = guest_number (guest_settings assigned count) count guests guests_are in
    let same = ap (value_in s) rest in
    subst (AreSpokenSettings limit) same (record {
      xen = file_holds limit assigned held (codes "XEN") None xen xen_is;
      device_tree = file_holds limit assigned held (codes "DEVICE_TREE") None device_tree device_tree_is;
      dom0 = all_both wordable (option_to_list dom0_kernel) (option_to_list dom0_ramdisk) (optional_file_holds limit assigned held (codes "DOM0_KERNEL") None dom0_kernel dom0_kernel_is)
          (optional_file_holds limit assigned held (codes "DOM0_RAMDISK") None dom0_ramdisk dom0_ramdisk_is);
      xen_cmd = xen_cmd_holds limit assigned held xen_cmd xen_cmd_is;
      dom0_cmd = optional_text_holds limit assigned held (codes "DOM0_CMD") None dom0_cmd dom0_cmd_is;
      guests = all_spoken limit (guest_settings assigned count) (λ n g. guest_spoken limit assigned held count n g) (numbers 0 count) guests guests_are;
      number = omega (arith, number, low);
    })))))))))))

-- What every configuration says can be spoken.
pub config_spoken : (s : Settings) → IsConfig s → (limit : ℕ) × (limit < 2 ^ 64) × AreSpokenSettings limit s
unfolding config_of
config_spoken s (bytes, short, is) = (length bytes, short, by (first_line_fault 1 (lines_of bytes)) refl is)
  where
    by : (fault : Option ConfigFault) → first_line_fault 1 (lines_of bytes) ≡ fault → option_map_or Err fault (settings_of (assigned_in (assignments_of bytes))) ≡ Ok s → AreSpokenSettings (length bytes) s
    by None none read = settings_spoken (length bytes) (assigned_in (assignments_of bytes)) (texts_held (length bytes) (assignments_of bytes) (file_texts bytes none)) s read
    by (Some fault) some read = cc
