-- Lines that were added one after the other.
use Rattle.std.proofs.Common.{◌≡◌, ℕ, Bool, List, ◌++◌, length, map, option_map, append_assoc, Some, None}
use Rattle.std.specs.Prelude.{Option, IfSome, codes, decimal}
use Rattle.texts.specs.declared.ranges.BaseSize.{BaseSize}
use Rattle.ib_config.specs.declared.groups.PortGroup.{PortGroup}
use Rattle.ib_config.specs.declared.groups.ShmGroup.{ShmGroup}
use Rattle.ib_config.specs.declared.guests.Guest.{Guest}
use Rattle.ib_config.specs.declared.settings.Settings.{Settings}
use Rattle.ib_config_show.specs.Lines.{line, optional_line, groups_line}
use Rattle.ib_config_show.specs.Shown.{kernel_lines, direct_line, static_lines, shared_lines, host_lines, domain_lines}
use Rattle.ib_config_show.specs.Words.{hex, range_words, shm_words, port_words}

-- two texts were added
pub added_2 : (t t1 t2 a b : List ℕ) → t1 ≡ t ++ a → t2 ≡ t1 ++ b → t2 ≡ t ++ (a ++ b)
added_2 t t1 t2 a b p q = rw (q, p) (append_assoc t a b)

-- three texts were added
pub added_3 : (t t1 t2 t3 a b c : List ℕ) → t1 ≡ t ++ a → t2 ≡ t1 ++ b → t3 ≡ t2 ++ c → t3 ≡ t ++ (a ++ b ++ c)
added_3 t t1 t2 t3 a b c p q r = added_2 t t2 t3 (a ++ b) c (added_2 t t1 t2 a b p q) r

-- four texts were added
pub added_4 : (t t1 t2 t3 t4 a b c d : List ℕ) → t1 ≡ t ++ a → t2 ≡ t1 ++ b → t3 ≡ t2 ++ c → t4 ≡ t3 ++ d → t4 ≡ t ++ (a ++ b ++ c ++ d)
added_4 t t1 t2 t3 t4 a b c d p q r s = added_2 t t3 t4 (a ++ b ++ c) d (added_3 t t1 t2 t3 a b c p q r) s

-- five texts were added
added_5 : (t t1 t2 t3 t4 t5 a b c d e : List ℕ) → t1 ≡ t ++ a → t2 ≡ t1 ++ b → t3 ≡ t2 ++ c → t4 ≡ t3 ++ d → t5 ≡ t4 ++ e → t5 ≡ t ++ (a ++ b ++ c ++ d ++ e)
added_5 t t1 t2 t3 t4 t5 a b c d e p q r s u = added_2 t t4 t5 (a ++ b ++ c ++ d) e (added_4 t t1 t2 t3 t4 a b c d p q r s) u

-- the lines of the host were added
pub host_added : (s : Settings) (t t1 t2 t3 t4 t5 : List ℕ) → t1 ≡ t ++ line (codes "MEMORY_START") None (hex s.memory_start) → t2 ≡ t1 ++ line (codes "MEMORY_END") None (hex s.memory_end)
    → t3 ≡ t2 ++ line (codes "DEVICE_TREE") None s.device_tree → t4 ≡ t3 ++ line (codes "XEN") None s.xen → t5 ≡ t4 ++ line (codes "XEN_CMD") None s.xen_cmd → t5 ≡ t ++ host_lines s
unfolding host_lines
host_added s t t1 t2 t3 t4 t5 a b c d e = added_5 t t1 t2 t3 t4 t5 _ _ _ _ _ a b c d e

-- the lines of dom0 and of the number of guests were added
pub domains_added : (s : Settings) (t t1 t2 t3 t4 : List ℕ) → t1 ≡ t ++ optional_line (codes "DOM0_KERNEL") None s.dom0_kernel → t2 ≡ t1 ++ optional_line (codes "DOM0_RAMDISK") None s.dom0_ramdisk
    → t3 ≡ t2 ++ optional_line (codes "DOM0_CMD") None s.dom0_cmd → t4 ≡ t3 ++ line (codes "NUM_DOMUS") None (decimal (length s.guests)) → t4 ≡ t ++ domain_lines s
unfolding domain_lines
domains_added s t t1 t2 t3 t4 a b c d = added_4 t t1 t2 t3 t4 _ _ _ _ a b c d

-- the lines of a guest's files and its command line were added
pub kernel_added : (n : ℕ) (o : Option Guest) (kernel : List ℕ) (ramdisk cmd : Option (List ℕ)) (t t1 t2 t3 : List ℕ) → option_map (λ g. g.kernel) o ≡ Some kernel → option_map (λ g. g.ramdisk) o ≡ Some ramdisk
    → option_map (λ g. g.cmd) o ≡ Some cmd → t1 ≡ t ++ line (codes "DOMU_KERNEL") (Some n) kernel → t2 ≡ t1 ++ optional_line (codes "DOMU_RAMDISK") (Some n) ramdisk
    → t3 ≡ t2 ++ optional_line (codes "DOMU_CMD") (Some n) cmd → IfSome o (λ g. t3 ≡ t ++ kernel_lines n g)
unfolding kernel_lines
kernel_added n None kernel ramdisk cmd t t1 t2 t3 k r m a b c = tt
kernel_added n (Some g) kernel ramdisk cmd t t1 t2 t3 k r m a b c =
    added_3 t t1 t2 t3 (line (codes "DOMU_KERNEL") (Some n) g.kernel) (optional_line (codes "DOMU_RAMDISK") (Some n) g.ramdisk) (optional_line (codes "DOMU_CMD") (Some n) g.cmd) (cc) (cc) (cc)

-- the lines of a guest's static memory were added
pub static_added : (n : ℕ) (o : Option Guest) (ranges : List BaseSize) (direct : Bool) (t t1 t2 : List ℕ) → option_map (λ g. g.static_mem) o ≡ Some ranges → option_map (λ g. g.direct_map) o ≡ Some direct
    → t1 ≡ t ++ groups_line (codes "DOMU_STATIC_MEM") (Some n) (map range_words ranges) → t2 ≡ t1 ++ direct_line n ranges direct → IfSome o (λ g. t2 ≡ t ++ static_lines n g)
unfolding static_lines
static_added n None ranges direct t t1 t2 r d a b = tt
static_added n (Some g) ranges direct t t1 t2 r d a b = added_2 t t1 t2 (groups_line (codes "DOMU_STATIC_MEM") (Some n) (map range_words g.static_mem)) (direct_line n g.static_mem g.direct_map) (cc) (cc)

-- the lines of what a guest has of the host and shares were added
pub shared_added : (n : ℕ) (o : Option Guest) (partial : Option (List ℕ)) (regions : List ShmGroup) (ports : List PortGroup) (t t1 t2 t3 : List ℕ) → option_map (λ g. g.passthrough_dtb) o ≡ Some partial
    → option_map (λ g. g.shared_mem) o ≡ Some regions → option_map (λ g. g.evtchns) o ≡ Some ports → t1 ≡ t ++ optional_line (codes "DOMU_PASSTHROUGH_DTB") (Some n) partial
    → t2 ≡ t1 ++ groups_line (codes "DOMU_SHARED_MEM") (Some n) (map shm_words regions) → t3 ≡ t2 ++ groups_line (codes "DOMU_EVTCHNS") (Some n) (map port_words ports) → IfSome o (λ g. t3 ≡ t ++ shared_lines n g)
unfolding shared_lines
shared_added n None partial regions ports t t1 t2 t3 p r q a b c = tt
shared_added n (Some g) partial regions ports t t1 t2 t3 p r q a b c =
    added_3 t t1 t2 t3 (optional_line (codes "DOMU_PASSTHROUGH_DTB") (Some n) g.passthrough_dtb) (groups_line (codes "DOMU_SHARED_MEM") (Some n) (map shm_words g.shared_mem))
    (groups_line (codes "DOMU_EVTCHNS") (Some n) (map port_words g.evtchns)) (cc) (cc) (cc)
