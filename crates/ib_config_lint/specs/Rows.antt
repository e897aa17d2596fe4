-- What U-Boot 2023.01 and Xen 4.17 trip over in a variable's value: each row with what was seen under an emulator.
use Rattle.std.specs.Prelude.{ℕ, ◌+◌, Bool, false, not, ◌&&◌, ◌||◌, ◌==◌, List, [], ◌∷◌, length, nat_lt, is_none}
use Rattle.std.specs.List.{list_any}
use Rattle.texts.specs.declared.ranges.BaseSize.{BaseSize}
use Rattle.ib_config.specs.Runs.{first_is, is_empty}
use Rattle.ib_config.specs.declared.groups.PortGroup.{PortGroup}
use Rattle.ib_config.specs.declared.guests.Guest.{Guest}
use Rattle.ib_config.specs.declared.settings.Settings.{Settings}
use Rattle.ib_placement.specs.Placement.{files_of}

-- a text with a `'`, which U-Boot's shell reads as a quote also within double quotes: a syntax error ends the script, or lines vanish into a text
abbrev pub has_quote : List ℕ → Bool
has_quote text = list_any (λ c. c == 39) text

-- a text that begins with `<` or `[`, which U-Boot's `fdt set` reads as cells or bytes: the property is missing
abbrev pub begins_as_cells : List ℕ → Bool
begins_as_cells text = first_is (λ c. (c == 60) || (c == 91)) text

-- a text of more than 1,023 characters, which U-Boot's `fdt set` writes past its buffer
abbrev pub is_long : List ℕ → Bool
is_long text = nat_lt 1023 (length text)

-- a file name with a `:`, before which U-Boot's `tftpb` takes a server's address to stand
abbrev pub has_colon : List ℕ → Bool
has_colon name = list_any (λ c. c == 58) name

-- more than 62 ranges of static memory, whose line has more words than U-Boot takes: the property is missing, and the guest gets heap memory
abbrev pub has_many_ranges : List BaseSize → Bool
has_many_ranges ranges = nat_lt 62 (length ranges)

-- static memory without DOMU_MEM, where Xen 4.17 wants the property `memory` of each guest
abbrev pub lacks_memory : Guest → Bool
lacks_memory guest = not (is_empty guest.static_mem) && is_none guest.mem_mib

-- one of some ranges, laid one behind the other behind so many bytes, begins before the end of a bank of 3 GiB and ends behind it
abbrev pub crosses_behind : ℕ → List BaseSize → Bool
crosses_behind before [] = false
crosses_behind before (range ∷ later) = (nat_lt before 0xc0000000 && nat_lt 0xc0000000 (before + range.size)) || crosses_behind (before + range.size) later

-- a range of static memory that lies over the end of the guest's first bank, which Xen 4.17 miscounts. The ranges of a guest that is not
-- direct-mapped are laid into its banks in order; the first has 0xc0000000 bytes from 0x40000000 on (Xen's public/arch-arm.h, GUEST_RAM0_SIZE)
abbrev pub crosses_bank : Guest → Bool
crosses_bank guest = not guest.direct_map && crosses_behind 0 guest.static_mem

-- a port above 1,023, which Xen's evtchn_alloc_unbound does not give. The peer's port is a port of the peer, and is tested there
abbrev pub has_high_port : List PortGroup → Bool
has_high_port groups = list_any (λ (group : PortGroup). nat_lt 1023 group.port) groups

-- more than 32 files, the host tree among them: Xen keeps no more boot modules, and misses the kernel of a guest
abbrev pub has_many_files : Settings → Bool
has_many_files settings = nat_lt 32 (length (files_of settings))

-- two guests or more: U-Boot puts new nodes first, so that domUk of n guests is Xen's domain n - k
abbrev pub has_guests : Settings → Bool
has_guests settings = nat_lt 1 (length settings.guests)
