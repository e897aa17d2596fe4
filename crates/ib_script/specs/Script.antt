-- The script of a configuration, as ImageBuilder's uboot-script-gen writes it for a dom0less boot.
use Rattle.std.specs.Prelude.{◌≡◌, ℕ, ◌+◌, ◌-◌, Bool, not, is_some, List, [], ◌∷◌, ◌++◌, map, length, drop, Option, Result, Ok, Err, codes, if◌then◌else◌}
use Rattle.ib_config.specs.declared.settings.Settings.{Settings}
use Rattle.ib_placement.specs.Placement.{dom0_files}
use Rattle.ib_placement.specs.declared.places.FilePlace.{FilePlace}
use Rattle.ib_script.specs.Guests.{guests_commands}
use Rattle.ib_script.specs.Phandles.{has_phandles}
use Rattle.ib_script.specs.Properties.{word, on, on_some, two_and_two, module_at, place_at, one_if}
use Rattle.ib_script.specs.declared.command.Command.{Command}
use Rattle.ib_script.specs.declared.command.Command.TheVariants.{Load, Addr, Resize, Mknod, Set, SetEnv, Booti}
use Rattle.ib_script.specs.declared.make.HostFacts.{HostFacts}
use Rattle.ib_script.specs.declared.make.LoadKind.{LoadKind}
use Rattle.ib_script.specs.declared.make.LoadKind.TheVariants.{Tftp, Sd, Scsi, Usb}
use Rattle.ib_script.specs.declared.make.MakeFault.{MakeFault}
use Rattle.ib_script.specs.declared.make.MakeFault.TheVariants.{NoPhandle, Memory}

-- the words of the command that loads a file
abbrev pub load_words : LoadKind → List ℕ
load_words Tftp = codes "tftpb"
load_words Sd = codes "load mmc 0:1"
load_words Scsi = codes "load scsi 0:1"
load_words Usb = codes "load usb 0:1"

-- a file is loaded to its place
abbrev pub load_command : LoadKind → FilePlace → Command
load_command kind place = Load (load_words kind) place.address place.name

-- the tree at an address is taken and made larger, and has `/chosen` afterwards
unfoldable pub tree_commands : ℕ → Bool → List Command
tree_commands tree chosen = (Addr tree ∷ Resize 0x80000 ∷ []) ++ on (not chosen) (Mknod (codes "/") (codes "chosen") ∷ [])

-- `/chosen` has the command line of Xen, and cells for the addresses and sizes below it
unfoldable pub chosen_commands : List ℕ → List Command
chosen_commands cmd = two_and_two (codes "/chosen") ++ Set (codes "/chosen") (codes "xen,xen-bootargs") (word cmd) ∷ []

-- dom0's kernel, command line and ramdisk, as far as they are set; its files have the first of the places
unfoldable pub dom0_commands : Bool → Option (List ℕ) → Bool → List FilePlace → List Command
dom0_commands kernel cmd ramdisk places =
    on kernel (module_at (codes "/chosen") (codes "dom0") (codes "kernel") (place_at places 0))
    ++ on_some cmd (λ cmd. Set (codes "/chosen") (codes "xen,dom0-bootargs") (word cmd) ∷ [])
    ++ on ramdisk (module_at (codes "/chosen") (codes "dom0-ramdisk") (codes "ramdisk") (place_at places (one_if kernel)))

-- dom0 and the guests, whose files have the first of the places
unfoldable pub domains_commands : Settings → ℕ → List FilePlace → List Command
domains_commands settings highest places =
    dom0_commands (is_some settings.dom0_kernel) settings.dom0_cmd (is_some settings.dom0_ramdisk) places
    ++ guests_commands settings.guests highest 0 settings.guests (drop (length (dom0_files settings)) places)

-- Xen is started with the tree, which stays where it is
unfoldable pub start_commands : ℕ → ℕ → List Command
start_commands xen tree = SetEnv (codes "fdt_high") (codes "0xffffffffffffffff") ∷ Booti xen tree ∷ []

-- the address of the host's device tree, which has the last place
abbrev pub tree_address : List FilePlace → ℕ
tree_address places = (place_at places (length places - 1)).address

-- The whole script. The first place is Xen's, then come those of dom0, of the guests, and of the device tree.
unfoldable pub script_of : Settings → List FilePlace → HostFacts → LoadKind → List Command
script_of settings places facts kind =
    map (load_command kind) places
    ++ tree_commands (tree_address places) facts.chosen
    ++ chosen_commands settings.xen_cmd
    ++ domains_commands settings facts.highest (drop 1 places)
    ++ start_commands (place_at places 0).address (tree_address places)

-- the script; or NoPhandle with the highest phandle of the host tree, where that and the number of port groups come to more than 0xfffffffe
unfoldable pub made_of : Settings → List FilePlace → HostFacts → LoadKind → Result (List Command) MakeFault
made_of settings places facts kind = if has_phandles settings.guests facts.highest then Ok (script_of settings places facts kind) else Err (NoPhandle facts.highest)

-- a call answered this fault, or ran out of memory
abbrev pub IsFault : {Y : Type 0} → MakeFault → Result Y MakeFault → Type 0
IsFault Memory found = Unit {0}
IsFault fault found = found ≡ Err fault

-- what a call answered is what the definition gives, unless memory ran out
abbrev pub Gives : {X : Type 0} → Result X MakeFault → Result X MakeFault → Type 0
Gives (Ok x) found = found ≡ Ok x
Gives (Err fault) found = IsFault fault found
