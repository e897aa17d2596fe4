-- Where the devices of small hosts stand, as the definitions read it.
use Rattle.std.proofs.Common.{◌≡◌, refl, ℕ, List, [], ◌∷◌, Some, None}
use Rattle.std.specs.Prelude.{codes}
use Rattle.fdt_tree.specs.Tree.{Bytes, none, tree, Tree}
use Rattle.domain_bindings.specs.HostDevices.{areas_of, console_of}
use Rattle.domain_bindings.proofs.Instances.{cells, text, two_and_two}

-- a host with an interrupt controller of this `reg`, a serial line of 64 KiB, this output, and an alias that says this
abbrev pub with_devices : List ℕ → Bytes → Bytes → Tree
with_devices areas output alias = record {
  name = [];
  properties = two_and_two;
  children =
      tree (codes "gic") ((codes "#interrupt-cells", cells (3 ∷ [])) ∷ (codes "interrupt-controller", []) ∷ (codes "reg", cells areas) ∷ []) none
      (tree (codes "axi") two_and_two (tree (codes "serial@ff010000") ((codes "reg", cells (0 ∷ 0xff010000 ∷ 0 ∷ 0x10000 ∷ [])) ∷ []) none none)
      (tree (codes "chosen") ((codes "stdout-path", text output) ∷ []) none
      (tree (codes "aliases") ((codes "serial0", text alias) ∷ []) none none)));
}

abbrev pub two_areas : List ℕ
two_areas = 0 ∷ 0x8000000 ∷ 0 ∷ 0x10000 ∷ 0 ∷ 0x80a0000 ∷ 0 ∷ 0xf60000 ∷ []

abbrev pub line : Bytes
line = codes "/axi/serial@ff010000"

-- the areas, and a console by its path, behind which stand the settings of the line
pub areas_there : areas_of (with_devices two_areas line line) ≡ Some ((0x8000000, 0x10000), (0x80a0000, 0xf60000))
areas_there = refl

pub console_by_path : console_of (with_devices two_areas (codes "/axi/serial@ff010000:115200") line) ≡ Some 0xff010000
console_by_path = refl

-- by an alias, behind which settings stand too; an alias's path is taken as it stands
pub console_by_alias : console_of (with_devices two_areas (codes "serial0:115200n8") line) ≡ Some 0xff010000
console_by_alias = refl

pub alias_with_settings : console_of (with_devices two_areas (codes "serial0") (codes "/axi/serial@ff010000:115200")) ≡ None
alias_with_settings = refl

pub alias_that_is_not_there : console_of (with_devices two_areas (codes "serial1") line) ≡ None
alias_that_is_not_there = refl

-- one area alone, and one of no whole pages: neither is taken
pub one_area : areas_of (with_devices (0 ∷ 0x8000000 ∷ 0 ∷ 0x10000 ∷ []) line line) ≡ None
one_area = refl

pub second_of_no_pages : areas_of (with_devices (0 ∷ 0x8000000 ∷ 0 ∷ 0x10000 ∷ 0 ∷ 0x80a0000 ∷ 0 ∷ 0xf60800 ∷ []) line line) ≡ None
second_of_no_pages = refl

-- a `reg` that is no whole entries has none
pub uneven_areas : areas_of (with_devices (0 ∷ 0x8000000 ∷ 0 ∷ 0x10000 ∷ 0 ∷ 0x80a0000 ∷ 0 ∷ 0xf60000 ∷ 0 ∷ []) line line) ≡ None
uneven_areas = refl
