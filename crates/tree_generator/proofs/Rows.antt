-- The trees that are generated for 0 and 1, whole.
use Rattle.std.proofs.Common.{◌≡◌, refl, [], ◌∷◌, ◌++◌, List, map, codes}
use Rattle.std.specs.Prelude.{sum}
use Rattle.std.specs.Fmt.{digits}
use Rattle.texts.specs.Consecutive.{numbers}
use Rattle.fdt_tree.specs.Tree.{Bytes, Property, Tree, Trees, none, tree}
use Rattle.hex.specs.Hex.{encode_lower, encode_with}
use Rattle.tree_generator.specs.Generated.{generated_tree, guest_count, pages_of, tree_with, chosen, memory}
use Rattle.tree_generator.specs.Guests.{guest, kernel, region, port}

-- a property's name, and its value in hexadecimal
abbrev property_row : Property → Bytes
property_row property = property.0 ++ 32 ∷ encode_lower property.1

-- the nodes below a path, each with its path and then its properties
abbrev rows_below : Bytes → Trees → List Bytes
rows_below path none = []
rows_below path (tree name properties children rest) =
    (path ++ 47 ∷ name) ∷ (map property_row properties ++ (rows_below (path ++ 47 ∷ name) children ++ rows_below path rest))

-- the properties of the root, and then all below it
abbrev rows_of : Tree → List Bytes
rows_of root = map property_row root.properties ++ rows_below [] root.children

first_pages : pages_of 0 0 ≡ 512
first_pages = refl

second_pages : pages_of 1 1 ≡ 71188
second_pages = refl

-- the memory of the sixteen guests for 15, in pages
all_pages : sum (map (pages_of 15) (numbers 0 (guest_count 15))) ≡ 4478120
unfolding numbers
all_pages = refl

rows_for_0 : rows_of (generated_tree 0) ≡
    codes "#address-cells 00000002"
    ∷ codes "#size-cells 00000002"
    ∷ codes "/memory@0"
    ∷ codes "device_type 6d656d6f727900"
    ∷ codes "reg 00000000000000000000001000000000"
    ∷ codes "/chosen"
    ∷ codes "/chosen/domU0"
    ∷ codes "compatible 78656e2c646f6d61696e00"
    ∷ codes "#address-cells 00000002"
    ∷ codes "#size-cells 00000002"
    ∷ codes "memory 0000000000000800"
    ∷ codes "cpus 00000001"
    ∷ codes "/chosen/domU0/kernel"
    ∷ codes "compatible 6d756c7469626f6f742c6b65726e656c006d756c7469626f6f742c6d6f64756c6500"
    ∷ codes "reg 00000000002000000000000000200000"
    ∷ codes "/chosen/domU0/shm0"
    ∷ codes "compatible 78656e2c646f6d61696e2d7368617265642d6d656d6f72792d763100"
    ∷ codes "xen,shm-id 72696e6700"
    ∷ codes "xen,shared-mem 000000070000000000000080000000000000000000200000"
    ∷ []
unfolding tree_with chosen guest memory kernel region port numbers digits encode_with
rows_for_0 = refl

rows_for_1 : rows_of (generated_tree 1) ≡
    codes "#address-cells 00000002"
    ∷ codes "#size-cells 00000002"
    ∷ codes "/memory@0"
    ∷ codes "device_type 6d656d6f727900"
    ∷ codes "reg 00000000000000000000001000000000"
    ∷ codes "/chosen"
    ∷ codes "/chosen/domU0"
    ∷ codes "compatible 78656e2c646f6d61696e00"
    ∷ codes "#address-cells 00000002"
    ∷ codes "#size-cells 00000002"
    ∷ codes "memory 000000000001301c"
    ∷ codes "cpus 00000001"
    ∷ codes "xen,enhanced 6e6f2d78656e73746f726500"
    ∷ codes "/chosen/domU0/kernel"
    ∷ codes "compatible 6d756c7469626f6f742c6b65726e656c006d756c7469626f6f742c6d6f64756c6500"
    ∷ codes "reg 00000000002000000000000000200000"
    ∷ codes "/chosen/domU0/shm0"
    ∷ codes "compatible 78656e2c646f6d61696e2d7368617265642d6d656d6f72792d763100"
    ∷ codes "xen,shm-id 72696e6700"
    ∷ codes "xen,shared-mem 000000070000000000000080000000000000000000200000"
    ∷ codes "/chosen/domU0/evtchn0"
    ∷ codes "compatible 78656e2c65767463686e2d763100"
    ∷ codes "phandle 00000001"
    ∷ codes "xen,evtchn 0000000100000002"
    ∷ codes "/chosen/domU1"
    ∷ codes "compatible 78656e2c646f6d61696e00"
    ∷ codes "#address-cells 00000002"
    ∷ codes "#size-cells 00000002"
    ∷ codes "cpus 00000001"
    ∷ codes "#xen,static-mem-address-cells 00000002"
    ∷ codes "#xen,static-mem-size-cells 00000002"
    ∷ codes "xen,static-mem 00000008800000000000000011614000"
    ∷ codes "xen,enhanced 6e6f2d78656e73746f726500"
    ∷ codes "/chosen/domU1/kernel"
    ∷ codes "compatible 6d756c7469626f6f742c6b65726e656c006d756c7469626f6f742c6d6f64756c6500"
    ∷ codes "reg 00000000004000000000000000200000"
    ∷ codes "/chosen/domU1/shm0"
    ∷ codes "compatible 78656e2c646f6d61696e2d7368617265642d6d656d6f72792d763100"
    ∷ codes "xen,shm-id 72696e6700"
    ∷ codes "xen,shared-mem 000000070000000000000080000000000000000000200000"
    ∷ codes "/chosen/domU1/evtchn0"
    ∷ codes "compatible 78656e2c65767463686e2d763100"
    ∷ codes "phandle 00000002"
    ∷ codes "xen,evtchn 0000000100000001"
    ∷ []
unfolding tree_with chosen guest memory kernel region port numbers digits encode_with
rows_for_1 = refl
