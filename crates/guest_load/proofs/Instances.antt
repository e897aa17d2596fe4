-- Worked examples, computed.
use Rattle.std.proofs.Common.{◌≡◌, refl, [], ◌∷◌, ◌++◌, Some, None, ℕ, List}
use Rattle.std.specs.Prelude.{codes, replicate, ◌^◌, ◌-◌}
use Rattle.std.specs.Fmt.{digits}
use Rattle.std.specs.Int.{w64, to_le_bytes, to_be_bytes}
use Rattle.guest_load.specs.declared.places.Place.{Place}
use Rattle.guest_load.specs.declared.places.LoadPart.TheVariants as load_parts
use Rattle.guest_load.specs.Heads.{image_head}
use Rattle.guest_load.specs.LoadPlaces.{load_places, first_past}
use Rattle.fdt_tree.specs.Tree.{Property, Trees, none, tree, Tree}
use Rattle.guest_load.specs.Banks.{first_bank, memories}
use Rattle.guest_load.specs.Started.{started}
use Rattle.guest_load.specs.Lines.{line, report, no_room_message}
use Rattle.guest_load.specs.Words.{asked}
use Rattle.tree_files.specs.Lengths.{too_long_message}

-- a head with these numbers, and no more
abbrev image : ℕ → ℕ → List ℕ
image offset size = replicate 8 0 ++ to_le_bytes w64 offset ++ to_le_bytes w64 size ++ replicate 32 0 ++ codes "ARMd" ++ replicate 4 0

head-read : image_head (image 0x80000 0x1810000) ≡ Some (record { text_offset = 0x80000; image_size = 0x1810000 })
head-read = refl

-- the magic number is missing; a byte of the head is missing
magic-missing : image_head (replicate 64 0) ≡ None
magic-missing = refl

-- 1 GiB at 1 GiB
abbrev bank : Place
bank = record { address = 0x40000000; size = 0x40000000 }

abbrev place : ℕ → ℕ → Place
place address size = record { address = address; size = size }

with-ramdisk : load_places bank (record { text_offset = 0; image_size = 0x1810000 }) 64 (Some 0x300000) 2000
    ≡ record { kernel = place 0x40000000 0x1810000; ramdisk = Some (place 0x41a00000 0x300000); tree = place 0x41e00000 2000 }
with-ramdisk = refl

without-ramdisk : load_places bank (record { text_offset = 0x80000; image_size = 0 }) 4096 None 2000
    ≡ record { kernel = place 0x40080000 0x1000; ramdisk = None; tree = place 0x40200000 2000 }
without-ramdisk = refl

-- a kernel and a ramdisk that fill the bank leave no room for a tree
no-room : first_past bank (load_places bank (record { text_offset = 0; image_size = 0x3fe00000 }) 64 (Some 0x200000) 2000) ≡ Some load_parts.Tree
no-room = refl

-- of all three the first is named
kernel-first : first_past bank (load_places bank (record { text_offset = 0x40000000; image_size = 1 }) 64 (Some 0x200000) 2000) ≡ Some load_parts.Kernel
kernel-first = refl

-- the tree of a guest with 1 GiB at 1 GiB, and a second memory
abbrev memory-node : List ℕ → List ℕ → Trees → Trees
memory-node name reg rest = tree name ((codes "device_type", codes "memory" ++ 0 ∷ []) ∷ (codes "reg", reg) ∷ []) none rest

abbrev two-cells : List Property
two-cells = (codes "#address-cells", 0 ∷ 0 ∷ 0 ∷ 2 ∷ []) ∷ (codes "#size-cells", 0 ∷ 0 ∷ 0 ∷ 2 ∷ []) ∷ []

abbrev wide : ℕ → ℕ → List ℕ
wide base size = to_be_bytes w64 base ++ to_be_bytes w64 size

abbrev with-memories : Trees → Tree
with-memories nodes = record { name = []; properties = two-cells; children = nodes }

abbrev guest : Tree
guest = with-memories (memory-node (codes "memory@40000000") (wide 0x40000000 0x40000000) (memory-node (codes "memory@200000000") (wide 0x200000000 4096) none))

bank-found : first_bank guest ≡ Some bank
unfolding memories
bank-found = refl

-- a first memory that is bad gives no bank, even where a later one is good
bad-first : first_bank (with-memories (memory-node (codes "memory@0") (wide 0 0) (memory-node (codes "memory@40000000") (wide 0x40000000 0x40000000) none))) ≡ None
unfolding memories
bad-first = refl

-- an end at 2^40 is none past it
last-end : first_bank (with-memories (memory-node (codes "memory@0") (wide (2 ^ 40 - 4096) 4096) none)) ≡ Some (place (2 ^ 40 - 4096) 4096)
unfolding memories
last-end = refl

past-end : first_bank (with-memories (memory-node (codes "memory@0") (wide (2 ^ 40 - 4096) 8192) none)) ≡ None
unfolding memories
past-end = refl

-- a value that is not whole entries lists nothing, so the next memory is the first
not-whole : first_bank (with-memories (memory-node (codes "memory@0") (0 ∷ []) (memory-node (codes "memory@40000000") (wide 0x40000000 0x40000000) none))) ≡ Some bank
unfolding memories
not-whole = refl

-- `/chosen` is added last where it is missing, also without a ramdisk
chosen-added : started (with-memories (memory-node (codes "memory@0") [] none)) None ≡ with-memories (memory-node (codes "memory@0") [] (tree (codes "chosen") [] none none))
unfolding started
chosen-added = refl

-- with a ramdisk it has the two numbers, in the place of one that was there
ramdisk-said : started (with-memories (tree (codes "chosen") ((codes "linux,initrd-end", 1 ∷ []) ∷ []) none none)) (Some (place 0x41a00000 0x300000))
    ≡ with-memories (tree (codes "chosen") ((codes "linux,initrd-end", 0 ∷ 0 ∷ 0 ∷ 0 ∷ 0x41 ∷ 0xd0 ∷ 0 ∷ 0 ∷ []) ∷ (codes "linux,initrd-start", 0 ∷ 0 ∷ 0 ∷ 0 ∷ 0x41 ∷ 0xa0 ∷ 0 ∷ 0 ∷ []) ∷ []) none none)
unfolding started
ramdisk-said = refl

-- the lines
reported : report (load_places bank (record { text_offset = 0x80000; image_size = 0 }) 4096 None 2000)
    ≡ codes "kernel 0x40080000 0x1000" ++ 10 ∷ [] ++ codes "tree 0x40200000 0x7d0" ++ 10 ∷ []
unfolding digits
reported = refl

no-room-said : line (no_room_message load_parts.Tree) ≡ codes "guest_load: tree: NoRoom" ++ 10 ∷ []
no-room-said = refl

too-long-said : line (too_long_message (codes "boot.dtb") 2097153) ≡ codes "guest_load: boot.dtb: TreeTooLong 2097153" ++ 10 ∷ []
unfolding digits
too-long-said = refl

-- three words after the program's name, or four
words-asked : asked (codes "guest_load" ∷ codes "a" ∷ codes "b" ∷ codes "c" ∷ []) ≡ Some (record { tree = codes "a"; kernel = codes "b"; out = codes "c"; ramdisk = None })
unfolding asked
words-asked = refl

two-words : asked (codes "guest_load" ∷ codes "a" ∷ codes "b" ∷ []) ≡ None
unfolding asked
two-words = refl
