-- The definitions on small files.
use Rattle.std.proofs.Common.{◌≡◌, ℕ, [], ◌∷◌, ◌++◌, List, None, Some, refl, length}
use Rattle.std.specs.Prelude.{codes, flat_map}
use Rattle.std.specs.Int.{w32, to_be_bytes}
use Rattle.fdt_tree.specs.Tree.{Bytes, none, Tree}
use Rattle.fdt_read.specs.declared.fault.FdtFault.TheVariants.{Bounds, Order, Deep, Name, Magic}
use Rattle.fdt_read.specs.declared.fault.FdtFault.TheVariants as fault
use Rattle.fdt_read.specs.Header.{boot_processor}
use Rattle.fdt_read.specs.Reservations.{reservations, pairs, before_last}
use Rattle.fdt_read.specs.Tokens.{tokens, begin_node, end_node, property, nop, end}
use Rattle.fdt_read.specs.Spelling.{counting, spelled_whole}
use Rattle.fdt_read.specs.Refusals.{refusal, first_fault}
use Rattle.fdt_read.specs.PrivateStrings.{lengths_of}

words : List ℕ → Bytes
words numbers = flat_map (to_be_bytes w32) numbers

-- A root with the property `a`, whose value is the cell 1.
small : Tree
small = record { name = []; properties = (codes "a", 0 ∷ 0 ∷ 0 ∷ 1 ∷ []) ∷ []; children = none }

file : Bytes
unfolding words
file =
    words (0xd00dfeed ∷ 0x5a ∷ 0x38 ∷ 0x58 ∷ 0x28 ∷ 0x11 ∷ 0x10 ∷ 3 ∷ 2 ∷ 0x20 ∷ 0 ∷ 0 ∷ 0 ∷ 0 ∷ 1 ∷ 0 ∷ 3 ∷ 4 ∷ 0 ∷ 1 ∷ 2 ∷ 9 ∷ []) ++ 97 ∷ 0 ∷ []

file-length : length file ≡ 90
unfolding file words
file-length = refl

file-refusal : refusal file ≡ None
unfolding file words
file-refusal = refl

file-tokens : tokens file ≡ (56, begin_node []) ∷ (64, property (Some (codes "a")) (0 ∷ 0 ∷ 0 ∷ 1 ∷ [])) ∷ (80, end_node) ∷ (84, end) ∷ []
unfolding file words
file-tokens = refl

file-spelled : counting (tokens file) ≡ spelled_whole small
unfolding file words small
file-spelled = refl

file-reservations : reservations file ≡ []
unfolding file words
file-reservations = refl

file-processor : boot_processor file ≡ 3
unfolding file words
file-processor = refl

-- A header alone, whose total size is one more.
long-refusal : refusal (words (0xd00dfeed ∷ 41 ∷ 40 ∷ 40 ∷ 40 ∷ 17 ∷ 16 ∷ 0 ∷ 0 ∷ 0 ∷ [])) ≡ Some (Bounds 4)
unfolding words
long-refusal = refl

-- A header of the next version, whose total size is one more: the earlier row is named.
version-refusal : refusal (words (0xd00dfeed ∷ 41 ∷ 40 ∷ 40 ∷ 40 ∷ 18 ∷ 18 ∷ 0 ∷ 0 ∷ 0 ∷ [])) ≡ Some fault.Version
unfolding words
version-refusal = refl

empty-refusal : refusal [] ≡ Some Magic
empty-refusal = refl

-- The pair of zeros ends the list, whatever stands after it.
pairs-listed : before_last (pairs (words (0 ∷ 5 ∷ 0 ∷ 4096 ∷ 0 ∷ 0 ∷ 0 ∷ 0 ∷ 0 ∷ 7 ∷ 0 ∷ 7 ∷ []))) ≡ record { address = 5; size = 4096 } ∷ []
unfolding words
pairs-listed = refl

-- A property after a child is out of order, NOP or not, and END inside a node is of no use.
order-refusal : first_fault [] ((56, begin_node []) ∷ (64, begin_node (codes "a")) ∷ (72, end_node) ∷ (76, nop) ∷ (80, property (Some (codes "p")) []) ∷ []) ≡ Some (Order 80)
order-refusal = refl

end-refusal : first_fault [] ((56, begin_node []) ∷ (64, end) ∷ []) ≡ Some (fault.Token 64)
end-refusal = refl

-- A second root is of no use, and the root's name is not looked at.
second-refusal : first_fault [] ((56, begin_node (codes "/")) ∷ (64, end_node) ∷ (68, begin_node []) ∷ []) ≡ Some (fault.Token 68)
second-refusal = refl

-- A badly named property after a child is Name, and not Order.
name-refusal : first_fault [] ((56, begin_node []) ∷ (64, begin_node (codes "a")) ∷ (72, end_node) ∷ (76, property None []) ∷ []) ≡ Some (Name 76)
name-refusal = refl

-- How far each byte of "ab", a NUL, and "c" without one is from the next NUL, or from the end.
lengths : lengths_of (codes "ab" ++ 0 ∷ codes "c") ≡ 2 ∷ 1 ∷ 0 ∷ 1 ∷ []
lengths = refl
