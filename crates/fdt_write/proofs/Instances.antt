-- The definitions at small trees.
use Rattle.std.proofs.Common.{◌≡◌, [], ◌∷◌, ◌++◌, refl, length, None}
use Rattle.std.specs.Prelude.{codes}
use Rattle.fdt_tree.specs.Tree.{Bytes, none, tree, Tree}
use Rattle.fdt_read.specs.Header.{boot_processor}
use Rattle.fdt_read.specs.Reservations.{reservations}
use Rattle.fdt_read.specs.Tokens.{tokens}
use Rattle.fdt_read.specs.Spelling.{spelled_whole, counting}
use Rattle.fdt_read.specs.Refusals.{refusal}
use Rattle.fdt_write.specs.Strings.{strings}
use Rattle.fdt_write.specs.Flattened.{header_bytes, flattened}

-- A root with one property of four bytes.
one_property : Tree
one_property = record { name = []; properties = (codes "a", 0 ∷ 0 ∷ 0 ∷ 1 ∷ []) ∷ []; children = none }

-- Its 90 bytes: the header, the pair of zeros, the tokens, the name.
one_property-written : flattened [] 0 one_property ≡ (0xd0 ∷ 0x0d ∷ 0xfe ∷ 0xed ∷ 0 ∷ 0 ∷ 0 ∷ 0x5a ∷ 0 ∷ 0 ∷ 0 ∷ 0x38 ∷ 0 ∷ 0 ∷ 0 ∷ 0x58 ∷ 0 ∷ 0 ∷ 0 ∷ 0x28 ∷ 0 ∷ 0 ∷ 0 ∷ 17 ∷ 0 ∷ 0 ∷ 0 ∷ 16 ∷ 0 ∷ 0 ∷ 0 ∷ 0 ∷ 0 ∷ 0 ∷ 0 ∷ 2 ∷ 0 ∷ 0 ∷ 0 ∷ 0x20 ∷ []) ++ ((0 ∷ 0 ∷ 0 ∷ 0 ∷ 0 ∷ 0 ∷ 0 ∷ 0 ∷ 0 ∷ 0 ∷ 0 ∷ 0 ∷ 0 ∷ 0 ∷ 0 ∷ 0 ∷ []) ++ ((0 ∷ 0 ∷ 0 ∷ 1 ∷ 0 ∷ 0 ∷ 0 ∷ 0 ∷ 0 ∷ 0 ∷ 0 ∷ 3 ∷ 0 ∷ 0 ∷ 0 ∷ 4 ∷ 0 ∷ 0 ∷ 0 ∷ 0 ∷ 0 ∷ 0 ∷ 0 ∷ 1 ∷ 0 ∷ 0 ∷ 0 ∷ 2 ∷ 0 ∷ 0 ∷ 0 ∷ 9 ∷ []) ++ (0x61 ∷ 0 ∷ [])))
unfolding one_property flattened header_bytes
one_property-written = refl

-- A root alone takes 72 bytes.
root-length : length (flattened [] 0 (record { name = []; properties = []; children = none })) ≡ 72
unfolding flattened header_bytes
root-length = refl

-- Two nodes of one name, three properties of two names.
two_nodes : Tree
two_nodes = record {
  name = [];
  properties = (codes "reg", 1 ∷ 2 ∷ 3 ∷ 4 ∷ 5 ∷ []) ∷ [];
  children = tree (codes "cpu") ((codes "id", []) ∷ (codes "reg", 7 ∷ []) ∷ []) none (tree (codes "cpu") [] none none);
}

-- Each name stands once, in order of first use.
two_nodes-strings : strings two_nodes ≡ codes "reg" ∷ codes "id" ∷ []
unfolding two_nodes
two_nodes-strings = refl

two_nodes-written : Bytes
two_nodes-written = flattened (record { address = 5; size = 4096 } ∷ []) 3 two_nodes

two_nodes-length : length two_nodes-written ≡ 167
unfolding two_nodes-written two_nodes flattened header_bytes
two_nodes-length = refl

-- What is written is read.
two_nodes-refusal : refusal two_nodes-written ≡ None
unfolding two_nodes-written two_nodes flattened header_bytes
two_nodes-refusal = refl

two_nodes-tokens : counting (tokens two_nodes-written) ≡ spelled_whole two_nodes
unfolding two_nodes-written two_nodes flattened header_bytes
two_nodes-tokens = refl

two_nodes-reservations : reservations two_nodes-written ≡ record { address = 5; size = 4096 } ∷ []
unfolding two_nodes-written two_nodes flattened header_bytes
two_nodes-reservations = refl

two_nodes-processor : boot_processor two_nodes-written ≡ 3
unfolding two_nodes-written two_nodes flattened header_bytes
two_nodes-processor = refl
