-- Small descriptions, as the definitions read them.
use Rattle.std.proofs.Common.{◌≡◌, ℕ, List, [], ◌∷◌, ◌++◌, refl, Some, None, true, false}
use Rattle.std.specs.Prelude.{codes, Option}
use Rattle.described.specs.declared.item.Item.{Item}
use Rattle.described.specs.declared.item.Part.{Part}
use Rattle.described.specs.declared.item.Part.TheVariants as parts
use Rattle.described.specs.declared.item.What.TheVariants as whats
use Rattle.described.specs.declared.why.Why.{Why}
use Rattle.described.specs.declared.why.Why.TheVariants as whys
use Rattle.described.specs.declared.item.Described.{Described}
use Rattle.fdt_tree.specs.Tree.{Bytes, Property, Trees, none, tree, Tree}
use Rattle.fdt_nodes.specs.Nodes.{Node, node_at, children}
use Rattle.static_links.specs.Shared.{shared_items, shared_reason}
use Rattle.static_links.specs.Ports.{port_items}

abbrev c : ℕ → Bytes
c n = 0 ∷ 0 ∷ 0 ∷ n ∷ []

abbrev z : Bytes → Bytes
z text = text ++ 0 ∷ []

abbrev two_and_two : List Property
two_and_two = (codes "#address-cells", c 2) ∷ (codes "#size-cells", c 2) ∷ []

-- a domain with these children, and what follows it
abbrev guest : Bytes → Trees → Trees → Trees
guest name children rest = tree name ((codes "compatible", z (codes "xen,domain")) ∷ two_and_two) children rest

-- a host with these children of `/chosen`
abbrev host : Trees → Tree
host children = record { name = []; properties = two_and_two; children = tree (codes "chosen") [] children none }

-- a region of 2 MiB at guest address 0x8000000000, and at a host address of these four bytes
abbrev ring : Bytes → Bytes → Bytes → List Property → Trees → Trees
ring name id base more rest = tree name (
    (codes "compatible", z (codes "xen,domain-shared-memory-v1"))
    ∷ (codes "xen,shm-id", z id)
    ∷ (codes "xen,shared-mem", (c 0 ++ base) ++ (0 ∷ 0 ∷ 0 ∷ 0x80 ∷ c 0) ++ (c 0 ++ 0 ∷ 0x20 ∷ 0 ∷ 0 ∷ []))
    ∷ more
    ) none rest

-- a region of 2 MiB at guest address 0x8000000000 whose value ends with these bytes
abbrev short : Bytes → Trees → Trees
short more rest = tree (codes "shm0") (
    (codes "compatible", z (codes "xen,domain-shared-memory-v1"))
    ∷ (codes "xen,shm-id", z (codes "ring"))
    ∷ (codes "xen,shared-mem", (0 ∷ 0 ∷ 0 ∷ 0x80 ∷ c 0) ++ (c 0 ++ 0 ∷ 0x20 ∷ 0 ∷ 0 ∷ []) ++ more)
    ∷ []
    ) none rest

-- an event channel node
abbrev port : Bytes → ℕ → ℕ → ℕ → Trees → Trees
port name phandle number other rest = tree name ((codes "compatible", z (codes "xen,evtchn-v1")) ∷ (codes "phandle", c phandle) ∷ (codes "xen,evtchn", c number ++ c other) ∷ []) none rest

-- an item of a node, by its path
abbrev at : Part → Bytes → Item
at part path = record { part = part; path = path; index = 0 }

-- a second region of one id with another host address has no reason of its own
abbrev at_6000 : Bytes
at_6000 = 0x60 ∷ 0 ∷ 0 ∷ 0 ∷ []

abbrev at_6020 : Bytes
at_6020 = 0x60 ∷ 0x20 ∷ 0 ∷ 0 ∷ []

-- the domain of this number among the children of `/chosen`
abbrev domain : Tree → ℕ → Node
domain whole number = node_at whole (0 ∷ number ∷ [])

another_base : shared_items (domain (host (guest (codes "domU0") none (guest (codes "domU1") (ring (codes "shm0") (codes "ring") at_6020 [] none) none))) 1)
    ≡ record { item = at parts.Shared (codes "/chosen/domU1/shm0"); own = None; what = whats.Shared (codes "ring") (Some 0x60200000) 0x8000000000 0x200000 false } ∷ []
unfolding shared_items
another_base = refl

-- an owner; an id of 16 bytes; a role that is none
own_reasons : shared_items (domain (host (guest (codes "domU0") (
    ring (codes "a") (codes "ring") at_6000 ((codes "role", z (codes "owner")) ∷ [])
    (ring (codes "b") (codes "ring-of-16-bytes") at_6000 []
    (ring (codes "c") (codes "ring") at_6000 ((codes "role", codes "owner") ∷ []) none))
    ) none)) 0)
    ≡ record { item = at parts.Shared (codes "/chosen/domU0/a"); own = None; what = whats.Shared (codes "ring") (Some 0x60000000) 0x8000000000 0x200000 true }
    ∷ record { item = at parts.Shared (codes "/chosen/domU0/b"); own = Some whys.BadValue; what = whats.Unread }
    ∷ record { item = at parts.Shared (codes "/chosen/domU0/c"); own = Some whys.BadValue; what = whats.Unread } ∷ []
unfolding shared_items
own_reasons = refl

-- a region without a host address, and a length between the two forms
without_host_address : shared_items (domain (host (guest (codes "domU0") (short [] none) none)) 0)
    ≡ record { item = at parts.Shared (codes "/chosen/domU0/shm0"); own = None; what = whats.Shared (codes "ring") None 0x8000000000 0x200000 false } ∷ []
unfolding shared_items
without_host_address = refl

between_the_forms : shared_items (domain (host (guest (codes "domU0") (short (c 0) none) none)) 0)
    ≡ record { item = at parts.Shared (codes "/chosen/domU0/shm0"); own = Some whys.BadLength; what = whats.Unread } ∷ []
unfolding shared_items
between_the_forms = refl

-- three guests: the first two are linked, and the third links to the second
abbrev three : Tree
three = host (
    guest (codes "domU0") (port (codes "evtchn0") 2 1 3 none)
    (guest (codes "domU1") (port (codes "evtchn0") 3 5 2 none)
    (guest (codes "domU2") (port (codes "evtchn0") 4 3 3 none) none))
    )

first_of_two : port_items three (domain three 0) ≡ record { item = at parts.Port (codes "/chosen/domU0/evtchn0"); own = None; what = whats.Port 1 1 5 } ∷ []
unfolding port_items
first_of_two = refl

second_of_two : port_items three (domain three 1) ≡ record { item = at parts.Port (codes "/chosen/domU1/evtchn0"); own = None; what = whats.Port 5 0 1 } ∷ []
unfolding port_items
second_of_two = refl

not_linked_back : port_items three (domain three 2) ≡ record { item = at parts.Port (codes "/chosen/domU2/evtchn0"); own = Some whys.EvtchnLink; what = whats.Unread } ∷ []
unfolding port_items
not_linked_back = refl

-- a link to dom0's port 7, and a second node of one port
with_dom0 : Tree
with_dom0 = host (
    port (codes "evtchn0") 9 7 2
    (guest (codes "domU0") (port (codes "a") 2 1 9 (port (codes "b") 3 1 9 none)) none)
    )

to_dom0 : port_items with_dom0 (domain with_dom0 1)
    ≡ record { item = at parts.Port (codes "/chosen/domU0/a"); own = None; what = whats.Port 1 0xffffffff 7 }
    ∷ record { item = at parts.Port (codes "/chosen/domU0/b"); own = Some (whys.PortTaken (at parts.Port (codes "/chosen/domU0/a"))); what = whats.Unread } ∷ []
unfolding port_items with_dom0
to_dom0 = refl

-- a port with this number, which is linked to dom0's port 7
abbrev numbered : ℕ → ℕ → Tree
numbered high low = host (
    port (codes "evtchn0") 9 7 2
    (guest (codes "domU0") (tree (codes "a") ((codes "compatible", z (codes "xen,evtchn-v1")) ∷ (codes "phandle", c 2) ∷ (codes "xen,evtchn", (0 ∷ 0 ∷ high ∷ low ∷ []) ++ c 9) ∷ []) none none) none)
    )

-- the own reason of its item
abbrev reason_of : List Described → Option Why
reason_of [] = None
reason_of (item ∷ items) = item.own

port_0 : reason_of (port_items (numbered 0 0) (domain (numbered 0 0) 1)) ≡ Some whys.BadValue
unfolding port_items
port_0 = refl

port_4095 : reason_of (port_items (numbered 15 255) (domain (numbered 15 255) 1)) ≡ None
unfolding port_items
port_4095 = refl

port_4096 : reason_of (port_items (numbered 16 0) (domain (numbered 16 0) 1)) ≡ Some whys.BadValue
unfolding port_items
port_4096 = refl

-- the first child of a node
abbrev domain_child : Node → Node
domain_child node = first (children node)
  where
    first : List Node → Node
    first [] = node
    first (child ∷ rest) = child

-- the own reason of a region with this role
abbrev with_role : Bytes → Option Why
with_role role = shared_reason 0 (domain_child (domain (host (guest (codes "domU0") (ring (codes "shm0") (codes "ring") at_6000 ((codes "role", role) ∷ []) none) none)) 0))

role_that_is_neither : with_role (z (codes "lender")) ≡ Some whys.BadValue
role_that_is_neither = refl

role_of_a_borrower : with_role (z (codes "borrower")) ≡ None
role_of_a_borrower = refl
