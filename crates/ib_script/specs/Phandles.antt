-- The phandles of event channels: one for each port group, over guests and groups in order, above the highest of the host tree.
use Rattle.std.specs.Prelude.{ℕ, ◌+◌, Bool, not, Option, List, length, take, nat_lt, ◌==◌, sum_by, slice_get}
use Rattle.std.specs.List.{position_or_len}
use Rattle.std.specs.Option.{option_map_or}
use Rattle.ib_config.specs.declared.groups.PortGroup.{PortGroup}
use Rattle.ib_config.specs.declared.guests.Guest.{Guest}

-- how many port groups the guests before guest n have
unfoldable pub groups_before : List Guest → ℕ → ℕ
groups_before guests n = sum_by (λ (guest : Guest). length guest.evtchns) (take n guests)

-- whether the last phandle fits: it is at most 0xfffffffe, since 0xffffffff is no phandle (Devicetree Specification 2.3.3)
abbrev pub has_phandles : List Guest → ℕ → Bool
has_phandles guests highest = not (nat_lt 0xfffffffe (highest + groups_before guests (length guests)))

-- the phandle of the first group of guest n; those of its other groups follow
unfoldable pub first_phandle : List Guest → ℕ → ℕ → ℕ
first_phandle guests highest n = highest + 1 + groups_before guests n

-- the first of the groups that has a port
abbrev pub group_with : ℕ → List PortGroup → ℕ
group_with port groups = position_or_len (λ (group : PortGroup). group.port == port) groups

-- the first group with a port of a guest, if there is such a guest
abbrev pub group_of : ℕ → Option Guest → ℕ
group_of port guest = option_map_or (λ (found : Guest). group_with port found.evtchns) guest 0

-- the phandle of the first group of a group's peer that has the peer's port
unfoldable pub peer_phandle : List Guest → ℕ → PortGroup → ℕ
peer_phandle guests highest group = first_phandle guests highest group.peer + group_of group.peer_port (slice_get guests group.peer)
