-- Where the devices that Xen makes stand in a guest: at the host's addresses where the guest is direct-mapped, and else at the usual ones
-- (Xen, docs/misc/arm/device-tree/booting.txt, direct-map).
use Rattle.std.specs.Prelude.{nat_le, ◌&&◌, ◌||◌, Bool, IsTrue, if◌then◌else◌, List, [], ◌∷◌}
use Rattle.std.specs.List.{list_all}
use Rattle.std.specs.Option.{option_map_or}
use Rattle.described.specs.declared.layout.Layout.{Layout}
use Rattle.texts.specs.declared.ranges.BaseSize.{BaseSize}
use Rattle.described.specs.Layouts.{usual_layout}
use Rattle.domain_bindings.specs.HostDevices.{is_usable, as_range, console_range}
use Rattle.domain_bindings.specs.Reasons.{end_of}
use Rattle.domain_bindings.specs.declared.host.Host.{Host}

-- two areas that have no address in common
abbrev pub are_apart : BaseSize → BaseSize → Bool
are_apart one other = nat_le (end_of one) other.base || nat_le (end_of other) one.base

-- an area is apart from each of these
abbrev pub is_apart_from : BaseSize → List BaseSize → Bool
is_apart_from area areas = list_all (are_apart area) areas

-- the four areas of a layout are pairwise apart
abbrev pub has_areas_apart : Layout → Bool
has_areas_apart layout =
    is_apart_from layout.distributor (layout.redistributors ∷ layout.console ∷ layout.grant ∷ [])
    && is_apart_from layout.redistributors (layout.console ∷ layout.grant ∷ [])
    && are_apart layout.console layout.grant

-- the host's console, where it has one and the guest too
abbrev pub console_area : Host → Bool → BaseSize
console_area host console = if console then option_map_or console_range host.console usual_layout.console else usual_layout.console

-- the host's areas and its console in place of the usual ones, where it has such
abbrev pub host_layout : Host → Bool → Layout
host_layout host console = record {
  distributor = option_map_or (λ areas. as_range areas.0) host.areas usual_layout.distributor;
  redistributors = option_map_or (λ areas. as_range areas.1) host.areas usual_layout.redistributors;
  console = console_area host console;
  grant = usual_layout.grant;
}

-- the layout of a guest, which may be direct-mapped and may have a console: the host's, where the guest is direct-mapped and no two of its areas meet
abbrev pub layout_of : Host → Bool → Bool → Layout
layout_of host direct console =
    if direct && has_areas_apart (host_layout host console) then host_layout host console else usual_layout

-- a layout of four usable areas, no two of which meet
pub record IsLayout (layout : Layout) : Type 0 where
  pub distributor : IsTrue (is_usable layout.distributor)
  pub redistributors : IsTrue (is_usable layout.redistributors)
  pub console : IsTrue (is_usable layout.console)
  pub grant : IsTrue (is_usable layout.grant)
  pub apart : IsTrue (has_areas_apart layout)
