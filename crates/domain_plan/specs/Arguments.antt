-- What the readers of a description give, as far as a plan rests on it.
use Rattle.std.specs.Prelude.{◌≡◌, ◌^◌, ◌≤◌, is_none, sum_by, Bool, IsTrue, List, [], ◌∷◌, map, slice_get, Some, All}
use Rattle.std.specs.List.{list_all}
use Rattle.described.specs.declared.item.Described.{Described}
use Rattle.described.specs.declared.item.What.{What}
use Rattle.described.specs.declared.item.What.TheVariants as whats
use Rattle.described.specs.Sound.{SoundUnless}
use Rattle.frame_alloc.specs.Frames.{AreFrameRanges}
use Rattle.domain_bindings.specs.HostDevices.{HasUsableDevices}
use Rattle.domain_bindings.specs.declared.domain.Domain.{Domain}
use Rattle.item_checks.specs.declared.guests.Guest.{Guest}
use Rattle.domain_bindings.specs.declared.host.Host.{Host}
use Rattle.described.specs.declared.loaded.Loaded.{Loaded}
use Rattle.item_checks.specs.Entries.{Entry, joined, items_of}
use Rattle.item_checks.specs.Taken.{static_pages}

-- the items are sound up to the first one with a reason of its own
abbrev pub AreSound : List Entry → Type 0
AreSound [] = Unit {0}
AreSound (entry ∷ entries) = SoundUnless entry.described.own entry.described.what (AreSound entries)

-- what a guest's head says, as its numbers give it
abbrev pub head_of : Domain → What
head_of domain = whats.Head domain.cpus domain.pages domain.spis domain.direct domain.console

-- what its items describe
abbrev pub whats_of : Guest → List What
whats_of guest = map (λ (described : Described). described.what) (items_of guest)

-- no item has a reason of its own
abbrev pub has_no_fault : List Entry → Bool
has_no_fault entries = list_all (λ (entry : Entry). is_none entry.described.own) entries

-- a guest's first item is its head, whose numbers are the guest's, and its static ranges have at most 16 GiB
pub record IsSoundGuest (guest : Guest) : Type 0 where
  pub head : slice_get (whats_of guest) 0 ≡ Some (head_of guest.domain)
  pub statics : sum_by static_pages (whats_of guest) ≤ 2 ^ 22

-- the host's memory is sorted and apart, and its devices are usable; the items are sound; and so is each guest, where no item has a reason of its own
pub record AreRead (host : Host) (loads : List Loaded) (guests : List Guest) : Type 0 where
  pub ram : AreFrameRanges host.ram
  pub devices : HasUsableDevices host
  pub items : AreSound (joined host loads guests)
  pub guests_sound : IsTrue (has_no_fault (joined host loads guests)) → All IsSoundGuest guests
