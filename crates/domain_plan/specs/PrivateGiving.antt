-- For proofs and private contracts alone: what was gathered of a guest's items.
use Rattle.std.specs.Prelude.{◌≡◌, ℕ, ◌^◌, ◌≤◌, All, List, [], ◌∷◌, ◌++◌, Some}
use Rattle.texts.specs.declared.ranges.FrameRange.{FrameRange}
use Rattle.described.specs.declared.item.What.{What}
use Rattle.described.specs.declared.item.What.TheVariants as whats
use Rattle.item_checks.specs.declared.guests.Guest.{Guest}
use Rattle.domain_plan.specs.declared.giving.Given.{Given}
use Rattle.domain_plan.specs.declared.giving.Said.{Said}
use Rattle.described.specs.declared.item.Described.{Described}
use Rattle.described.specs.Sound.{IsSound}
use Rattle.item_checks.specs.Taken.{total, Passed, all_passed}
use Rattle.domain_plan.specs.PrivateLaying.{AreLowFrames, AreApart, AreLowRanges}
use Rattle.item_checks.specs.Entries.{of_guest, is_read}
use Rattle.domain_plan.specs.GuestMaps.{guest_ranges}
use Rattle.domain_plan.specs.Plans.{said_by, static_memory, region_of, port_of}
use Rattle.item_checks.specs.Standing.{Stands}

-- an interrupt
abbrev pub irq_of : What → List ℕ
irq_of (whats.Irq number) = number ∷ []
irq_of _ = []

-- what these items say of a guest
pub record HasSaid (number : ℕ) (passed : List Passed) (said : Said) : Type 0 where
  pub statics : said.statics ≡ said_by passed number static_memory
  pub irqs : said.irqs.items ≡ said_by passed number irq_of
  pub shared : said.shared ≡ said_by passed number region_of
  pub ports : said.ports ≡ said_by passed number port_of

-- the new one has what an item says more than the old
pub record SaysToo (what : What) (old new : Said) : Type 0 where
  pub statics : new.statics ≡ old.statics ++ static_memory what
  pub irqs : new.irqs.items ≡ old.irqs.items ++ irq_of what
  pub shared : new.shared ≡ old.shared ++ region_of what
  pub ports : new.ports ≡ old.ports ++ port_of what

-- what these items give a guest that drew these frames
pub record Gives (number : ℕ) (drawn : List FrameRange) (passed : List Passed) (given : Given) : Type 0 where
  pub stands : Stands (Some number) passed given.state
  pub ranges : given.ranges.items ≡ guest_ranges passed number drawn
  pub said : HasSaid number passed given.said

-- these items of a guest are sound, what it drew is as much as it asked for, and what it is mapped to is apart and low
pub record IsReady (number : ℕ) (guest : Guest) (items : List Described) (drawn : List FrameRange) : Type 0 where
  pub sound : All (λ (described : Described). IsSound described.what) items
  pub few : guest.domain.pages ≤ 2 ^ 22
  pub few_drawn : total drawn ≤ 2 ^ 22
  pub low : AreLowFrames drawn
  pub apart : AreApart (guest_ranges (all_passed [] (of_guest number (is_read guest.partial) items)) number drawn)
  pub low_ranges : AreLowRanges (guest_ranges (all_passed [] (of_guest number (is_read guest.partial) items)) number drawn)
