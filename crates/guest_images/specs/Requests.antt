-- What guests need for their tables, guest by guest, and the first of them that cannot have it.
use Rattle.std.specs.Prelude.{ℕ, nat_lt, is_none, if◌then◌else◌, List, [], ◌∷◌, length, Option, Some, None}
use Rattle.described.specs.Maps.{target_of}
use Rattle.described.specs.Regions.{table_count}
use Rattle.described.specs.declared.item.Item.{Item}
use Rattle.described.specs.declared.item.Part.TheVariants as parts
use Rattle.described.specs.declared.why.Why.{Why}
use Rattle.described.specs.declared.why.Why.TheVariants.{NoTableFrame}
use Rattle.frame_alloc.specs.Frames.{lowest_pair}
use Rattle.stage2_tables.specs.Draws.{free_after}
use Rattle.domain_plan.specs.declared.planned.GuestPlan.{GuestPlan}
use Rattle.item_checks.specs.Refusals.{Refusal, or_later}

-- how many tables a guest's map needs
abbrev pub tables_needed : GuestPlan → ℕ
tables_needed plan = table_count (target_of plan.ranges)

-- the frames that are left when a guest's tables are drawn
abbrev pub left_by : GuestPlan → List ℕ → List ℕ
left_by plan free = free_after (tables_needed plan) free

-- the frames that are left when the tables of all guests are drawn
abbrev pub left_by_all : List GuestPlan → List ℕ → List ℕ
left_by_all [] free = free
left_by_all (plan ∷ plans) free = left_by_all plans (left_by plan free)

-- the request of a guest for its tables, as an item
abbrev pub tables_item : GuestPlan → Item
tables_item plan = record { part = parts.Tables; path = plan.path; index = 0 }

-- NoTableFrame, with the tables needed and the frames left: fewer frames than needed are left, or no even pair is among them
abbrev pub no_table_frame : GuestPlan → List ℕ → Option Why
no_table_frame plan free =
    if nat_lt (length free) (tables_needed plan) then Some (NoTableFrame (tables_needed plan) (length free))
    else if is_none (lowest_pair free) then Some (NoTableFrame (tables_needed plan) (length free))
    else None

-- the first request for tables that cannot be met, with its reason
abbrev pub refused_tables : List GuestPlan → List ℕ → Option Refusal
refused_tables [] free = None
refused_tables (plan ∷ plans) free = or_later (tables_item plan) (no_table_frame plan free) (refused_tables plans (left_by plan free))
