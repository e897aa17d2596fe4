-- What a build comes to over all guests.
use Rattle.std.specs.Prelude.{ℕ, List, length, sum_by}
use Rattle.build_outputs.specs.ReportLines.{ram_pages}
use Rattle.domain_plan.specs.declared.planned.GuestPlan.{GuestPlan}
use Rattle.guest_images.specs.Requests.{tables_needed}
use Rattle.domain_plan.specs.TreePlans.{TreePlan}
use Rattle.build_outputs.specs.Outputs.{frames_left}
use Rattle.build_outputs.specs.declared.totals.Totals.{Totals}

-- the pages of memory of all guests
abbrev pub all_pages : List GuestPlan → ℕ
all_pages guests = sum_by (λ (guest : GuestPlan). ram_pages guest.ranges) guests

-- the tables of all guests' images
abbrev pub all_tables : List GuestPlan → ℕ
all_tables guests = sum_by tables_needed guests

-- how many guests there are, their pages of memory, the tables of their images, and how many frames are left
abbrev pub totals_of : TreePlan → Totals
totals_of plan = record { guests = length plan.guests; ram = all_pages plan.guests; tables = all_tables plan.guests; free = frames_left plan }
