-- What an audit finds in the image of a guest (Arm ARM, VMSAv8-64 stage 2, 4 KB granule). A page is a guest's and a frame the host's, each of 4,096 bytes.
use Rattle.std.specs.Prelude.{ℕ, ◌^◌, ◌&&◌, nat_eq, not, Bool, List, find, Option, option_map}
use Rattle.std.specs.List.{list_any}
use Rattle.std.specs.Option.{option_or, option_eq}
use Rattle.texts.specs.Consecutive.{numbers}
use Rattle.described.specs.Maps.{Target, attributes, target_of}
use Rattle.described.specs.declared.map_range.MapRange.{MapRange}
use Rattle.frame_alloc.specs.Frames.{is_within}
use Rattle.stage2_walk.specs.Pages.{Page, frames_of}
use Rattle.stage2_walk.specs.Runs.{PageMap, map_of}
use Rattle.stage2_walk.specs.Tears.{first_tear}
use Rattle.domain_plan.specs.declared.planned.GuestPlan.{GuestPlan}
use Rattle.image_audit.specs.Texts.{tear_text, difference_text, frame_text, table_mapped, table_shared}

-- where a plan's ranges send a page: to a frame, with the attributes of the kind
abbrev pub planned_map : List MapRange → PageMap
planned_map ranges page = option_map (λ (target : Target). (target.frame, attributes target.kind)) (target_of ranges page)

-- two frames with attributes are one
abbrev pub are_one : ℕ × ℕ → ℕ × ℕ → Bool
are_one one other = nat_eq one.0 other.0 && nat_eq one.1 other.1

-- a page goes elsewhere by one map than by another
abbrev pub differ_at : PageMap → PageMap → ℕ → Bool
differ_at one other page = not (option_eq are_one (one page) (other page))

-- the lowest page that does
unfoldable pub first_difference : PageMap → PageMap → Option ℕ
first_difference one other = find (differ_at one other) (numbers 0 (2 ^ 28))

-- the lowest page that the walk of an image sends elsewhere than the plan
unfoldable pub difference : List MapRange → List Page → ℕ → Option (List ℕ)
difference ranges pages root =
    option_map (λ page. difference_text page (map_of pages root page) (planned_map ranges page)) (first_difference (map_of pages root) (planned_map ranges))

-- the first tear of an image
unfoldable pub tear : List Page → ℕ → Option (List ℕ)
tear pages root = option_map tear_text (first_tear pages root)

-- the first table of an image, in the order of its file, whose frame passes a test
unfoldable pub table_where : List ℕ → (ℕ → Bool) → List Page → Option (List ℕ)
table_where name test pages = option_map (frame_text name) (find test (frames_of pages))

-- some guest is planned to be mapped to the frame
abbrev pub is_mapped : List GuestPlan → ℕ → Bool
is_mapped plans frame = list_any (λ (plan : GuestPlan). list_any (λ (range : MapRange). is_within range.first range.count frame) plan.ranges) plans

-- The first finding in an image: a tear; a page that goes elsewhere than these ranges; a table in a frame that is mapped; a table in a frame of an earlier image.
abbrev pub audit_finding : (ℕ → Bool) → (ℕ → Bool) → List MapRange → List Page → ℕ → Option (List ℕ)
audit_finding mapped earlier ranges pages root =
    option_or (tear pages root)
    (option_or (difference ranges pages root)
    (option_or (table_where table_mapped mapped pages) (table_where table_shared earlier pages)))
