-- The runs of frames that shared regions without a host address draw, and where they place these regions.
use Rattle.std.specs.Prelude.{ℕ, ◌*◌, ◌/◌, bytes_eq, Bool, if◌then◌else◌, List, [], ◌∷◌, ◌++◌, map, find, length, option_map, Option, Some, None, Result, Ok, Err}
use Rattle.std.specs.List.{list_any}
use Rattle.described.specs.declared.item.Described.{Described}
use Rattle.described.specs.declared.item.Item.{Item}
use Rattle.described.specs.declared.item.Part.TheVariants as parts
use Rattle.described.specs.declared.item.What.{What}
use Rattle.described.specs.declared.item.What.TheVariants as whats
use Rattle.described.specs.declared.why.Why.TheVariants.{NoRam}
use Rattle.frame_alloc.specs.Frames.{lowest_run, without}
use Rattle.item_checks.specs.Entries.{Entry}
use Rattle.item_checks.specs.Taken.{Passed, item_of, what_of}
use Rattle.item_checks.specs.Reasons.{are_one_region}
use Rattle.item_checks.specs.Refusals.{Refusal}
use Rattle.domain_plan.specs.declared.runs.Run.{Run}

-- a region that is to be drawn: the path of the item that describes it first, its id, and how many frames it has
pub record Request : Type 0 where
  pub path : List ℕ
  pub id : List ℕ
  pub count : ℕ

-- the request of an item with this path that describes a region without a host address
abbrev pub request_in : List ℕ → What → List Request
request_in path what = elim what as (λ _. List Request) [
  | whats.Shared id host guest size owner ↦ elim host as (λ _. List Request) [ None ↦ record { path = path; id = id; count = size / 4096 } ∷ [] | Some base ↦ [] ]
  | _ ↦ []
]

-- the regions of items that are to be drawn after others: each id once, where its first item has no host address
unfoldable pub requests : List Passed → List Passed → List Request
requests before [] = []
requests before (passed ∷ more) =
    (if list_any (λ (one : Passed). are_one_region (what_of passed) (what_of one)) before then [] else request_in (item_of passed).path (what_of passed))
    ++ requests (before ++ passed ∷ []) more

-- the request for a region's frames, as an item
abbrev pub region_item : Request → Item
region_item request = record { part = parts.Region; path = request.path; index = 0 }

-- the runs that were drawn, and the frames that are left
pub record Runs : Type 0 where
  pub runs : List Run
  pub left : List ℕ

-- the first run, before the others
abbrev pub and_run : Run → Result Runs Refusal → Result Runs Refusal
and_run run (Err refusal) = Err refusal
and_run run (Ok runs) = Ok (record { runs = run ∷ runs.runs; left = runs.left })

-- the regions draw their frames one after the other, each the lowest run; the first that cannot is refused
unfoldable pub runs_drawn : List Request → List ℕ → Result Runs Refusal
runs_drawn [] free = Ok (record { runs = []; left = free })
runs_drawn (request ∷ requests) free = elim (lowest_run request.count free) as (λ _. Result Runs Refusal) [
  | None ↦ Err (region_item request, NoRam request.count (length free))
  | Some first ↦ and_run (record { id = request.id; host = first * 4096 }) (runs_drawn requests (without first request.count free))
]

-- the host address of a region: its own, or that of the run of its id
abbrev pub host_in : List Run → List ℕ → Option ℕ → Option ℕ
host_in runs id (Some host) = Some host
host_in runs id None = option_map (λ (run : Run). run.host) (find (λ (run : Run). bytes_eq id run.id) runs)

-- what is described, each region at its host address
abbrev pub placed_what : List Run → What → What
placed_what runs (whats.Shared id host guest size owner) = whats.Shared id (host_in runs id host) guest size owner
placed_what runs what = what

-- an item as it is described, each region at its host address
abbrev pub placed_item : List Run → Described → Described
placed_item runs described = record { item = described.item; own = described.own; what = placed_what runs described.what }

-- that item with its owner
abbrev pub placed_entry : List Run → Entry → Entry
placed_entry runs entry = record { guest = entry.guest; partial_read = entry.partial_read; described = placed_item runs entry.described }

-- the items, each region at its host address
abbrev pub placed : List Run → List Entry → List Entry
placed runs entries = map (placed_entry runs) entries
