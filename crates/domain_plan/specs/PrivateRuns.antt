-- For proofs and private contracts alone: the requests of the regions that the state keeps.
use Rattle.std.specs.Prelude.{ℕ, ◌/◌, ◌&&◌, not, bytes_eq, is_none, Bool, if◌then◌else◌, List, [], ◌∷◌, ◌++◌}
use Rattle.std.specs.List.{list_any}
use Rattle.item_checks.specs.declared.state.Region.{Region}
use Rattle.domain_plan.specs.declared.runs.Run.{Run}
use Rattle.domain_plan.specs.Regions.{Request}

-- one of the regions has that id
abbrev pub has_id : List Region → List ℕ → Bool
has_id regions id = list_any (λ (region : Region). bytes_eq id region.id) regions

-- the run was drawn for that id
abbrev pub is_run_of : List ℕ → Run → Bool
is_run_of id run = bytes_eq id run.id

-- a region after others is to be drawn: it has no host address, and is the first of its id
abbrev pub is_requested : List Region → Region → Bool
is_requested before region = is_none region.host && not (has_id before region.id)

-- its request
abbrev pub request_of : Region → Request
request_of region = record { path = region.item.path; id = region.id; count = region.size / 4096 }

-- its request where it is to be drawn
abbrev pub asked : List Region → Region → List Request
asked before region = if is_requested before region then request_of region ∷ [] else []

-- the requests of regions after others
unfoldable pub requests_in : List Region → List Region → List Request
requests_in before [] = []
requests_in before (region ∷ more) = asked before region ++ requests_in (before ++ region ∷ []) more
