-- For private contracts and proofs: what a reader of tables keeps while it goes on.
use Rattle.std.specs.Prelude.{◌≡◌, ◌≢◌, ℕ, ◌+◌, ◌/◌, ◌^◌, ◌<◌, ◌≤◌, false, List, [], ◌∷◌, Some, None, IsSome, Ok, Err}
use Rattle.std.specs.BTreeSet.{BTreeSet, contains}
use Rattle.std.specs.Ordering.{nat_cmp}
use Rattle.texts.specs.Consecutive.{is_in}
use Rattle.stage2_walk.specs.Pages.{Page, page_of}
use Rattle.stage2_walk.specs.Walks.{walk}
use Rattle.stage2_walk.specs.Runs.{PageMap}
use Rattle.stage2_walk.specs.Tears.{Meeting, meet_all}
use Rattle.stage2_walk.specs.declared.walk.Step.{Step}
use Rattle.stage2_walk.specs.declared.run.Run.{Run}
use Rattle.stage2_walk.specs.declared.audit_fault.AuditFault.{AuditFault}

-- meetings without a tear and without a table, whatever was reached before
abbrev pub Passes : List Page → List Meeting → Type 0
Passes pages meetings = (reached : List ℕ) → meet_all pages reached meetings ≡ Ok reached

-- meetings whose first tear is this one, whatever was reached before
abbrev pub TearsAt : List Page → List Meeting → AuditFault → Type 0
TearsAt pages meetings tear = (reached : List ℕ) → meet_all pages reached meetings ≡ Err tear

-- the image has a page of each frame, and no two frames are equal
abbrev pub AreHeld : List Page → List ℕ → Type 0
AreHeld pages [] = Unit {0}
AreHeld pages (frame ∷ frames) = IsSome (page_of pages frame) × (is_in frames frame ≡ false) × AreHeld pages frames

-- the set has the frames of the list, and no others
abbrev pub HasFrames : BTreeSet ℕ → List ℕ → Type 0
HasFrames known frames = (frame : ℕ) → contains nat_cmp known frame ≡ is_in frames frame

-- no page from a first one up to a next one is mapped
abbrev pub IsGap : PageMap → ℕ → ℕ → Type 0
IsGap map first next = (first ≤ next) × ((page : ℕ) → first ≤ page → page < next → map page ≡ None)

-- the pages of a run go to its frames
abbrev pub IsMapped : PageMap → Run → Type 0
IsMapped map run = (0 < run.count) × ((k : ℕ) → k < run.count → map (run.page + k) ≡ Some (run.first + k, run.attr))

-- the page behind a run does not run on, if it is before a next one
abbrev pub Ends : PageMap → Run → ℕ → Type 0
Ends map run next = run.page + run.count < next → map (run.page + run.count) ≢ Some (run.first + run.count, run.attr)

-- from a first page up to a next one, a map has exactly these runs
abbrev pub HasRuns : PageMap → ℕ → List Run → ℕ → Type 0
HasRuns map first [] next = IsGap map first next
HasRuns map first (run ∷ runs) next = IsGap map first run.page × IsMapped map run × Ends map run next × HasRuns map (run.page + run.count) runs next

-- the walks of so many pages from a first one on go the same way
abbrev pub LeadsTo : List Page → ℕ → ℕ → ℕ → (ℕ → Step) → Type 0
LeadsTo pages root page count way = (address : ℕ) → page ≤ address / 2 ^ 12 → address / 2 ^ 12 < page + count → walk pages root address ≡ way address
