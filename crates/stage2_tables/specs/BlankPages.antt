-- For private contracts and proofs: what holds of frames and pages while tables are drawn.
use Rattle.std.specs.Prelude.{◌≡◌, ℕ, ◌^◌, ◌<◌, false, List, [], ◌∷◌, map}
use Rattle.texts.specs.Consecutive.{is_in}
use Rattle.stage2_walk.specs.Pages.{Page, frames_of, blank_page}

-- frames below 2^28, of which no two are equal
abbrev pub AreApart : List ℕ → Type 0
AreApart [] = Unit {0}
AreApart (frame ∷ frames) = (frame < 2 ^ 28) × (is_in frames frame ≡ false) × AreApart frames

-- every page is blank
abbrev pub AreBlank : List Page → Type 0
AreBlank pages = pages ≡ map blank_page (frames_of pages)
