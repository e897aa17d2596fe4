-- What the words and the files call for is promised.
use Rattle.std.proofs.Common.{◌≡◌, sym, ℕ, List, Option, Some}
use Rattle.outside.specs.Outside.{File}
use Rattle.run_steps.specs.Endings.{Builds}
use Rattle.fdt_overlay.specs.Asked.{Asked, asked}
use Rattle.fdt_overlay.specs.Job.{IsAskedJob}
use Rattle.fdt_overlay.specs.Promises.{IsPromised}
use Rattle.fdt_overlay.proofs.Written.{written, no_report}

-- what is built for the words is the base with the overlays applied
pub promised : (words : List (List ℕ)) (told : Option (List File)) (names : Asked) (outputs : List File) (said : List ℕ) → Some names ≡ asked words → IsAskedJob told names (Builds outputs said)
    → IsPromised words told outputs said
promised words told names outputs said is job =
    let one = written told names outputs said job in
    record { names = names; named = sym is; made = one.0; overlaid = one.1; written = one.2; unreported = no_report told names outputs said job }
