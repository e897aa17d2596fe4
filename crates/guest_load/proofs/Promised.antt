-- What the words and the files call for is promised.
use Rattle.std.proofs.Common.{◌≡◌, sym, ℕ, List, Option, Some}
use Rattle.outside.specs.Outside.{File}
use Rattle.run_steps.specs.Endings.{Builds}
use Rattle.guest_load.specs.Words.{Asked, asked}
use Rattle.guest_load.specs.Job.{IsAskedJob}
use Rattle.guest_load.specs.Promises.{IsLoaded}
use Rattle.guest_load.proofs.Loaded.{loaded, fit_in}

-- what is built for the words is loaded
pub promised : (words : List (List ℕ)) (told : Option (List File)) (names : Asked) (outputs : List File) (said : List ℕ) → Some names ≡ asked words → IsAskedJob told names (Builds outputs said)
    → IsLoaded words told outputs said
promised words told names outputs said is job =
    let one = loaded told names outputs said job in
    record { names = names; named = sym is; parts = one.0; read = one.1; fit = fit_in one.0 one.2; written = one.3; reported = one.4 }
