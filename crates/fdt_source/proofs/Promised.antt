-- What the words and the files call for is promised.
use Rattle.std.proofs.Common.{◌≡◌, subst, ℕ, List, Option, Some}
use Rattle.outside.specs.Outside.{File}
use Rattle.run_steps.specs.Endings.{Builds}
use Rattle.fdt_source.specs.Words.{Asked, Print, Build, asked}
use Rattle.fdt_source.specs.Job.{IsAskedJob}
use Rattle.fdt_source.specs.Promises.{IsAskedPromise, IsWordsPromise, IsPromised}
use Rattle.fdt_source.proofs.Shown.{shown, wrote}

asked_promised : (told : Option (List File)) (asked : Asked) (outputs : List File) (said : List ℕ) → IsAskedJob told asked (Builds outputs said) → IsAskedPromise told asked outputs said
asked_promised told (Print name) outputs said job =
    let one = shown told name outputs said job in
    record { tree = one.0; read = one.1; named = one.2; alone = one.3; reported = one.4 }
asked_promised told (Build text out) outputs said job =
    let one = wrote told text out outputs said job in
    record { tree = one.0; read = one.1; written = one.2; unreported = one.3 }

-- what is built for the words is printed, or written
pub promised : (words : List (List ℕ)) (told : Option (List File)) (names : Asked) (outputs : List File) (said : List ℕ) → Some names ≡ asked words → IsAskedJob told names (Builds outputs said)
    → IsPromised words told outputs said
promised words told names outputs said is job =
    subst (λ (read : Option Asked). IsWordsPromise told read outputs said) is (asked_promised told names outputs said job)
