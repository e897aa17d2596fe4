-- What a run that ends with status 0 has written.
use Rattle.std.proofs.Common.{◌≡◌, ◌≤◌, length, sym, subst, ℕ, List, [], ◌∷◌, Option, inl, inr}
use Rattle.std.specs.Prelude.{IsTrue, not}
use Rattle.std.specs.List.{list_all}
use Rattle.outside.specs.Outside.{File}
use Rattle.fdt_tree.specs.declared.reserve.Reserve.{Reserve}
use Rattle.fdt_read.specs.Reservations.{is_last_pair}
use Rattle.fdt_read.proofs.NoLastPair.{no_last_pairs}
use Rattle.fdt_write.specs.Flattened.{length_limit}
use Rattle.run_steps.specs.Endings.{Outcome, Builds}
use Rattle.run_steps.specs.Steps.{IsWriting}
use Rattle.run_steps.proofs.Step.{found_by}
use Rattle.fdt_overlay.specs.Asked.{Asked}
use Rattle.fdt_overlay.specs.Overlays.{Overlaid, AfterAll, IsOverlaid}
use Rattle.fdt_overlay.specs.PrivateSteps.{IsFound}
use Rattle.fdt_overlay.specs.Job.{bytes_of, IsOutput, IsAskedJob}
use Rattle.fdt_overlay.proofs.OverlaySteps.{all_step, is_made}

-- no reservation of what was made ends the list
pub none_last : (told : Option (List File)) (asked : Asked) (made : Overlaid) → IsOverlaid told asked made → IsTrue (list_all (λ reserve. not (is_last_pair reserve)) made.reserves)
none_last told asked made is =
    let read = is.base_read in
    subst (λ (reserves : List Reserve). IsTrue (list_all (λ reserve. not (is_last_pair reserve)) reserves)) (sym is.same_reserves) (no_last_pairs read.file is.base.reserves is.base.boot is.base.root read.flattened.spelled)

by_length : (out : List ℕ) (made : Overlaid) (outputs : List File) (said : List ℕ) → IsOutput out made (Builds outputs said) → outputs ≡ (out, bytes_of made) ∷ []
by_length out made outputs said (inl too_long) = elim too_long.1 [ ]
by_length out made outputs said (inr fits) = fits.1.0

-- the one output is the tree that was made
pub written : (told : Option (List File)) (asked : Asked) (outputs : List File) (said : List ℕ) → IsAskedJob told asked (Builds outputs said) → (made : Overlaid) × IsOverlaid told asked made × (outputs ≡ (asked.out, bytes_of made) ∷ [])
written told asked outputs said job =
    let found = found_by (IsFound told asked) (AfterAll told asked) (all_step told asked) (IsOutput asked.out) outputs said job in
    (found.0, is_made told asked found.0 found.1, by_length asked.out found.0 outputs said found.2)

-- what is written of a tree that is not too long
pub output-made : (out : List ℕ) (made : Overlaid) (bytes : List ℕ) (outcome : Outcome) → bytes ≡ bytes_of made → length (bytes_of made) ≤ length_limit → IsWriting ((out, bytes) ∷ []) [] outcome → IsOutput out made outcome
output-made out made bytes outcome is fits writing = inr (fits, subst (λ (b : List ℕ). IsWriting ((out, b) ∷ []) [] outcome) is writing)

-- nothing is reported
no_length_report : (out : List ℕ) (made : Overlaid) (outputs : List File) (said : List ℕ) → IsOutput out made (Builds outputs said) → said ≡ []
no_length_report out made outputs said (inl too_long) = elim too_long.1 [ ]
no_length_report out made outputs said (inr fits) = fits.1.1

pub no_report : (told : Option (List File)) (asked : Asked) (outputs : List File) (said : List ℕ) → IsAskedJob told asked (Builds outputs said) → said ≡ []
no_report told asked outputs said job =
    let found = found_by (IsFound told asked) (AfterAll told asked) (all_step told asked) (IsOutput asked.out) outputs said job in
    no_length_report asked.out found.0 outputs said found.2
