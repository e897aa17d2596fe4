-- Words and files call for no list, for no audit and for no report.
use Rattle.std.proofs.Common.{◌≡◌, ℕ, List, [], Option, Some, None, inl, inr}
use Rattle.outside.specs.Outside.{File}
use Rattle.outside.specs.declared.status.Status.{Status}
use Rattle.outside.specs.declared.status.Status.TheVariants as statuses
use Rattle.run_steps.specs.Endings.{Refuses, Builds, Finds}
use Rattle.run_steps.proofs.Step.{found_before}
use Rattle.program.specs.Laws.{FindsNothing, AuditsNothing}
use Rattle.fdt_overlay.specs.Asked.{Asked, asked}
use Rattle.fdt_overlay.specs.Overlays.{Overlaid, AfterAll}
use Rattle.fdt_overlay.specs.PrivateSteps.{IsFound}
use Rattle.fdt_overlay.specs.Job.{IsOutput, IsWordsJob, CallsFor}
use Rattle.fdt_overlay.specs.Laws.{ReportsNothing}
use Rattle.fdt_overlay.proofs.OverlaySteps.{all_step}
use Rattle.fdt_overlay.proofs.Avoided.{job_avoids}
use Rattle.fdt_overlay.proofs.Written.{no_report}

output_finds_none : (out : List ℕ) (made : Overlaid) (status : Status) (list : List ℕ) → IsOutput out made (Finds status list) → ⊥
output_finds_none out made status list (inl refused) = refused.1
output_finds_none out made status list (inr fits) = fits.1

words_find_none : (told : Option (List File)) (asked : Option Asked) (status : Status) (list : List ℕ) → IsWordsJob told asked (Finds status list) → ⊥
words_find_none told None status list job = job
words_find_none told (Some asked) status list job =
    let found = found_before (IsFound told asked) (AfterAll told asked) (all_step told asked) (IsOutput asked.out) status list job in
    output_finds_none asked.out found.0 status list found.2

words_audit_none : (told : Option (List File)) (asked : Option Asked) (message : List ℕ) → IsWordsJob told asked (Refuses statuses.Differs message) → ⊥
words_audit_none told None message job = job
words_audit_none told (Some asked) message job = job_avoids told asked message job

words_report_none : (told : Option (List File)) (asked : Option Asked) (outputs : List File) (report : List ℕ) → IsWordsJob told asked (Builds outputs report) → report ≡ []
words_report_none told None outputs report job = elim job [ ]
words_report_none told (Some asked) outputs report job = no_report told asked outputs report job

pub finds_nothing : FindsNothing CallsFor
finds_nothing words told status list job = words_find_none told (asked words) status list job

pub audits_nothing : AuditsNothing CallsFor
audits_nothing words told message job = words_audit_none told (asked words) message job

pub reports_nothing : ReportsNothing
reports_nothing words told outputs report job = words_report_none told (asked words) outputs report job
