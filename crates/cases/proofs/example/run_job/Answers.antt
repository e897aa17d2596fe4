use Rattle.std.proofs.Common.{◌≡◌, ℕ, List, subst, inl, inr}
use Rattle.std.specs.Prelude.{Option}
use Rattle.outside.specs.Outside.{File}
use Rattle.outside.specs.declared.status.Status.{Status}
use Rattle.outside.specs.declared.status.Status.TheVariants.{Refused}
use Rattle.run_steps.specs.Endings.{Refuses}
use Rattle.dom0less.specs.Job.{CallsFor}
use Rattle.cases.proofs.example.run_job.Goals as goal

-- a refusal that equal words call for, with its status by name
refused_by : (told : Option (List File)) (line : List ℕ) (status : Status) (words of : List (List ℕ)) → status ≡ Refused → words ≡ of → CallsFor words told (Refuses status line) → CallsFor of told (Refuses Refused line)
refused_by told line status words of is same due =
    subst (λ (s : Status). CallsFor of told (Refuses s line)) is (subst (λ (w : List (List ℕ)). CallsFor w told (Refuses status line)) same due)

pub returns-clause-refused : goal.returns-clause-refused
returns-clause-refused g c is =
    elim (c.run-status.ensures.ran.found (inl is)) [
      | inl said ↦ (said.0, refused_by (g.F.Files.held c.args.files.now) said.0 c.run-status.result _ _ is c.in_ok-words.ensures (rw c.deref.ensures.value at said.2))
      | inr list ↦ absurd (c.run-status.ensures.no_list c.run-status.result list.0 list.1)
    ]
