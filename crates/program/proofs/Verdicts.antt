-- The status of a verdict is none of the others.
use Rattle.std.proofs.Common.{◌≡◌, ◌∙◌, sym, subst, inl, inr, refl}
use Rattle.std.specs.Prelude.{◌⊎◌}
use Rattle.outside.specs.declared.status.Status.{Status}
use Rattle.outside.specs.declared.status.Status.TheVariants as statuses
use Rattle.program.specs.declared.made.Verdict.{Verdict}
use Rattle.program.specs.declared.made.Verdict.TheVariants as verdicts
use Rattle.program.specs.Made.{status_of}

-- a status that a run with a list may have
pub record IsOfList (status : Status) : Type 0 where
  pub built : status ≡ statuses.Built → ⊥
  pub memory : status ≡ statuses.Memory → ⊥
  pub words : status ≡ statuses.Words → ⊥
  pub read : status ≡ statuses.Read → ⊥
  pub longer : status ≡ statuses.Longer → ⊥

of_verdict : (verdict : Verdict) → IsOfList (status_of verdict)
of_verdict verdicts.Refused = record { built = λ e. cc; memory = λ e. cc; words = λ e. cc; read = λ e. cc; longer = λ e. cc }
of_verdict verdicts.Format = record { built = λ e. cc; memory = λ e. cc; words = λ e. cc; read = λ e. cc; longer = λ e. cc }
of_verdict verdicts.Differs = record { built = λ e. cc; memory = λ e. cc; words = λ e. cc; read = λ e. cc; longer = λ e. cc }

of_write : IsOfList statuses.Write
of_write = record { built = λ e. cc; memory = λ e. cc; words = λ e. cc; read = λ e. cc; longer = λ e. cc }

pub no_write : (verdict : Verdict) → status_of verdict ≡ statuses.Write → ⊥
no_write verdicts.Refused e = cc
no_write verdicts.Format e = cc
no_write verdicts.Differs e = cc

write_is_none : (statuses.Write ≡ statuses.Refused) ⊎ ((statuses.Write ≡ statuses.Format) ⊎ (statuses.Write ≡ statuses.Differs)) → ⊥
write_is_none (inl e) = cc
write_is_none (inr (inl e)) = cc
write_is_none (inr (inr e)) = cc

module _ (verdict : Verdict) (status : Status) (only : (status ≡ status_of verdict) ⊎ (status ≡ statuses.Write)) where
  pub of_list : IsOfList status
  of_list = elim only [
    | inl is ↦ subst IsOfList (sym is) (of_verdict verdict)
    | inr is ↦ subst IsOfList (sym is) of_write
  ]

  -- one of the three is the verdict's
  pub is_verdict : (status ≡ statuses.Refused) ⊎ ((status ≡ statuses.Format) ⊎ (status ≡ statuses.Differs)) → status ≡ status_of verdict
  is_verdict one = elim only [
    | inl is ↦ is
    | inr is ↦ absurd (write_is_none (subst (λ (s : Status). (s ≡ statuses.Refused) ⊎ ((s ≡ statuses.Format) ⊎ (s ≡ statuses.Differs))) is one))
  ]

  -- a status that is not `Write` is the verdict's
  pub is_verdict_or_write : (status ≡ statuses.Write → ⊥) → status ≡ status_of verdict
  is_verdict_or_write not = elim only [
    | inl is ↦ is
    | inr is ↦ absurd (not is)
  ]
