-- What is found in an image that is torn, and in one that is not.
use Rattle.std.proofs.Common.{◌≡◌, ◌∙◌, sym, ap, ap₂, ℕ, Bool, List, Option, Some, None}
use Rattle.std.specs.Prelude.{Result, Ok, Err, IfOk, option_map}
use Rattle.std.specs.Option.{option_or}
use Rattle.described.specs.declared.map_range.MapRange.{MapRange}
use Rattle.stage2_walk.specs.Pages.{Page}
use Rattle.stage2_walk.specs.Tears.{first_tear}
use Rattle.stage2_walk.specs.declared.audit_fault.AuditFault.{AuditFault}
use Rattle.image_audit.specs.Findings.{tear, difference, table_where, audit_finding}
use Rattle.image_audit.specs.Texts.{tear_text, table_mapped, table_shared}

tear_of : (pages : List Page) (root : ℕ) (o : Option AuditFault) → first_tear pages root ≡ o → tear pages root ≡ option_map tear_text o
unfolding tear
tear_of pages root o is = ap (option_map tear_text) is

module _ (mapped earlier : ℕ → Bool) (ranges : List MapRange) where
  -- what is found where no tear is
  abbrev untorn : List Page → ℕ → Option (List ℕ)
  untorn pages root = option_or (difference ranges pages root) (option_or (table_where table_mapped mapped pages) (table_where table_shared earlier pages))

  -- the tear is the first finding
  pub torn : (pages : List Page) (root : ℕ) (fault : AuditFault) → first_tear pages root ≡ Some fault → Some (tear_text fault) ≡ audit_finding mapped earlier ranges pages root
  torn pages root fault is = sym (ap (λ (found : Option (List ℕ)). option_or found (untorn pages root)) (tear_of pages root (Some fault) is))

  -- where none is, the rest is what is found
  pub whole : {E : Type 0} (pages read : List Page) (root read_root : ℕ) → read ≡ pages → read_root ≡ root → first_tear pages root ≡ None
      → (result : Result (Option (List ℕ)) E) → IfOk result (λ found. found ≡ untorn read read_root) → IfOk result (λ found. found ≡ audit_finding mapped earlier ranges pages root)
  whole pages read root read_root same same_root none (Ok found) is =
      is ∙ ap₂ untorn same same_root ∙ sym (ap (λ (found : Option (List ℕ)). option_or found (untorn pages root)) (tear_of pages root None none))
  whole pages read root read_root same same_root none (Err error) is = tt
