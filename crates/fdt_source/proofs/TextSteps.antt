-- Reading a text is a step.
use Rattle.std.proofs.Common.{◌≡◌, ◌∙◌, sym, ap, subst, ℕ, List, inl, inr}
use Rattle.std.specs.Prelude.{◌⊎◌, Option, Some, Ok}
use Rattle.outside.specs.Outside.{File}
use Rattle.outside.specs.declared.status.Status.{Status}
use Rattle.outside.specs.declared.status.Status.TheVariants as statuses
use Rattle.fdt_tree.specs.Tree.{Bytes, Tree}
use Rattle.fdt_tree.specs.declared.reserve.Reserve.{Reserve}
use Rattle.run_steps.specs.Endings.{Outcome, Builds, Finds}
use Rattle.run_steps.specs.Steps.{IsRefusal, IsReading, AfterReading, nothing}
use Rattle.run_steps.proofs.Step.{Next, IsStep, Avoids, and_then, said_as, both_avoid}
use Rattle.run_steps.proofs.ReadingSteps.{reading_step}
use Rattle.run_steps.proofs.Avoided.{IsOfNoFile, reading_avoids}
use Rattle.run_steps.proofs.OneOutcome.{Decides, both_decide, reading_decides, refusals_agree}
use Rattle.fdt_source.specs.Messages.{syntax_message}
use Rattle.source_text.specs.Source.{IsSource}
use Rattle.fdt_source.specs.Texts.{text_limit, SourceTree, AfterText, AfterTextFile, IsTextFile}
use Rattle.source_text.proofs.Only.{only}
use Rattle.source_text.proofs.Departures.{departs_once}

-- what the bytes say
abbrev pub Says : Bytes → SourceTree → Type 0
Says bytes tree = IsSource bytes tree.reserves tree.root

text_splits : (name bytes : Bytes) (next : Next SourceTree) (outcome : Outcome) → AfterText name bytes next outcome → ((tree : SourceTree) × Says bytes tree × next tree outcome) ⊎ AfterText name bytes nothing outcome
text_splits name bytes next outcome (inl refused) = inr (inl refused)
text_splits name bytes next outcome (inr says) = inl says

text_stays : (name bytes : Bytes) (next : Next SourceTree) (outcome : Outcome) → AfterText name bytes nothing outcome → AfterText name bytes next outcome
text_stays name bytes next outcome (inl refused) = inl refused
text_stays name bytes next outcome (inr says) = elim says.2 [ ]

text_refuses : (name bytes : Bytes) (outputs : List File) (report : List ℕ) → AfterText name bytes nothing (Builds outputs report) → ⊥
text_refuses name bytes outputs report (inl refused) = refused.2
text_refuses name bytes outputs report (inr says) = says.2

text_finds : (name bytes : Bytes) (status : Status) (list : List ℕ) → AfterText name bytes nothing (Finds status list) → ⊥
text_finds name bytes status list (inl refused) = refused.2
text_finds name bytes status list (inr says) = says.2

pub text_step : (name bytes : Bytes) → IsStep (Says bytes) (AfterText name bytes)
text_step name bytes = record {
  splits = text_splits name bytes;
  gives = λ tree is next outcome p. inr (tree, is, p);
  stays = text_stays name bytes;
  refuses = text_refuses name bytes;
  finds = text_finds name bytes;
}

pub text_file_step : (told : Option (List File)) (name : Bytes) → IsStep (IsTextFile told name) (AfterTextFile told name)
text_file_step told name =
    said_as (λ tree. (bytes : Bytes) × IsReading told name text_limit (Ok bytes) × Says bytes tree) (IsTextFile told name) (AfterTextFile told name)
    (and_then (λ bytes. IsReading told name text_limit (Ok bytes)) Says (AfterReading told name text_limit) (AfterText name) (reading_step told name text_limit) (text_step name))
    (λ tree given. record { file = given.0; read = given.1; says = given.2 })
    (λ tree is. (is.file, is.read, is.says))

-- it refuses with the statuses of reading files alone
module _ (status : Status) (other : IsOfNoFile status) where
  says_avoid : (name bytes : Bytes) → Avoids status (AfterText name bytes)
  says_avoid name bytes message (inl refused) = other.format refused.2.0
  says_avoid name bytes message (inr says) = says.2

  pub text_avoids : (told : Option (List File)) (name : Bytes) → Avoids status (AfterTextFile told name)
  text_avoids told name =
      both_avoid (λ bytes. IsReading told name text_limit (Ok bytes)) status (AfterReading told name text_limit) (AfterText name) (reading_step told name text_limit) (reading_avoids status other told name text_limit) (says_avoid name)

same_tree : (one other : SourceTree) → one.reserves ≡ other.reserves → one.root ≡ other.root → one ≡ other
same_tree one other reserves root =
    let tree : List Reserve → Tree → SourceTree = λ r t. record { reserves = r; root = t } in
    ap (λ r. tree r one.root) reserves ∙ ap (tree other.reserves) root

-- and it calls for one outcome, where what follows does
text_decides : (name bytes : Bytes) → Decides (AfterText name bytes)
text_decides name bytes next determined a b (inl p) (inl q) =
    refusals_agree _ _ a b p.2 (subst (λ (offset : ℕ). IsRefusal statuses.Format (syntax_message name offset) b) (departs_once bytes q.0 p.0 q.1 p.1) q.2)
text_decides name bytes next determined a b (inl p) (inr q) = absurd (p.1.says_none q.0.reserves q.0.root q.1)
text_decides name bytes next determined a b (inr p) (inl q) = absurd (q.1.says_none p.0.reserves p.0.root p.1)
text_decides name bytes next determined a b (inr p) (inr q) =
    let same = only bytes p.0.reserves q.0.reserves p.0.root q.0.root p.1 q.1 in
    let one : p.0 ≡ q.0 = same_tree p.0 q.0 same.0 same.1 in
    determined p.0 a b p.2 (subst (λ (tree : SourceTree). next tree b) (sym one) q.2)

pub text_file_decides : (held : List File) (name : Bytes) → Decides (AfterTextFile (Some held) name)
text_file_decides held name = both_decide (AfterReading (Some held) name text_limit) (AfterText name) (reading_decides held name text_limit) (text_decides name)
