-- Reading a tree is a step, which refuses with the statuses of reading files alone; over files that tell what they hold it calls for one outcome.
use Rattle.std.proofs.Common.{◌≡◌, ◌∙◌, sym, ap, subst, List, inl, inr, Some}
use Rattle.std.specs.Prelude.{ℕ, ◌⊎◌, Option, Ok, unwrap_or}
use Rattle.outside.specs.Outside.{File}
use Rattle.outside.specs.declared.status.Status.{Status}
use Rattle.outside.specs.declared.status.Status.TheVariants as statuses
use Rattle.fdt_tree.specs.Tree.{Tree}
use Rattle.fdt_tree.specs.declared.reserve.Reserve.{Reserve}
use Rattle.fdt_read.specs.FaultTexts.{fault_text}
use Rattle.fdt_read.specs.declared.fault.FdtFault.{FdtFault}
use Rattle.fdt_read.proofs.Decided.{decided}
use Rattle.run_steps.specs.Messages.{file_message}
use Rattle.run_steps.specs.Endings.{Outcome, Refuses, Builds, Finds}
use Rattle.run_steps.specs.Steps.{IsRefusal, IsReading, AfterReading, nothing}
use Rattle.run_steps.proofs.Step.{Next, IsStep, Avoids, and_then, said_as, both_avoid}
use Rattle.run_steps.proofs.ReadingSteps.{reading_step}
use Rattle.run_steps.proofs.Avoided.{IsOfNoFile, reading_avoids}
use Rattle.run_steps.proofs.OneOutcome.{Decides, both_decide, refusals_agree, reading_decides}
use Rattle.tree_files.specs.Trees.{tree_limit, FlatTree, IsFlattened, AfterTree, AfterTreeFile, IsTreeFile}

tree_splits : (name bytes : List ℕ) (next : Next FlatTree) (outcome : Outcome) → AfterTree name bytes next outcome → ((tree : FlatTree) × IsFlattened bytes tree × next tree outcome) ⊎ AfterTree name bytes nothing outcome
tree_splits name bytes next outcome (inl refused) = inr (inl refused)
tree_splits name bytes next outcome (inr spelled) = inl spelled

tree_stays : (name bytes : List ℕ) (next : Next FlatTree) (outcome : Outcome) → AfterTree name bytes nothing outcome → AfterTree name bytes next outcome
tree_stays name bytes next outcome (inl refused) = inl refused
tree_stays name bytes next outcome (inr spelled) = elim spelled.2 [ ]

tree_refuses : (name bytes : List ℕ) (outputs : List File) (report : List ℕ) → AfterTree name bytes nothing (Builds outputs report) → ⊥
tree_refuses name bytes outputs report (inl refused) = refused.2
tree_refuses name bytes outputs report (inr spelled) = spelled.2

tree_finds : (name bytes : List ℕ) (status : Status) (list : List ℕ) → AfterTree name bytes nothing (Finds status list) → ⊥
tree_finds name bytes status list (inl refused) = refused.2
tree_finds name bytes status list (inr spelled) = spelled.2

pub tree_step : (name bytes : List ℕ) → IsStep (IsFlattened bytes) (AfterTree name bytes)
tree_step name bytes = record {
  splits = tree_splits name bytes;
  gives = λ tree is next outcome p. inr (tree, is, p);
  stays = tree_stays name bytes;
  refuses = tree_refuses name bytes;
  finds = tree_finds name bytes;
}

pub tree_file_step : (told : Option (List File)) (name : List ℕ) → IsStep (IsTreeFile told name) (AfterTreeFile told name)
tree_file_step told name =
    said_as (λ tree. (bytes : List ℕ) × IsReading told name tree_limit (Ok bytes) × IsFlattened bytes tree) (IsTreeFile told name) (AfterTreeFile told name)
    (and_then (λ bytes. IsReading told name tree_limit (Ok bytes)) IsFlattened (AfterReading told name tree_limit) (AfterTree name) (reading_step told name tree_limit) (tree_step name))
    (λ tree given. record { file = given.0; read = given.1; flattened = given.2 })
    (λ tree is. (is.file, is.read, is.flattened))

-- ---- with which statuses it refuses

module _ (status : Status) (other : IsOfNoFile status) where
  pub flattened_avoids : (name bytes : List ℕ) → Avoids status (AfterTree name bytes)
  flattened_avoids name bytes message (inl refused) = other.format refused.2.0
  flattened_avoids name bytes message (inr spelled) = spelled.2

  pub tree_avoids : (told : Option (List File)) (name : List ℕ) → Avoids status (AfterTreeFile told name)
  tree_avoids told name =
      both_avoid (λ bytes. IsReading told name tree_limit (Ok bytes)) status (AfterReading told name tree_limit) (AfterTree name) (reading_step told name tree_limit) (reading_avoids status other told name tree_limit) (flattened_avoids name)

-- ---- it calls for one outcome

-- bytes have one first fault, or spell one tree
same_fault : (one other : FdtFault) → Some one ≡ Some other → one ≡ other
same_fault one other e = ap (λ (found : Option FdtFault). unwrap_or found one) e

same_tree : (one other : FlatTree) → one.reserves ≡ other.reserves → one.boot ≡ other.boot → one.root ≡ other.root → one.length ≡ other.length → one ≡ other
same_tree one other reserves boot root size =
    let tree : List Reserve → ℕ → Tree → ℕ → FlatTree = λ r b t l. record { reserves = r; boot = b; root = t; length = l } in
    ap (λ r. tree r one.boot one.root one.length) reserves ∙ ap (λ b. tree other.reserves b one.root one.length) boot
    ∙ ap (λ t. tree other.reserves other.boot t one.length) root ∙ ap (tree other.reserves other.boot other.root) size

pub tree_decides : (name bytes : List ℕ) → Decides (AfterTree name bytes)
tree_decides name bytes next determined a b (inl p) (inl q) =
    refusals_agree _ _ a b p.2 (subst (λ (fault : FdtFault). IsRefusal statuses.Format (file_message name (fault_text fault)) b) (same_fault _ _ (sym q.1 ∙ p.1)) q.2)
tree_decides name bytes next determined a b (inl p) (inr q) = absurd ((decided bytes).refused p.0 p.1 q.0.reserves q.0.boot q.0.root q.1.spelled)
tree_decides name bytes next determined a b (inr p) (inl q) = absurd ((decided bytes).refused q.0 q.1 p.0.reserves p.0.boot p.0.root p.1.spelled)
tree_decides name bytes next determined a b (inr p) (inr q) =
    let same = (decided bytes).one p.0.reserves q.0.reserves p.0.boot q.0.boot p.0.root q.0.root p.1.spelled q.1.spelled in
    let one : p.0 ≡ q.0 = same_tree p.0 q.0 same.0 same.1 same.2 (p.1.measured ∙ sym q.1.measured) in
    determined p.0 a b p.2 (subst (λ (tree : FlatTree). next tree b) (sym one) q.2)

pub tree_file_decides : (held : List File) (name : List ℕ) → Decides (AfterTreeFile (Some held) name)
tree_file_decides held name = both_decide (AfterReading (Some held) name tree_limit) (AfterTree name) (reading_decides held name tree_limit) (tree_decides name)
