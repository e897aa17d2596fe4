-- The words and the files call for one outcome, and words that are refused call for none.
use Rattle.std.proofs.Common.{ℕ, ◌≤◌, ◌<◌, List, [], Some, length, inl, inr, arith}
use Rattle.run_steps.specs.Laws.{IsDetermined}
use Rattle.run_steps.proofs.OneOutcome.{refusals_agree, writings_agree}
use Rattle.tree_files.specs.Trees.{FlatTree}
use Rattle.tree_files.proofs.TreeSteps.{tree_file_decides}
use Rattle.program.specs.Laws.{IsOneOutcome, AsksNothing}
use Rattle.filters.specs.Words.{asked_file}
use Rattle.filters.proofs.Asked.{asked_agrees, none_asked}
use Rattle.fdt_canonical.specs.Job.{AreRefused, IsRespelling, IsFileRespelling, CallsFor}

apart : (a b : ℕ) → a ≤ b → b < a → ⊥
apart a b le lt = grind (arith)

respelling_agrees : (name : List ℕ) (tree : FlatTree) → IsDetermined (IsRespelling name tree)
respelling_agrees name tree a b (inl p) (inl q) = refusals_agree _ _ a b p.1 q.1
respelling_agrees name tree a b (inl p) (inr q) = absurd (apart _ _ q.0 p.0)
respelling_agrees name tree a b (inr p) (inl q) = absurd (apart _ _ p.0 q.0)
respelling_agrees name tree a b (inr p) (inr q) = writings_agree _ _ a b p.1 q.1

-- no words and files call for two outcomes that differ
pub one_outcome : IsOneOutcome CallsFor
one_outcome words held =
    asked_agrees (IsFileRespelling (Some held)) (λ name. tree_file_decides held name (IsRespelling name) (respelling_agrees name)) (asked_file words)

-- words that are refused call for nothing
pub asks_nothing : AsksNothing AreRefused CallsFor
asks_nothing words text told outcome refused job = none_asked (IsFileRespelling told) (asked_file words) outcome refused.0 job
