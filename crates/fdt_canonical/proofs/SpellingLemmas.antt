-- A file has one canonical spelling, and what is called for it.
use Rattle.std.proofs.Common.{◌≡◌, ℕ, ◌≤◌, List, [], length, refl, sym, ◌∙◌, ap, subst, inl, inr}
use Rattle.outside.specs.Outside.{File}
use Rattle.fdt_tree.specs.Tree.{Bytes, Tree}
use Rattle.fdt_tree.specs.declared.reserve.Reserve.{Reserve}
use Rattle.fdt_read.proofs.Decided.{decided}
use Rattle.fdt_write.specs.Flattened.{flattened, length_limit}
use Rattle.run_steps.specs.Endings.{Outcome, Builds}
use Rattle.tree_files.specs.Lengths.{IsLengthRefusal}
use Rattle.tree_files.specs.Trees.{FlatTree, IsFlattened, AfterTree}
use Rattle.fdt_canonical.specs.Canonical.{IsCanonicalOf}
use Rattle.fdt_canonical.specs.Job.{spelling, IsRespelling}

-- a file has one canonical spelling
one_spelling : (file bytes other : Bytes) → IsCanonicalOf file bytes → IsCanonicalOf file other → other ≡ bytes
one_spelling file bytes other x y =
    let same = (decided file).one y.reserves x.reserves y.boot x.boot y.whole x.whole y.spelled x.spelled in
    y.canonical ∙ (ap (λ (rs : List Reserve). flattened rs y.boot y.whole) same.0 ∙ (ap (λ (n : ℕ). flattened x.reserves n y.whole) same.1 ∙ (ap (λ (t : Tree). flattened x.reserves x.boot t) same.2 ∙ sym x.canonical)))

module _ (file : Bytes) (tree : FlatTree) (is : IsFlattened file tree) (found : List Reserve) (same : found ≡ tree.reserves) where
  -- what was written of what was read is the canonical spelling
  pub is_canonical : (bytes : Bytes) → bytes ≡ flattened found tree.boot tree.root → IsCanonicalOf file bytes
  is_canonical bytes written = record {
    reserves = tree.reserves;
    boot = tree.boot;
    whole = tree.root;
    spelled = is.spelled;
    canonical = written ∙ ap (λ (rs : List Reserve). flattened rs tree.boot tree.root) same;
  }

  -- and the only one
  pub only_written : (bytes : Bytes) → bytes ≡ flattened found tree.boot tree.root → (other : Bytes) → IsCanonicalOf file other → other ≡ bytes
  only_written bytes written other y = one_spelling file bytes other (is_canonical bytes written) y

  -- where it is too long, that is called for
  pub length_refused : (name : List ℕ) (outcome : Outcome) → IsLengthRefusal name (length (flattened found tree.boot tree.root)) outcome → AfterTree name file (IsRespelling name) outcome
  length_refused name outcome refused =
      inr (tree, is, inl (subst (λ (rs : List Reserve). IsLengthRefusal name (length (flattened rs tree.boot tree.root)) outcome) same refused))

-- the canonical spelling of a file, if it is short enough, is what the file calls for
pub spelling_called : (name file bytes : Bytes) (outputs : List File) (report : List ℕ) → IsCanonicalOf file bytes → length bytes ≤ length_limit → outputs ≡ [] → report ≡ bytes
    → AfterTree name file (IsRespelling name) (Builds outputs report)
spelling_called name file bytes outputs report is fits alone said =
    let tree : FlatTree = record { reserves = is.reserves; boot = is.boot; root = is.whole; length = length file } in
    inr (tree, record { spelled = is.spelled; measured = refl }, inr (subst (λ (b : Bytes). length b ≤ length_limit) is.canonical fits, (alone, said ∙ is.canonical)))
