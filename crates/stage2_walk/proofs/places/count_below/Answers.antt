use Rattle.std.proofs.Common.{◌≡◌, ℕ, ◌<◌, ◌≤◌, ◌⊎◌, get_or, List, true, false, ltb, arith, rules, ⊎_elim, ap}
use Rattle.std.specs.List.Sorted.{IsPartitionPoint, IsNonDecreasingBy}
use Rattle.std.proofs.lemmas.List.Sorted.{IsPartitionPoint-from_clause, IsPartitionedBy-ltb}
use Rattle.std.proofs.lemmas.Bool.Decides.{nat_tests}
use Rattle.stage2_walk.specs.Places.{AreAscending}
use Rattle.stage2_walk.specs.declared.places.Place.{Place}
use Rattle.stage2_walk.proofs.places.count_below.Goals as goal

frames_rise : (index : List Place) → AreAscending index → IsNonDecreasingBy (λ (entry : Place). entry.frame) index
frames_rise index up j k d order late = ⊎_elim
    (λ (h : j < k). let below = up j k d h late in omega arith)
    (λ (h : j ≡ k). let same = ap (λ (n : ℕ). (get_or index n d).frame) h in omega arith)
    (before_or_same j k order)
  where
    before_or_same : (a b : ℕ) → a ≤ b → (a < b) ⊎ (a ≡ b)
    before_or_same a b h = grind arith

point : (c : goal.After-partition_point) → IsPartitionPoint (λ (entry : Place). ltb entry.frame c.args.frame ≡ true) (λ (entry : Place). ltb entry.frame c.args.frame ≡ false) c.args.index.now c.partition_point.result
point c = IsPartitionPoint-from_clause (λ (entry : Place). ltb entry.frame c.args.frame) _ _ c.partition_point.ensures.partitioned
    (IsPartitionedBy-ltb (λ (entry : Place). entry.frame) _ c.args.frame (frames_rise c.args.index.now c.requires)) (λ a r q k. search rules)

below_from_test : (a b : ℕ) → ltb a b ≡ true → a < b
below_from_test a b test = grind (arith, nat_tests)

above_from_test : (a b : ℕ) → ltb a b ≡ false → b ≤ a
above_from_test a b test = grind (arith, nat_tests)

pub returns-clause-below : goal.returns-clause-below
returns-clause-below c k d low high = below_from_test _ _ ((point c).0 k d low high)

pub returns-clause-above : goal.returns-clause-above
returns-clause-above c k d low high = above_from_test _ _ ((point c).1 k d low high)
