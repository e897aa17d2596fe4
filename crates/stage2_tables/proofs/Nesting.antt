-- Aligned regions that share a page lie in one another.
use Rattle.std.proofs.Common.{◌≡◌, ℕ, zero, suc, ◌+◌, ◌%◌, ◌<◌, ◌≤◌, arith}
use Rattle.described.specs.Regions.{Region, span}

-- a region of level 0 to 3 begins at a multiple of its pages
abbrev pub IsAligned : Region → Type 0
IsAligned region = (region.level ≤ 3) × (region.page % span region.level ≡ 0)

-- a region lies in another
abbrev pub LiesIn : Region → Region → Type 0
LiesIn inner outer = (outer.page ≤ inner.page) × (inner.page + span inner.level ≤ outer.page + span outer.level)

pub nested : (la lb a b q : ℕ) → la ≤ 3 → lb ≤ 3 → a % span la ≡ 0 → b % span lb ≡ 0 → la ≤ lb → a ≤ q → q < a + span la → b ≤ q → q < b + span lb → (a ≤ b) × (b + span lb ≤ a + span la)
nested zero zero a b q l m x y up low high from upto = (omega arith, omega arith)
nested zero (suc zero) a b q l m x y up low high from upto = (omega arith, omega arith)
nested zero (suc (suc zero)) a b q l m x y up low high from upto = (omega arith, omega arith)
nested zero (suc (suc (suc zero))) a b q l m x y up low high from upto = (omega arith, omega arith)
nested zero (suc (suc (suc (suc lb)))) a b q l m x y up low high from upto = absurd (omega arith)
nested (suc zero) zero a b q l m x y up low high from upto = absurd (omega arith)
nested (suc zero) (suc zero) a b q l m x y up low high from upto = (omega arith, omega arith)
nested (suc zero) (suc (suc zero)) a b q l m x y up low high from upto = (omega arith, omega arith)
nested (suc zero) (suc (suc (suc zero))) a b q l m x y up low high from upto = (omega arith, omega arith)
nested (suc zero) (suc (suc (suc (suc lb)))) a b q l m x y up low high from upto = absurd (omega arith)
nested (suc (suc zero)) zero a b q l m x y up low high from upto = absurd (omega arith)
nested (suc (suc zero)) (suc zero) a b q l m x y up low high from upto = absurd (omega arith)
nested (suc (suc zero)) (suc (suc zero)) a b q l m x y up low high from upto = (omega arith, omega arith)
nested (suc (suc zero)) (suc (suc (suc zero))) a b q l m x y up low high from upto = (omega arith, omega arith)
nested (suc (suc zero)) (suc (suc (suc (suc lb)))) a b q l m x y up low high from upto = absurd (omega arith)
nested (suc (suc (suc zero))) zero a b q l m x y up low high from upto = absurd (omega arith)
nested (suc (suc (suc zero))) (suc zero) a b q l m x y up low high from upto = absurd (omega arith)
nested (suc (suc (suc zero))) (suc (suc zero)) a b q l m x y up low high from upto = absurd (omega arith)
nested (suc (suc (suc zero))) (suc (suc (suc zero))) a b q l m x y up low high from upto = (omega arith, omega arith)
nested (suc (suc (suc zero))) (suc (suc (suc (suc lb)))) a b q l m x y up low high from upto = absurd (omega arith)
nested (suc (suc (suc (suc la)))) lb a b q l m x y up low high from upto = absurd (omega arith)
