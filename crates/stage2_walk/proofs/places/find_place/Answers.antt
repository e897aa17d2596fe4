use Rattle.std.proofs.Common.{◌≡◌, ◌≢◌, ℕ, ◌<◌, ◌⊎◌, length, get_or, sym, ap, ◌∙◌, arith, ⊎_elim}
use Rattle.stage2_walk.specs.declared.places.Place.{Place}
use Rattle.stage2_walk.proofs.PlaceLemmas.{place_in-at, place_in-nowhere}
use Rattle.stage2_walk.proofs.places.find_place.Goals as goal

abbrev nowhere : Place
nowhere = record { frame = 0; place = 0 }

sides : (a b : ℕ) → (a < b) ⊎ ((a ≡ b) ⊎ (b < a))
sides a b = grind arith

pub returns : goal.returns
returns c = sym (place_in-at c.args.index.now c.count_below-count.result c.args.frame nowhere
    (let within = c.count_below-count.ensures.within in let other = c.if-count-index.false in omega arith)
    (λ k low same. let below = c.count_below-count.ensures.below k nowhere (omega arith) low in omega arith)
    c.if-index-count.false)

pub returns-then-count-index : goal.returns-then-count-index
returns-then-count-index c = sym (place_in-nowhere c.args.index.now c.args.frame nowhere
    (λ k low same. let below = c.count_below-count.ensures.below k nowhere (omega arith) (let at = c.if-count-index.true in omega arith) in omega arith))

pub returns-then-index-count : goal.returns-then-index-count
returns-then-index-count c = sym (place_in-nowhere c.args.index.now c.args.frame nowhere each)
  where
    each : (k : ℕ) → k < length c.args.index.now → (get_or c.args.index.now k nowhere).frame ≢ c.args.frame
    each k low = ⊎_elim
        (λ (h : k < c.count_below-count.result) same. let below = c.count_below-count.ensures.below k nowhere (omega arith) h in omega arith)
        (λ h. ⊎_elim
        (λ (at : k ≡ c.count_below-count.result) same. c.if-index-count.true (ap (λ (n : ℕ). (get_or c.args.index.now n nowhere).frame) (sym at) ∙ same))
        (λ (past : c.count_below-count.result < k) same.
        let here = c.count_below-count.ensures.above c.count_below-count.result nowhere (omega arith) (omega arith) in
        let rise = c.requires c.count_below-count.result k nowhere past low in
        omega arith)
        h)
        (sides k c.count_below-count.result)
