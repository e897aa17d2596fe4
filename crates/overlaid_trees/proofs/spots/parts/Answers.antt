use Rattle.std.proofs.Common.{rules, ◌≡◌, ◌==◌, ◌∷◌, []}
use Rattle.std.specs.Prelude.{true, is_some}
use Rattle.std.specs.List.{slice_split}
use Rattle.overlaid_trees.proofs.SpotLemmas.{more-parts, match-some}
use Rattle.overlaid_trees.proofs.spots.parts.Goals as goal

pub returns-then-is_some : goal.returns-then-is_some
returns-then-is_some c =
    let digits = c.in-Some-cut.digits.now in
    let some : is_some c.cut-3.result ≡ true = search rules in
    let later = match-some c.cut-3.result (slice_split (λ b. b == 58) digits ≡ digits ∷ []) (λ cut. slice_split (λ b. b == 58) digits ≡ cut.0.now ∷ slice_split (λ b. b == 58) cut.1.now) some c.cut-3.ensures.parts in
    more-parts c.args.string.now c.in-Some.path.now c.in-Some.rest.now c.in-Some-cut.name.now digits later.0.0.now later.0.1.now c.in-Some.ensures.parts c.in-Some-cut.ensures.parts later.1
