-- A text says one thing.
use Rattle.std.proofs.Common.{◌≡◌, ◌∙◌, sym, ap}
use Rattle.source_text.specs.PrivateReadings.{Built, Stand}
use Rattle.source_text.specs.ReadLaws.{IsOne}
use Rattle.source_text.specs.declared.state.Next.TheVariants.{Over}
use Rattle.source_text.proofs.Running.{stand, same_stand}
use Rattle.source_text.proofs.Completeness.{complete}
use Rattle.source_text.proofs.OneTree.{same_tree}

pub only : IsOne
only text r q t u a b =
    let x = complete text r t a in
    let y = complete text q u b in
    let met : stand x.comment Over 0 x.built ≡ stand y.comment Over 0 y.built = same_stand (stand x.comment Over 0 x.built) (stand y.comment Over 0 y.built) (sym x.way ∙ y.way) in
    let same : x.built ≡ y.built = ap (λ (z : Stand). z.3) met in
    (sym x.said ∙ (ap (λ (z : Built). z.reserves) same ∙ y.said), same_tree t u a.root.6 b.root.6 (sym x.read ∙ (ap (λ (z : Built). z.tokens) same ∙ y.read)))
