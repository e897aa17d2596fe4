use Rattle.std.proofs.Common.{◌≡◌, ℕ, ◌+◌, ◌^◌, ◌<◌, ◌≤◌, List, [], ◌∷◌, ◌++◌, length, get_or, map, take, sym, ap, subst, ◌∙◌, All}
use Rattle.std.proofs.lemmas.List.{map_push, take_more}
use Rattle.std.proofs.lemmas.List.Elements.{All-append, All-cons, All-nil}
use Rattle.texts.specs.declared.ranges.BaseSize.{BaseSize}
use Rattle.texts.specs.declared.ranges.FrameRange.{FrameRange}
use Rattle.frame_alloc.specs.Ranges.{touched}
use Rattle.item_checks.proofs.takes.touched_by_each.Goals as goal

take_mapped : (entries : List BaseSize) (i : ℕ) → i < length entries → map touched (take (i + 1) entries) ≡ map touched (take i entries) ++ touched (get_or entries i (record { base = 0; size = 0 })) ∷ []
take_mapped entries i low = ap (map touched) (take_more entries i (record { base = 0; size = 0 }) low) ∙ map_push touched (take i entries) (get_or entries i (record { base = 0; size = 0 }))

abbrev IsLow : FrameRange → Type 0
IsLow one = one.first + one.count ≤ 2 ^ 28

pub loop-entry-preserved : goal.loop-entry-preserved
loop-entry-preserved c = record {
  touched = c.in_ok-push.ensures.items ∙ ap (λ (xs : List FrameRange). xs ++ c.touched.result ∷ []) c.loop-entry.invariant.touched
      ∙ ap (λ (one : FrameRange). map touched (take c.loop-entry.entry-index c.args.entries.now) ++ one ∷ []) c.touched.ensures.touched
      ∙ sym (take_mapped c.args.entries.now c.loop-entry.entry-index c.loop-entry-test.true);
  low = subst (All IsLow) (sym c.in_ok-push.ensures.items) (All-append IsLow c.loop-entry.ranges.items (c.touched.result ∷ []) c.loop-entry.invariant.low (All-cons IsLow c.touched.result [] c.touched.ensures.low (All-nil IsLow)));
}
