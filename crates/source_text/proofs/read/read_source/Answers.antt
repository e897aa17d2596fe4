use Rattle.std.proofs.Common.{◌≡◌, ◌∙◌, refl, sym, subst, ℕ, ◌+◌, ◌<◌, Some, None, take, get_or, length, inr, arith}
use Rattle.std.proofs.lemmas.List.{take_more}
use Rattle.fdt_tree.specs.Document.{place_of}
use Rattle.source_text.specs.PrivateTurns.{turn}
use Rattle.source_text.specs.PrivateReadings.{IsRead, act, reached}
use Rattle.source_text.proofs.Running.{stand}
use Rattle.source_text.proofs.Decided.{departs_at, departs_at_end, whole_reached, goes_on, found_at, nothing_else}
use Rattle.source_text.proofs.read.read_source.Goals as goal

pub returns-in_default-clause-departs : goal.returns-in_default-clause-departs
returns-in_default-clause-departs c =
    let i = c.loop-offset.invariant in
    let l = c.loop-offset in
    let bytes = c.args.bytes.now in
    let lt : l.offset < length bytes = omega arith in
    let none : turn l.comment l.next l.depth (get_or bytes l.offset 0) ≡ None = sym c.turn.ensures ∙ nothing_else c.turn.result (λ x e. c.in_default.not-Some x e) in
    inr (l.offset, refl, departs_at bytes l.offset (get_or bytes l.offset 0) (stand l.comment l.next l.depth i.0) lt (take_more bytes l.offset 0 lt) i.1 none)

pub loop-offset-preserved : goal.loop-offset-preserved
loop-offset-preserved c =
    let i = c.loop-offset.invariant in
    let l = c.loop-offset in
    let s = c.in-Some in
    let bytes = c.args.bytes.now in
    let lt : l.offset < length bytes = omega arith in
    let byte : ℕ = get_or bytes l.offset 0 in
    let goes : turn l.comment l.next l.depth byte ≡ Some (s.to, s.then, s.action) = sym c.turn.ensures ∙ s.is in
    let on = goes_on bytes l.offset byte l.comment l.next l.depth i.0 s.to s.then s.action (take_more bytes l.offset 0 lt) i.1 goes in
    let read = c.in_ok-take.ensures i.0 l.depth i.2 in (
      act s.action byte i.0,
      subst (λ (d : ℕ). reached (take (l.offset + 1) bytes) ≡ Some (stand s.to s.then d (act s.action byte i.0))) (sym c.in_ok-depth.ensures) on,
      subst (λ (d : ℕ). IsRead (act s.action byte i.0) d c.take.new.reading) (sym c.in_ok-depth.ensures) read,
    )

pub returns-then-not-is_done-clause-departs : goal.returns-then-not-is_done-clause-departs
returns-then-not-is_done-clause-departs c =
    let i = c.loop-offset.invariant in
    let l = c.loop-offset in
    let bytes = c.args.bytes.now in
    let at : l.offset ≡ length bytes = omega arith in
    let e : reached bytes ≡ Some (stand l.comment l.next l.depth i.0) = whole_reached bytes l.offset (stand l.comment l.next l.depth i.0) at i.1 in
    inr (length bytes, refl, departs_at_end bytes (stand l.comment l.next l.depth i.0) e (sym c.is_done.ensures ∙ c.if-not-is_done.true) (length bytes) refl)

pub returns-clause-read : goal.returns-clause-read
returns-clause-read c =
    let i = c.loop-offset.invariant in
    let l = c.loop-offset in
    let bytes = c.args.bytes.now in
    let g = l.reading.growing in
    let at : l.offset ≡ length bytes = omega arith in
    let e : reached bytes ≡ Some (stand l.comment l.next l.depth i.0) = whole_reached bytes l.offset (stand l.comment l.next l.depth i.0) at i.1 in
    (found_at bytes l.comment l.next l.depth i.0 l.reading.reserves g.tree.tree (place_of g.tree g.current) e (sym c.is_done.ensures ∙ c.if-not-is_done.false) i.2.reserves i.2.grown.inside.read i.2.grown.level).read

pub returns-clause-one : goal.returns-clause-one
returns-clause-one c =
    let i = c.loop-offset.invariant in
    let l = c.loop-offset in
    let bytes = c.args.bytes.now in
    let g = l.reading.growing in
    let at : l.offset ≡ length bytes = omega arith in
    let e : reached bytes ≡ Some (stand l.comment l.next l.depth i.0) = whole_reached bytes l.offset (stand l.comment l.next l.depth i.0) at i.1 in
    (found_at bytes l.comment l.next l.depth i.0 l.reading.reserves g.tree.tree (place_of g.tree g.current) e (sym c.is_done.ensures ∙ c.if-not-is_done.false) i.2.reserves i.2.grown.inside.read i.2.grown.level).one
