use Rattle.std.proofs.Common.{◌≡◌, ℕ, ◌+◌, ◌-◌, ◌≤◌, ◌++◌, ◌∷◌, List, false, length, take, sym, ap, subst, ◌∙◌, arith}
use Rattle.std.specs.Prelude.{All}
use Rattle.texts.specs.Consecutive.{is_in}
use Rattle.frame_alloc.specs.Frames.{AreFrames, without}
use Rattle.frame_alloc.proofs.FreeFrames.{lowest_pair-tells}
use Rattle.stage2_walk.specs.Pages.{frames_of}
use Rattle.stage2_tables.specs.BlankPages.{AreApart}
use Rattle.stage2_tables.specs.TableFrames.{AreTableFrames}
use Rattle.stage2_tables.proofs.DrawLemmas.{AreApart-drawn, pair_low, drawn_tables, drawn_taken, drawn_count}
use Rattle.stage2_tables.proofs.LengthWithout.{length-without}
use Rattle.stage2_tables.proofs.draw.draw_image.Goals as goal

pub push_roots-requires-clause-even : goal.push_roots-requires-clause-even
push_roots-requires-clause-even c = (lowest_pair-tells c.reserve-2.new.self.free c.in-Ok.root c.in-Ok.ensures.pair).0

pub push_roots-requires-clause-low : goal.push_roots-requires-clause-low
push_roots-requires-clause-low c =
    pair_low c.reserve-2.new.self.free c.in-Ok.root (subst AreFrames (sym c.reserve-2.ensures.same) c.free_frames-free.ensures.ascending) c.in-Ok.ensures.pair

pub draw_pages-requires-clause-apart : goal.draw_pages-requires-clause-apart
draw_pages-requires-clause-apart c =
    let up : AreFrames c.reserve-2.new.self.free = subst AreFrames (sym c.reserve-2.ensures.same) c.free_frames-free.ensures.ascending in
    let apart = AreApart-drawn c.reserve-2.new.self.free c.in-Ok.root up c.in-Ok.ensures.pair in
    subst (λ (frames : List ℕ). AreApart (frames ++ c.take_pair.new.self.free)) (sym c.push_roots.ensures.frames)
    (subst (λ (free : List ℕ). AreApart (c.in-Ok.root ∷ (c.in-Ok.root + 1) ∷ free)) (sym c.in-Ok.ensures.ok) apart)

pub draw_pages-requires-clause-enough : goal.draw_pages-requires-clause-enough
draw_pages-requires-clause-enough c =
    let up : AreFrames c.reserve-2.new.self.free = subst AreFrames (sym c.reserve-2.ensures.same) c.free_frames-free.ensures.ascending in
    let some : length c.reserve-2.new.self.free ≤ length (without c.in-Ok.root 2 c.reserve-2.new.self.free) + 2 = length-without c.in-Ok.root 2 c.reserve-2.new.self.free up in
    let left : length c.take_pair.new.self.free ≡ length (without c.in-Ok.root 2 c.reserve-2.new.self.free) = ap (λ (free : List ℕ). length free) c.in-Ok.ensures.ok in
    let same : length c.reserve-2.new.self.free ≡ length c.args.pool.now.free = ap (λ (free : List ℕ). length free) c.reserve-2.ensures.same in
    let counted = c.free_frames-free.ensures.count in
    let enough = c.if-free-needed.false in
    omega arith

pub returns-in-Ok-clause-tables : goal.returns-in-Ok-clause-tables
returns-in-Ok-clause-tables c =
    let frames : List ℕ = frames_of c.draw_pages.new.image.pages in
    subst (λ (root : ℕ). AreTableFrames root frames) (sym (c.draw_pages.ensures.root ∙ c.push_roots.ensures.root))
    (drawn_tables c.reserve-2.new.self.free c.take_pair.new.self.free frames c.in-Ok.root (c.args.needed - 2)
    (subst AreFrames (sym c.reserve-2.ensures.same) c.free_frames-free.ensures.ascending) c.in-Ok.ensures.pair c.in-Ok.ensures.ok
    (c.draw_pages.ensures.frames ∙ ap (λ (front : List ℕ). front ++ take (c.args.needed - 2) c.take_pair.new.self.free) c.push_roots.ensures.frames))

pub returns-in-Ok-clause-count : goal.returns-in-Ok-clause-count
returns-in-Ok-clause-count c =
    let same : length c.reserve-2.new.self.free ≡ length c.args.pool.now.free = ap (λ (free : List ℕ). length free) c.reserve-2.ensures.same in
    let counted = c.free_frames-free.ensures.count in
    let enough = c.if-free-needed.false in
    drawn_count c.reserve-2.new.self.free c.take_pair.new.self.free (frames_of c.draw_pages.new.image.pages) c.in-Ok.root c.args.needed
    (subst AreFrames (sym c.reserve-2.ensures.same) c.free_frames-free.ensures.ascending) c.requires.roots (omega arith) c.in-Ok.ensures.ok
    (c.draw_pages.ensures.frames ∙ ap (λ (front : List ℕ). front ++ take (c.args.needed - 2) c.take_pair.new.self.free) c.push_roots.ensures.frames)

pub returns-in-Ok-clause-taken : goal.returns-in-Ok-clause-taken
returns-in-Ok-clause-taken c =
    let frames : List ℕ = frames_of c.draw_pages.new.image.pages in
    subst (λ (free : List ℕ). All (λ frame. is_in free frame ≡ false) frames) (sym c.draw_pages.ensures.rest)
    (drawn_taken c.reserve-2.new.self.free c.take_pair.new.self.free frames c.in-Ok.root (c.args.needed - 2)
    (subst AreFrames (sym c.reserve-2.ensures.same) c.free_frames-free.ensures.ascending) c.in-Ok.ensures.pair c.in-Ok.ensures.ok
    (c.draw_pages.ensures.frames ∙ ap (λ (front : List ℕ). front ++ take (c.args.needed - 2) c.take_pair.new.self.free) c.push_roots.ensures.frames))
