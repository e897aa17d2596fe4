use Rattle.std.proofs.Common.{◌≡◌, ◌∙◌, ◌<◌, sym, ap, length, List, ℕ, arith}
use Rattle.std.specs.Prelude.{not}
use Rattle.std.proofs.lemmas.List.{length-map}
use Rattle.stage2_walk.specs.Pages.{Page, frames_of}
use Rattle.image_audit.specs.PrivateRests.{is_outside}
use Rattle.image_audit.proofs.LeftFrames.{lies_in_one, found_here, found_later}
use Rattle.image_audit.proofs.frames.find_outside.Goals as goal

has_frame : (pages : List Page) (count index : ℕ) → count ≡ length pages → index < count → index < length (frames_of pages)
has_frame pages count index is below = omega (arith, length-map pages (λ (page : Page). page.frame))

-- the table at the index is outside
pub returns-then-not-lies_in : goal.returns-then-not-lies_in
returns-then-not-lies_in c =
    let ranges = c.args.ranges.now in
    let pages = c.args.image.now.pages in
    sym (found_here (is_outside ranges) (frames_of pages) c.loop-index.index c.frame_at-frame.result c.loop-index.invariant (has_frame pages _ _ c.page_count-index-end.ensures c.loop-index-test.true) c.frame_at-frame.ensures.frame
    (ap not (sym (lies_in_one ranges c.frame_at-frame.result) ∙ sym c.lies_in.ensures ∙ c.if-not-lies_in.true)))

-- or it is not
pub loop-index-preserved : goal.loop-index-preserved
loop-index-preserved c =
    let ranges = c.args.ranges.now in
    let pages = c.args.image.now.pages in
    found_later (is_outside ranges) (frames_of pages) c.loop-index.index c.frame_at-frame.result c.loop-index.invariant (has_frame pages _ _ c.page_count-index-end.ensures c.loop-index-test.true) c.frame_at-frame.ensures.frame
    (ap not (sym (lies_in_one ranges c.frame_at-frame.result) ∙ sym c.lies_in.ensures ∙ c.if-not-lies_in.false))
