use Rattle.std.proofs.Common.{◌≡◌, ◌∙◌, ◌≤◌, ℕ, List, ap, length, map, take, arith}
use Rattle.std.proofs.lemmas.List.{length-map, take_all}
use Rattle.stage2_walk.specs.Pages.{Page, frames_of}
use Rattle.image_audit.specs.PrivateRests.{one_frame}
use Rattle.image_audit.proofs.LeftFrames.{tables_left, both_ok}
use Rattle.image_audit.proofs.frames.leave_tables.Goals as goal

all_taken : (pages : List Page) (count index : ℕ) → count ≡ length pages → count ≤ index → take index (frames_of pages) ≡ frames_of pages
all_taken pages count index is past = take_all index (frames_of pages) (omega (arith, length-map pages (λ (page : Page). page.frame)))

pub returns : goal.returns
returns c =
    let pages = c.args.image.now.pages in
    let all : c.loop-index.taken.items ≡ map one_frame (frames_of pages) = c.loop-index.invariant.so_far ∙ ap (map one_frame) (all_taken pages _ _ c.page_count-index-end.ensures c.loop-index-test.false) in
    both_ok _ _ _ (λ left apart is. tables_left c.args.ranges.now (frames_of pages) c.loop-index.taken.items left all apart is) c.frames_left.result c.frames_left.ensures.apart c.frames_left.ensures.left
