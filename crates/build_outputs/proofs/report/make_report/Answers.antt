use Rattle.std.proofs.Common.{◌≡◌, ◌∙◌, ap, ◌++◌, get_or, List, ℕ}
use Rattle.build_outputs.specs.Report.{guest_lines}
use Rattle.guest_images.specs.declared.images.GuestImage.{GuestImage}
use Rattle.build_outputs.proofs.Reports.{lines_more}
use Rattle.build_outputs.proofs.report.make_report.Goals as goal

-- the lines of one more guest
pub loop-index-preserved : goal.loop-index-preserved
loop-index-preserved c =
    let image : GuestImage = get_or c.args.images.now c.loop-index.index c.index-images-index.result in
    let added : c.append_guest.new.report ≡ c.loop-index.report ++ guest_lines c.index-guests-index.result image.tables = c.in_ok-append_guest.ensures in
    added
    ∙ ap (λ (so_far : List ℕ). so_far ++ guest_lines c.index-guests-index.result image.tables) c.loop-index.invariant
    ∙ lines_more c.args.guests.now c.args.images.now c.requires.tables c.loop-index.index c.index-guests-index.result c.index-images-index.result c.loop-index-test.true c.index-guests-index.is
