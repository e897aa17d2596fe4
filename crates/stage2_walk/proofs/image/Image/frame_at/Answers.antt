use Rattle.std.proofs.Common.{◌≡◌, ◌*◌, ◌<◌, length, ap, sym, subst, ◌∙◌, arith}
use Rattle.stage2_walk.specs.Pages.{number_at}
use Rattle.stage2_walk.specs.ImageViews.{image_view}
use Rattle.stage2_walk.specs.TableImages.{TableImage}
use Rattle.stage2_walk.proofs.PageLemmas.{length-pages_at, frame-pages_at}
use Rattle.stage2_walk.proofs.image.Image.frame_at.Goals as goal

pub overflow_mul-index : goal.overflow_mul-index
overflow_mul-index c =
    let i = c.self.inside in
    let low : c.args.index < length (image_view i).pages = subst (λ (image : TableImage). c.args.index < length image.pages) (sym c.self.view_is) c.requires in
    let whole = c.self.invariant.indexed.bytes_whole in
    let value = ap length c.deref.ensures.value in
    omega (arith, length-pages_at i.bytes.items 0 (length i.index.items))

pub read_number-requires : goal.read_number-requires
read_number-requires c =
    let i = c.self.inside in
    let low : c.args.index < length (image_view i).pages = subst (λ (image : TableImage). c.args.index < length image.pages) (sym c.self.view_is) c.requires in
    let whole = c.self.invariant.indexed.bytes_whole in
    let value = ap length c.deref.ensures.value in
    omega (arith, length-pages_at i.bytes.items 0 (length i.index.items))

pub returns-clause-frame : goal.returns-clause-frame
returns-clause-frame c =
    let i = c.self.inside in
    let low : c.args.index < length (image_view i).pages = subst (λ (image : TableImage). c.args.index < length image.pages) (sym c.self.view_is) c.requires in
    let below : c.args.index < length i.index.items = omega (arith, length-pages_at i.bytes.items 0 (length i.index.items)) in
    let read : c.read_number.result ≡ number_at i.bytes.items (4104 * c.args.index) = cc in
    rw (← c.self.view_is) (read ∙ sym (frame-pages_at i.bytes.items (length i.index.items) c.args.index below))

pub returns-clause-low : goal.returns-clause-low
returns-clause-low c =
    let i = c.self.inside in
    let low : c.args.index < length (image_view i).pages = subst (λ (image : TableImage). c.args.index < length image.pages) (sym c.self.view_is) c.requires in
    let below : c.args.index < length i.index.items = omega (arith, length-pages_at i.bytes.items 0 (length i.index.items)) in
    let read : c.read_number.result ≡ number_at i.bytes.items (4104 * c.args.index) = cc in
    let small = c.self.invariant.indexed.low c.args.index below in
    omega arith
