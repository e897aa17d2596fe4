use Rattle.std.proofs.Common.{◌≡◌, ◌+◌, ◌*◌, ◌<◌, ℕ, length, Some, ap, sym, subst, ◌∙◌, arith}
use Rattle.std.specs.Prelude.{slice_index}
use Rattle.stage2_walk.specs.Pages.{number_at, frames_of}
use Rattle.stage2_walk.specs.Places.{place_in}
use Rattle.stage2_walk.specs.ImageViews.{image_view}
use Rattle.stage2_walk.specs.TableImages.{TableImage}
use Rattle.stage2_walk.proofs.PageLemmas.{length-pages_at, frame-pages_at, word_in-found}
use Rattle.stage2_walk.proofs.image.Image.word_at.Goals as goal

pub overflow_mul-start : goal.overflow_mul-start
overflow_mul-start c =
    let i = c.self.inside in
    let low : c.args.place < length (image_view i).pages = subst (λ (image : TableImage). c.args.place < length image.pages) (sym c.self.view_is) c.requires.there in
    let whole = c.self.invariant.indexed.bytes_whole in
    let small = i.bytes.small in
    omega (arith, length-pages_at i.bytes.items 0 (length i.index.items))

pub overflow_add-start : goal.overflow_add-start
overflow_add-start c =
    let i = c.self.inside in
    let low : c.args.place < length (image_view i).pages = subst (λ (image : TableImage). c.args.place < length image.pages) (sym c.self.view_is) c.requires.there in
    let whole = c.self.invariant.indexed.bytes_whole in
    let small = i.bytes.small in
    omega (arith, length-pages_at i.bytes.items 0 (length i.index.items))

pub overflow_add-start-2 : goal.overflow_add-start-2
overflow_add-start-2 c =
    let i = c.self.inside in
    let low : c.args.place < length (image_view i).pages = subst (λ (image : TableImage). c.args.place < length image.pages) (sym c.self.view_is) c.requires.there in
    let within = c.requires.within in
    let whole = c.self.invariant.indexed.bytes_whole in
    let small = i.bytes.small in
    omega (arith, length-pages_at i.bytes.items 0 (length i.index.items))

pub read_number-requires : goal.read_number-requires
read_number-requires c =
    let i = c.self.inside in
    let low : c.args.place < length (image_view i).pages = subst (λ (image : TableImage). c.args.place < length image.pages) (sym c.self.view_is) c.requires.there in
    let within = c.requires.within in
    let whole = c.self.invariant.indexed.bytes_whole in
    let value = ap length c.as_slice-bytes.ensures.value in
    omega (arith, length-pages_at i.bytes.items 0 (length i.index.items))

pub returns : goal.returns
returns c =
    let i = c.self.inside in
    let n : ℕ = length i.index.items in
    let low : c.args.place < length (image_view i).pages = subst (λ (image : TableImage). c.args.place < length image.pages) (sym c.self.view_is) c.requires.there in
    let below : c.args.place < n = omega (arith, length-pages_at i.bytes.items 0 n) in
    let frame : ℕ = slice_index (frames_of (image_view i).pages) c.args.place in
    let frame_is : frame ≡ number_at i.bytes.items (4104 * c.args.place) = frame-pages_at i.bytes.items n c.args.place below in
    let at : place_in i.index.items frame ≡ Some c.args.place = ap (place_in i.index.items) frame_is ∙ c.self.invariant.indexed.found c.args.place below in
    let read : c.read_number.result ≡ number_at i.bytes.items (4104 * c.args.place + 8 + 8 * c.args.index) = cc in
    rw (← c.self.view_is) (word_in-found i.bytes.items i.index.items c.self.invariant.indexed frame c.args.place c.args.index at c.requires.within ∙ ap Some (sym read))
