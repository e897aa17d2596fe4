use Rattle.std.proofs.Common.{◌≡◌, refl, sym, ap, ◌∙◌}
use Rattle.std.specs.Option.{is_some}
use Rattle.stage2_walk.specs.Pages.{page_of}
use Rattle.stage2_walk.specs.Places.{place_in}
use Rattle.stage2_walk.specs.ImageViews.{image_view}
use Rattle.stage2_walk.specs.TableImages.{TableImage}
use Rattle.stage2_walk.proofs.PageLemmas.{is_some-page_of}
use Rattle.stage2_walk.proofs.image.Image.holds.Goals as goal

pub returns : goal.returns
returns c =
    let i = c.self.inside in
    let here : is_some (page_of (image_view i).pages c.args.frame) ≡ is_some (place_in i.index.items c.args.frame) = is_some-page_of i.bytes.items i.index.items c.self.invariant.indexed c.args.frame _ refl in
    let now : is_some (page_of c.args.self.now.pages c.args.frame) ≡ is_some (page_of (image_view i).pages c.args.frame) = ap (λ (image : TableImage). is_some (page_of image.pages c.args.frame)) (sym c.self.view_is) in
    let at : is_some (place_in i.index.items c.args.frame) ≡ c.is_some.result = sym (c.is_some.ensures ∙ ap is_some (c.find_place.ensures ∙ ap (λ places. place_in places c.args.frame) c.deref.ensures.value)) in
    let all : is_some (page_of c.args.self.now.pages c.args.frame) ≡ c.is_some.result = now ∙ here ∙ at in
    (λ yes. all ∙ yes, λ some. sym all ∙ some)
