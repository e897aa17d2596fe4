use Rattle.std.proofs.Common.{◌≡◌, ◌<◌, true, false, subst, refl, ◌+◌, ◌*◌, Some, None, ap, sym, ◌∙◌, arith}
use Rattle.std.specs.Option.{is_some}
use Rattle.std.proofs.lemmas.Bool.{false≢true}
use Rattle.stage2_walk.specs.Pages.{number_at, page_of}
use Rattle.stage2_walk.specs.ImageViews.{image_view}
use Rattle.stage2_walk.specs.TableImages.{TableImage}
use Rattle.stage2_walk.specs.Places.{place_in}
use Rattle.stage2_walk.proofs.PageLemmas.{is_some-page_of, word_in-found, word_in-none, word_in-past}
use Rattle.stage2_walk.proofs.image.Image.word.Goals as goal

pub returns-clause-word : goal.returns-clause-word
returns-clause-word c =
    let i = c.self.inside in
    let at : place_in i.index.items c.args.frame ≡ Some c.in-Some.place = cc in
    let read : c.read_number.result ≡ number_at i.bytes.items (4104 * c.in-Some.place + 8 + 8 * c.args.index) = cc in
    rw (← c.self.view_is) (ap Some read ∙ sym (word_in-found i.bytes.items i.index.items c.self.invariant.indexed c.args.frame c.in-Some.place c.args.index at (omega arith)))

pub returns-then-index-ge-PAGE_WORDS-clause-word : goal.returns-then-index-ge-PAGE_WORDS-clause-word
returns-then-index-ge-PAGE_WORDS-clause-word c =
    let i = c.self.inside in
    let at : place_in i.index.items c.args.frame ≡ Some c.in-Some.place = cc in
    rw (← c.self.view_is) (sym (word_in-past i.bytes.items i.index.items c.self.invariant.indexed c.args.frame c.in-Some.place c.args.index at (omega arith)))

pub returns-in_default-clause-word : goal.returns-in_default-clause-word
returns-in_default-clause-word c =
    let i = c.self.inside in
    let at : place_in i.index.items c.args.frame ≡ None = cc in
    rw (← c.self.view_is) (sym (word_in-none i.bytes.items i.index.items c.self.invariant.indexed c.args.frame c.args.index at))

pub returns-clause-some : goal.returns-clause-some
returns-clause-some c =
    let i = c.self.inside in
    let at : place_in i.index.items c.args.frame ≡ Some c.in-Some.place = cc in
    let here : is_some (page_of (image_view i).pages c.args.frame) ≡ true = is_some-page_of i.bytes.items i.index.items c.self.invariant.indexed c.args.frame (Some c.in-Some.place) at in
    let now : is_some (page_of c.args.self.now.pages c.args.frame) ≡ true = subst (λ (image : TableImage). is_some (page_of image.pages c.args.frame) ≡ true) c.self.view_is here in
    (λ _. (now, omega arith), λ _. refl)

pub returns-then-index-ge-PAGE_WORDS-clause-some : goal.returns-then-index-ge-PAGE_WORDS-clause-some
returns-then-index-ge-PAGE_WORDS-clause-some c = (λ no. absurd (false≢true no), λ both. absurd (let low : c.args.index < 512 = both.1 in omega arith))

pub returns-in_default-clause-some : goal.returns-in_default-clause-some
returns-in_default-clause-some c =
    let i = c.self.inside in
    let at : place_in i.index.items c.args.frame ≡ None = cc in
    let here : is_some (page_of (image_view i).pages c.args.frame) ≡ false = is_some-page_of i.bytes.items i.index.items c.self.invariant.indexed c.args.frame None at in
    let now : is_some (page_of c.args.self.now.pages c.args.frame) ≡ false = subst (λ (image : TableImage). is_some (page_of image.pages c.args.frame) ≡ false) c.self.view_is here in
    (λ no. absurd (false≢true no), λ both. absurd (false≢true (sym now ∙ both.0)))
