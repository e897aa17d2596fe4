use Rattle.std.proofs.Common.{◌≡◌, ◌+◌, ◌*◌, ◌-◌, ◌/◌, List, length, min, Some, None, ap, sym, subst, ◌∙◌, vec_len, vec_capacity}
use Rattle.std.specs.Vec.{with_items}
use Rattle.std.specs.Prelude.{IsSome}
use Rattle.std.proofs.lemmas.List.{with_items_is}
use Rattle.std.proofs.lemmas.Bool.{false≢true}
use Rattle.stage2_walk.specs.Pages.{Page, number_at, pages_at, with_word, page_of}
use Rattle.stage2_walk.specs.Places.{place_in}
use Rattle.stage2_walk.specs.TableImages.{TableImage}
use Rattle.stage2_walk.proofs.PageLemmas.{IsWritten, with_word-pages_at, page_of-none}
use Rattle.stage2_walk.proofs.image.Image.put.Goals as goal

pub returns-in-Some : goal.returns-in-Some
returns-in-Some c =
    let i = c.self.inside in
    let at : place_in i.index.items c.args.frame ≡ Some c.in-Some.place = cc in
    let put : IsWritten i.bytes.items c.write_number.new.bytes (4104 * c.in-Some.place + 8 + 8 * c.args.index) c.args.word =
    (let was = c.deref_mut.ensures.value in
    record {
      written = c.write_number.ensures.written;
      before = λ o h. c.write_number.ensures.before o h ∙ ap (λ bytes. number_at bytes o) was;
      after = λ o h. c.write_number.ensures.after o h ∙ ap (λ bytes. number_at bytes o) was;
      same_length = c.write_number.ensures.same_length ∙ ap length was;
    }) in
    let stored : (with_items i.bytes c.write_number.new.bytes).items ≡ c.write_number.new.bytes = with_items_is i.bytes c.write_number.new.bytes (c.write_number.ensures.same_length ∙ c.deref_mut.ensures.len) in
    let pages : pages_at (with_items i.bytes c.write_number.new.bytes).items 0 (length i.index.items) ≡ with_word (pages_at i.bytes.items 0 (length i.index.items)) c.args.frame c.args.index c.args.word =
    ap (λ bytes. pages_at bytes 0 (length i.index.items)) stored
    ∙ with_word-pages_at i.bytes.items c.write_number.new.bytes i.index.items c.self.invariant.indexed c.args.frame c.in-Some.place c.args.index c.args.word at c.requires.within put in
    let image : List Page → TableImage = λ (new : List Page). record { root = i.root; pages = new; spare = min ((vec_capacity i.bytes - vec_len i.bytes) / 4104) (vec_capacity i.index - vec_len i.index) } in
    rw (← c.self.view_is) (ap image pages)

pub returns-in_default : goal.returns-in_default
returns-in_default c =
    let i = c.self.inside in
    let at : place_in i.index.items c.args.frame ≡ None = cc in
    let none = page_of-none i.bytes.items i.index.items c.self.invariant.indexed c.args.frame at in
    let held : IsSome (page_of (pages_at i.bytes.items 0 (length i.index.items)) c.args.frame) = subst (λ image. IsSome (page_of image.pages c.args.frame)) (sym c.self.view_is) c.requires.held in
    absurd (false≢true (subst IsSome none held))
