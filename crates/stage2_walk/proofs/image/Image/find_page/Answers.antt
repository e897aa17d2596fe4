use Rattle.std.proofs.Common.{◌≡◌, ◌<◌, ℕ, length, Option, Some, None, sym, ap, ◌∙◌, arith}
use Rattle.std.specs.Prelude.{slice_index, IfSome, IfNone, IsNone}
use Rattle.stage2_walk.specs.Pages.{page_of, frames_of}
use Rattle.stage2_walk.specs.Places.{place_in}
use Rattle.stage2_walk.specs.ImageViews.{image_view}
use Rattle.stage2_walk.proofs.PageLemmas.{is_some-page_of, length-pages_at, frame-pages_at}
use Rattle.stage2_walk.proofs.image.Image.find_page.Goals as goal

-- what the search found is the place in the index
searched : (c : goal.After-find_place) → c.find_place.result ≡ place_in c.self.inside.index.items c.args.frame
searched c = c.find_place.ensures ∙ ap (λ places. place_in places c.args.frame) c.deref.ensures.value

pub returns-clause-there : goal.returns-clause-there
returns-clause-there c = rw (← c.self.view_is) (by_result c.find_place.result (searched c))
  where
    by_result : (o : Option ℕ) → o ≡ place_in c.self.inside.index.items c.args.frame → IfSome o (λ place. place < length (image_view c.self.inside).pages)
    by_result None at = tt
    by_result (Some k) at =
        let i = c.self.inside in
        let low = c.self.invariant.indexed.within c.args.frame k (sym at) in
        omega (arith, length-pages_at i.bytes.items 0 (length i.index.items))

pub returns-clause-frame : goal.returns-clause-frame
returns-clause-frame c = rw (← c.self.view_is) (by_result c.find_place.result (searched c))
  where
    by_result : (o : Option ℕ) → o ≡ place_in c.self.inside.index.items c.args.frame → IfSome o (λ place. slice_index (frames_of (image_view c.self.inside).pages) place ≡ c.args.frame)
    by_result None at = tt
    by_result (Some k) at =
        let i = c.self.inside in
        let low = c.self.invariant.indexed.within c.args.frame k (sym at) in
        frame-pages_at i.bytes.items (length i.index.items) k low ∙ c.self.invariant.indexed.right c.args.frame k (sym at)

pub returns-clause-none : goal.returns-clause-none
returns-clause-none c = rw (← c.self.view_is) (by_result c.find_place.result (searched c))
  where
    by_result : (o : Option ℕ) → o ≡ place_in c.self.inside.index.items c.args.frame → IfNone o (IsNone (page_of (image_view c.self.inside).pages c.args.frame))
    by_result None at =
        let i = c.self.inside in
        is_some-page_of i.bytes.items i.index.items c.self.invariant.indexed c.args.frame None (sym at)
    by_result (Some k) at = tt
