use Rattle.std.proofs.Common.{◌≡◌, ℕ, ◌++◌, ◌∷◌, drop, take, List, sym, ap, subst, ◌∙◌}
use Rattle.frame_alloc.proofs.FreeFrames.{lowest_frame-front}
use Rattle.stage2_walk.specs.Pages.{frames_of}
use Rattle.stage2_walk.proofs.WordLemmas.{frames_of-push}
use Rattle.stage2_tables.specs.BlankPages.{AreApart, AreBlank}
use Rattle.stage2_tables.proofs.DrawLemmas.{AreApart-next, page_of-none, AreBlank-push}
use Rattle.stage2_tables.proofs.draw.draw_page.Goals as goal

pub push-requires-clause-low : goal.push-requires-clause-low
push-requires-clause-low c =
    let free = c.args.pool.now.free in
    let front : free ≡ c.in-Some.frame ∷ drop 1 free = lowest_frame-front free c.in-Some.frame (sym c.in-Some.ensures.lowest_frame) in
    (AreApart-next (frames_of c.args.image.now.pages) c.in-Some.frame (drop 1 free) (subst (λ (list : List ℕ). AreApart (frames_of c.args.image.now.pages ++ list)) front c.requires.apart)).0

pub push-requires-clause-fresh : goal.push-requires-clause-fresh
push-requires-clause-fresh c =
    let free = c.args.pool.now.free in
    let front : free ≡ c.in-Some.frame ∷ drop 1 free = lowest_frame-front free c.in-Some.frame (sym c.in-Some.ensures.lowest_frame) in
    page_of-none c.args.image.now.pages c.in-Some.frame
    (AreApart-next (frames_of c.args.image.now.pages) c.in-Some.frame (drop 1 free) (subst (λ (list : List ℕ). AreApart (frames_of c.args.image.now.pages ++ list)) front c.requires.apart)).1

pub returns-in-Some-clause-frames : goal.returns-in-Some-clause-frames
returns-in-Some-clause-frames c =
    let free = c.args.pool.now.free in
    let front : free ≡ c.in-Some.frame ∷ drop 1 free = lowest_frame-front free c.in-Some.frame (sym c.in-Some.ensures.lowest_frame) in
    ap frames_of c.push.ensures.pages ∙ frames_of-push c.args.image.now.pages c.in-Some.frame
    ∙ ap (λ (list : List ℕ). frames_of c.args.image.now.pages ++ list) (sym (ap (take 1) front))

pub returns-in-Some-clause-blank : goal.returns-in-Some-clause-blank
returns-in-Some-clause-blank c = subst AreBlank (sym c.push.ensures.pages) (AreBlank-push c.args.image.now.pages c.in-Some.frame c.requires.blank)
