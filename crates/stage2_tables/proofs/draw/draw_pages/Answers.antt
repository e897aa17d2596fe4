use Rattle.std.proofs.Common.{◌≡◌, ℕ, ◌+◌, ◌++◌, [], ◌∷◌, List, take, drop, get_or, append_assoc, sym, ap, ◌∙◌, arith}
use Rattle.std.proofs.lemmas.List.{take_more, drop_more}
use Rattle.stage2_walk.specs.Pages.{frames_of}
use Rattle.stage2_tables.proofs.draw.draw_pages.Goals as goal

pub loop-drawn-preserved : goal.loop-drawn-preserved
loop-drawn-preserved c =
    let now = c.loop-drawn.invariant in
    let free : List ℕ = c.args.pool.now.free in
    let k : ℕ = c.loop-drawn._drawn in
    let start : List ℕ = frames_of c.args.image.now.pages in
    let front : drop k free ≡ get_or free k 0 ∷ drop (k + 1) free = drop_more free k 0 (let enough = c.requires.enough in omega arith) in
    let taken : take (k + 1) free ≡ take k free ++ get_or free k 0 ∷ [] = take_more free k 0 (let enough = c.requires.enough in omega arith) in
    let rest : c.loop-drawn.pool.free ≡ get_or free k 0 ∷ drop (k + 1) free = now.rest ∙ front in
    record {
      same_root = c.draw_page.ensures.root ∙ now.same_root;
      frames = c.draw_page.ensures.frames ∙ ap (λ (frames : List ℕ). frames ++ take 1 c.loop-drawn.pool.free) now.frames ∙ ap (λ (list : List ℕ). (start ++ take k free) ++ take 1 list) rest
          ∙ append_assoc start (take k free) (get_or free k 0 ∷ []) ∙ ap (λ (list : List ℕ). start ++ list) (sym taken);
      blank = c.draw_page.ensures.blank;
      rest = c.draw_page.ensures.rest ∙ ap (drop 1) rest;
      room = (let spare = c.draw_page.ensures.spare in let room = now.room in omega arith);
    }
