use Rattle.std.proofs.Common.{◌≡◌, ℕ, ◌+◌, ◌++◌, [], ◌∷◌, List, refl, sym, ap, subst, ◌∙◌}
use Rattle.stage2_walk.specs.Pages.{Page, frames_of}
use Rattle.stage2_walk.specs.TableImages.{TableImage}
use Rattle.stage2_walk.proofs.WordLemmas.{frames_of-push}
use Rattle.stage2_tables.specs.BlankPages.{AreBlank}
use Rattle.stage2_tables.proofs.DrawLemmas.{AreBlank-push, second_fresh}
use Rattle.stage2_tables.proofs.draw.push_roots.Goals as goal

pub push-requires-2-clause-fresh : goal.push-requires-2-clause-fresh
push-requires-2-clause-fresh c =
    let none : c.set_root.new.self.pages ≡ [] = ap (λ (image : TableImage). image.pages) c.set_root.ensures ∙ c.requires.empty in
    second_fresh c.push.new.self.pages c.args.root
    (ap frames_of c.push.ensures.pages ∙ frames_of-push c.set_root.new.self.pages c.args.root ∙ ap (λ (pages : List Page). frames_of pages ++ c.args.root ∷ []) none)

pub returns-clause-frames : goal.returns-clause-frames
returns-clause-frames c =
    let none : c.set_root.new.self.pages ≡ [] = ap (λ (image : TableImage). image.pages) c.set_root.ensures ∙ c.requires.empty in
    let first : frames_of c.push.new.self.pages ≡ c.args.root ∷ [] = ap frames_of c.push.ensures.pages ∙ frames_of-push c.set_root.new.self.pages c.args.root ∙ ap (λ (pages : List Page). frames_of pages ++ c.args.root ∷ []) none in
    ap frames_of c.push-2.ensures.pages ∙ frames_of-push c.push.new.self.pages (c.args.root + 1) ∙ ap (λ (frames : List ℕ). frames ++ (c.args.root + 1) ∷ []) first

pub returns-clause-blank : goal.returns-clause-blank
returns-clause-blank c =
    let none : c.set_root.new.self.pages ≡ [] = ap (λ (image : TableImage). image.pages) c.set_root.ensures ∙ c.requires.empty in
    let start : AreBlank c.set_root.new.self.pages = subst AreBlank (sym none) refl in
    let first : AreBlank c.push.new.self.pages = subst AreBlank (sym c.push.ensures.pages) (AreBlank-push c.set_root.new.self.pages c.args.root start) in
    subst AreBlank (sym c.push-2.ensures.pages) (AreBlank-push c.push.new.self.pages (c.args.root + 1) first)
