use Rattle.std.proofs.Common.{ℕ, List, sym, ap, subst, ◌∙◌}
use Rattle.std.specs.Prelude.{All, IsTrue}
use Rattle.texts.specs.Consecutive.{is_in}
use Rattle.described.specs.Maps.{target_of}
use Rattle.described.specs.Regions.{table_count}
use Rattle.described.specs.declared.map_range.MapRange.{MapRange}
use Rattle.stage2_walk.specs.Pages.{Page, frames_of}
use Rattle.stage2_walk.specs.Files.{has_root}
use Rattle.stage2_tables.specs.Least.{least_image}
use Rattle.stage2_tables.specs.Translation.{TranslatesAs, IsComplete}
use Rattle.stage2_tables.proofs.DrawLemmas.{drawn_is, drawn_free, has_root-tables}
use Rattle.stage2_tables.proofs.LeastLevels.{least_walks}
use Rattle.stage2_tables.proofs.SpreadEnds.{maps_low}
use Rattle.stage2_tables.proofs.build.build_tables.Goals as goal

pub returns-clause-walk : goal.returns-clause-walk
returns-clause-walk c =
    let drawn = c.in_ok-image.ensures in
    let frames : List ℕ = frames_of c.in_ok-image.image.pages in
    let law = least_walks (target_of c.args.ranges.now) c.in_ok-image.image.root frames (maps_low c.args.ranges.now c.requires.sorted) drawn.tables (drawn.count ∙ c.count_tables-needed.ensures.count ∙ ap (λ (ranges : List MapRange). table_count (target_of ranges)) c.as_slice.ensures) in
    subst (λ (root : ℕ). TranslatesAs c.spread.new.image.pages root c.args.ranges.now) (sym c.spread.ensures.root)
    (subst (λ (pages : List Page). TranslatesAs pages c.in_ok-image.image.root c.args.ranges.now) (sym (c.spread.ensures.least ∙ ap (λ (ranges : List MapRange). least_image (target_of ranges) frames) c.as_slice-2.ensures)) law.0)

pub returns-clause-complete : goal.returns-clause-complete
returns-clause-complete c =
    let drawn = c.in_ok-image.ensures in
    let frames : List ℕ = frames_of c.in_ok-image.image.pages in
    let law = least_walks (target_of c.args.ranges.now) c.in_ok-image.image.root frames (maps_low c.args.ranges.now c.requires.sorted) drawn.tables (drawn.count ∙ c.count_tables-needed.ensures.count ∙ ap (λ (ranges : List MapRange). table_count (target_of ranges)) c.as_slice.ensures) in
    subst (IsComplete c.spread.new.image.pages) (sym c.spread.ensures.root)
    (subst (λ (pages : List Page). IsComplete pages c.in_ok-image.image.root) (sym (c.spread.ensures.least ∙ ap (λ (ranges : List MapRange). least_image (target_of ranges) frames) c.as_slice-2.ensures)) law.1)

pub returns-clause-root_pages : goal.returns-clause-root_pages
returns-clause-root_pages c =
    let drawn = c.in_ok-image.ensures in
    ap (λ (root : ℕ). has_root root (frames_of c.spread.new.image.pages)) c.spread.ensures.root
    ∙ ap (has_root c.in_ok-image.image.root) c.spread.ensures.frames
    ∙ has_root-tables c.args.pool.now.free c.in_ok-image.image.root (frames_of c.in_ok-image.image.pages) drawn.root drawn.tables

pub returns-clause-free_tables : goal.returns-clause-free_tables
returns-clause-free_tables c =
    let drawn = c.in_ok-image.ensures in
    let free : List ℕ = c.args.pool.now.free in
    let are = drawn_is c.count_tables-needed.result free (frames_of c.in_ok-image.image.pages) c.in_ok-image.image.root drawn.root drawn.frames in
    subst (λ (frames : List ℕ). All (λ frame. IsTrue (is_in free frame)) frames) (sym (c.spread.ensures.frames ∙ are))
    (drawn_free c.count_tables-needed.result free c.in_ok-image.image.root drawn.root)
