use Rattle.std.proofs.Common.{◌≡◌, ◌∙◌, ap₂, ℕ, length, sum_by}
use Rattle.guest_images.specs.declared.images.GuestImage.{GuestImage}
use Rattle.build_outputs.specs.Totals.{all_tables}
use Rattle.build_outputs.specs.declared.totals.Totals.{Totals}
use Rattle.build_outputs.proofs.Counts.{tables_of_images}
use Rattle.build_outputs.proofs.totals.count_totals.Goals as goal

pub count_tables-requires : goal.count_tables-requires
count_tables-requires c =
    let same : sum_by (λ (image : GuestImage). image.tables) c.args.images.now ≡ all_tables c.args.guests.now = tables_of_images c.args.guests.now c.args.images.now c.requires.tables in
    rw same c.requires.few_tables

pub returns : goal.returns
returns c =
    let of : ℕ → ℕ → Totals = λ ram tables. record { guests = length c.args.guests.now; ram = ram; tables = tables; free = c.args.left } in
    ap₂ of c.count_pages.ensures (c.count_tables.ensures ∙ tables_of_images c.args.guests.now c.args.images.now c.requires.tables)
