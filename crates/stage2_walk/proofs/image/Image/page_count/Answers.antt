use Rattle.std.proofs.Common.{length, sym, ◌∙◌}
use Rattle.stage2_walk.proofs.PageLemmas.{length-pages_at}
use Rattle.stage2_walk.proofs.image.Image.page_count.Goals as goal

pub returns : goal.returns
returns c =
    let i = c.self.inside in
    rw (← c.self.view_is) (c.len.ensures ∙ i.index.ok.0 ∙ sym (length-pages_at i.bytes.items 0 (length i.index.items)))
