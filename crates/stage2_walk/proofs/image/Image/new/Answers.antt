use Rattle.std.proofs.Common.{◌≡◌, ℕ, ◌-◌, ◌/◌, min, List, arith}
use Rattle.stage2_walk.specs.Pages.{Page}
use Rattle.stage2_walk.specs.TableImages.{TableImage}
use Rattle.stage2_walk.proofs.PageLemmas.{no_pages, IsIndex-none}
use Rattle.stage2_walk.proofs.image.Image.new.Goals as goal

made : (root : ℕ) (pages none : List Page) (a b c d : ℕ) → pages ≡ none → a ≡ 0 → c ≡ 0 → ◌≡◌ {A = TableImage} (record { root = root; pages = pages; spare = min ((a - b) / 4104) (c - d) }) (record { root = root; pages = none; spare = 0 })
made root pages none a b c d same first second =
    let spare : min ((a - b) / 4104) (c - d) ≡ 0 = omega arith in
    cc

pub returns : goal.returns
returns c = made c.args.root _ _ _ _ _ _ (no_pages c.new.result.items c.new-2.result.items c.new-2.ensures.items) c.new.ensures.capacity c.new-2.ensures.capacity

pub invariant_of-result : goal.invariant_of-result
invariant_of-result c = record {
  even = c.requires.even;
  low = c.requires.low;
  indexed = IsIndex-none c.new.result.items c.new-2.result.items c.new.ensures.items c.new-2.ensures.items;
}
