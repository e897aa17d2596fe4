use Rattle.std.proofs.Common.{◌∙◌, ap, ℕ, ◌∷◌, [], ◌++◌, List, refl}
use Rattle.std.specs.Prelude.{Vec}
use Rattle.std.specs.declared.alloc.Global.{Global}
use Rattle.std.specs.Ordering.{nat_cmp}
use Rattle.std.specs.Cmp.Lexicographic.{slice_cmp}
use Rattle.std.specs.BTreeMap.{is_at}
use Rattle.std.specs.Map.{lookup}
use Rattle.fdt_tree.proofs.Lists.{read-there}
use Rattle.indexed_tree.proofs.entry.child_entry.Goals as goal

pub returns : goal.returns
returns c = record {
  above = c.index-entries-parent.result;
  here = read-there c.args.entries.now c.args.parent c.index-entries-parent.result c.requires c.index-entries-parent.is;
  below = refl;
  place = c.in_ok-push.ensures.items ∙ ap (λ (ks : List ℕ). ks ++ c.index-entries-parent.result.count ∷ []) (c.in_ok-place.ensures.items_if_clones_equal (λ x y e. e) ∙ c.as_slice.ensures.value);
  name_is = c.in_ok-copied.ensures;
  properties = c.new.ensures;
  alone = refl;
  childless = λ other. ap (λ (es : List (Vec ℕ Global × ℕ)). lookup (is_at (λ (key : Vec ℕ Global). slice_cmp nat_cmp other key.items)) es) c.new-2.ensures.empty;
}
