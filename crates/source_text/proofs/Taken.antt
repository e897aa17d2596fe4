-- What a byte adds to what is kept in memory.
use Rattle.std.proofs.Common.{◌≡◌, ◌∙◌, subst, ℕ, suc, [], ◌∷◌, ◌++◌, Some}
use Rattle.fdt_tree.specs.Tree.{Bytes}
use Rattle.fdt_read.specs.Tokens.{begin_node, end_node, property}
use Rattle.source_text.specs.declared.state.Action.TheVariants.{Give, GiveEmpty, Open, Close}
use Rattle.source_text.specs.declared.growing.Growing.{Growing}
use Rattle.source_text.specs.declared.reading.Reading.{Reading}
use Rattle.source_text.specs.PrivateTurns.{above}
use Rattle.source_text.specs.PrivateReadings.{Built, IsGrown, IsRead, act}

-- With another tree.
abbrev pub with_growing : Reading → Growing → Reading
with_growing r g = record r { growing = g }

module _ (b : Built) (depth : ℕ) (r : Reading) (i : IsRead b depth r) (g : Growing) (c : ℕ) where
  pub taken_give : (name value : Bytes) → name ≡ r.name.items → value ≡ r.value.items → IsGrown (b.tokens ++ property (Some name) value ∷ []) depth g → IsRead (act Give c b) depth (with_growing r g)
  taken_give name value e f w = record {
    name = i.name;
    value = i.value;
    address = i.address;
    reserves = i.reserves;
    grown = subst (λ (n : Bytes). IsGrown (b.tokens ++ property (Some n) b.value ∷ []) depth g) (e ∙ i.name) (subst (λ (v : Bytes). IsGrown (b.tokens ++ property (Some name) v ∷ []) depth g) (f ∙ i.value) w);
  }

  pub taken_empty : (name : Bytes) → name ≡ r.name.items → IsGrown (b.tokens ++ property (Some name) [] ∷ []) depth g → IsRead (act GiveEmpty c b) depth (with_growing r g)
  taken_empty name e w = record {
    name = i.name;
    value = i.value;
    address = i.address;
    reserves = i.reserves;
    grown = subst (λ (n : Bytes). IsGrown (b.tokens ++ property (Some n) [] ∷ []) depth g) (e ∙ i.name) w;
  }

  pub taken_open : (name : Bytes) → name ≡ r.name.items → IsGrown (b.tokens ++ begin_node name ∷ []) (suc depth) g → IsRead (act Open c b) (suc depth) (with_growing r g)
  taken_open name e w = record {
    name = i.name;
    value = i.value;
    address = i.address;
    reserves = i.reserves;
    grown = subst (λ (n : Bytes). IsGrown (b.tokens ++ begin_node n ∷ []) (suc depth) g) (e ∙ i.name) w;
  }

  pub taken_close : IsGrown (b.tokens ++ end_node ∷ []) (above depth) g → IsRead (act Close c b) (above depth) (with_growing r g)
  taken_close w = record { name = i.name; value = i.value; address = i.address; reserves = i.reserves; grown = w }
