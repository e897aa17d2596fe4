-- The definitions on a small base and its overlay.
use Rattle.std.proofs.Common.{◌≡◌, ℕ, [], ◌∷◌, ◌++◌, Ok, Err, refl}
use Rattle.std.specs.Prelude.{codes}
use Rattle.fdt_tree.specs.Tree.{Bytes, none, tree, Tree}
use Rattle.overlaid_trees.specs.declared.fault.OverlayFault.TheVariants.{Unresolved, BadFixup}
use Rattle.overlaid_trees.specs.Applied.{applied}

-- a small number as a word
abbrev pub word : ℕ → Bytes
word n = 0 ∷ 0 ∷ 0 ∷ n ∷ []

-- the bytes of a string
abbrev pub string : Bytes → Bytes
string text = text ++ 0 ∷ []

-- a base with a serial port that has a label
abbrev pub base : Tree
base = record {
  name = [];
  properties = [];
  children =
      tree (codes "uart0") ((codes "phandle", word 5) ∷ []) none
      (tree (codes "__symbols__") ((codes "uart0", string (codes "/uart0")) ∷ []) none
      none);
}

-- an overlay that turns the port of a label on and gives it a clock: its fixups name one label with one word
abbrev pub overlay_of : Bytes → Bytes → Tree
overlay_of label spot = record {
  name = [];
  properties = [];
  children =
      tree (codes "fragment@0") ((codes "target", 255 ∷ 255 ∷ 255 ∷ 255 ∷ []) ∷ [])
      (tree (codes "__overlay__") ((codes "status", string (codes "okay")) ∷ [])
      (tree (codes "clk") ((codes "phandle", word 1) ∷ (codes "clocks", word 1) ∷ []) none none) none)
      (tree (codes "__local_fixups__") []
      (tree (codes "fragment@0") [] (tree (codes "__overlay__") [] (tree (codes "clk") ((codes "clocks", word 0) ∷ []) none none) none) none)
      (tree (codes "__fixups__") ((label, string spot) ∷ []) none
      none));
}

-- the port is on, and its clock has the next phandle
pub port_is_turned_on : applied base (overlay_of (codes "uart0") (codes "/fragment@0:target:0")) ≡ Ok (record {
  name = [];
  properties = [];
  children =
      tree (codes "uart0") ((codes "phandle", word 5) ∷ (codes "status", string (codes "okay")) ∷ [])
      (tree (codes "clk") ((codes "phandle", word 6) ∷ (codes "clocks", word 6) ∷ []) none none)
      (tree (codes "__symbols__") ((codes "uart0", string (codes "/uart0")) ∷ []) none
      none);
})
port_is_turned_on = refl

-- the base has no such label
pub other_label_is_named : applied base (overlay_of (codes "uart1") (codes "/fragment@0:target:0")) ≡ Err (Unresolved (codes "uart1"))
other_label_is_named = refl

-- the word would end behind the value
pub word_past_the_end_is_refused : applied base (overlay_of (codes "uart0") (codes "/fragment@0:target:1")) ≡ Err (BadFixup (codes "uart0"))
word_past_the_end_is_refused = refl
