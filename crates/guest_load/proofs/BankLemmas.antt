-- The first memory of a tree, from node to node.
use Rattle.std.proofs.Common.{◌≡◌, ◌∙◌, ◌≢◌, ap, sym, refl, ℕ, suc, ◌+◌, ◌-◌, ◌*◌, ◌/◌, ◌%◌, ◌<◌, ◌≤◌, ◌==◌, Bool, true, false, cond, is_some, List, [], ◌∷◌, ◌++◌, length, take, map, flat_map, Option, Some, None, option_map, arith, add-one}
use Rattle.std.specs.Prelude.{IfSome, option_and_then}
use Rattle.std.specs.Option.{ForSome}
use Rattle.std.proofs.lemmas.Bool.{eq-eqb, ne_eqb}
use Rattle.std.proofs.Math.Nat.{div-eq-sub-div, div-eq_of_lt}
use Rattle.texts.specs.declared.ranges.BaseSize.{BaseSize}
use Rattle.fdt_tree.specs.Tree.{Bytes, Place}
use Rattle.fdt_tree.specs.Document.{Document, IsNumbering, place_of, next_place, if_there}
use Rattle.fdt_nodes.specs.Nodes.{Node, children, node_at}
use Rattle.fdt_nodes.specs.Held.{node_of}
use Rattle.fdt_nodes.specs.Entries.{pieces, region, regions}
use Rattle.fdt_nodes.proofs.PlaceNodes.{siblings, from_place-first, first_child-siblings, next_sibling-siblings}
use Rattle.fdt_nodes.proofs.WalkLemmas.{later_place}
use Rattle.fdt_nodes.proofs.Turns.{IsLive, for_some}
use Rattle.guest_load.specs.Banks.{first_of, whole_entries, memory_of, memories}

-- ---- the first entry of a value

first_piece : {A : Type 0} (f : Bytes → A) (size count k : ℕ) (bytes : Bytes) → count ≡ suc k → first_of (map f (pieces size count bytes)) ≡ Some (f (take size bytes))
first_piece f size count k bytes is = rw is refl

no_piece : {A : Type 0} (f : Bytes → A) (size count : ℕ) (bytes : Bytes) → count ≡ 0 → first_of (map f (pieces size count bytes)) ≡ None
no_piece f size count bytes is = rw is refl

module _ (cells : ℕ × ℕ) (bytes : Bytes) where
  abbrev size : ℕ
  size = 4 * (cells.0 + cells.1)

  -- bytes that are not whole entries have none
  pub not_whole : length bytes % (4 * (cells.0 + cells.1)) ≢ 0 → first_of (whole_entries cells bytes) ≡ None
  not_whole rest = by (length bytes % size == 0) (ne_eqb (length bytes % size) 0 rest)
    where
      by : (test : Bool) → test ≡ false → first_of (cond test (regions cells bytes) []) ≡ None
      by true is = absurd (cc)
      by false is = refl

  -- too few bytes have none
  pub too_few : length bytes < 4 * (cells.0 + cells.1) → first_of (whole_entries cells bytes) ≡ None
  too_few few = by (length bytes % size == 0) (no_piece (region cells) size (length bytes / size) bytes (div-eq_of_lt few))
    where
      by : (test : Bool) → first_of (regions cells bytes) ≡ None → first_of (cond test (regions cells bytes) []) ≡ None
      by true none = none
      by false none = refl

  -- the first entry is that of the first bytes
  pub first_entry : 0 < 4 * (cells.0 + cells.1) → 4 * (cells.0 + cells.1) ≤ length bytes → length bytes % (4 * (cells.0 + cells.1)) ≡ 0
      → first_of (whole_entries cells bytes) ≡ Some (region cells (take (4 * (cells.0 + cells.1)) bytes))
  first_entry some there whole =
      by (length bytes % size == 0) (eq-eqb (length bytes % size) 0 whole)
      (first_piece (region cells) size (length bytes / size) ((length bytes - size) / size) bytes (div-eq-sub-div some there ∙ add-one _))
    where
      by : (test : Bool) → test ≡ true → first_of (regions cells bytes) ≡ Some (region cells (take size bytes)) → first_of (cond test (regions cells bytes) []) ≡ Some (region cells (take size bytes))
      by true is first = first
      by false is first = absurd (cc)

-- ---- from node to node

first_here : {A : Type 0} (items others : List A) (found : Option A) → found ≡ first_of items → is_some found ≡ true → found ≡ first_of (items ++ others)
first_here [] others found is there = absurd (cc)
first_here (x ∷ items) others found is there = is

first_later : {A : Type 0} (items others : List A) (found : Option A) → found ≡ first_of items → is_some found ≡ false → items ++ others ≡ others
first_later [] others found is none = refl
first_later (x ∷ items) others found is none = absurd (cc)

-- the memory of some nodes
abbrev pub memories_among : List Node → List BaseSize
memories_among nodes = flat_map memory_of nodes

-- no memory was met yet: the first of the tree is the first from here on
pub record IsLeft (d : Document) (here : Option ℕ) : Type 0 where
  pub numbered : IsNumbering d
  pub live : ForSome here (IsLive d)
  pub same : memories d.tree ≡ memories_among (siblings d here)

module _ (d : Document) where
  pub all_left : (root : ℕ) (first : Option ℕ) → IsNumbering d → IsLive d root → place_of d root ≡ []
      → option_map (λ child. place_of d child) first ≡ if_there d (place_of d root ++ 0 ∷ []) → IfSome first (IsLive d) → IsLeft d first
  unfolding memories
  all_left root first numbered live place is next = record {
    numbered = numbered;
    live = for_some (IsLive d) first next;
    same = ap memories_among (sym (first_child-siblings d root first numbered live is ∙ ap (λ (p : Place). children (node_at d.tree p)) place));
  }

  module _ (here : Option ℕ) (node : ℕ) (is : here ≡ Some node) (left : IsLeft d here) where
    pub live_here : node < length d.places
    live_here = left.live node is

    -- the memory of a node is the first
    pub first_found : (found : Option BaseSize) → found ≡ first_of (memory_of (node_of d node)) → is_some found ≡ true → found ≡ first_of (memories d.tree)
    first_found found said there =
        first_here (memory_of (node_of d node)) (memories_among (later_place d.tree (place_of d node))) found said there
        ∙ ap first_of (sym (left.same ∙ ap (λ (h : Option ℕ). memories_among (siblings d h)) is ∙ ap memories_among (from_place-first d.tree (place_of d node) (left.numbered.stand node live_here))))

    module _ (next : Option ℕ) (place : option_map (λ n. place_of d n) next ≡ option_and_then (λ p. if_there d p) (next_place (place_of d node))) where
      step : siblings d here ≡ node_of d node ∷ siblings d next
      step = ap (siblings d) is ∙ next_sibling-siblings d node next left.numbered live_here place

      -- a node without memory is passed
      pub passed : (found : Option BaseSize) → found ≡ first_of (memory_of (node_of d node)) → is_some found ≡ false → IfSome next (IsLive d) → IsLeft d next
      passed found said none live = record {
        numbered = left.numbered;
        live = for_some (IsLive d) next live;
        same = left.same ∙ ap memories_among step ∙ first_later (memory_of (node_of d node)) (memories_among (siblings d next)) found said none;
      }

      pub fewer : length (siblings d next) < length (siblings d here)
      fewer = rw step (omega arith)

  -- no node is left
  pub none_left : (here : Option ℕ) → here ≡ None → IsLeft d here → None ≡ first_of (memories d.tree)
  none_left here is left = sym (ap first_of (left.same ∙ ap (λ (h : Option ℕ). memories_among (siblings d h)) is))
