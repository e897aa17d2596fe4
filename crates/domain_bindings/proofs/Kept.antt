-- Nodes that are kept, one after the other.
use Rattle.std.proofs.Common.{◌≡◌, ◌∙◌, ap, sym, subst, refl, ℕ, ◌+◌, ◌<◌, length, List, [], ◌∷◌, ◌++◌, take, map, All, Bool, true, false, add-one, slice_index_or}
use Rattle.std.specs.Prelude.{filter}
use Rattle.std.proofs.Math.Seq.{take-suc}
use Rattle.std.proofs.lemmas.List.{map-append, append-nil}
use Rattle.std.proofs.lemmas.List.Elements.{filter-append, All-append, All-filter, All-head, All-nil, All-cons, All-tail}
use Rattle.fdt_tree.specs.Document.{Document}
use Rattle.fdt_tree.specs.Tree.{Trees, none, tree}
use Rattle.fdt_tree.specs.Values.{cells_of}
use Rattle.fdt_nodes.specs.Nodes.{Node, child, children, children_from}
use Rattle.fdt_nodes.specs.Held.{node_of, Are}

-- one more item of a list
pub one_more : {A : Type 0} (items : List A) (index : ℕ) (item : A) → index < length items → item ≡ slice_index_or items index item → take (index + 1) items ≡ take index items ++ item ∷ []
one_more items index item there is =
    ap (λ n. take n items) (add-one index) ∙ (take-suc items index item there ∙ ap (λ x. take index items ++ x ∷ []) (sym is))

-- and of the values at the items
pub map_more : {A B : Type 0} (f : A → B) (items : List A) (index : ℕ) (item : A) → index < length items → item ≡ slice_index_or items index item → map f (take (index + 1) items) ≡ map f (take index items) ++ f item ∷ []
map_more f items index item there is = ap (map f) (one_more items index item there is) ∙ map-append f (take index items) (item ∷ [])

pub filter_kept : {A : Type 0} (test : A → Bool) (before : List A) (item : A) → test item ≡ true → filter test (before ++ item ∷ []) ≡ filter test before ++ item ∷ []
filter_kept test before item is = filter-append test before (item ∷ []) ∙ ap (λ one. filter test before ++ one) (rw is refl)

pub filter_left : {A : Type 0} (test : A → Bool) (before : List A) (item : A) → test item ≡ false → filter test (before ++ item ∷ []) ≡ filter test before
filter_left test before item is = filter-append test before (item ∷ []) ∙ (ap (λ one. filter test before ++ one) (rw is refl) ∙ append-nil (filter test before))

module _ (document : Document) (test : Node → Bool) (items : List ℕ) (index : ℕ) (item : ℕ) where
  abbrev so_far : ℕ → List Node
  so_far count = filter test (map (node_of document) (take count items))

  -- a node that passes the test is kept
  pub keeps : (kept new : List ℕ) → Are document (so_far index) kept → index < length items → item ≡ slice_index_or items index item → item < length document.places
      → test (node_of document item) ≡ true → new ≡ kept ++ item ∷ [] → Are document (so_far (index + 1)) new
  keeps kept new are there is live passes added = record {
    live = subst (All (λ number. number < length document.places)) (sym added) (All-append (λ number. number < length document.places) kept (item ∷ []) are.live (All-cons (λ number. number < length document.places) item [] live (All-nil (λ number. number < length document.places))));
    are = ap (map (node_of document)) added ∙ (map-append (node_of document) kept (item ∷ []) ∙ (ap (λ nodes. nodes ++ node_of document item ∷ []) are.are
        ∙ sym (ap (filter test) (map_more (node_of document) items index item there is) ∙ filter_kept test (map (node_of document) (take index items)) (node_of document item) passes)));
  }

  -- and another is left out
  pub leaves : (kept new : List ℕ) → Are document (so_far index) kept → index < length items → item ≡ slice_index_or items index item
      → test (node_of document item) ≡ false → new ≡ kept → Are document (so_far (index + 1)) new
  leaves kept new are there is fails same = subst (λ nodes. Are document nodes new)
      (sym (ap (filter test) (map_more (node_of document) items index item there is) ∙ filter_left test (map (node_of document) (take index items)) (node_of document item) fails))
      (subst (Are document (so_far index)) (sym same) are)

-- an item of a list of nodes is live
pub live_at : (document : Document) (nodes : List Node) (held items : List ℕ) (index item : ℕ) → Are document nodes held → items ≡ held → index < length items → item ≡ slice_index_or items index item
    → item < length document.places
live_at document nodes held items index item are same there is =
    let all : All (λ number. number < length document.places) items = subst (All (λ number. number < length document.places)) (sym same) are.live in
    subst (λ number. number < length document.places) (sym is) (all index item there)

-- the cells of a node's children are those that it counts
children_cells : (above : Node) (number : ℕ) (trees : Trees) → All (λ (node : Node). node.cells ≡ cells_of above.properties) (children_from above number trees)
children_cells above number none = All-nil (λ (node : Node). node.cells ≡ cells_of above.properties)
children_cells above number (tree name properties below rest) =
    All-cons (λ (node : Node). node.cells ≡ cells_of above.properties) (child above number name properties below) (children_from above (number + 1) rest) refl (children_cells above (number + 1) rest)

all_of_map : {A B : Type 0} (P : B → Type 0) (f : A → B) (items : List A) → All P (map f items) → All (λ item. P (f item)) items
all_of_map P f [] all = All-nil (λ item. P (f item))
all_of_map P f (item ∷ items) all =
    All-cons (λ one. P (f one)) item items (All-head P (f item) (map f items) all) (all_of_map P f items (All-tail P (f item) (map f items) all))

-- and so are those of the children that are kept
pub kept_cells : (document : Document) (above : Node) (test : Node → Bool) (kept : List ℕ) → Are document (filter test (children above)) kept
    → All (λ number. (node_of document number).cells ≡ cells_of above.properties) kept
kept_cells document above test kept are =
    let same : Node → Type 0 = λ node. node.cells ≡ cells_of above.properties in
    all_of_map same (node_of document) kept (subst (All same) (sym are.are) (All-filter test same (children above) (children_cells above 0 above.children)))
