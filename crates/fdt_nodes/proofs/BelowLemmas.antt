-- The nodes that a walk below a node enters are those below it.
use Rattle.std.proofs.Common.{◌≡◌, ◌∙◌, ap, sym, subst, refl, ℕ, ◌+◌, List, [], ◌∷◌, ◌++◌, Some, None, append_assoc, All, map}
use Rattle.std.specs.Prelude.{Option, IsSome, flat_map}
use Rattle.std.specs.Option.{option_to_list}
use Rattle.std.proofs.lemmas.List.{append-nil, map-append}
use Rattle.std.proofs.lemmas.List.Elements.{All-nil, All-cons, All-head, All-tail}
use Rattle.fdt_tree.specs.Tree.{Trees, none, tree, Tree, Place, at}
use Rattle.fdt_tree.specs.Document.{Document, IsNumbering, place_of, children_of}
use Rattle.fdt_tree.specs.Visits.{Seen, begins, ends, visits_below, entered, seen, IsLive as IsLiveVisit}
use Rattle.fdt_tree.specs.declared.walk.Visit.{Visit}
use Rattle.fdt_tree.specs.declared.walk.Visit.TheVariants.{Enter, Leave}
use Rattle.fdt_tree.proofs.Order.{next_place-child}
use Rattle.fdt_nodes.specs.Nodes.{Node, child, children, children_from, nodes_from, descendants, nodes_of, node_at}
use Rattle.fdt_nodes.specs.Held.{node_of, Are}
use Rattle.fdt_nodes.proofs.WalkLemmas.{from_place, from_next, from_place-none, from_place-next}
use Rattle.fdt_nodes.proofs.PlaceNodes.{from_place-child, from_place-first}
use Rattle.fdt_nodes.proofs.Turns.{IsLive, all_more, map_more}

-- the places of the nodes that begin
abbrev begun : List Seen → List Place
begun [] = []
begun (begins place name properties ∷ rest) = place ∷ begun rest
begun (ends ∷ rest) = begun rest

begun-append : (xs ys : List Seen) → begun (xs ++ ys) ≡ begun xs ++ begun ys
begun-append [] ys = refl
begun-append (begins place name properties ∷ xs) ys = ap (λ (places : List Place). place ∷ places) (begun-append xs ys)
begun-append (ends ∷ xs) ys = begun-append xs ys

same_head : {A : Type 0} (x y : A) (xs ys : List A) → x ∷ xs ≡ y ∷ ys → x ≡ y
same_head x y xs ys e = cc

same_tail : {A : Type 0} (x y : A) (xs ys : List A) → x ∷ xs ≡ y ∷ ys → xs ≡ ys
same_tail x y xs ys e = cc

module _ (whole : Tree) where
  -- the children of a node from a number on, where they stand
  abbrev StandFrom : Node → ℕ → Trees → Type 0
  StandFrom above number trees = children_from above number trees ≡ from_place whole (above.place ++ number ∷ [])

  -- a first child stands, and so do the later ones and those below it
  record IsFirst (above : Node) (number : ℕ) (first : Node) (rest : Trees) : Type 0 where
    same : node_at whole (above.place ++ number ∷ []) ≡ first
    below : from_place whole ((above.place ++ number ∷ []) ++ 0 ∷ []) ≡ children first
    later : StandFrom above (number + 1) rest

  is_first : (above : Node) (number : ℕ) (first : Node) (rest : Trees) (found : Option Tree) → at whole (above.place ++ number ∷ []) ≡ found
      → first ∷ children_from above (number + 1) rest ≡ from_place whole (above.place ++ number ∷ []) → IsFirst above number first rest
  is_first above number first rest None is stand =
      absurd (let nothing : first ∷ children_from above (number + 1) rest ≡ [] = stand ∙ from_place-none whole (above.place ++ number ∷ []) is in cc)
  is_first above number first rest (Some u) is stand =
      let place : Place = above.place ++ number ∷ [] in
      let there : IsSome (at whole place) = subst (λ (o : Option Tree). IsSome o) (sym is) refl in
      let both = stand ∙ from_place-first whole place there in
      let same : node_at whole place ≡ first = sym (same_head _ _ _ _ both) in
      record {
        same = same;
        below = from_place-child whole place there ∙ ap children same;
        later = same_tail _ _ _ _ both ∙ (sym (from_place-next whole place) ∙ ap (from_next whole) (next_place-child above.place number));
      }

  -- the places that begin are those of the nodes
  begun-nodes : (above : Node) (number : ℕ) (trees : Trees) → StandFrom above number trees
      → map (node_at whole) (begun (visits_below trees above.place number)) ≡ nodes_from above number trees
  begun-nodes above number none stand = refl
  begun-nodes above number (tree n ps cs rest) stand =
      let first : Node = child above number n ps cs in
      let is = is_first above number first rest (at whole (above.place ++ number ∷ [])) refl stand in
      let below : List Seen = visits_below cs first.place 0 in
      let later : List Seen = visits_below rest above.place (number + 1) in
      ap (λ (node : Node). node ∷ map (node_at whole) (begun (below ++ ends ∷ later))) is.same
      ∙ ap (λ (nodes : List Node). first ∷ nodes)
      (ap (map (node_at whole)) (begun-append below (ends ∷ later))
      ∙ (map-append (node_at whole) (begun below) (begun later)
      ∙ (ap (λ (nodes : List Node). nodes ++ map (node_at whole) (begun later)) (begun-nodes first 0 cs (sym is.below))
      ∙ ap (λ (nodes : List Node). nodes_from first 0 cs ++ nodes) (begun-nodes above (number + 1) rest is.later))))

  pub begun-below : (place : Place) → IsSome (at whole place)
      → map (node_at whole) (begun (visits_below (node_at whole place).children place 0)) ≡ descendants (node_at whole place)
  begun-below place there = begun-nodes (node_at whole place) 0 (node_at whole place).children (sym (from_place-child whole place there))

-- the nodes that are entered
abbrev pub entered_in : List Visit → List ℕ
entered_in visits = flat_map (λ visit. option_to_list (entered visit)) visits

module _ (document : Document) where
  entered-begun : (visits : List Visit) → map (node_of document) (entered_in visits) ≡ map (node_at document.tree) (begun (map (seen document) visits))
  entered-begun [] = refl
  entered-begun (Enter node ∷ visits) = ap (λ (nodes : List Node). node_of document node ∷ nodes) (entered-begun visits)
  entered-begun (Leave ∷ visits) = entered-begun visits

  -- what was found, and the visits to come
  pub record BelowLeft (node : ℕ) (old found : List ℕ) (left : List Visit) : Type 0 where
    pub live : All (IsLive document) old → All (IsLive document) found
    pub coming : All (IsLiveVisit document) left
    pub so_far : map (node_of document) found ++ map (node_of document) (entered_in left) ≡ map (node_of document) old ++ descendants (node_of document node)

  pub below_start : (node : ℕ) (old : List ℕ) (left : List Visit) → IsNumbering document → IsLive document node
      → map (seen document) left ≡ visits_below (children_of document node) (place_of document node) 0 → All (IsLiveVisit document) left → BelowLeft node old old left
  below_start node old left numbered live sees coming = record {
    live = λ all. all;
    coming = coming;
    so_far = ap (λ (nodes : List Node). map (node_of document) old ++ nodes)
        (entered-begun left ∙ (ap (λ (all : List Seen). map (node_at document.tree) (begun all)) sees
        ∙ begun-below document.tree (place_of document node) (numbered.stand node live)));
  }

  pub below_more : (node : ℕ) (old found new : List ℕ) (visit : Visit) (kid : ℕ) (left : List Visit) → BelowLeft node old found (visit ∷ left)
      → Some kid ≡ entered visit → new ≡ found ++ kid ∷ [] → BelowLeft node old new left
  below_more node old found new (Enter n) kid left was is added =
      let same : n ≡ kid = cc in
      record {
        live = λ all. subst (All (IsLive document)) (sym added) (all_more (IsLive document) found kid (was.live all) (subst (IsLive document) same (All-head (IsLiveVisit document) (Enter n) left was.coming)));
        coming = All-tail (IsLiveVisit document) (Enter n) left was.coming;
        so_far = let rest = map (node_of document) (entered_in left) in
            ap (λ (f : List ℕ). map (node_of document) f ++ rest) added
            ∙ (ap (λ (f : List Node). f ++ rest) (map_more (node_of document) found kid)
            ∙ (append_assoc (map (node_of document) found) (node_of document kid ∷ []) rest
            ∙ (ap (λ (m : ℕ). map (node_of document) found ++ node_of document m ∷ rest) (sym same) ∙ was.so_far)));
      }
  below_more node old found new Leave kid left was is added = absurd (cc)

  pub below_same : (node : ℕ) (old found : List ℕ) (visit : Visit) (left : List Visit) → BelowLeft node old found (visit ∷ left)
      → None ≡ entered visit → BelowLeft node old found left
  below_same node old found (Enter n) left was is = absurd (cc)
  below_same node old found Leave left was is = record {
    live = was.live;
    coming = All-tail (IsLiveVisit document) Leave left was.coming;
    so_far = was.so_far;
  }

  pub below_end : (node : ℕ) (old found : List ℕ) (left : List Visit) → left ≡ [] → BelowLeft node old found left
      → map (node_of document) found ≡ map (node_of document) old ++ descendants (node_of document node)
  below_end node old found left end was =
      sym (append-nil (map (node_of document) found))
      ∙ (ap (λ (visits : List Visit). map (node_of document) found ++ map (node_of document) (entered_in visits)) (sym end) ∙ was.so_far)

  -- what is added to nothing, and to the root alone
  pub are_below : (node : ℕ) (old found : List ℕ) → old ≡ [] → map (node_of document) found ≡ map (node_of document) old ++ descendants (node_of document node)
      → (All (IsLive document) old → All (IsLive document) found) → Are document (descendants (node_of document node)) found
  are_below node old found empty below lives = record {
    live = lives (subst (All (IsLive document)) (sym empty) (All-nil (IsLive document)));
    are = below ∙ ap (λ (o : List ℕ). map (node_of document) o ++ descendants (node_of document node)) empty;
  }

  pub are_all : (root : ℕ) (nothing first found : List ℕ) → IsLive document root → place_of document root ≡ [] → nothing ≡ [] → first ≡ nothing ++ root ∷ []
      → map (node_of document) found ≡ map (node_of document) first ++ descendants (node_of document root)
      → (All (IsLive document) first → All (IsLive document) found) → Are document (nodes_of document.tree) found
  are_all root nothing first found live place empty added below lives =
      let alone : first ≡ root ∷ [] = added ∙ ap (λ (n : List ℕ). n ++ root ∷ []) empty in
      record {
        live = lives (subst (All (IsLive document)) (sym alone) (All-cons (IsLive document) root [] live (All-nil (IsLive document))));
        are = below ∙ (ap (λ (f : List ℕ). map (node_of document) f ++ descendants (node_of document root)) alone
            ∙ ap (λ (p : Place). node_at document.tree p ∷ descendants (node_at document.tree p)) place);
      }
