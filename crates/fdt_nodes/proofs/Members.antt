-- Every node that stands in a tree is among its nodes in document order.
use Rattle.std.proofs.Common.{◌≡◌, ap, sym, subst, refl, ℕ, zero, suc, ◌+◌, ◌<◌, ◌==◌, ◌||◌, inl, inr, Bool, true, false, List, [], ◌∷◌, ◌++◌, length, map, arith, All}
use Rattle.std.specs.Prelude.{IsSome}
use Rattle.std.specs.List.{list_any}
use Rattle.std.proofs.lemmas.Bool.Decides.{nat_tests}
use Rattle.std.proofs.lemmas.List.Elements.{All-head, All-tail}
use Rattle.texts.proofs.Ascending.{IsMember}
use Rattle.fdt_tree.specs.Tree.{Trees, none, tree, Tree, Place, at, at_in}
use Rattle.fdt_tree.specs.Document.{Document, IsNumbering, place_of}
use Rattle.fdt_nodes.specs.Nodes.{Node, root_of, child, nodes_from, nodes_of, node_at}
use Rattle.fdt_nodes.specs.Held.{node_of, Are}
use Rattle.fdt_nodes.proofs.WalkLemmas.{node_in}
use Rattle.fdt_nodes.proofs.PlaceNodes.{node_in-at}

member_before : {A : Type 0} (x : A) (xs ys : List A) → IsMember x xs → IsMember x (xs ++ ys)
member_before x [] ys is = absurd is
member_before x (y ∷ xs) ys (inl same) = inl same
member_before x (y ∷ xs) ys (inr is) = inr (member_before x xs ys is)

member_after : {A : Type 0} (x : A) (xs ys : List A) → IsMember x ys → IsMember x (xs ++ ys)
member_after x [] ys is = is
member_after x (y ∷ xs) ys is = inr (member_after x xs ys is)

member_map : {A B : Type 0} (f : A → B) (y : B) (xs : List A) → IsMember y (map f xs) → (x : A) × IsMember x xs × (f x ≡ y)
member_map f y [] is = absurd is
member_map f y (x ∷ xs) (inl same) = (x, inl refl, same)
member_map f y (x ∷ xs) (inr is) = let later = member_map f y xs is in (later.0, inr later.1, later.2)

-- a node that stands is among the nodes below the one above it
in_from : (above : Node) (number : ℕ) (trees : Trees) (k : ℕ) (place : Place) → IsSome (at_in trees k place) → IsMember (node_in above number trees k place) (nodes_from above number trees)
in_from above number none k place there = absurd (cc)
in_from above number (tree n ps cs rest) zero [] there = inl refl
in_from above number (tree n ps cs rest) zero (next ∷ place) there =
    inr (member_before _ (nodes_from (child above number n ps cs) 0 cs) (nodes_from above (number + 1) rest) (in_from (child above number n ps cs) 0 cs next place there))
in_from above number (tree n ps cs rest) (suc k) place there =
    inr (member_after _ (nodes_from (child above number n ps cs) 0 cs) (nodes_from above (number + 1) rest) (in_from above (number + 1) rest k place there))

in_nodes : (whole : Tree) (place : Place) → IsSome (at whole place) → IsMember (node_at whole place) (nodes_of whole)
in_nodes whole [] there = inl refl
in_nodes whole (k ∷ place) there =
    inr (subst (λ (node : Node). IsMember node (nodes_from (root_of whole) 0 whole.children)) (node_in-at whole k place there) (in_from (root_of whole) 0 whole.children k place there))

is_listed : (number : ℕ) (numbers : List ℕ) → IsMember number numbers → list_any (λ other. other == number) numbers ≡ true
is_listed number [] is = absurd is
is_listed number (n ∷ numbers) (inl same) = let hit : (n == number) ≡ true = grind (arith, nat_tests) in rw hit refl
is_listed number (n ∷ numbers) (inr is) = by (n == number) (is_listed number numbers is)
  where
    by : (b : Bool) → list_any (λ other. other == number) numbers ≡ true → (b || list_any (λ other. other == number) numbers) ≡ true
    by true rest = refl
    by false rest = rest

live_member : (count number : ℕ) (numbers : List ℕ) → All (λ n. n < count) numbers → IsMember number numbers → number < count
live_member count number [] all is = absurd is
live_member count number (n ∷ numbers) all (inl same) = let here : n < count = All-head (λ (m : ℕ). m < count) n numbers all in omega arith
live_member count number (n ∷ numbers) all (inr is) = live_member count number numbers (All-tail (λ (m : ℕ). m < count) n numbers all) is

-- a live number is among those of all nodes
pub listed_live : (document : Document) (numbers : List ℕ) (number : ℕ) → IsNumbering document → Are document (nodes_of document.tree) numbers → number < length document.places
    → list_any (λ other. other == number) numbers ≡ true
listed_live document numbers number numbered are live =
    let there = in_nodes document.tree (place_of document number) (numbered.stand number live) in
    let same = member_map (node_of document) (node_of document number) numbers (subst (IsMember (node_of document number)) (sym are.are) there) in
    let one = numbered.differ same.0 number (live_member (length document.places) same.0 numbers are.live same.1) live (ap (λ (node : Node). node.place) same.2) in
    is_listed number numbers (subst (λ (n : ℕ). IsMember n numbers) one same.1)
