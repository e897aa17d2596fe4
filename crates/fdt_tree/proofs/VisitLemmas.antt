-- The visits of a walk see the whole tree, one after another.
use Rattle.std.proofs.Common.{IsSome, ◌≡◌, ◌≤◌, ℕ, zero, suc, ◌+◌, ◌<◌, true, false, List, [], ◌∷◌, ◌++◌, Option, Some, length, map, refl, sym, ap, ◌∙◌, subst, arith, append_assoc}
use Rattle.std.specs.Prelude.{All, bytes_eq, slice_index_or}
use Rattle.std.specs.Option.{option_map_or}
use Rattle.std.proofs.lemmas.Bool.{cond-true, cond-false}
use Rattle.std.proofs.lemmas.List.{append-nil}
use Rattle.std.proofs.lemmas.List.Elements.{All-append, All-cons}
use Rattle.std.proofs.lemmas.Slice.Eq.{bytes_eq-Decides}
use Rattle.fdt_tree.specs.Tree.{Trees, none, tree, Tree, Place, at_in, at, depth_limit}
use Rattle.fdt_tree.specs.Document.{Document, place_of, children_of, IsNumbering}
use Rattle.fdt_tree.specs.Visits.{Seen, begins, ends, visits_below, visits, seen, IsLive}
use Rattle.fdt_tree.specs.Upcoming.{number_in, visit_of, visits_left, nodes_open, within, upcoming, IsAt}
use Rattle.fdt_tree.specs.PrivateTurns.{opened_after, IsTurn}
use Rattle.fdt_tree.specs.declared.walk.Step.{Step}
use Rattle.fdt_tree.specs.declared.walk.Step.TheVariants.{Before, Entered, Left}
use Rattle.fdt_tree.specs.declared.walk.Turn.{Turn}
use Rattle.fdt_tree.specs.declared.walk.Visit.{Visit}
use Rattle.fdt_tree.specs.declared.walk.Visit.TheVariants.{Enter, Leave}
use Rattle.fdt_tree.proofs.Edits.{at-below}
use Rattle.fdt_tree.proofs.Walking.{stands, before-root}

-- No two numbers are of one place.
abbrev AreApart : List Place → Type 0
AreApart places =
    (one other : ℕ) → one < length places → other < length places → slice_index_or places one [] ≡ slice_index_or places other [] → one ≡ other

-- As many places stand before a place as its number says.
number_in-here : (places : List Place) (node : ℕ) → AreApart places → node < length places → number_in places (slice_index_or places node []) ≡ node
number_in-here [] node apart h = absurd (omega arith)
number_in-here (first ∷ rest) zero apart h =
    cond-true (bytes_eq first first) 0 (suc (number_in rest first)) ((bytes_eq-Decides first first).1 refl)
number_in-here (first ∷ rest) (suc node) apart h =
    let place : Place = slice_index_or rest node [] in
    let other : bytes_eq first place ≡ false = (elim (bytes_eq first place) as (λ b. bytes_eq first place ≡ b → b ≡ false) [
      | true ↦ λ e. absurd (let same : 0 ≡ suc node = apart 0 (suc node) (omega arith) (omega arith) ((bytes_eq-Decides first place).0 e) in omega arith)
      | false ↦ λ e. refl
    ]) refl in
    cond-false (bytes_eq first place) 0 (suc (number_in rest place)) other ∙ ap suc (number_in-here rest node (λ i j a b e. let same : suc i ≡ suc j = apart (suc i) (suc j) (omega arith) (omega arith) e in omega arith) (omega arith))

-- What a visit sees is seen by that visit alone.
visit_of-seen : (d : Document) (visit : Visit) → IsNumbering d → IsLive d visit → visit_of d (seen d visit) ≡ visit
visit_of-seen d (Enter node) numbering live = ap Enter (number_in-here d.places node numbering.differ live)
visit_of-seen d Leave numbering live = refl

within-first : (d : Document) (visit : Visit) (opened : ℕ) (rest : List Seen) → within opened (seen d visit ∷ rest) ≡ option_map_or (λ o. seen d visit ∷ within o rest) (opened_after visit opened) []
within-first d (Enter node) opened rest = refl
within-first d Leave zero rest = refl
within-first d Leave (suc opened) rest = refl

upcoming-first : (d : Document) (node opened : ℕ) (step : Step) (turn : Turn) → IsTurn d node step turn → upcoming d node step opened ≡ map (visit_of d) (option_map_or (λ o. seen d turn.visit ∷ within o (visits_left d turn.node turn.step)) (opened_after turn.visit opened) [])
upcoming-first d node opened step turn t =
    ap (λ (left : List Seen). map (visit_of d) (within opened left)) t.first ∙ ap (map (visit_of d)) (within-first d turn.visit opened (visits_left d turn.node turn.step))

-- A turn takes the first of the visits to come.
pub turned : (d : Document) (node opened more : ℕ) (step : Step) (turn : Turn) → IsNumbering d → IsTurn d node step turn → Some more ≡ opened_after turn.visit opened → upcoming d node step opened ≡ turn.visit ∷ upcoming d turn.node turn.step more
turned d node opened more step turn numbering t e =
    upcoming-first d node opened step turn t ∙ (ap (λ (o : Option ℕ). map (visit_of d) (option_map_or (λ n. seen d turn.visit ∷ within n (visits_left d turn.node turn.step)) o [])) (sym e) ∙ ap (λ (v : Visit). v ∷ upcoming d turn.node turn.step more) (visit_of-seen d turn.visit numbering t.visit))

pub few-opened : (d : Document) (node opened : ℕ) (step : Step) → IsAt d node step opened → opened ≤ depth_limit
few-opened d node opened step at =
    let shallow = at.named.shallow node at.live in omega (arith, shallow, few step at.on_the_way)
  where
    few : (step : Step) → opened ≤ nodes_open d node step → opened ≤ suc (length (place_of d node))
    few Before h = omega (arith, h)
    few Entered h = h
    few Left h = omega (arith, h)

-- A visit to a live node sees this.
record IsBack (d : Document) (s : Seen) : Type 0 where
  same : seen d (visit_of d s) ≡ s
  live : IsLive d (visit_of d s)

back-ends : (d : Document) → IsBack d ends
back-ends d = record { same = refl; live = tt }

back-begins : (d : Document) (p : Place) (u : Tree) → IsNumbering d → at d.tree p ≡ Some u → IsBack d (begins p u.name u.properties)
back-begins d p u numbering here =
    let w = numbering.each p (subst (λ (o : Option Tree). IsSome o) (sym here) refl) in
    let number : number_in d.places p ≡ w.0 = ap (number_in d.places) (sym w.2) ∙ number_in-here d.places w.0 numbering.differ w.1 in
    let place : place_of d (number_in d.places p) ≡ p = ap (place_of d) number ∙ w.2 in
    record {
      same = ap (λ (q : Place). begins q (option_map_or (λ n. n.name) (at d.tree q) []) (option_map_or (λ n. n.properties) (at d.tree q) [])) place ∙ ap (λ (o : Option Tree). begins p (option_map_or (λ n. n.name) o []) (option_map_or (λ n. n.properties) o [])) here;
      live = subst (λ n. n < length d.places) (sym number) w.1;
    }

backs-below : (d : Document) → IsNumbering d → (ts : Trees) (p : Place) (k : ℕ) → ((j : ℕ) (r : Place) → at d.tree (p ++ (k + j) ∷ r) ≡ at_in ts j r) → All (IsBack d) (visits_below ts p k)
backs-below d numbering none p k reach = λ i x h. absurd (omega arith)
backs-below d numbering (tree name properties children rest) p k reach =
    let t : Tree = d.tree in
    let start : k ≡ k + 0 = omega arith in
    let here : at t (p ++ k ∷ []) ≡ Some (record { name = name; properties = properties; children = children }) = ap (λ n. at t (p ++ n ∷ [])) start ∙ reach 0 [] in
    let below : All (IsBack d) (visits_below children (p ++ k ∷ []) 0) =
    backs-below d numbering children (p ++ k ∷ []) 0 (λ j r. let inner : 0 + j ≡ j = omega arith in ap (at t) (append_assoc p (k ∷ []) ((0 + j) ∷ r)) ∙ (ap (λ n. at t (p ++ k ∷ (n ∷ r))) inner ∙ (ap (λ n. at t (p ++ n ∷ (j ∷ r))) start ∙ reach 0 (j ∷ r)))) in
    let later : All (IsBack d) (visits_below rest p (k + 1)) =
    backs-below d numbering rest p (k + 1) (λ j r. let next : k + 1 + j ≡ k + suc j = omega arith in ap (λ n. at t (p ++ n ∷ r)) next ∙ reach (suc j) r) in
    All-cons (IsBack d) (begins (p ++ k ∷ []) name properties) (visits_below children (p ++ k ∷ []) 0 ++ ends ∷ visits_below rest p (k + 1)) (back-begins d (p ++ k ∷ []) (record { name = name; properties = properties; children = children }) numbering here) (All-append (IsBack d) (visits_below children (p ++ k ∷ []) 0) (ends ∷ visits_below rest p (k + 1)) below (All-cons (IsBack d) ends (visits_below rest p (k + 1)) (back-ends d) later))

backs-whole : (d : Document) → IsNumbering d → All (IsBack d) (visits d.tree)
backs-whole d numbering =
    let below : All (IsBack d) (visits_below d.tree.children [] 0) = backs-below d numbering d.tree.children [] 0 (λ j r. let inner : 0 + j ≡ j = omega arith in ap (λ n. at_in d.tree.children n r) inner) in
    let last : All (IsBack d) (ends ∷ []) = All-cons (IsBack d) ends [] (back-ends d) (λ i x h. absurd (omega arith)) in
    All-cons (IsBack d) (begins [] d.tree.name d.tree.properties) (visits_below d.tree.children [] 0 ++ ends ∷ []) (back-begins d [] d.tree numbering refl) (All-append (IsBack d) (visits_below d.tree.children [] 0) (ends ∷ []) below last)

seen-visits : (d : Document) (all : List Seen) → All (IsBack d) all → map (seen d) (map (visit_of d) all) ≡ all
seen-visits d [] back = refl
seen-visits d (s ∷ rest) back =
    ap (λ (x : Seen). x ∷ map (seen d) (map (visit_of d) rest)) ((back 0 s (omega arith)).same) ∙ ap (λ (xs : List Seen). s ∷ xs) (seen-visits d rest (λ k x h. back (suc k) x (omega arith)))

live-visits : (d : Document) (all : List Seen) → All (IsBack d) all → All (IsLive d) (map (visit_of d) all)
live-visits d [] back = λ k x h. absurd (omega arith)
live-visits d (s ∷ rest) back =
    All-cons (IsLive d) (visit_of d s) (map (visit_of d) rest) ((back 0 s (omega arith)).live) (live-visits d rest (λ k x h. back (suc k) x (omega arith)))

-- What is seen of trees ends no node that did not begin among them.
within-below : (ts : Trees) (p : Place) (k opened : ℕ) (more : List Seen) → within opened (visits_below ts p k ++ more) ≡ visits_below ts p k ++ within opened more
within-below none p k opened more = refl
within-below (tree name properties children rest) p k opened more =
    let q : Place = p ++ k ∷ [] in
    let below : List Seen = visits_below children q 0 in
    let later : List Seen = visits_below rest p (k + 1) in
    ap (λ (vs : List Seen). begins q name properties ∷ vs) (ap (within (suc opened)) (append_assoc below (ends ∷ later) more) ∙ (within-below children q 0 (suc opened) (ends ∷ (later ++ more)) ∙ (ap (λ (vs : List Seen). below ++ ends ∷ vs) (within-below rest p (k + 1) opened more) ∙ sym (append_assoc below (ends ∷ later) (within opened more)))))

within-whole : (t : Tree) → within 0 (visits t) ≡ visits t
within-whole t =
    ap (λ (vs : List Seen). begins [] t.name t.properties ∷ vs) (within-below t.children [] 0 1 (ends ∷ []))

upcoming-whole : (d : Document) (root : ℕ) → place_of d root ≡ [] → upcoming d root Before 0 ≡ map (visit_of d) (visits d.tree)
upcoming-whole d root place =
    ap (λ (all : List Seen). map (visit_of d) (within 0 all)) (before-root d root place) ∙ ap (map (visit_of d)) (within-whole d.tree)

-- A walk that stands before the root sees the whole tree.
pub sees-all : (d : Document) (root : ℕ) → IsNumbering d → place_of d root ≡ [] → map (seen d) (upcoming d root Before 0) ≡ visits d.tree
sees-all d root numbering place =
    ap (map (seen d)) (upcoming-whole d root place) ∙ seen-visits d (visits d.tree) (backs-whole d numbering)

-- All nodes that it enters are live.
pub lives-all : (d : Document) (root : ℕ) → IsNumbering d → place_of d root ≡ [] → All (IsLive d) (upcoming d root Before 0)
lives-all d root numbering place =
    subst (All (IsLive d)) (sym (upcoming-whole d root place)) (live-visits d (visits d.tree) (backs-whole d numbering))

-- What is seen below a node.
abbrev seen_below : Document → ℕ → List Seen
seen_below d node = visits_below (children_of d node) (place_of d node) 0

backs-at : (d : Document) (node : ℕ) → IsNumbering d → node < length d.places → All (IsBack d) (seen_below d node)
backs-at d node numbering live =
    let u = stands d node numbering live in
    let children : u.0.children ≡ children_of d node = ap (λ (o : Option Tree). option_map_or (λ n. n.children) o none) (sym u.1) in
    subst (λ (ts : Trees). All (IsBack d) (visits_below ts (place_of d node) 0)) children (backs-below d numbering u.0.children (place_of d node) 0 (λ j r. let inner : 0 + j ≡ j = omega arith in ap (λ n. at d.tree (place_of d node ++ n ∷ r)) inner ∙ at-below d.tree (place_of d node) (j ∷ r) u.0 u.1))

upcoming-below : (d : Document) (node : ℕ) → upcoming d node Entered 0 ≡ map (visit_of d) (seen_below d node)
upcoming-below d node =
    ap (map (visit_of d)) (within-below (children_of d node) (place_of d node) 0 0 _ ∙ append-nil (seen_below d node))

-- A walk that begins inside a node sees what is below it.
pub sees-below : (d : Document) (node : ℕ) → IsNumbering d → node < length d.places → map (seen d) (upcoming d node Entered 0) ≡ seen_below d node
sees-below d node numbering live =
    ap (map (seen d)) (upcoming-below d node) ∙ seen-visits d (seen_below d node) (backs-at d node numbering live)

-- All nodes that it enters are live.
pub lives-below : (d : Document) (node : ℕ) → IsNumbering d → node < length d.places → All (IsLive d) (upcoming d node Entered 0)
lives-below d node numbering live =
    subst (All (IsLive d)) (sym (upcoming-below d node)) (live-visits d (seen_below d node) (backs-at d node numbering live))
