-- The tokens of a tree, by the visits of a walk over it.
use Rattle.std.proofs.Common.{◌≡◌, ℕ, zero, suc, ◌+◌, ◌<◌, ◌≤◌, List, [], ◌∷◌, ◌++◌, Some, None, length, map, drop, flat_map, refl, sym, ap, ◌∙◌, subst, arith, append_assoc}
use Rattle.std.specs.Prelude.{All, slice_get}
use Rattle.std.proofs.lemmas.List.Concat.{flat_map-append}
use Rattle.std.proofs.lemmas.List.Folds.{flat_map-map}
use Rattle.fdt_tree.specs.Tree.{Bytes, Property, Trees, none, tree, Tree, Place}
use Rattle.fdt_tree.specs.Document.{Document, name_of, properties_of}
use Rattle.fdt_tree.specs.Visits.{Seen, ends, visits_below, visits, entered, seen, IsLive}
use Rattle.fdt_tree.specs.declared.walk.Visit.{Visit}
use Rattle.fdt_tree.specs.declared.walk.Visit.TheVariants.{Enter, Leave}
use Rattle.fdt_read.specs.Tokens.{Token, begin_node, end_node, property, end}
use Rattle.fdt_read.specs.Spelling.{spelled_properties, spelled, spelled_whole}
use Rattle.fdt_write.specs.Left.{seen_tokens, tokens_of, left_at}
use Rattle.fdt_write.specs.declared.tree_tokens.Step.TheVariants.{Between, Inside}

-- What is seen below a node spells the trees there.
seen-below : (ts : Trees) (p : Place) (k : ℕ) → flat_map seen_tokens (visits_below ts p k) ≡ spelled ts
seen-below none p k = refl
seen-below (tree name properties children rest) p k =
    let inner : List Seen = visits_below children (p ++ k ∷ []) 0 in
    let later : List Seen = visits_below rest p (k + 1) in
    ap (λ (ts : List Token). begin_node name ∷ (spelled_properties properties ++ ts)) (flat_map-append seen_tokens inner (ends ∷ later) ∙ (ap (λ (ts : List Token). ts ++ end_node ∷ flat_map seen_tokens later) (seen-below children (p ++ k ∷ []) 0) ∙ ap (λ (ts : List Token). spelled children ++ end_node ∷ ts) (seen-below rest p (k + 1))))

-- What is seen of a tree, and END, spell it.
seen-whole : (t : Tree) → flat_map seen_tokens (visits t) ++ end ∷ [] ≡ spelled_whole t
seen-whole t =
    let below : List Seen = visits_below t.children [] 0 in
    ap (λ (ts : List Token). begin_node t.name ∷ ((spelled_properties t.properties ++ ts) ++ end ∷ [])) (flat_map-append seen_tokens below (ends ∷ []) ∙ ap (λ (ts : List Token). ts ++ end_node ∷ []) (seen-below t.children [] 0)) ∙ ap (λ (ts : List Token). begin_node t.name ∷ ts) (append_assoc (spelled_properties t.properties) (spelled t.children ++ end_node ∷ []) (end ∷ []) ∙ ap (λ (ts : List Token). spelled_properties t.properties ++ ts) (append_assoc (spelled t.children) (end_node ∷ []) (end ∷ [])))

-- A walk over a tree gives the tokens that spell it.
pub tokens-whole : (d : Document) (walk : List Visit) → map (seen d) walk ≡ visits d.tree → tokens_of d walk ≡ spelled_whole d.tree
tokens-whole d walk e =
    ap (λ (ts : List Token). ts ++ end ∷ []) (sym (flat_map-map seen_tokens (seen d) walk) ∙ ap (flat_map seen_tokens) e) ∙ seen-whole d.tree

-- A visit that enters a node begins it.
pub tokens-enter : (d : Document) (visit : Visit) (node : ℕ) (left : List Visit) → Some node ≡ entered visit → tokens_of d (visit ∷ left) ≡ begin_node (name_of d node) ∷ left_at d left (Inside node 0)
tokens-enter d (Enter n) node left e =
    let same : n ≡ node = cc in
    append_assoc (begin_node (name_of d n) ∷ spelled_properties (properties_of d n)) (flat_map (λ visit. seen_tokens (seen d visit)) left) (end ∷ []) ∙ ap (λ m. begin_node (name_of d m) ∷ left_at d left (Inside m 0)) same
tokens-enter d Leave node left e = absurd (cc)

-- A visit that leaves a node ends it.
pub tokens-leave : (d : Document) (visit : Visit) (left : List Visit) → None ≡ entered visit → tokens_of d (visit ∷ left) ≡ end_node ∷ left_at d left Between
tokens-leave d (Enter n) left e = absurd (cc)
tokens-leave d Leave left e = refl

-- A node that is entered is live.
pub entered-live : (d : Document) (visit : Visit) (node : ℕ) → Some node ≡ entered visit → IsLive d visit → node < length d.places
entered-live d (Enter n) node e live = let same : n ≡ node = cc in subst (λ m. m < length d.places) same live
entered-live d Leave node e live = absurd (cc)

-- No visit is left.
pub tokens-end : (d : Document) (old : List Visit) → old ≡ [] → tokens_of d old ≡ end ∷ []
tokens-end d old e = ap (tokens_of d) e

-- The first visit, and those after it, are of live nodes.
pub first-live : (d : Document) (old left : List Visit) (visit : Visit) → old ≡ visit ∷ left → All (IsLive d) old → IsLive d visit
first-live d old left visit e live =
    let here : All (IsLive d) (visit ∷ left) = subst (λ (vs : List Visit). All (IsLive d) vs) e live in here 0 visit (omega arith)

pub rest-live : (d : Document) (old left : List Visit) (visit : Visit) → old ≡ visit ∷ left → All (IsLive d) old → All (IsLive d) left
rest-live d old left visit e live =
    let here : All (IsLive d) (visit ∷ left) = subst (λ (vs : List Visit). All (IsLive d) vs) e live in λ k x h. here (suc k) x (omega arith)

pub none-live : (d : Document) (old : List Visit) → old ≡ [] → All (IsLive d) old
none-live d old e = subst (λ (vs : List Visit). All (IsLive d) vs) (sym e) (λ k x h. absurd (omega arith))

property-first : (properties : List Property) (index : ℕ) (name value : Bytes) → slice_get properties index ≡ Some (name, value) → spelled_properties (drop index properties) ≡ property (Some name) value ∷ spelled_properties (drop (suc index) properties)
property-first [] index name value e = absurd (cc)
property-first (p ∷ rest) zero name value e =
    let same : p ≡ (name, value) = cc in ap (λ (q : Property). property (Some q.0) q.1 ∷ spelled_properties rest) same
property-first (p ∷ rest) (suc index) name value e = property-first rest index name value e

-- The next property.
pub property-next : (d : Document) (walk : List Visit) (node index : ℕ) (name value : Bytes) → slice_get (properties_of d node) index ≡ Some (name, value) → left_at d walk (Inside node index) ≡ property (Some name) value ∷ left_at d walk (Inside node (index + 1))
property-next d walk node index name value e =
    let more : suc index ≡ index + 1 = omega arith in
    ap (λ (ts : List Token). ts ++ tokens_of d walk) (property-first (properties_of d node) index name value e) ∙ ap (λ n. property (Some name) value ∷ (spelled_properties (drop n (properties_of d node)) ++ tokens_of d walk)) more

drop-past : (properties : List Property) (index : ℕ) → length properties ≤ index → drop index properties ≡ []
drop-past [] zero h = refl
drop-past [] (suc index) h = refl
drop-past (p ∷ rest) zero h = absurd (omega arith)
drop-past (p ∷ rest) (suc index) h = drop-past rest index (omega arith)

-- Past the last property the next visit comes.
pub properties-past : (d : Document) (walk : List Visit) (node index : ℕ) → length (properties_of d node) ≤ index → left_at d walk (Inside node index) ≡ tokens_of d walk
properties-past d walk node index past =
    ap (λ (ps : List Property). spelled_properties ps ++ tokens_of d walk) (drop-past (properties_of d node) index past)
