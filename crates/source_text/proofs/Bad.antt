-- The tokens at fault are those of the nodes at fault.
use Rattle.std.proofs.Common.{◌≡◌, Bool, true, false, ◌||◌, cond, List, [], ◌∷◌, ◌++◌, Some, None, refl, sym, ap, ◌∙◌, append_assoc}
use Rattle.std.specs.Prelude.{codes, slice_get, Option, if◌then◌else◌}
use Rattle.std.specs.List.{list_any}
use Rattle.fdt_tree.specs.Tree.{Bytes, Property, Trees, none, tree, Tree}
use Rattle.fdt_read.specs.Tokens.{Token, begin_node, property, nop, end_node, end, broken}
use Rattle.fdt_read.specs.Spelling.{spelled_properties, spelled, spelled_whole}
use Rattle.fdt_write.specs.Opened.{path_below, shown, path_inside, opened_after}
use Rattle.source_text.specs.BadNames.{is_bad_node, is_bad_property, if_bad, bad_below, first_bad}
use Rattle.source_text.specs.PrivateOpened.{is_bad_token, token_path}

-- The path of the first token at fault, where a walk is in these nodes.
abbrev pub first_bad_token : List Bytes → List Token → Option Bytes
first_bad_token opened [] = None
first_bad_token opened (token ∷ rest) =
    if is_bad_token opened token then Some (token_path opened token) else first_bad_token (opened_after opened token) rest

-- The first of two.
abbrev pub or_else : {A : Type 0} → Option A → Option A → Option A
or_else None other = other
or_else (Some x) other = Some x

or_first : {A : Type 0} (xs ys : List A) → slice_get (xs ++ ys) 0 ≡ or_else (slice_get xs 0) (slice_get ys 0)
or_first [] ys = refl
or_first (x ∷ xs) ys = refl

or_assoc : {A : Type 0} (x y z : Option A) → or_else (or_else x y) z ≡ or_else x (or_else y z)
or_assoc None y z = refl
or_assoc (Some x) y z = refl

-- The path of a node, where it is at fault.
abbrev pub some_if : Bool → Bytes → Option Bytes
some_if bad path = if bad then Some path else None

first_if : (bad : Bool) (path : Bytes) → slice_get (if_bad bad path) 0 ≡ some_if bad path
first_if true path = refl
first_if false path = refl

or_if : (one other : Bool) (path : Bytes) (next : Option Bytes) → cond one (Some path) (or_else (some_if other path) next) ≡ or_else (some_if (one || other) path) next
or_if true other path next = refl
or_if false other path next = refl

-- The tokens of properties, and what follows.
properties-bad : (path : Bytes) (others : List Bytes) (properties : List Property) (rest : List Token) → first_bad_token (path ∷ others) (spelled_properties properties ++ rest) ≡ or_else (some_if (list_any is_bad_property properties) (shown path)) (first_bad_token (path ∷ others) rest)
properties-bad path others [] rest = refl
properties-bad path others (p ∷ properties) rest =
    ap (λ (next : Option Bytes). cond (is_bad_property p) (Some (shown path)) next) (properties-bad path others properties rest) ∙ or_if (is_bad_property p) (list_any is_bad_property properties) (shown path) (first_bad_token (path ∷ others) rest)

shown-below : (above name : Bytes) → shown (path_below above name) ≡ path_below above name
shown-below [] name = refl
shown-below (byte ∷ above) name = refl

respelled : (properties children after others : List Token) → (properties ++ (children ++ end_node ∷ after)) ++ others ≡ properties ++ (children ++ end_node ∷ (after ++ others))
respelled properties children after others = simp append_assoc

-- The tokens of trees, and what follows.
trees-bad : (above : Bytes) (others : List Bytes) (ts : Trees) (rest : List Token) → first_bad_token (above ∷ others) (spelled ts ++ rest) ≡ or_else (slice_get (bad_below above ts) 0) (first_bad_token (above ∷ others) rest)
trees-bad above others none rest = refl
trees-bad above others (tree name properties children after) rest =
    let path : Bytes = path_below above name in
    let opened : List Bytes = path ∷ (above ∷ others) in
    let last : Option Bytes = first_bad_token (above ∷ others) rest in
    let cs : Option Bytes = slice_get (bad_below path children) 0 in
    let rs : Option Bytes = slice_get (bad_below above after) 0 in
    let bad : Bool = list_any is_bad_property properties in
    let inside : first_bad_token opened (spelled children ++ end_node ∷ (spelled after ++ rest)) ≡ or_else cs (or_else rs last) =
    trees-bad path (above ∷ others) children (end_node ∷ (spelled after ++ rest)) ∙ ap (λ (next : Option Bytes). or_else cs next) (trees-bad above others after rest) in
    let below : first_bad_token opened (spelled_properties properties ++ (spelled children ++ end_node ∷ (spelled after ++ rest))) ≡ or_else (some_if bad path) (or_else cs (or_else rs last)) =
    properties-bad path (above ∷ others) properties (spelled children ++ end_node ∷ (spelled after ++ rest)) ∙ (ap (λ (p : Bytes). or_else (some_if bad p) (first_bad_token opened (spelled children ++ end_node ∷ (spelled after ++ rest)))) (shown-below above name) ∙ ap (λ (next : Option Bytes). or_else (some_if bad path) next) inside) in
    let listed : slice_get (bad_below above (tree name properties children after)) 0 ≡ or_else (some_if (is_bad_node name || bad) path) (or_else cs rs) =
    or_first (if_bad (is_bad_node name || bad) path) (bad_below path children ++ bad_below above after) ∙ (ap (λ (one : Option Bytes). or_else one (slice_get (bad_below path children ++ bad_below above after) 0)) (first_if (is_bad_node name || bad) path) ∙ ap (λ (next : Option Bytes). or_else (some_if (is_bad_node name || bad) path) next) (or_first (bad_below path children) (bad_below above after))) in
    ap (λ (tokens : List Token). cond (is_bad_node name) (Some (shown path)) (first_bad_token opened tokens)) (respelled (spelled_properties properties) (spelled children) (spelled after) rest)
    ∙ (ap (λ (p : Bytes). cond (is_bad_node name) (Some p) (first_bad_token opened (spelled_properties properties ++ (spelled children ++ end_node ∷ (spelled after ++ rest))))) (shown-below above name)
    ∙ (ap (λ (next : Option Bytes). cond (is_bad_node name) (Some path) next) below
    ∙ (or_if (is_bad_node name) bad path (or_else cs (or_else rs last))
    ∙ (ap (λ (next : Option Bytes). or_else (some_if (is_bad_node name || bad) path) next) (sym (or_assoc cs rs last))
    ∙ (sym (or_assoc (some_if (is_bad_node name || bad) path) (or_else cs rs) last)
    ∙ ap (λ (one : Option Bytes). or_else one last) (sym listed))))))

or_none : {A : Type 0} (x : Option A) → or_else x None ≡ x
or_none None = refl
or_none (Some x) = refl

-- All tokens of a tree.
tree-bad : (t : Tree) → first_bad_token [] (spelled_whole t) ≡ first_bad t
tree-bad t =
    let bad : Bool = list_any is_bad_property t.properties in
    properties-bad [] [] t.properties (spelled t.children ++ end_node ∷ end ∷ [])
    ∙ (ap (λ (next : Option Bytes). or_else (some_if bad (codes "/")) next) (trees-bad [] [] t.children (end_node ∷ end ∷ []) ∙ or_none (slice_get (bad_below [] t.children) 0))
    ∙ sym (or_first (if_bad bad (codes "/")) (bad_below [] t.children) ∙ ap (λ (one : Option Bytes). or_else one (slice_get (bad_below [] t.children) 0)) (first_if bad (codes "/"))))

-- Before the first token.
pub first-token : (t : Tree) (opened : List Bytes) (tokens : List Token) → opened ≡ [] → tokens ≡ spelled_whole t → first_bad_token opened tokens ≡ first_bad t
first-token t opened tokens o e =
    ap (λ (nodes : List Bytes). first_bad_token nodes tokens) o ∙ (ap (λ (found : List Token). first_bad_token [] found) e ∙ tree-bad t)

-- The path that is shown where a token is at fault.
bad-shown : (opened : List Bytes) (token : Token) (path : Bytes) → is_bad_token opened token ≡ true → ((p : Bytes) (others : List Bytes) → opened_after opened token ≡ p ∷ others → path ≡ shown p) → path ≡ token_path opened token
bad-shown opened (begin_node name) path b h = h (path_inside opened name) opened refl
bad-shown [] (property (Some name) value) path b h = absurd (cc)
bad-shown (p ∷ others) (property (Some name) value) path b h = h p others refl
bad-shown opened (property None value) path b h = absurd (cc)
bad-shown opened end_node path b h = absurd (cc)
bad-shown opened nop path b h = absurd (cc)
bad-shown opened end path b h = absurd (cc)
bad-shown opened broken path b h = absurd (cc)

-- The first token that is left is at fault.
pub bad-first : (t : Tree) (opened : List Bytes) (tokens rest : List Token) (token : Token) (path : Bytes) → first_bad_token opened tokens ≡ first_bad t → tokens ≡ token ∷ rest → is_bad_token opened token ≡ true → ((p : Bytes) (others : List Bytes) → opened_after opened token ≡ p ∷ others → path ≡ shown p) → Some path ≡ first_bad t
bad-first t opened tokens rest token path kept e b h =
    ap (λ (p : Bytes). Some p) (bad-shown opened token path b h)
    ∙ (sym (ap (λ bad. cond bad (Some (token_path opened token)) (first_bad_token (opened_after opened token) rest)) b)
    ∙ (ap (first_bad_token opened) (sym e) ∙ kept))
