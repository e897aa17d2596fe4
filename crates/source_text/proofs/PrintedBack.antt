-- What is printed says what it was printed from.
use Rattle.std.proofs.Common.{◌≡◌, ◌∙◌, refl, sym, ap, ℕ, suc, zero, ◌+◌, ◌<◌, ◌≤◌, max, true, false, not, cond, List, [], ◌∷◌, ◌++◌, length, filter, replicate, append_assoc, append-nil, inl, inr, arith, codes}
use Rattle.std.specs.Prelude.{◌==◌, flat_map}
use Rattle.std.specs.List.{list_all, AllByRecursion}
use Rattle.std.proofs.lemmas.Bool.{and_parts}
use Rattle.std.proofs.lemmas.Bool.Decides.{nat_tests}
use Rattle.std.proofs.lemmas.List.Elements.{recursion_from_All}
use Rattle.texts.specs.NumberTexts.{hexadecimal}
use Rattle.fdt_tree.specs.Tree.{Bytes, Property, Trees, none, tree, Tree, depth_limit}
use Rattle.fdt_tree.specs.Whole.{height}
use Rattle.fdt_tree.specs.declared.reserve.Reserve.{Reserve}
use Rattle.fdt_read.specs.Reservations.{is_last_pair}
use Rattle.fdt_write.specs.Laws.{IsWide}
use Rattle.source_text.specs.Characters.{is_space}
use Rattle.source_text.specs.Printed.{value_text, after_name, properties_lines, trees_lines, tree_lines, reserve_line}
use Rattle.source_text.specs.Source.{whole, IsSpacing, IsBlank, AreEach, IsReserve, is_said, IsProperty, AreNodes, IsRoot}
use Rattle.source_text.specs.ReadLaws.{IsPlain, ArePlain, IsPrintable, IsReadBack}
use Rattle.source_text.proofs.Peeling.{no_blank, more_blank}
use Rattle.source_text.proofs.ValuesPrinted.{space, space_separates, number_printed, values_printed}

-- ---- spacing

abbrev tabs : ℕ → Bytes
tabs n = replicate n 9

a_tab : IsSpacing (9 ∷ [])
unfolding is_space
a_tab = inl (9, refl, refl)

a_feed : IsSpacing (10 ∷ [])
unfolding is_space
a_feed = inl (10, refl, refl)

tabs_blank : (n : ℕ) → IsBlank (tabs n)
tabs_blank zero = no_blank
tabs_blank (suc n) = more_blank (9 ∷ []) (tabs n) a_tab (tabs_blank n)

abbrev feed : ℕ → Bytes
feed n = 10 ∷ tabs n

feed_blank : (n : ℕ) → IsBlank (feed n)
feed_blank n = more_blank (10 ∷ []) (tabs n) a_feed (tabs_blank n)

-- ---- lines whose tabs stand with what is before them

-- How many tabs stand before the first of these properties and nodes, or, where there is none, before what follows.
abbrev lead : List Property → Trees → ℕ → ℕ → ℕ
lead [] none d k = k
lead [] (tree name properties children rest) d k = d
lead (p ∷ ps) ts d k = d

abbrev properties_core : ℕ → ℕ → Trees → List Property → Bytes
properties_core d k ts [] = []
properties_core d k ts (p ∷ ps) = (p.0 ++ after_name p.1) ++ (feed (lead ps ts d k) ++ properties_core d k ts ps)

abbrev nodes_core : ℕ → ℕ → Trees → Bytes
nodes_core d k none = []
nodes_core d k (tree name ps cs rest) =
    name ++ (32 ∷ (123 ∷ ((feed (lead ps cs (suc d) d) ++ (properties_core (suc d) d cs ps ++ nodes_core (suc d) d cs)) ++ 125 ∷ 59 ∷ [])) ++ (feed (lead [] rest d k) ++ nodes_core d k rest))

properties_shifted : (d k : ℕ) (ts : Trees) (below : Bytes) → below ≡ tabs (lead [] ts d k) ++ nodes_core d k ts → (ps : List Property)
    → properties_lines d ps ++ below ≡ tabs (lead ps ts d k) ++ (properties_core d k ts ps ++ nodes_core d k ts)
properties_shifted d k ts below e [] = e
properties_shifted d k ts below e (p ∷ ps) =
    first (tabs d) (p.0 ++ after_name p.1) (properties_lines d ps) below
    ∙ (ap (λ (z : Bytes). tabs d ++ ((p.0 ++ after_name p.1) ++ 10 ∷ z)) (properties_shifted d k ts below e ps)
    ∙ last (tabs d) (p.0 ++ after_name p.1) (tabs (lead ps ts d k)) (properties_core d k ts ps) (nodes_core d k ts))
  where
    first : (t text rest below : Bytes) → ((t ++ (text ++ 10 ∷ [])) ++ rest) ++ below ≡ t ++ (text ++ 10 ∷ (rest ++ below))
    first t text rest below = simp append_assoc

    last : (t text tabs core nodes : Bytes) → t ++ (text ++ 10 ∷ (tabs ++ (core ++ nodes))) ≡ t ++ ((text ++ ((10 ∷ tabs) ++ core)) ++ nodes)
    last t text tabs core nodes = simp append_assoc

nodes_shifted : (ts : Trees) (d k : ℕ) → trees_lines d ts ++ tabs k ≡ tabs (lead [] ts d k) ++ nodes_core d k ts
nodes_shifted none d k = sym (append-nil (tabs k))
nodes_shifted (tree name ps cs rest) d k =
    first (tabs d) name (properties_lines (suc d) ps) (trees_lines (suc d) cs) (trees_lines d rest) (tabs k)
    ∙ (ap (λ (z : Bytes). tabs d ++ (name ++ 32 ∷ 123 ∷ 10 ∷ (z ++ 125 ∷ 59 ∷ 10 ∷ (trees_lines d rest ++ tabs k)))) (properties_shifted (suc d) d cs (trees_lines (suc d) cs ++ tabs d) (nodes_shifted cs (suc d) d) ps)
    ∙ (ap (λ (z : Bytes). tabs d ++ (name ++ 32 ∷ 123 ∷ 10 ∷ ((tabs (lead ps cs (suc d) d) ++ (properties_core (suc d) d cs ps ++ nodes_core (suc d) d cs)) ++ 125 ∷ 59 ∷ 10 ∷ z))) (nodes_shifted rest d k)
    ∙ last (tabs d) name (tabs (lead ps cs (suc d) d)) (properties_core (suc d) d cs ps ++ nodes_core (suc d) d cs) (tabs (lead [] rest d k)) (nodes_core d k rest)))
  where
    first : (t name ps cs rest e : Bytes)
        → ((t ++ ((name ++ 32 ∷ 123 ∷ []) ++ 10 ∷ [])) ++ (ps ++ (cs ++ ((t ++ (125 ∷ 59 ∷ [] ++ 10 ∷ [])) ++ rest)))) ++ e
        ≡ t ++ (name ++ 32 ∷ 123 ∷ 10 ∷ ((ps ++ (cs ++ t)) ++ 125 ∷ 59 ∷ 10 ∷ (rest ++ e)))
    first t name ps cs rest e = simp append_assoc

    last : (t name inner body later rest : Bytes)
        → t ++ (name ++ 32 ∷ 123 ∷ 10 ∷ ((inner ++ body) ++ 125 ∷ 59 ∷ 10 ∷ (later ++ rest)))
        ≡ t ++ (name ++ (32 ∷ (123 ∷ (((10 ∷ inner) ++ body) ++ 125 ∷ 59 ∷ [])) ++ ((10 ∷ later) ++ rest)))
    last t name inner body later rest = simp append_assoc

-- ---- properties

filled : (n : ℕ) → (suc n == 0) ≡ false
filled n = grind (arith, nat_tests)

one_property : (p : Property) (behind : Bytes) → IsPlain p → IsBlank behind → IsProperty ((p.0 ++ after_name p.1) ++ behind) p
one_property p behind plain blank = by p.1 plain.1
  where
    around : (name text behind : Bytes) → (name ++ (32 ∷ 61 ∷ 32 ∷ (text ++ 59 ∷ []))) ++ behind ≡ name ++ (32 ∷ (61 ∷ (32 ∷ (text ++ []))) ++ 59 ∷ behind)
    around name text behind = simp (append_assoc, append-nil {A = ℕ})

    by : (value : Bytes) → AllByRecursion (λ byte. byte < 256) value → IsProperty ((p.0 ++ after_name value) ++ behind) (p.0, value)
    by [] all = ([], [], behind, plain.0, no_blank, inl (refl, refl), blank, append_assoc p.0 (59 ∷ []) behind)
    by (c ∷ value) all =
        let text : Bytes = value_text (c ∷ value) in (
          32 ∷ [],
          61 ∷ (32 ∷ (text ++ [])),
          behind,
          plain.0,
          space,
          inr (32 ∷ [], text, [], space, values_printed (c ∷ value) all, no_blank, refl),
          blank,
          ap (λ z. (p.0 ++ cond z (codes ";") (codes " = " ++ (text ++ codes ";"))) ++ behind) (filled (length value)) ∙ around p.0 text behind,
        )

properties_say : (d k : ℕ) (ts : Trees) (ps : List Property) → AllByRecursion IsPlain ps → AreEach IsProperty (properties_core d k ts ps) ps
properties_say d k ts [] all = refl
properties_say d k ts (p ∷ ps) all = (
  (p.0 ++ after_name p.1) ++ feed (lead ps ts d k),
  properties_core d k ts ps,
  one_property p (feed (lead ps ts d k)) all.0 (feed_blank (lead ps ts d k)),
  properties_say d k ts ps all.1,
  sym (append_assoc (p.0 ++ after_name p.1) (feed (lead ps ts d k)) (properties_core d k ts ps)),
)

-- ---- nodes

nodes_say : (ts : Trees) (d k depth : ℕ) → ArePlain ts → depth + height ts ≤ suc depth_limit → AreNodes depth (nodes_core d k ts) ts
nodes_say none d k depth plain fits = refl
nodes_say (tree name ps cs rest) d k depth plain fits = (
  32 ∷ [],
  123 ∷ ((feed (lead ps cs (suc d) d) ++ (properties_core (suc d) d cs ps ++ nodes_core (suc d) d cs)) ++ 125 ∷ 59 ∷ []),
  feed (lead [] rest d k),
  nodes_core d k rest,
  here depth (height cs) (height rest) fits,
  plain.0,
  space,
  (
    feed (lead ps cs (suc d) d) ++ (properties_core (suc d) d cs ps ++ nodes_core (suc d) d cs),
    [],
    (feed (lead ps cs (suc d) d), properties_core (suc d) d cs ps, nodes_core (suc d) d cs, feed_blank (lead ps cs (suc d) d), properties_say (suc d) d cs ps plain.1, nodes_say cs (suc d) d (suc depth) plain.2 (below depth (height cs) (height rest) fits), refl),
    no_blank,
    refl,
  ),
  feed_blank (lead [] rest d k),
  nodes_say rest d k depth plain.3 (beside depth (height cs) (height rest) fits),
  refl,
)
  where
    here : (depth a b : ℕ) → depth + max (suc a) b ≤ suc depth_limit → depth ≤ depth_limit
    here depth a b fits = omega arith

    below : (depth a b : ℕ) → depth + max (suc a) b ≤ suc depth_limit → suc depth + a ≤ suc depth_limit
    below depth a b fits = omega arith

    beside : (depth a b : ℕ) → depth + max (suc a) b ≤ suc depth_limit → depth + b ≤ suc depth_limit
    beside depth a b fits = omega arith

-- ---- reservations

one_reserve : (r : Reserve) → IsWide r → IsReserve (reserve_line r) r
unfolding reserve_line
one_reserve r wide = record {
  before = 32 ∷ [];
  address = hexadecimal r.address;
  between = 32 ∷ [];
  size = hexadecimal r.size;
  after = [];
  behind = 10 ∷ [];
  separators = (space_separates, refl, space_separates);
  blanks = (no_blank, feed_blank 0);
  numbers = (number_printed r.address wide.0, number_printed r.size wide.1);
  limits = wide;
  spelled = around (hexadecimal r.address) (hexadecimal r.size);
}
  where
    around : (address size : Bytes) → (codes "/memreserve/ " ++ (address ++ (32 ∷ (size ++ 59 ∷ [])))) ++ 10 ∷ []
        ≡ whole (codes "/memreserve/" ∷ (32 ∷ []) ∷ address ∷ (32 ∷ []) ∷ size ∷ [] ∷ codes ";" ∷ (10 ∷ []) ∷ [])
    around address size = simp (append_assoc, append-nil {A = ℕ})

reserves_say : (rs : List Reserve) → AllByRecursion IsWide rs → AreEach IsReserve (flat_map reserve_line rs) rs
reserves_say [] all = refl
reserves_say (r ∷ rs) all = (reserve_line r, flat_map reserve_line rs, one_reserve r all.0, reserves_say rs all.1, refl)

all_said : (rs : List Reserve) → list_all (λ reserve. not (is_last_pair reserve)) rs ≡ true → rs ≡ filter is_said rs
all_said [] e = refl
all_said (r ∷ rs) e =
    let p = and_parts (not (is_last_pair r)) (list_all (λ reserve. not (is_last_pair reserve)) rs) e in
    ap (λ (z : List Reserve). r ∷ z) (all_said rs p.1) ∙ sym (ap (λ z. cond z (r ∷ filter is_said rs) (filter is_said rs)) p.0)

-- ---- the whole text

tree_text : (ps cs : Bytes) → (47 ∷ 32 ∷ 123 ∷ [] ++ 10 ∷ []) ++ (ps ++ (cs ++ (125 ∷ 59 ∷ [] ++ 10 ∷ []))) ≡ 47 ∷ 32 ∷ 123 ∷ 10 ∷ ((ps ++ (cs ++ [])) ++ 125 ∷ 59 ∷ 10 ∷ [])
tree_text ps cs = simp (append_assoc, append-nil {A = ℕ})

root_text : (inner body : Bytes) → 47 ∷ 32 ∷ 123 ∷ 10 ∷ ((inner ++ body) ++ 125 ∷ 59 ∷ 10 ∷ []) ≡ 47 ∷ ((32 ∷ []) ++ ((123 ∷ (((10 ∷ inner) ++ body) ++ 125 ∷ 59 ∷ [])) ++ 10 ∷ []))
root_text inner body = simp append_assoc

tree_says : (t : Tree) → IsPrintable t → IsRoot (tree_lines t) t
tree_says t is =
    let ps : Bytes = properties_core 1 0 t.children t.properties in
    let cs : Bytes = nodes_core 1 0 t.children in
    let k : ℕ = lead t.properties t.children 1 0 in (
      32 ∷ [],
      123 ∷ ((feed k ++ (ps ++ cs)) ++ 125 ∷ 59 ∷ []),
      10 ∷ [],
      (space, refl),
      (feed k ++ (ps ++ cs), [], (feed k, ps, cs, feed_blank k, properties_say 1 0 t.children t.properties is.root, nodes_say t.children 1 0 2 is.nodes (omega (arith, is.shallow)), refl), no_blank, refl),
      inl (feed_blank 0),
      is.unnamed,
      tree_text (properties_lines 1 t.properties) (trees_lines 1 t.children)
          ∙ (ap (λ (z : Bytes). 47 ∷ 32 ∷ 123 ∷ 10 ∷ (z ++ 125 ∷ 59 ∷ 10 ∷ [])) (properties_shifted 1 0 t.children (trees_lines 1 t.children ++ []) (nodes_shifted t.children 1 0) t.properties)
          ∙ root_text (tabs k) (ps ++ cs)),
    )

pub read_back : IsReadBack
read_back reserves t are is = record {
  version_text = codes "/dts-v1/;" ++ 10 ∷ [];
  reserves_text = flat_map reserve_line reserves;
  root_text = tree_lines t;
  version = ([], [], 10 ∷ [], no_blank, (no_blank, refl), feed_blank 0, refl);
  reserved = (reserves, reserves_say reserves (recursion_from_All IsWide reserves are.wide), all_said reserves are.not_last);
  root = tree_says t is;
  spelled = refl;
}
