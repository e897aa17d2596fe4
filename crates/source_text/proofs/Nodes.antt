-- The reader goes over names, properties and nodes.
use Rattle.std.proofs.Common.{◌≡◌, ◌∙◌, refl, sym, ap, subst, ℕ, suc, ◌<◌, ◌≤◌, Bool, true, false, ◌&&◌, ◌||◌, List, [], ◌∷◌, ◌++◌, append_assoc, append-nil, Some, cond, inl, inr, arith}
use Rattle.std.specs.Prelude.{◌==◌, nat_lt}
use Rattle.std.specs.List.{list_all}
use Rattle.std.proofs.lemmas.Bool.{and_parts, and_from, or_left, or_right, cond-true, cond-false, lt-ltb, true≢false}
use Rattle.fdt_tree.specs.Tree.{Bytes, Property, Trees, none, tree, depth_limit}
use Rattle.fdt_read.specs.Tokens.{Token, begin_node, end_node, property}
use Rattle.fdt_read.specs.Spelling.{spelled_properties, spelled}
use Rattle.source_text.specs.Characters.{is_property_byte, is_node_byte, is_space}
use Rattle.source_text.specs.Source.{IsBlank, AreEach, is_name_of, IsGiven, IsProperty, AreValues, AreNodes}
use Rattle.source_text.specs.declared.state.Comment.TheVariants.{Outside, Slash}
use Rattle.source_text.specs.declared.state.Kind.{Kind}
use Rattle.source_text.specs.declared.state.Kind.TheVariants.{Either, Property as Proper, Node}
use Rattle.source_text.specs.declared.state.Next.{Next}
use Rattle.source_text.specs.declared.state.Next.TheVariants.{Body, Name, AfterName, Value, AfterValue, Closed}
use Rattle.source_text.specs.declared.state.Action.{Action}
use Rattle.source_text.specs.declared.state.Action.TheVariants.{Pass, StartName, PushName, StartValue, Give, GiveEmpty, Open, Close}
use Rattle.source_text.specs.PrivateTurns.{Turn, to, pass, may_be_property, may_be_node, name_turn, gap_turn, body_turn, outside_turn}
use Rattle.source_text.specs.PrivateReadings.{Built, act, runs}
use Rattle.source_text.proofs.Running.{cont}
use Rattle.source_text.proofs.Blanks.{IsGap, over_blank}
use Rattle.source_text.proofs.Stops.{IsStop, IsNameByte, property_plain, node_plain, stop_59, stop_61, stop_123, blank_front}
use Rattle.source_text.proofs.ValueLemmas.{valued, gap_value, gap_after_value, over_values}

pub gap_body : (fresh : Bool) → IsGap (Body fresh)
gap_body fresh = record { here = λ d c. refl; there = λ d c. refl; again = refl }

pub gap_after_name : (kind : Kind) → IsGap (AfterName kind)
gap_after_name kind = record { here = λ d c. refl; there = λ d c. refl; again = refl }

pub gap_closed : IsGap Closed
gap_closed = record { here = λ d c. refl; there = λ d c. refl; again = refl }

-- With another name.
abbrev pub named : Built → Bytes → Built
named b name = record b { name = name }

-- A byte that goes on with a name of one's own kind.
pub record Goes (mine : Kind → Bool) (action : Action) (turn : Turn) : Type 0 where
  pub kind : Kind
  pub stays : mine kind ≡ true
  pub is : turn ≡ to (Name kind) action

property_goes : (action : Action) (p z : Bool) → p ≡ true → Goes may_be_property action (name_turn action p z)
property_goes action true true e = record { kind = Either; stays = refl; is = refl }
property_goes action true false e = record { kind = Proper; stays = refl; is = refl }
property_goes action false z e = absurd (true≢false (sym e))

node_goes : (action : Action) (p z : Bool) → z ≡ true → Goes may_be_node action (name_turn action p z)
node_goes action true true e = record { kind = Either; stays = refl; is = refl }
node_goes action false true e = record { kind = Node; stays = refl; is = refl }
node_goes action p false e = absurd (true≢false (sym e))

-- The bytes of names of one kind.
pub record IsKind (is_byte : ℕ → Bool) (mine : Kind → Bool) : Type 0 where
  pub goes : (kind : Kind) (d c : ℕ) → mine kind ≡ true → is_byte c ≡ true → Goes mine PushName (outside_turn (Name kind) d c)

moved : {mine : Kind → Bool} {action : Action} (one other : Turn) → one ≡ other → Goes mine action other → Goes mine action one
moved one other e g = record { kind = g.kind; stays = g.stays; is = e ∙ g.is }

properties_kind : IsKind is_property_byte may_be_property
properties_kind = record {
  goes = λ kind d c m e.
      moved (outside_turn (Name kind) d c) (name_turn PushName (may_be_property kind && is_property_byte c) (may_be_node kind && is_node_byte c))
      (cond-true (is_property_byte c || is_node_byte c) (name_turn PushName (may_be_property kind && is_property_byte c) (may_be_node kind && is_node_byte c)) (gap_turn (AfterName kind) d c) (or_left (is_property_byte c) (is_node_byte c) e))
      (property_goes PushName (may_be_property kind && is_property_byte c) (may_be_node kind && is_node_byte c) (and_from (may_be_property kind) (is_property_byte c) m e));
}

nodes_kind : IsKind is_node_byte may_be_node
nodes_kind = record {
  goes = λ kind d c m e.
      moved (outside_turn (Name kind) d c) (name_turn PushName (may_be_property kind && is_property_byte c) (may_be_node kind && is_node_byte c))
      (cond-true (is_property_byte c || is_node_byte c) (name_turn PushName (may_be_property kind && is_property_byte c) (may_be_node kind && is_node_byte c)) (gap_turn (AfterName kind) d c) (or_right (is_property_byte c) (is_node_byte c) e))
      (node_goes PushName (may_be_property kind && is_property_byte c) (may_be_node kind && is_node_byte c) (and_from (may_be_node kind) (is_node_byte c) m e));
}

-- A name was read, up to a byte behind it.
pub record IsNamedBy (ours : Kind → Bool) (n : Next) (d : ℕ) (b : Built) (text name : Bytes) (after : Bytes) : Type 0 where
  pub kind : Kind
  pub mine : ours kind ≡ true
  pub way : runs Outside n d b text ≡ runs Outside (AfterName kind) d (named b name) after

module _ (is_byte : ℕ → Bool) (mine : Kind → Bool) (law : IsKind is_byte mine) (d s : ℕ) (rest : Bytes) (stop : IsStop s) where
  in_name : (kind : Kind) (b : Built) (more : Bytes) → mine kind ≡ true → list_all is_byte more ≡ true → IsNamedBy mine (Name kind) d b (more ++ s ∷ rest) (b.name ++ more) (s ∷ rest)
  in_name kind b [] m all = record {
    kind = kind;
    mine = m;
    way = ap (cont d b s rest) (cond-false (is_property_byte s || is_node_byte s) (name_turn PushName (may_be_property kind && is_property_byte s) (may_be_node kind && is_node_byte s)) (gap_turn (AfterName kind) d s) stop.name)
        ∙ ap (λ (z : Bytes). runs Outside (AfterName kind) d (named b z) (s ∷ rest)) (sym (append-nil b.name));
  }
  in_name kind b (c ∷ more) m all =
      let p = and_parts (is_byte c) (list_all is_byte more) all in
      let g = law.goes kind d c m p.0 in
      let later = in_name g.kind (named b (b.name ++ c ∷ [])) more g.stays p.1 in record {
        kind = later.kind;
        mine = later.mine;
        way = ap (cont d b c (more ++ s ∷ rest)) g.is ∙ (later.way ∙ ap (λ (z : Bytes). runs Outside (AfterName later.kind) d (named b z) (s ∷ rest)) (append_assoc b.name (c ∷ []) more));
      }

  -- A name, and the byte behind it, where its first byte may stand.
  pub over_name : (fresh : Bool) (b : Built) (name : Bytes) → ((c : ℕ) → is_byte c ≡ true → Goes mine StartName (outside_turn (Body fresh) d c)) → is_name_of is_byte name ≡ true
      → IsNamedBy mine (Body fresh) d b (name ++ s ∷ rest) name (s ∷ rest)
  over_name fresh b [] first all = absurd (true≢false (sym all))
  over_name fresh b (c ∷ more) first all =
      let p = and_parts (is_byte c) (list_all is_byte more) all in
      let g = first c p.0 in
      let later = in_name g.kind (named b (c ∷ [])) more g.stays p.1 in record {
        kind = later.kind;
        mine = later.mine;
        way = ap (cont d b c (more ++ s ∷ rest)) g.is ∙ later.way;
      }

module _ (fresh : Bool) (d c : ℕ) (plain : IsNameByte c) where
  first_turn : outside_turn (Body fresh) d c ≡ name_turn StartName (fresh && is_property_byte c) (nat_lt d 31 && is_node_byte c)
  first_turn =
      cond-false (is_space c) (pass (Body fresh)) (cond (c == 47) (Some (Slash, Body fresh, Pass)) (body_turn fresh d c)) plain.space
      ∙ (cond-false (c == 47) (Some (Slash, Body fresh, Pass)) (body_turn fresh d c) plain.slash
      ∙ cond-false (c == 125) (pass Closed) (name_turn StartName (fresh && is_property_byte c) (nat_lt d 31 && is_node_byte c)) plain.brace)

first_property : (d c : ℕ) → is_property_byte c ≡ true → Goes may_be_property StartName (outside_turn (Body true) d c)
first_property d c e =
    moved (outside_turn (Body true) d c) (name_turn StartName (is_property_byte c) (nat_lt d 31 && is_node_byte c)) (first_turn true d c (property_plain c e))
    (property_goes StartName (is_property_byte c) (nat_lt d 31 && is_node_byte c) e)

first_node : (fresh : Bool) (d : ℕ) → d < 31 → (c : ℕ) → is_node_byte c ≡ true → Goes may_be_node StartName (outside_turn (Body fresh) d c)
first_node fresh d lt c e =
    moved (outside_turn (Body fresh) d c) (name_turn StartName (fresh && is_property_byte c) (nat_lt d 31 && is_node_byte c)) (first_turn fresh d c (node_plain c e))
    (node_goes StartName (fresh && is_property_byte c) (nat_lt d 31 && is_node_byte c) (and_from (nat_lt d 31) (is_node_byte c) (lt-ltb d 31 lt) e))

-- Where a text leads, whatever follows it: it adds tokens.
pub record Leads (n : Next) (d : ℕ) (b : Built) (text : Bytes) (m : Next) (tokens : List Token) : Type 0 where
  pub built : Built
  pub way : (rest : Bytes) → runs Outside n d b (text ++ rest) ≡ runs Outside m d built rest
  pub read : built.tokens ≡ tokens
  pub reserves : built.reserves ≡ b.reserves

module _ (d : ℕ) where
  empty_turn : (kind : Kind) → may_be_property kind ≡ true → outside_turn (AfterName kind) d 59 ≡ to (Body true) GiveEmpty
  unfolding is_space
  empty_turn Either m = refl
  empty_turn Proper m = refl
  empty_turn Node m = absurd (true≢false (sym m))

  value_turn : (kind : Kind) → may_be_property kind ≡ true → outside_turn (AfterName kind) d 61 ≡ to Value StartValue
  unfolding is_space
  value_turn Either m = refl
  value_turn Proper m = refl
  value_turn Node m = absurd (true≢false (sym m))

  open_turn : (kind : Kind) → may_be_node kind ≡ true → outside_turn (AfterName kind) d 123 ≡ to (Body true) Open
  unfolding is_space
  open_turn Either m = refl
  open_turn Node m = refl
  open_turn Proper m = absurd (true≢false (sym m))

  give_turn : outside_turn AfterValue d 59 ≡ to (Body true) Give
  unfolding is_space
  give_turn = refl

  brace_turn : (fresh : Bool) → outside_turn (Body fresh) d 125 ≡ pass Closed
  unfolding is_space
  brace_turn fresh = refl

  close_turn : outside_turn Closed (suc d) 59 ≡ to (Body false) Close
  unfolding is_space
  close_turn = refl

  module _ (b : Built) (name : Bytes) (value : Bytes) (behind : Bytes) (fine : is_name_of is_property_byte name ≡ true) (spaced : IsBlank behind) where
    abbrev given : List Token
    given = b.tokens ++ property (Some name) value ∷ []

    -- A property without a value.
    bare : (after : Bytes) → IsBlank after → value ≡ [] → Leads (Body true) d b (name ++ (after ++ 59 ∷ behind)) (Body true) given
    bare after blank empty = record {
      built = act GiveEmpty 59 (named b name);
      way = λ rest.
          let left : Bytes = behind ++ rest in
          let f = blank_front after 59 left blank stop_59 in
          let n = over_name is_property_byte may_be_property properties_kind d f.first f.rest f.stops true b name (first_property d) fine in
          ap (runs Outside (Body true) d b) (append_assoc name (after ++ 59 ∷ behind) rest ∙ ap (λ (z : Bytes). name ++ z) (append_assoc after (59 ∷ behind) rest ∙ f.is))
          ∙ (n.way
          ∙ (ap (runs Outside (AfterName n.kind) d (named b name)) (sym f.is)
          ∙ (over_blank d (named b name) (AfterName n.kind) (gap_after_name n.kind) refl after (59 ∷ left) blank
          ∙ (ap (cont d (named b name) 59 left) (empty_turn n.kind n.mine)
          ∙ over_blank d (act GiveEmpty 59 (named b name)) (Body true) (gap_body true) refl behind rest spaced))));
      read = ap (λ (z : Bytes). b.tokens ++ property (Some name) z ∷ []) (sym empty);
      reserves = refl;
    }

    -- A property with one.
    full : (after before values last : Bytes) → IsBlank after → IsBlank before → AreValues values value → IsBlank last
        → Leads (Body true) d b (name ++ (after ++ (61 ∷ (before ++ (values ++ last)) ++ 59 ∷ behind))) (Body true) given
    full after before values last blank blank2 are blank3 = record {
      built = act Give 59 (valued (named b name) value);
      way = λ rest.
          let left : Bytes = behind ++ rest in
          let f = blank_front after 61 (before ++ (values ++ (last ++ 59 ∷ left))) blank stop_61 in
          let n = over_name is_property_byte may_be_property properties_kind d f.first f.rest f.stops true b name (first_property d) fine in
          ap (runs Outside (Body true) d b) (
          append_assoc name (after ++ (61 ∷ (before ++ (values ++ last)) ++ 59 ∷ behind)) rest
          ∙ ap (λ (z : Bytes). name ++ z) (append_assoc after (61 ∷ (before ++ (values ++ last)) ++ 59 ∷ behind) rest
          ∙ (ap (λ (z : Bytes). after ++ 61 ∷ z) (append_assoc (before ++ (values ++ last)) (59 ∷ behind) rest
          ∙ (append_assoc before (values ++ last) (59 ∷ left) ∙ ap (λ (z : Bytes). before ++ z) (append_assoc values last (59 ∷ left))))
          ∙ f.is)))
          ∙ (n.way
          ∙ (ap (runs Outside (AfterName n.kind) d (named b name)) (sym f.is)
          ∙ (over_blank d (named b name) (AfterName n.kind) (gap_after_name n.kind) refl after (61 ∷ (before ++ (values ++ (last ++ 59 ∷ left)))) blank
          ∙ (ap (cont d (named b name) 61 (before ++ (values ++ (last ++ 59 ∷ left)))) (value_turn n.kind n.mine)
          ∙ (over_blank d (valued (named b name) []) Value gap_value refl before (values ++ (last ++ 59 ∷ left)) blank2
          ∙ (over_values d (valued (named b name) []) values value (last ++ 59 ∷ left) are
          ∙ (over_blank d (valued (named b name) value) AfterValue gap_after_value refl last (59 ∷ left) blank3
          ∙ (ap (cont d (valued (named b name) value) 59 left) give_turn
          ∙ over_blank d (act Give 59 (valued (named b name) value)) (Body true) (gap_body true) refl behind rest spaced))))))));
      read = refl;
      reserves = refl;
    }

  along : (b : Built) (one other : Bytes) (m : Next) (tokens : List Token) → one ≡ other → Leads (Body true) d b other m tokens → Leads (Body true) d b one m tokens
  along b one other m tokens e l = subst (λ (z : Bytes). Leads (Body true) d b z m tokens) (sym e) l

  over_property : (b : Built) (text : Bytes) (p : Property) → IsProperty text p → Leads (Body true) d b text (Body true) (b.tokens ++ property (Some p.0) p.1 ∷ [])
  over_property b text p is = by is.5
    where
      by : IsGiven is.1 p.1 → Leads (Body true) d b text (Body true) (b.tokens ++ property (Some p.0) p.1 ∷ [])
      by (inl g) = along b text (p.0 ++ (is.0 ++ 59 ∷ is.2)) (Body true) (b.tokens ++ property (Some p.0) p.1 ∷ []) (is.7 ∙ ap (λ (z : Bytes). p.0 ++ (is.0 ++ (z ++ 59 ∷ is.2))) g.0) (bare b p.0 p.1 is.2 is.3 is.6 is.0 is.4 g.1)
      by (inr g) = along b text (p.0 ++ (is.0 ++ (61 ∷ (g.0 ++ (g.1 ++ g.2)) ++ 59 ∷ is.2))) (Body true) (b.tokens ++ property (Some p.0) p.1 ∷ []) (is.7 ∙ ap (λ (z : Bytes). p.0 ++ (is.0 ++ (z ++ 59 ∷ is.2))) g.6) (full b p.0 p.1 is.2 is.3 is.6 is.0 g.0 g.1 g.2 is.4 g.3 g.4 g.5)

  pub over_properties : (b : Built) (ps : List Property) (text : Bytes) → AreEach IsProperty text ps → Leads (Body true) d b text (Body true) (b.tokens ++ spelled_properties ps)
  over_properties b [] text is = record {
    built = b;
    way = λ rest. ap (λ (z : Bytes). runs Outside (Body true) d b (z ++ rest)) is;
    read = sym (append-nil b.tokens);
    reserves = refl;
  }
  over_properties b (p ∷ ps) text is =
      let one = over_property b is.0 p is.2 in
      let later = over_properties one.built ps is.1 is.3 in record {
        built = later.built;
        way = λ rest. ap (λ (z : Bytes). runs Outside (Body true) d b (z ++ rest)) is.4 ∙ (ap (runs Outside (Body true) d b) (append_assoc is.0 is.1 rest) ∙ (one.way (is.1 ++ rest) ∙ later.way rest));
        read = later.read ∙ (ap (λ (z : List Token). z ++ spelled_properties ps) one.read ∙ append_assoc b.tokens (property (Some p.0) p.1 ∷ []) (spelled_properties ps));
        reserves = later.reserves ∙ one.reserves;
      }

-- The text of a node, and what follows it, in one line.
node_text : (name gap blank first nodes after behind others rest : Bytes)
    → ((name ++ (gap ++ ((123 ∷ ((blank ++ (first ++ nodes)) ++ 125 ∷ (after ++ 59 ∷ []))) ++ (behind ++ others)))) ++ 125 ∷ []) ++ rest
    ≡ name ++ (gap ++ 123 ∷ (blank ++ (first ++ (nodes ++ 125 ∷ (after ++ 59 ∷ (behind ++ (others ++ 125 ∷ rest)))))))
node_text name gap blank first nodes after behind others rest = simp append_assoc

pub node_tokens : (tokens : List Token) (name : Bytes) (ps cs rest : List Token) → (((((tokens ++ begin_node name ∷ []) ++ ps) ++ cs) ++ end_node ∷ []) ++ rest) ≡ tokens ++ begin_node name ∷ (ps ++ (cs ++ end_node ∷ rest))
node_tokens tokens name ps cs rest = simp append_assoc

shallow : (d : ℕ) → suc (suc d) ≤ depth_limit → d < 31
shallow d le = omega arith

-- Nodes, and the brace behind them.
pub over_nodes : (ts : Trees) (fresh : Bool) (d : ℕ) (b : Built) (text : Bytes) → AreNodes (suc (suc d)) text ts → Leads (Body fresh) d b (text ++ 125 ∷ []) Closed (b.tokens ++ spelled ts)
over_nodes none fresh d b text is = record {
  built = b;
  way = λ rest. ap (λ (z : Bytes). runs Outside (Body fresh) d b ((z ++ 125 ∷ []) ++ rest)) is ∙ ap (cont d b 125 rest) (brace_turn d fresh);
  read = sym (append-nil b.tokens);
  reserves = refl;
}
over_nodes (tree name ps cs later) fresh d b text is =
    let gap : Bytes = is.0 in
    let behind : Bytes = is.2 in
    let others : Bytes = is.3 in
    let braced = is.7 in
    let after : Bytes = braced.1 in
    let body = braced.2 in
    let blank : Bytes = body.0 in
    let first : Bytes = body.1 in
    let nodes : Bytes = body.2 in
    let b1 : Built = act Open 123 (named b name) in
    let properties = over_properties (suc d) b1 ps first body.4 in
    let children = over_nodes cs true (suc d) properties.built nodes body.5 in
    let b2 : Built = act Close 59 children.built in
    let siblings = over_nodes later false d b2 others is.9 in record {
      built = siblings.built;
      way = λ rest.
          let end : Bytes = behind ++ (others ++ 125 ∷ rest) in
          let inside : Bytes = blank ++ (first ++ (nodes ++ 125 ∷ (after ++ 59 ∷ end))) in
          let f = blank_front gap 123 inside is.6 stop_123 in
          let n = over_name is_node_byte may_be_node nodes_kind d f.first f.rest f.stops fresh b name (first_node fresh d (shallow d is.4)) is.5 in
          ap (λ (z : Bytes). runs Outside (Body fresh) d b ((z ++ 125 ∷ []) ++ rest)) (is.10 ∙ ap (λ (z : Bytes). name ++ (gap ++ (z ++ (behind ++ others)))) (braced.4 ∙ ap (λ (z : Bytes). 123 ∷ (z ++ 125 ∷ (after ++ 59 ∷ []))) body.6))
          ∙ (ap (runs Outside (Body fresh) d b) (node_text name gap blank first nodes after behind others rest ∙ ap (λ (z : Bytes). name ++ z) f.is)
          ∙ (n.way
          ∙ (ap (runs Outside (AfterName n.kind) d (named b name)) (sym f.is)
          ∙ (over_blank d (named b name) (AfterName n.kind) (gap_after_name n.kind) refl gap (123 ∷ inside) is.6
          ∙ (ap (cont d (named b name) 123 inside) (open_turn d n.kind n.mine)
          ∙ (over_blank (suc d) b1 (Body true) (gap_body true) refl blank (first ++ (nodes ++ 125 ∷ (after ++ 59 ∷ end))) body.3
          ∙ (properties.way (nodes ++ 125 ∷ (after ++ 59 ∷ end))
          ∙ (ap (runs Outside (Body true) (suc d) properties.built) (sym (append_assoc nodes (125 ∷ []) (after ++ 59 ∷ end)))
          ∙ (children.way (after ++ 59 ∷ end)
          ∙ (over_blank (suc d) children.built Closed gap_closed refl after (59 ∷ end) braced.3
          ∙ (ap (cont (suc d) children.built 59 end) (close_turn d)
          ∙ (over_blank d b2 (Body false) (gap_body false) refl behind (others ++ 125 ∷ rest) is.8
          ∙ (ap (runs Outside (Body false) d b2) (sym (append_assoc others (125 ∷ []) rest))
          ∙ siblings.way rest)))))))))))));
      read = siblings.read
          ∙ (ap (λ (z : List Token). (z ++ end_node ∷ []) ++ spelled later) (children.read ∙ ap (λ (z : List Token). z ++ spelled cs) properties.read)
          ∙ node_tokens b.tokens name (spelled_properties ps) (spelled cs) (spelled later));
      reserves = siblings.reserves ∙ (children.reserves ∙ properties.reserves);
    }
