-- Where the reader comes to an end, names, properties and nodes were what they are.
use Rattle.std.proofs.Common.{◌≡◌, ◌∙◌, refl, sym, ap, ℕ, suc, zero, ◌<◌, ◌≤◌, Bool, true, false, ◌&&◌, ◌||◌, List, [], ◌∷◌, ◌++◌, length, append_assoc, append-nil, length-append, Some, None, cond, inl, inr, arith}
use Rattle.std.specs.Prelude.{◌==◌, nat_lt}
use Rattle.std.specs.List.{list_all}
use Rattle.std.proofs.lemmas.Bool.{and_parts, and_from, eqb-true, ltb-true, true≢false}
use Rattle.fdt_tree.specs.Tree.{Bytes, Property, Trees, none, tree, depth_limit}
use Rattle.fdt_read.specs.Tokens.{Token as Mark, begin_node, end_node, property}
use Rattle.fdt_read.specs.Spelling.{spelled_properties, spelled}
use Rattle.source_text.specs.Characters.{is_property_byte, is_node_byte}
use Rattle.source_text.specs.Source.{whole, IsBlank, AreEach, is_name_of, IsGiven, IsProperty, AreNodes}
use Rattle.source_text.specs.declared.state.Comment.TheVariants.{Outside}
use Rattle.source_text.specs.declared.state.Kind.{Kind}
use Rattle.source_text.specs.declared.state.Kind.TheVariants.{Either, Property as Proper, Node}
use Rattle.source_text.specs.declared.state.Next.TheVariants.{Body, Name, AfterName, Value, Closed}
use Rattle.source_text.specs.declared.state.Action.{Action}
use Rattle.source_text.specs.declared.state.Action.TheVariants.{StartName, PushName, StartValue, Give, GiveEmpty, Open, Close}
use Rattle.source_text.specs.PrivateTurns.{to, pass, may_be_property, may_be_node, name_turn, gap_turn, is_done, depth_behind}
use Rattle.source_text.specs.PrivateReadings.{Built, Stand, act, runs}
use Rattle.source_text.proofs.Running.{cont}
use Rattle.source_text.proofs.Nodes.{named, gap_body, gap_after_name, gap_closed, node_tokens}
use Rattle.source_text.proofs.ValueLemmas.{valued}
use Rattle.source_text.proofs.Peeling.{behind, Gets, stops, nowhere, Token, IsToken, peel_token, token_gets}
use Rattle.source_text.proofs.ValuesBack.{value_back, more_back}

module _ (fin : Stand) (done : is_done fin.0 fin.1 ≡ true) where
  pub token_body : (fresh : Bool) → IsToken fin done (Body fresh)
  token_body fresh = record { gap = gap_body fresh; over = refl; slash = λ c. refl; slash_spaced = λ c. refl }

  token_after_name : (kind : Kind) → IsToken fin done (AfterName kind)
  token_after_name kind = record { gap = gap_after_name kind; over = refl; slash = λ c. refl; slash_spaced = λ c. refl }

  pub token_closed : IsToken fin done Closed
  token_closed = record { gap = gap_closed; over = refl; slash = λ c. refl; slash_spaced = λ c. refl }

  -- Which kinds a name may still be of.
  record Named (action : Action) (p q : Bool) (d : ℕ) (b : Built) (c : ℕ) (rest : Bytes) : Type 0 where
    kind : Kind
    property : may_be_property kind ≡ p
    node : may_be_node kind ≡ q
    gets : Gets fin done Outside (Name kind) (depth_behind action d) (act action c b) rest

  name_goes : (action : Action) (p q : Bool) (d : ℕ) (b : Built) (c : ℕ) (rest : Bytes) → cont d b c rest (name_turn action p q) ≡ Some fin → Named action p q d b c rest
  name_goes action true true d b c rest e = record { kind = Either; property = refl; node = refl; gets = e }
  name_goes action true false d b c rest e = record { kind = Proper; property = refl; node = refl; gets = e }
  name_goes action false true d b c rest e = record { kind = Node; property = refl; node = refl; gets = e }
  name_goes action false false d b c rest e = nowhere fin done e

  -- The rest of a name.
  record Rest (kind : Kind) (d : ℕ) (b : Built) (text : Bytes) : Type 0 where
    more : Bytes
    rest : Bytes
    last : Kind
    is : text ≡ more ++ rest
    property : may_be_property last ≡ true → (may_be_property kind ≡ true) × (list_all is_property_byte more ≡ true)
    node : may_be_node last ≡ true → (may_be_node kind ≡ true) × (list_all is_node_byte more ≡ true)
    gets : Gets fin done Outside (AfterName last) d (named b (b.name ++ more)) rest

  module _ (kind : Kind) (d : ℕ) (b : Built) (c : ℕ) (text : Bytes) where
    -- One more byte.
    longer : (n : Named PushName (may_be_property kind && is_property_byte c) (may_be_node kind && is_node_byte c) d b c text) → Rest n.kind d (named b (b.name ++ c ∷ [])) text → Rest kind d b (c ∷ text)
    longer n later = record {
      more = c ∷ later.more;
      rest = later.rest;
      last = later.last;
      is = ap (λ (z : Bytes). c ∷ z) later.is;
      property = λ m.
          let l = later.property m in
          let k = and_parts (may_be_property kind) (is_property_byte c) (sym n.property ∙ l.0) in
          (k.0, and_from (is_property_byte c) (list_all is_property_byte later.more) k.1 l.1);
      node = λ m.
          let l = later.node m in
          let k = and_parts (may_be_node kind) (is_node_byte c) (sym n.node ∙ l.0) in
          (k.0, and_from (is_node_byte c) (list_all is_node_byte later.more) k.1 l.1);
      gets = ap (λ (z : Bytes). runs Outside (AfterName later.last) d (named b z) later.rest) (sym (append_assoc b.name (c ∷ []) later.more)) ∙ later.gets;
    }

    name_at : ((next : Kind) → Gets fin done Outside (Name next) d (named b (b.name ++ c ∷ [])) text → Rest next d (named b (b.name ++ c ∷ [])) text)
        → (z : Bool) → cont d b c text (cond z (name_turn PushName (may_be_property kind && is_property_byte c) (may_be_node kind && is_node_byte c)) (gap_turn (AfterName kind) d c)) ≡ Some fin → Rest kind d b (c ∷ text)
    name_at on true e =
        let n = name_goes PushName (may_be_property kind && is_property_byte c) (may_be_node kind && is_node_byte c) d b c text e in
        longer n (on n.kind n.gets)
    name_at on false e = record {
      more = [];
      rest = c ∷ text;
      last = kind;
      is = refl;
      property = λ m. (m, refl);
      node = λ m. (m, refl);
      gets = ap (λ (z : Bytes). runs Outside (AfterName kind) d (named b z) (c ∷ text)) (append-nil b.name) ∙ e;
    }

  name_back : (kind : Kind) (d : ℕ) (b : Built) (text : Bytes) → Gets fin done Outside (Name kind) d b text → Rest kind d b text
  name_back kind d b [] e = stops fin done Outside (Name kind) d b refl e
  name_back kind d b (c ∷ text) e =
      name_at kind d b c text (λ next f. name_back next d (named b (b.name ++ c ∷ [])) text f) (is_property_byte c || is_node_byte c) e

  -- A body up to its brace.
  pub record Bodied (fresh : Bool) (d : ℕ) (b : Built) (text : Bytes) : Type 0 where
    pub blank : Bytes
    pub first : Bytes
    pub properties : List Property
    pub nodes : Bytes
    pub children : Trees
    pub rest : Bytes
    pub built : Built
    pub spacing : IsBlank blank
    pub are : AreEach IsProperty first properties
    pub stale : fresh ≡ false → (first ≡ []) × (properties ≡ [])
    pub below : AreNodes (suc (suc d)) nodes children
    pub is : text ≡ blank ++ (first ++ (nodes ++ 125 ∷ rest))
    pub tokens : built.tokens ≡ b.tokens ++ (spelled_properties properties ++ spelled children)
    pub reserves : built.reserves ≡ b.reserves
    pub gets : Gets fin done Outside Closed d built rest

  -- A name in a body, the byte behind it and what follows.
  record Headed (fresh : Bool) (d : ℕ) (b : Built) (text : Bytes) : Type 0 where
    blank : Bytes
    name : Bytes
    after : Bytes
    next : ℕ
    rest : Bytes
    kind : Kind
    spacing : IsBlank blank
    also : IsBlank after
    is : text ≡ blank ++ (name ++ (after ++ next ∷ rest))
    property : may_be_property kind ≡ true → (fresh ≡ true) × (is_name_of is_property_byte name ≡ true)
    node : may_be_node kind ≡ true → (d < 31) × (is_name_of is_node_byte name ≡ true)
    gets : cont d (named b name) next rest (cond (may_be_property kind && next == 59) (to (Body true) GiveEmpty) (cond (may_be_property kind && next == 61) (to Value StartValue) (cond (may_be_node kind && next == 123) (to (Body true) Open) None))) ≡ Some fin

  module _ (fresh : Bool) (d : ℕ) (b : Built) (text : Bytes) (t : Token fin done (Body fresh) d b text) where
    head_found : Named StartName (fresh && is_property_byte t.first) (nat_lt d 31 && is_node_byte t.first) d b t.first t.rest → Headed fresh d b text
    head_found n =
        let m = name_back n.kind d (named b (t.first ∷ [])) t.rest n.gets in
        let a = peel_token fin done (AfterName m.last) (token_after_name m.last) d (named b (t.first ∷ m.more)) m.rest m.gets in record {
          blank = t.blank;
          name = t.first ∷ m.more;
          after = a.blank;
          next = a.first;
          rest = a.rest;
          kind = m.last;
          spacing = t.spacing;
          also = a.spacing;
          is = t.is ∙ ap (λ (z : Bytes). t.blank ++ t.first ∷ z) (m.is ∙ ap (λ (z : Bytes). m.more ++ z) a.is);
          property = λ k.
              let l = m.property k in
              let p = and_parts fresh (is_property_byte t.first) (sym n.property ∙ l.0) in
              (p.0, and_from (is_property_byte t.first) (list_all is_property_byte m.more) p.1 l.1);
          node = λ k.
              let l = m.node k in
              let p = and_parts (nat_lt d 31) (is_node_byte t.first) (sym n.node ∙ l.0) in
              (ltb-true d 31 p.0, and_from (is_node_byte t.first) (list_all is_node_byte m.more) p.1 l.1);
          gets = token_gets fin done (AfterName m.last) refl d (named b (t.first ∷ m.more)) m.rest a;
        }

    head_back : cont d b t.first t.rest (name_turn StartName (fresh && is_property_byte t.first) (nat_lt d 31 && is_node_byte t.first)) ≡ Some fin → Headed fresh d b text
    head_back e = head_found (name_goes StartName (fresh && is_property_byte t.first) (nat_lt d 31 && is_node_byte t.first) d b t.first t.rest e)

  head_less : (fresh : Bool) (d : ℕ) (b : Built) (text : Bytes) (h : Headed fresh d b text) (fuel : ℕ) → length text ≤ suc fuel → length h.rest ≤ fuel
  head_less fresh d b text h fuel le =
      omega (arith, ap length h.is, length-append h.blank (h.name ++ (h.after ++ h.next ∷ h.rest)), length-append h.name (h.after ++ h.next ∷ h.rest), length-append h.after (h.next ∷ h.rest))

  property_text : (blank name after given behind first nodes rest : Bytes)
      → blank ++ (name ++ (after ++ (given ++ 59 ∷ (behind ++ (first ++ (nodes ++ rest))))))
      ≡ blank ++ (((name ++ (after ++ (given ++ 59 ∷ behind))) ++ first) ++ (nodes ++ rest))
  property_text blank name after given behind first nodes rest = simp append_assoc

  given_text : (before spelling others last rest : Bytes) → before ++ (spelling ++ (others ++ (last ++ rest))) ≡ (before ++ ((spelling ++ others) ++ last)) ++ rest
  given_text before spelling others last rest = simp append_assoc

  nodes_text : (blank name gap inner first nodes after behind others rest : Bytes)
      → blank ++ (name ++ (gap ++ 123 ∷ (inner ++ (first ++ (nodes ++ 125 ∷ (after ++ 59 ∷ (behind ++ (others ++ rest))))))))
      ≡ blank ++ ((name ++ (gap ++ ((123 ∷ ((inner ++ (first ++ nodes)) ++ 125 ∷ (after ++ 59 ∷ []))) ++ (behind ++ others)))) ++ rest)
  nodes_text blank name gap inner first nodes after behind others rest = simp append_assoc

  given_less : (text before spelling others last rest : Bytes) (fuel : ℕ) → text ≡ before ++ (spelling ++ (others ++ (last ++ 59 ∷ rest))) → length text ≤ fuel → length rest ≤ fuel
  given_less text before spelling others last rest fuel is le =
      omega (arith, ap length is, length-append before (spelling ++ (others ++ (last ++ 59 ∷ rest))), length-append spelling (others ++ (last ++ 59 ∷ rest)), length-append others (last ++ 59 ∷ rest), length-append last (59 ∷ rest))

  body_less : (text blank first nodes rest : Bytes) (fuel : ℕ) → text ≡ blank ++ (first ++ (nodes ++ 125 ∷ rest)) → length text ≤ fuel → length rest ≤ fuel
  body_less text blank first nodes rest fuel is le =
      omega (arith, ap length is, length-append blank (first ++ (nodes ++ 125 ∷ rest)), length-append first (nodes ++ 125 ∷ rest), length-append nodes (125 ∷ rest))

  closed_less : (text blank rest : Bytes) (fuel : ℕ) → text ≡ blank ++ 59 ∷ rest → length text ≤ fuel → length rest ≤ fuel
  closed_less text blank rest fuel is le = omega (arith, ap length is, length-append blank (59 ∷ rest))

  -- A property, before what follows it.
  with_given : (fresh : Bool) (d : ℕ) (b : Built) (text : Bytes) (h : Headed fresh d b text) → may_be_property h.kind ≡ true → (given value tail : Bytes) → IsGiven given value
      → h.after ++ h.next ∷ h.rest ≡ h.after ++ (given ++ 59 ∷ tail) → (b1 : Built) → b1.tokens ≡ b.tokens ++ property (Some h.name) value ∷ [] → b1.reserves ≡ b.reserves → Bodied true d b1 tail → Bodied fresh d b text
  with_given fresh d b text h m given value tail says is b1 added same later = record {
    blank = h.blank;
    first = (h.name ++ (h.after ++ (given ++ 59 ∷ later.blank))) ++ later.first;
    properties = (h.name, value) ∷ later.properties;
    nodes = later.nodes;
    children = later.children;
    rest = later.rest;
    built = later.built;
    spacing = h.spacing;
    are = (h.name ++ (h.after ++ (given ++ 59 ∷ later.blank)), later.first, (h.after, given, later.blank, (h.property m).1, h.also, says, later.spacing, refl), later.are, refl);
    stale = λ s. absurd (true≢false (sym (h.property m).0 ∙ s));
    below = later.below;
    is = h.is
        ∙ (ap (λ (z : Bytes). h.blank ++ (h.name ++ z)) (is ∙ ap (λ (z : Bytes). h.after ++ (given ++ 59 ∷ z)) later.is)
        ∙ property_text h.blank h.name h.after given later.blank later.first later.nodes (125 ∷ later.rest));
    tokens = later.tokens
        ∙ (ap (λ (z : List Mark). z ++ (spelled_properties later.properties ++ spelled later.children)) added
        ∙ append_assoc b.tokens (property (Some h.name) value ∷ []) (spelled_properties later.properties ++ spelled later.children));
    reserves = later.reserves ∙ same;
    gets = later.gets;
  }

  deep : (d : ℕ) → d < 31 → suc (suc d) ≤ depth_limit
  deep d lt = omega arith

  -- A node, before what follows it.
  with_node : (fresh : Bool) (d : ℕ) (b : Built) (text : Bytes) (h : Headed fresh d b text) → may_be_node h.kind ≡ true → h.next ≡ 123 → (inside : Bodied true (suc d) (act Open 123 (named b h.name)) h.rest)
      → (after tail : Bytes) → IsBlank after → inside.rest ≡ after ++ 59 ∷ tail → Bodied false d (act Close 59 inside.built) tail → Bodied fresh d b text
  with_node fresh d b text h m end inside after tail spacing is later =
      let none_given = later.stale refl in
      let n = h.node m in record {
        blank = h.blank;
        first = [];
        properties = [];
        nodes = h.name ++ (h.after ++ ((123 ∷ ((inside.blank ++ (inside.first ++ inside.nodes)) ++ 125 ∷ (after ++ 59 ∷ []))) ++ (later.blank ++ later.nodes)));
        children = tree h.name inside.properties inside.children later.children;
        rest = later.rest;
        built = later.built;
        spacing = h.spacing;
        are = refl;
        stale = λ s. (refl, refl);
        below = (
          h.after,
          123 ∷ ((inside.blank ++ (inside.first ++ inside.nodes)) ++ 125 ∷ (after ++ 59 ∷ [])),
          later.blank,
          later.nodes,
          deep d n.0,
          n.1,
          h.also,
          (inside.blank ++ (inside.first ++ inside.nodes), after, (inside.blank, inside.first, inside.nodes, inside.spacing, inside.are, inside.below, refl), spacing, refl),
          later.spacing,
          later.below,
          refl,
        );
        is = h.is
            ∙ (ap (λ (k : ℕ). h.blank ++ (h.name ++ (h.after ++ k ∷ h.rest))) end
            ∙ (ap (λ (z : Bytes). h.blank ++ (h.name ++ (h.after ++ 123 ∷ z))) (inside.is ∙ ap (λ (z : Bytes). inside.blank ++ (inside.first ++ (inside.nodes ++ 125 ∷ z))) (is ∙ ap (λ (z : Bytes). after ++ 59 ∷ z) (later.is ∙ ap (λ (z : Bytes). later.blank ++ (z ++ (later.nodes ++ 125 ∷ later.rest))) none_given.0)))
            ∙ nodes_text h.blank h.name h.after inside.blank inside.first inside.nodes after later.blank later.nodes (125 ∷ later.rest)));
        tokens = later.tokens
            ∙ (ap (λ (z : List Property). (inside.built.tokens ++ end_node ∷ []) ++ (spelled_properties z ++ spelled later.children)) none_given.1
            ∙ (ap (λ (z : List Mark). (z ++ end_node ∷ []) ++ spelled later.children) (inside.tokens ∙ sym (append_assoc (b.tokens ++ begin_node h.name ∷ []) (spelled_properties inside.properties) (spelled inside.children)))
            ∙ node_tokens b.tokens h.name (spelled_properties inside.properties) (spelled inside.children) (spelled later.children)));
        reserves = later.reserves ∙ inside.reserves;
        gets = later.gets;
      }

  -- The rest of a body is shorter, and is what it is.
  abbrev Bodies : ℕ → Type 0
  Bodies fuel = (fresh : Bool) (d : ℕ) (b : Built) (text : Bytes) → length text ≤ fuel → Gets fin done Outside (Body fresh) d b text → Bodied fresh d b text

  module _ (fuel : ℕ) (on : Bodies fuel) (fresh : Bool) (d : ℕ) (b : Built) (text : Bytes) (h : Headed fresh d b text) (le : length h.rest ≤ fuel) where
    bare : (may_be_property h.kind && h.next == 59) ≡ true → Gets fin done Outside (Body true) d (act GiveEmpty h.next (named b h.name)) h.rest → Bodied fresh d b text
    bare is e =
        let k = and_parts (may_be_property h.kind) (h.next == 59) is in
        with_given fresh d b text h k.0 [] [] h.rest (inl (refl, refl)) (ap (λ (z : ℕ). h.after ++ z ∷ h.rest) (eqb-true h.next 59 k.1)) (act GiveEmpty h.next (named b h.name)) refl refl
        (on true d (act GiveEmpty h.next (named b h.name)) h.rest le e)

    full : (may_be_property h.kind && h.next == 61) ≡ true → Gets fin done Outside Value d (valued (named b h.name) []) h.rest → Bodied fresh d b text
    full is e =
        let k = and_parts (may_be_property h.kind) (h.next == 61) is in
        let v = value_back fin done d (valued (named b h.name) []) h.rest e in
        let m = more_back fin done (length v.rest) d (valued (named b h.name) v.value) v.rest (omega arith) v.gets in
        let value : Bytes = v.value ++ whole m.values in
        let b1 : Built = act Give 59 (valued (named b h.name) value) in
        let whole_text : h.rest ≡ v.blank ++ (v.spelling ++ (m.others ++ (m.last ++ 59 ∷ m.rest))) = v.is ∙ ap (λ (z : Bytes). v.blank ++ (v.spelling ++ z)) m.is in
        with_given fresh d b text h k.0 (61 ∷ (v.blank ++ ((v.spelling ++ m.others) ++ m.last))) value m.rest
        (inr (v.blank, v.spelling ++ m.others, m.last, v.spacing, (v.spelling, m.others, v.value, m.values, v.spelled, m.are, refl, refl), m.spacing, refl))
        (ap (λ (z : ℕ). h.after ++ z ∷ h.rest) (eqb-true h.next 61 k.1) ∙ ap (λ (z : Bytes). h.after ++ 61 ∷ z) (whole_text ∙ given_text v.blank v.spelling m.others m.last (59 ∷ m.rest)))
        b1 refl refl
        (on true d b1 m.rest (given_less h.rest v.blank v.spelling m.others m.last m.rest fuel whole_text le) m.gets)

    node_end : may_be_node h.kind ≡ true → h.next ≡ 123 → (inside : Bodied true (suc d) (act Open 123 (named b h.name)) h.rest) → (c : Token fin done Closed (suc d) inside.built inside.rest)
        → (x : Bool) → (c.first == 59) ≡ x → cont (suc d) inside.built c.first c.rest (cond x (to (Body false) Close) None) ≡ Some fin → Bodied fresh d b text
    node_end m q inside c true is e =
        let closed : inside.rest ≡ c.blank ++ 59 ∷ c.rest = c.is ∙ ap (λ (z : ℕ). c.blank ++ z ∷ c.rest) (eqb-true c.first 59 is) in
        with_node fresh d b text h m q inside c.blank c.rest c.spacing closed
        (on false d (act Close 59 inside.built) c.rest (closed_less inside.rest c.blank c.rest fuel closed (body_less h.rest inside.blank inside.first inside.nodes inside.rest fuel inside.is le)) e)
    node_end m q inside c false is e = nowhere fin done e

    node : (may_be_node h.kind && h.next == 123) ≡ true → Gets fin done Outside (Body true) (suc d) (act Open h.next (named b h.name)) h.rest → Bodied fresh d b text
    node is e =
        let k = and_parts (may_be_node h.kind) (h.next == 123) is in
        let inside = on true (suc d) (act Open 123 (named b h.name)) h.rest le e in
        let c = peel_token fin done Closed token_closed (suc d) inside.built inside.rest inside.gets in
        node_end k.0 (eqb-true h.next 123 k.1) inside c (c.first == 59) refl (token_gets fin done Closed refl (suc d) inside.built inside.rest c)

    head_at : (x : Bool) → (may_be_property h.kind && h.next == 59) ≡ x → (y : Bool) → (may_be_property h.kind && h.next == 61) ≡ y → (z : Bool) → (may_be_node h.kind && h.next == 123) ≡ z
        → cont d (named b h.name) h.next h.rest (cond x (to (Body true) GiveEmpty) (cond y (to Value StartValue) (cond z (to (Body true) Open) None))) ≡ Some fin → Bodied fresh d b text
    head_at true is y o z p e = bare is e
    head_at false i true o z p e = full o e
    head_at false i false o true p e = node p e
    head_at false i false o false p e = nowhere fin done e

  module _ (fuel : ℕ) (on : Bodies fuel) (fresh : Bool) (d : ℕ) (b : Built) (text : Bytes) (le : length text ≤ suc fuel) (t : Token fin done (Body fresh) d b text) where
    body_at : (x : Bool) → (t.first == 125) ≡ x → cont d b t.first t.rest (cond x (pass Closed) (name_turn StartName (fresh && is_property_byte t.first) (nat_lt d 31 && is_node_byte t.first))) ≡ Some fin → Bodied fresh d b text
    body_at true is e = record {
      blank = t.blank;
      first = [];
      properties = [];
      nodes = [];
      children = none;
      rest = t.rest;
      built = b;
      spacing = t.spacing;
      are = refl;
      stale = λ s. (refl, refl);
      below = refl;
      is = t.is ∙ ap (λ (k : ℕ). t.blank ++ k ∷ t.rest) (eqb-true t.first 125 is);
      tokens = sym (append-nil b.tokens);
      reserves = refl;
      gets = e;
    }
    body_at false is e =
        let h = head_back fresh d b text t e in
        head_at fuel on fresh d b text h (head_less fresh d b text h fuel le) (may_be_property h.kind && h.next == 59) refl (may_be_property h.kind && h.next == 61) refl (may_be_node h.kind && h.next == 123) refl h.gets

  pub body_back : (fuel : ℕ) → Bodies fuel
  body_back zero fresh d b [] le e = stops fin done Outside (Body fresh) d b refl e
  body_back zero fresh d b (c ∷ text) le e = absurd (omega arith)
  body_back (suc fuel) fresh d b text le e =
      let t = peel_token fin done (Body fresh) (token_body fresh) d b text e in
      body_at fuel (body_back fuel) fresh d b text le t (t.first == 125) refl (token_gets fin done (Body fresh) refl d b text t)
