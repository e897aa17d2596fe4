-- The reader goes over every source to its end, and adds what the source says.
use Rattle.std.proofs.Common.{◌≡◌, ◌∙◌, refl, sym, ap, ℕ, ◌^◌, ◌<◌, Bool, true, false, not, ◌&&◌, List, [], ◌∷◌, ◌++◌, length, filter, append_assoc, append-nil, Some, None, cond, inl, inr, codes, arith}
use Rattle.std.specs.Prelude.{◌==◌}
use Rattle.std.specs.List.{list_all}
use Rattle.std.proofs.lemmas.Bool.{and_parts, not-true, cond-false}
use Rattle.fdt_tree.specs.Tree.{Bytes, Tree}
use Rattle.fdt_tree.specs.declared.reserve.Reserve.{Reserve}
use Rattle.fdt_read.specs.Tokens.{Token, begin_node}
use Rattle.fdt_read.specs.Spelling.{spelled_properties, spelled}
use Rattle.source_text.specs.Characters.{is_space}
use Rattle.source_text.specs.Source.{whole, begins_no_comment, IsLastBlank, IsReserve, AreEach, is_said, IsVersion, IsRoot, IsSource}
use Rattle.source_text.specs.declared.state.Comment.{Comment}
use Rattle.source_text.specs.declared.state.Comment.TheVariants.{Outside, Fresh, Slash, ToFeed}
use Rattle.source_text.specs.declared.state.Next.{Next}
use Rattle.source_text.specs.declared.state.Next.TheVariants.{Start, VersionEnd, Item, Address, AddressDigits, Size, SizeDigits, ReserveEnd, Body, Closed, Over}
use Rattle.source_text.specs.declared.state.Action.TheVariants.{Pass, SetAddress, AddReserve}
use Rattle.source_text.specs.PrivateTurns.{pass, gap_turn, outside_turn, is_done}
use Rattle.source_text.specs.PrivateReadings.{Built, runs, reached, unread, with_reserve}
use Rattle.source_text.proofs.Running.{cont}
use Rattle.source_text.proofs.Blanks.{IsGap, over_blank, over_separator, over_fresh, over_root, slash_here}
use Rattle.source_text.proofs.Stops.{stop_59, blank_front, separator_front}
use Rattle.source_text.proofs.Numbers.{address_numeric, size_numeric, first_address, first_size, over_number}
use Rattle.source_text.proofs.Nodes.{gap_body, gap_closed, over_properties, over_nodes}

pub gap_start : IsGap Start
gap_start = record { here = λ d c. refl; there = λ d c. refl; again = refl }

pub gap_version_end : IsGap VersionEnd
gap_version_end = record { here = λ d c. refl; there = λ d c. refl; again = refl }

pub gap_item : IsGap Item
gap_item = record { here = λ d c. refl; there = λ d c. refl; again = refl }

pub gap_address : (read : Bool) → IsGap (Address read)
gap_address read = record { here = λ d c. refl; there = λ d c. refl; again = refl }

pub gap_size : (read : Bool) → IsGap (Size read)
gap_size read = record { here = λ d c. refl; there = λ d c. refl; again = refl }

pub gap_reserve_end : IsGap ReserveEnd
gap_reserve_end = record { here = λ d c. refl; there = λ d c. refl; again = refl }

pub gap_over : IsGap Over
gap_over = record { here = λ d c. refl; there = λ d c. refl; again = refl }

module _ (d : ℕ) (b : Built) where
  over_version_word : (rest : Bytes) → runs Outside Start d b (codes "/dts-v1/" ++ rest) ≡ runs Fresh VersionEnd d b rest
  unfolding is_space
  over_version_word rest = refl

  over_reserve_word : (rest : Bytes) → runs Outside Item d b (codes "/memreserve/" ++ rest) ≡ runs Fresh (Address false) d b rest
  unfolding is_space
  over_reserve_word rest = refl

  version_59 : outside_turn VersionEnd d 59 ≡ pass Item
  unfolding is_space
  version_59 = refl

  reserve_59 : outside_turn ReserveEnd d 59 ≡ pass Item
  unfolding is_space
  reserve_59 = refl

  -- Spacing behind the slash of a keyword.
  fresh_separator : (n : Next) → IsGap n → (text rest : Bytes) → begins_no_comment text ≡ true → 0 < length text → runs Fresh n d b (text ++ rest) ≡ runs Outside n d b (text ++ rest)
  fresh_separator n g [] rest e some = absurd (omega arith)
  fresh_separator n g (a ∷ text) rest e some = ap (cont d b a (text ++ rest)) (cond-false (a == 47) None (gap_turn n d a) (not-true (a == 47) e) ∙ sym (g.here d a))

  over_version : (text rest : Bytes) → IsVersion text → runs Outside Start d b (text ++ rest) ≡ runs Outside Item d b rest
  over_version text rest is =
      let before : Bytes = is.0 in
      let between : Bytes = is.1 in
      let behind : Bytes = is.2 in
      ap (λ (z : Bytes). runs Outside Start d b (z ++ rest)) is.6
      ∙ (ap (runs Outside Start d b) (version_text before between behind rest)
      ∙ (over_blank d b Start gap_start refl before (codes "/dts-v1/" ++ (between ++ 59 ∷ (behind ++ rest))) is.3
      ∙ (over_version_word (between ++ 59 ∷ (behind ++ rest))
      ∙ (over_fresh d b VersionEnd gap_version_end between 59 (behind ++ rest) is.4.1 refl
      ∙ (over_blank d b VersionEnd gap_version_end refl between (59 ∷ (behind ++ rest)) is.4.0
      ∙ (ap (cont d b 59 (behind ++ rest)) version_59
      ∙ over_blank d b Item gap_item refl behind rest is.5))))))
    where
      version_text : (before between behind rest : Bytes) → (before ++ (codes "/dts-v1/" ++ (between ++ 59 ∷ behind))) ++ rest ≡ before ++ (codes "/dts-v1/" ++ (between ++ 59 ∷ (behind ++ rest)))
      version_text before between behind rest = simp append_assoc

  reserve_text : (before address between size after behind rest : Bytes)
      → whole (codes "/memreserve/" ∷ before ∷ address ∷ between ∷ size ∷ after ∷ codes ";" ∷ behind ∷ []) ++ rest
      ≡ codes "/memreserve/" ++ (before ++ (address ++ (between ++ (size ++ (after ++ 59 ∷ (behind ++ rest))))))
  reserve_text before address between size after behind rest = simp (append_assoc, append-nil {A = ℕ})

  -- What is read behind a reservation.
  abbrev reserved : Reserve → Built
  reserved r = record b { address = r.address; reserves = with_reserve b.reserves r.address r.size }

  over_reserve : (text rest : Bytes) (r : Reserve) → IsReserve text r → runs Outside Item d b (text ++ rest) ≡ runs Outside Item d (reserved r) rest
  over_reserve text rest r is =
      let b1 : Built = record b { address = r.address } in
      let b2 : Built = reserved r in
      let tail : Bytes = is.behind ++ rest in
      let sized : Bytes = is.size ++ (is.after ++ 59 ∷ tail) in
      let f = separator_front is.between sized is.separators.2.0 is.separators.2.1 in
      let g = blank_front is.after 59 tail is.blanks.0 stop_59 in
      ap (λ (z : Bytes). runs Outside Item d b (z ++ rest)) is.spelled
      ∙ (ap (runs Outside Item d b) (reserve_text is.before is.address is.between is.size is.after is.behind rest)
      ∙ (over_reserve_word (is.before ++ (is.address ++ (is.between ++ sized)))
      ∙ (fresh_separator (Address false) (gap_address false) is.before (is.address ++ (is.between ++ sized)) is.separators.1 is.separators.0.1
      ∙ (over_separator d b (Address false) (gap_address false) is.before (is.address ++ (is.between ++ sized)) is.separators.0
      ∙ (ap (λ (z : Bytes). runs Outside (Address true) d b (is.address ++ z)) f.is
      ∙ (over_number (2 ^ 64) AddressDigits (Size false) SetAddress address_numeric d b f.first f.rest f.stops (Address true) (λ c e. first_address d c e) is.address r.address is.numbers.0 is.limits.0
      ∙ (ap (runs Outside (Size false) d b1) (sym f.is)
      ∙ (over_separator d b1 (Size false) (gap_size false) is.between sized is.separators.2
      ∙ (ap (λ (z : Bytes). runs Outside (Size true) d b1 (is.size ++ z)) g.is
      ∙ (over_number (2 ^ 64) SizeDigits ReserveEnd AddReserve size_numeric d b1 g.first g.rest g.stops (Size true) (λ c e. first_size d c e) is.size r.size is.numbers.1 is.limits.1
      ∙ (ap (runs Outside ReserveEnd d b2) (sym g.is)
      ∙ (over_blank d b2 ReserveEnd gap_reserve_end refl is.after (59 ∷ tail) is.blanks.0
      ∙ (ap (cont d b2 59 tail) reserve_59
      ∙ over_blank d b2 Item gap_item refl is.behind rest is.blanks.1)))))))))))))

-- Reservations, and those that are said of them.
record Reserved (d : ℕ) (b : Built) (text : Bytes) (reserves : List Reserve) : Type 0 where
  built : Built
  way : (rest : Bytes) → runs Outside Item d b (text ++ rest) ≡ runs Outside Item d built rest
  read : built.reserves ≡ reserves
  tokens : built.tokens ≡ b.tokens

pub said_first : (before : List Reserve) (r : Reserve) (later : List Reserve) → with_reserve before r.address r.size ++ filter is_said later ≡ before ++ filter is_said (r ∷ later)
said_first before r later = by (r.address == 0 && r.size == 0)
  where
    by : (z : Bool) → cond z before (before ++ record { address = r.address; size = r.size } ∷ []) ++ filter is_said later ≡ before ++ cond (not z) (r ∷ filter is_said later) (filter is_said later)
    by true = refl
    by false = append_assoc before (r ∷ []) (filter is_said later)

over_reserves : (d : ℕ) (b : Built) (all : List Reserve) (text : Bytes) → AreEach IsReserve text all → Reserved d b text (b.reserves ++ filter is_said all)
over_reserves d b [] text is = record {
  built = b;
  way = λ rest. ap (λ (z : Bytes). runs Outside Item d b (z ++ rest)) is;
  read = sym (append-nil b.reserves);
  tokens = refl;
}
over_reserves d b (r ∷ all) text is =
    let b1 : Built = record b { address = r.address; reserves = with_reserve b.reserves r.address r.size } in
    let later = over_reserves d b1 all is.1 is.3 in record {
      built = later.built;
      way = λ rest. ap (λ (z : Bytes). runs Outside Item d b (z ++ rest)) is.4 ∙ (ap (runs Outside Item d b) (append_assoc is.0 is.1 rest) ∙ (over_reserve d b is.0 (is.1 ++ rest) r is.2 ∙ later.way rest));
      read = later.read ∙ said_first b.reserves r all;
      tokens = later.tokens;
    }

-- A text is read to its end, and adds these reservations and tokens.
pub record IsReached (text : Bytes) (reserves : List Reserve) (tokens : List Token) : Type 0 where
  pub comment : Comment
  pub built : Built
  pub way : reached text ≡ Some (comment, Over, 0, built)
  pub done : is_done comment Over ≡ true
  pub said : built.reserves ≡ reserves
  pub read : built.tokens ≡ tokens

-- Behind the root.
record Ends (b : Built) (text : Bytes) : Type 0 where
  comment : Comment
  way : runs Outside Over 0 b text ≡ Some (comment, Over, 0, b)
  done : is_done comment Over ≡ true

in_feed : (b : Built) (inner : Bytes) → list_all (λ c. not (c == 10)) inner ≡ true → runs ToFeed Over 0 b inner ≡ Some (ToFeed, Over, 0, b)
in_feed b [] all = refl
in_feed b (c ∷ inner) all =
    let p = and_parts (not (c == 10)) (list_all (λ c. not (c == 10)) inner) all in
    ap (λ z. cont 0 b c inner (cond z (pass Over) (Some (ToFeed, Over, Pass)))) (not-true (c == 10) p.0) ∙ in_feed b inner p.1

last_blank : (b : Built) (text : Bytes) → IsLastBlank text → Ends b text
last_blank b text (inl blank) = record {
  comment = Outside;
  way = ap (runs Outside Over 0 b) (sym (append-nil text)) ∙ over_blank 0 b Over gap_over refl text [] blank;
  done = refl;
}
last_blank b text (inr is) = record {
  comment = ToFeed;
  way = ap (runs Outside Over 0 b) (is.4 ∙ ap (λ (z : Bytes). is.0 ++ z) is.3.2)
      ∙ (over_blank 0 b Over gap_over refl is.0 (47 ∷ 47 ∷ is.3.0) is.2
      ∙ (ap (cont 0 b 47 (47 ∷ is.3.0)) (slash_here Over 0 b gap_over)
      ∙ in_feed b is.3.0 is.3.1));
  done = refl;
}

root_slash : (b : Built) → outside_turn Item 0 47 ≡ Some (Slash, Item, Pass)
root_slash b = slash_here Item 0 b gap_item

closed_root : outside_turn Closed 0 59 ≡ pass Over
unfolding is_space
closed_root = refl

root_text : (gap blank first nodes after behind : Bytes)
    → gap ++ ((123 ∷ ((blank ++ (first ++ nodes)) ++ 125 ∷ (after ++ 59 ∷ []))) ++ behind)
    ≡ gap ++ 123 ∷ (blank ++ (first ++ ((nodes ++ 125 ∷ []) ++ (after ++ 59 ∷ behind))))
root_text gap blank first nodes after behind = simp append_assoc

-- What is read behind the root.
record Rooted (b : Built) (text : Bytes) (tokens : List Token) : Type 0 where
  comment : Comment
  built : Built
  way : runs Outside Item 0 b text ≡ Some (comment, Over, 0, built)
  done : is_done comment Over ≡ true
  reserves : built.reserves ≡ b.reserves
  read : built.tokens ≡ tokens

over_tree : (b : Built) (text : Bytes) (t : Tree) → IsRoot text t → Rooted b text (b.tokens ++ (spelled_properties t.properties ++ spelled t.children))
over_tree b text t is =
    let gap : Bytes = is.0 in
    let behind : Bytes = is.2 in
    let braced = is.4 in
    let after : Bytes = braced.1 in
    let body = braced.2 in
    let blank : Bytes = body.0 in
    let first : Bytes = body.1 in
    let nodes : Bytes = body.2 in
    let properties = over_properties 0 b t.properties first body.4 in
    let children = over_nodes t.children true 0 properties.built nodes body.5 in
    let end = last_blank children.built behind is.5 in
    let left : Bytes = after ++ 59 ∷ behind in record {
      comment = end.comment;
      built = children.built;
      way = ap (runs Outside Item 0 b) (is.7 ∙ ap (λ (z : Bytes). 47 ∷ (gap ++ (z ++ behind))) (braced.4 ∙ ap (λ (z : Bytes). 123 ∷ (z ++ 125 ∷ (after ++ 59 ∷ []))) body.6) ∙ ap (λ (z : Bytes). 47 ∷ z) (root_text gap blank first nodes after behind))
          ∙ (ap (cont 0 b 47 (gap ++ 123 ∷ (blank ++ (first ++ ((nodes ++ 125 ∷ []) ++ left))))) (root_slash b)
          ∙ (over_root 0 b gap (blank ++ (first ++ ((nodes ++ 125 ∷ []) ++ left))) is.3
          ∙ (over_blank 0 b (Body true) (gap_body true) refl blank (first ++ ((nodes ++ 125 ∷ []) ++ left)) body.3
          ∙ (properties.way ((nodes ++ 125 ∷ []) ++ left)
          ∙ (children.way left
          ∙ (over_blank 0 children.built Closed gap_closed refl after (59 ∷ behind) braced.3
          ∙ (ap (cont 0 children.built 59 behind) closed_root
          ∙ end.way)))))));
      done = end.done;
      reserves = children.reserves ∙ properties.reserves;
      read = children.read ∙ (ap (λ (z : List Token). z ++ spelled t.children) properties.read ∙ append_assoc b.tokens (spelled_properties t.properties) (spelled t.children));
    }

-- Every source is read to its end.
pub complete : (text : Bytes) (reserves : List Reserve) (t : Tree) → IsSource text reserves t → IsReached text reserves (begin_node [] ∷ (spelled_properties t.properties ++ spelled t.children))
complete text reserves t is =
    let listed = is.reserved in
    let first = over_reserves 0 unread listed.0 is.reserves_text listed.1 in
    let root = over_tree first.built is.root_text t is.root in record {
      comment = root.comment;
      built = root.built;
      way = ap reached is.spelled ∙ (over_version 0 unread is.version_text (is.reserves_text ++ is.root_text) is.version ∙ (first.way is.root_text ∙ root.way));
      done = root.done;
      said = root.reserves ∙ (first.read ∙ sym listed.2);
      read = root.read ∙ ap (λ (z : List Token). z ++ (spelled_properties t.properties ++ spelled t.children)) first.tokens;
    }
