-- What the reader goes over to its end is a source, and what it adds is what the source says.
use Rattle.std.proofs.Common.{◌≡◌, ◌∙◌, refl, sym, ap, ℕ, suc, zero, ◌^◌, ◌≤◌, lit≤, Bool, true, false, not, List, [], ◌∷◌, ◌++◌, length, drop, filter, append_assoc, append-nil, length-append, Option, Some, None, cond, inl, inr, arith, codes}
use Rattle.std.specs.Prelude.{◌==◌, slice_get}
use Rattle.std.proofs.lemmas.Bool.{eqb-true, true≢false}
use Rattle.fdt_tree.specs.Tree.{Bytes, Tree}
use Rattle.fdt_tree.specs.declared.reserve.Reserve.{Reserve}
use Rattle.fdt_read.specs.Tokens.{begin_node}
use Rattle.fdt_read.specs.Spelling.{spelled_properties, spelled}
use Rattle.source_text.specs.Characters.{is_space}
use Rattle.source_text.specs.Source.{whole, IsBlank, IsSeparator, begins_no_comment, IsReserve, AreEach, is_said, IsRoot, IsSource}
use Rattle.source_text.specs.declared.state.Comment.TheVariants.{Outside, Fresh}
use Rattle.source_text.specs.declared.state.Keyword.{Keyword}
use Rattle.source_text.specs.declared.state.Keyword.TheVariants as keywords
use Rattle.source_text.specs.declared.state.Digits.{Digits}
use Rattle.source_text.specs.declared.state.Next.{Next}
use Rattle.source_text.specs.declared.state.Next.TheVariants.{Start, Word, VersionEnd, Item, Address, AddressDigits, Size, SizeDigits, ReserveEnd, RootOpen, Body, Closed, Over}
use Rattle.source_text.specs.declared.state.Action.TheVariants.{Pass, SetAddress, AddReserve}
use Rattle.source_text.specs.PrivateTurns.{Turn, pass, gap_turn, digits_turn, first_digit, token_turn, slash_turn, word_turn, word_text, after_word, is_over, is_done}
use Rattle.source_text.specs.PrivateReadings.{Built, Stand, reached, unread, with_reserve}
use Rattle.source_text.proofs.Running.{cont, differs}
use Rattle.source_text.proofs.Blanks.{IsGap, root_gap}
use Rattle.source_text.proofs.Numbers.{address_numeric, size_numeric}
use Rattle.source_text.proofs.Completeness.{gap_start, gap_version_end, gap_item, gap_address, gap_size, gap_reserve_end, gap_over, said_first}
use Rattle.source_text.proofs.Peeling.{behind, no_blank, more_blank, Gets, stops, nowhere, Peeled, Ended, Slashed, Token, IsToken, peel, peel_token, token_gets, same_behind}
use Rattle.source_text.proofs.ValuesBack.{number_back}
use Rattle.source_text.proofs.NodesBack.{body_back, token_closed}

-- An item of a list.
nth : (xs : Bytes) (i c : ℕ) (left : Bytes) → drop i xs ≡ c ∷ left → (slice_get xs i ≡ Some c) × (drop (suc i) xs ≡ left)
nth [] zero c left e = absurd (cc)
nth [] (suc i) c left e = absurd (cc)
nth (x ∷ xs) zero c left e = (cc, cc)
nth (x ∷ xs) (suc i) c left e = nth xs i c left e

no_nth : (xs : Bytes) (i : ℕ) → drop i xs ≡ [] → slice_get xs i ≡ None
no_nth [] i e = refl
no_nth (x ∷ xs) zero e = absurd (cc)
no_nth (x ∷ xs) (suc i) e = no_nth xs i e

-- A space begins no comment.
space_plain : (c : ℕ) → is_space c ≡ true → not (c == 47) ≡ true
unfolding is_space
space_plain c e = ap (λ z. not z) (differs is_space c 47 e refl)

front_comment : (blank more : Bytes) → begins_no_comment (blank ++ more) ≡ true → begins_no_comment blank ≡ true
front_comment [] more e = refl
front_comment (c ∷ blank) more e = e

module _ (fin : Stand) (done : is_done fin.0 fin.1 ≡ true) where
  token_version_end : IsToken fin done VersionEnd
  token_version_end = record { gap = gap_version_end; over = refl; slash = λ c. refl; slash_spaced = λ c. refl }

  token_address : (read : Bool) → IsToken fin done (Address read)
  token_address read = record { gap = gap_address read; over = refl; slash = λ c. refl; slash_spaced = λ c. refl }

  token_size : (read : Bool) → IsToken fin done (Size read)
  token_size read = record { gap = gap_size read; over = refl; slash = λ c. refl; slash_spaced = λ c. refl }

  token_reserve_end : IsToken fin done ReserveEnd
  token_reserve_end = record { gap = gap_reserve_end; over = refl; slash = λ c. refl; slash_spaced = λ c. refl }

  token_root_open : IsToken fin done RootOpen
  token_root_open = record { gap = root_gap; over = refl; slash = λ c. refl; slash_spaced = λ c. refl }

  -- A byte that must be the wanted one.
  only_back : (d : ℕ) (b : Built) (c wanted : ℕ) (rest : Bytes) (turn : Turn) → cont d b c rest (cond (c == wanted) turn None) ≡ Some fin → (c ≡ wanted) × (cont d b c rest turn ≡ Some fin)
  only_back d b c wanted rest turn e = by (c == wanted) refl e
    where
      by : (x : Bool) → (c == wanted) ≡ x → cont d b c rest (cond x turn None) ≡ Some fin → (c ≡ wanted) × (cont d b c rest turn ≡ Some fin)
      by true is e = (eqb-true c wanted is, e)
      by false is e = nowhere fin done e

  -- The rest of a keyword.
  word_back : (word : Keyword) (left : Bytes) (read d : ℕ) (b : Built) (text : Bytes) → drop read (word_text word) ≡ left → Gets fin done Outside (Word word read) d b text
      → (rest : Bytes) × (text ≡ left ++ 47 ∷ rest) × Gets fin done Fresh (after_word word) d b rest
  word_back word left read d b [] at e = stops fin done Outside (Word word read) d b refl e
  word_back word [] read d b (c ∷ text) at e =
      let p = only_back d b c 47 text (Some (Fresh, after_word word, Pass)) (ap (λ (o : Option ℕ). cont d b c text (word_turn word read o c)) (sym (no_nth (word_text word) read at)) ∙ e) in
      (text, ap (λ (k : ℕ). k ∷ text) p.0, p.1)
  word_back word (w ∷ left) read d b (c ∷ text) at e =
      let n = nth (word_text word) read w left at in
      let p = only_back d b c w text (pass (Word word (suc read))) (ap (λ (o : Option ℕ). cont d b c text (word_turn word read o c)) (sym n.0) ∙ e) in
      let later = word_back word left (suc read) d b text n.1 p.1 in
      (later.0, ap (λ (k : ℕ). k ∷ text) p.0 ∙ ap (λ (z : Bytes). w ∷ z) later.1, later.2)

  -- No comment begins behind its slash.
  fresh_back : (n : Next) → IsGap n → (d : ℕ) (b : Built) (text : Bytes) → Gets fin done Fresh n d b text → (begins_no_comment text ≡ true) × Gets fin done Outside n d b text
  fresh_back n g d b [] e = stops fin done Fresh n d b refl e
  fresh_back n g d b (c ∷ text) e = by (c == 47) refl e
    where
      by : (x : Bool) → (c == 47) ≡ x → cont d b c text (cond x None (gap_turn n d c)) ≡ Some fin → (begins_no_comment (c ∷ text) ≡ true) × Gets fin done Outside n d b (c ∷ text)
      by true is e = nowhere fin done e
      by false is e = (ap (λ z. not z) is, ap (cont d b c text) (g.here d c) ∙ e)

  wide : 16 ≤ 2 ^ 64
  wide = lit≤ tt

  address_over : (x : Digits) → is_over (AddressDigits x) ≡ false
  address_over x = refl

  size_over : (x : Digits) → is_over (SizeDigits x) ≡ false
  size_over x = refl

  -- Spacing and a number behind it, which must be apart.
  record Apart (ahead : Bool → Next) (again : Digits → Next) (d : ℕ) (b : Built) (text : Bytes) : Type 0 where
    blank : Bytes
    first : ℕ
    rest : Bytes
    separator : IsSeparator blank
    is : text ≡ blank ++ first ∷ rest
    gets : cont d b first rest (digits_turn again (first_digit first)) ≡ Some fin

  address_apart : (d : ℕ) (b : Built) (text : Bytes) → Gets fin done Outside (Address false) d b text → Apart Address AddressDigits d b text
  address_apart d b text e = by t.blank t.spacing t.is t.gets
    where
      t : Token fin done (Address false) d b text
      t = peel_token fin done (Address false) (token_address false) d b text e

      by : (blank : Bytes) → IsBlank blank → text ≡ blank ++ t.first ∷ t.rest → cont d b t.first t.rest (token_turn (behind blank (Address false)) d t.first) ≡ Some fin → Apart Address AddressDigits d b text
      by [] spacing is gets = nowhere fin done gets
      by (x ∷ blank) spacing is gets = record { blank = x ∷ blank; first = t.first; rest = t.rest; separator = (spacing, omega arith); is = is; gets = gets }

  size_apart : (d : ℕ) (b : Built) (text : Bytes) → Gets fin done Outside (Size false) d b text → Apart Size SizeDigits d b text
  size_apart d b text e = by t.blank t.spacing t.is t.gets
    where
      t : Token fin done (Size false) d b text
      t = peel_token fin done (Size false) (token_size false) d b text e

      by : (blank : Bytes) → IsBlank blank → text ≡ blank ++ t.first ∷ t.rest → cont d b t.first t.rest (token_turn (behind blank (Size false)) d t.first) ≡ Some fin → Apart Size SizeDigits d b text
      by [] spacing is gets = nowhere fin done gets
      by (x ∷ blank) spacing is gets = record { blank = x ∷ blank; first = t.first; rest = t.rest; separator = (spacing, omega arith); is = is; gets = gets }

  -- A reservation but for what is behind its semicolon.
  record Reserving (b : Built) (d : ℕ) (text : Bytes) : Type 0 where
    before : Bytes
    address : Bytes
    between : Bytes
    size : Bytes
    after : Bytes
    rest : Bytes
    reserve : Reserve
    is : text ≡ before ++ (address ++ (between ++ (size ++ (after ++ 59 ∷ rest))))
    spelled : (behind : Bytes) → IsBlank behind → IsReserve (whole (codes "/memreserve/" ∷ before ∷ address ∷ between ∷ size ∷ after ∷ codes ";" ∷ behind ∷ [])) reserve
    gets : Gets fin done Outside Item d (record b { address = reserve.address; reserves = with_reserve b.reserves reserve.address reserve.size }) rest

  reserve_back : (d : ℕ) (b : Built) (text : Bytes) → begins_no_comment text ≡ true → Gets fin done Outside (Address false) d b text → Reserving b d text
  reserve_back d b text plain e =
      let one = address_apart d b text e in
      let a = number_back fin done (2 ^ 64) AddressDigits (Size false) SetAddress address_numeric address_over d b wide one.first one.rest one.gets in
      let b1 : Built = record b { address = a.number } in
      let two = size_apart d b1 (a.first ∷ a.rest) a.gets in
      let s = number_back fin done (2 ^ 64) SizeDigits ReserveEnd AddReserve size_numeric size_over d b1 wide two.first two.rest two.gets in
      let b2 : Built = record b1 { reserves = with_reserve b.reserves a.number s.number } in
      let t = peel_token fin done ReserveEnd token_reserve_end d b2 (s.first ∷ s.rest) s.gets in
      let end = only_back d b2 t.first 59 t.rest (pass Item) (token_gets fin done ReserveEnd refl d b2 (s.first ∷ s.rest) t) in record {
        before = one.blank;
        address = a.digits;
        between = two.blank;
        size = s.digits;
        after = t.blank;
        rest = t.rest;
        reserve = record { address = a.number; size = s.number };
        is = one.is ∙ ap (λ (z : Bytes). one.blank ++ z) (a.is ∙ ap (λ (z : Bytes). a.digits ++ z) (two.is ∙ ap (λ (z : Bytes). two.blank ++ z) (s.is ∙ ap (λ (z : Bytes). s.digits ++ z) (t.is ∙ ap (λ (k : ℕ). t.blank ++ k ∷ t.rest) end.0))));
        spelled = λ behind blank. record {
          before = one.blank;
          address = a.digits;
          between = two.blank;
          size = s.digits;
          after = t.blank;
          behind = behind;
          separators = (one.separator, front_comment one.blank (one.first ∷ one.rest) (ap begins_no_comment (sym one.is) ∙ plain), two.separator);
          blanks = (t.spacing, blank);
          numbers = (a.spelled, s.spelled);
          limits = (a.below, s.below);
          spelled = refl;
        };
        gets = end.1;
      }

  -- The root, behind its slash.
  record Rooted (b : Built) (text : Bytes) : Type 0 where
    tree : Tree
    says : IsRoot (47 ∷ text) tree
    reserves : fin.3.reserves ≡ b.reserves
    tokens : fin.3.tokens ≡ b.tokens ++ (spelled_properties tree.properties ++ spelled tree.children)

  end_back : (b : Built) (text : Bytes) → Gets fin done Outside Over 0 b text → Ended fin done Over 0 b text
  end_back b text e = by (peel fin done (length text) Over gap_over 0 b text (omega arith) e)
    where
      by : Peeled fin done Over 0 b text → Ended fin done Over 0 b text
      by (inl p) = p
      by (inr (inl p)) = nowhere fin done (ap (λ (m : Next). cont 0 b p.first p.rest (token_turn m 0 p.first)) (sym (same_behind fin done Over refl p.blank)) ∙ p.gets)
      by (inr (inr p)) = nowhere fin done (ap (λ (m : Next). cont 0 b p.first p.rest (slash_turn m p.first)) (sym (same_behind fin done Over refl p.blank)) ∙ p.gets)

  tree_text : (gap blank first nodes after behind : Bytes)
      → gap ++ 123 ∷ (blank ++ (first ++ (nodes ++ 125 ∷ (after ++ 59 ∷ behind))))
      ≡ gap ++ ((123 ∷ ((blank ++ (first ++ nodes)) ++ 125 ∷ (after ++ 59 ∷ []))) ++ behind)
  tree_text gap blank first nodes after behind = simp append_assoc

  tree_back : (b : Built) (gap text inside : Bytes) → IsBlank gap → begins_no_comment gap ≡ true → text ≡ gap ++ 123 ∷ inside → Gets fin done Outside (Body true) 0 b inside → Rooted b text
  tree_back b gap text inside spacing plain is e =
      let p = body_back fin done (length inside) true 0 b inside (omega arith) e in
      let t = peel_token fin done Closed (token_closed fin done) 0 p.built p.rest p.gets in
      let end = only_back 0 p.built t.first 59 t.rest (pass Over) (token_gets fin done Closed refl 0 p.built p.rest t) in
      let last = end_back p.built t.rest end.1 in record {
        tree = record { name = []; properties = p.properties; children = p.children };
        says = (
          gap,
          123 ∷ ((p.blank ++ (p.first ++ p.nodes)) ++ 125 ∷ (t.blank ++ 59 ∷ [])),
          t.rest,
          (spacing, plain),
          (p.blank ++ (p.first ++ p.nodes), t.blank, (p.blank, p.first, p.nodes, p.spacing, p.are, p.below, refl), t.spacing, refl),
          last.last,
          refl,
          ap (λ (z : Bytes). 47 ∷ z) (is ∙ (ap (λ (z : Bytes). gap ++ 123 ∷ z) (p.is ∙ ap (λ (z : Bytes). p.blank ++ (p.first ++ (p.nodes ++ 125 ∷ z))) (t.is ∙ ap (λ (k : ℕ). t.blank ++ k ∷ t.rest) end.0)) ∙ tree_text gap p.blank p.first p.nodes t.blank t.rest)),
        );
        reserves = ap (λ (z : Built). z.reserves) last.built ∙ p.reserves;
        tokens = ap (λ (z : Built). z.tokens) last.built ∙ p.tokens;
      }

  -- Spacing, reservations and the root.
  record Itemed (b : Built) (text : Bytes) : Type 0 where
    blank : Bytes
    listed : Bytes
    reserves : List Reserve
    root : Bytes
    tree : Tree
    spacing : IsBlank blank
    are : AreEach IsReserve listed reserves
    says : IsRoot root tree
    is : text ≡ blank ++ (listed ++ root)
    said : fin.3.reserves ≡ b.reserves ++ filter is_said reserves
    tokens : fin.3.tokens ≡ b.tokens ++ (spelled_properties tree.properties ++ spelled tree.children)

  item_text : (blank before address between size after behind listed root : Bytes)
      → blank ++ (47 ∷ 109 ∷ (codes "emreserve" ++ 47 ∷ (before ++ (address ++ (between ++ (size ++ (after ++ 59 ∷ (behind ++ (listed ++ root)))))))))
      ≡ blank ++ ((whole (codes "/memreserve/" ∷ before ∷ address ∷ between ∷ size ∷ after ∷ codes ";" ∷ behind ∷ []) ++ listed) ++ root)
  item_text blank before address between size after behind listed root = simp (append_assoc, append-nil {A = ℕ})

  item_less : (text blank word before address between size after rest : Bytes) (fuel : ℕ)
      → text ≡ blank ++ (47 ∷ 109 ∷ (word ++ 47 ∷ (before ++ (address ++ (between ++ (size ++ (after ++ 59 ∷ rest))))))) → length text ≤ suc fuel → length rest ≤ fuel
  item_less text blank word before address between size after rest fuel is le =
      omega (
        arith,
        ap length is,
        length-append blank (47 ∷ 109 ∷ (word ++ 47 ∷ (before ++ (address ++ (between ++ (size ++ (after ++ 59 ∷ rest))))))),
        length-append word (47 ∷ (before ++ (address ++ (between ++ (size ++ (after ++ 59 ∷ rest)))))),
        length-append before (address ++ (between ++ (size ++ (after ++ 59 ∷ rest)))),
        length-append address (between ++ (size ++ (after ++ 59 ∷ rest))),
        length-append between (size ++ (after ++ 59 ∷ rest)),
        length-append size (after ++ 59 ∷ rest),
        length-append after (59 ∷ rest),
      )

  module _ (b : Built) (text : Bytes) where
    rooted : (blank more : Bytes) → IsBlank blank → text ≡ blank ++ 47 ∷ more → Rooted b more → Itemed b text
    rooted blank more spacing is r = record {
      blank = blank;
      listed = [];
      reserves = [];
      root = 47 ∷ more;
      tree = r.tree;
      spacing = spacing;
      are = refl;
      says = r.says;
      is = is;
      said = r.reserves ∙ sym (append-nil b.reserves);
      tokens = r.tokens;
    }

    module _ (fuel : ℕ) (le : length text ≤ suc fuel) (on : (more : Built) (left : Bytes) → length left ≤ fuel → Gets fin done Outside Item 0 more left → Itemed more left) (p : Slashed fin done Item 0 b text) where
      one_reserve : (p.first == 109) ≡ true → Gets fin done Outside (Word keywords.Reserve 1) 0 b p.rest → Itemed b text
      one_reserve is e =
          let w = word_back keywords.Reserve (codes "emreserve") 1 0 b p.rest refl e in
          let f = fresh_back (Address false) (gap_address false) 0 b w.0 w.2 in
          let r = reserve_back 0 b w.0 f.0 f.1 in
          let b1 : Built = record b { address = r.reserve.address; reserves = with_reserve b.reserves r.reserve.address r.reserve.size } in
          let so_far : text ≡ p.blank ++ (47 ∷ 109 ∷ (codes "emreserve" ++ 47 ∷ (r.before ++ (r.address ++ (r.between ++ (r.size ++ (r.after ++ 59 ∷ r.rest)))))))
          = p.is ∙ (ap (λ (k : ℕ). p.blank ++ 47 ∷ k ∷ p.rest) (eqb-true p.first 109 is) ∙ ap (λ (z : Bytes). p.blank ++ 47 ∷ 109 ∷ z) (w.1 ∙ ap (λ (z : Bytes). codes "emreserve" ++ 47 ∷ z) r.is)) in
          let later = on b1 r.rest (item_less text p.blank (codes "emreserve") r.before r.address r.between r.size r.after r.rest fuel so_far le) r.gets in record {
            blank = p.blank;
            listed = whole (codes "/memreserve/" ∷ r.before ∷ r.address ∷ r.between ∷ r.size ∷ r.after ∷ codes ";" ∷ later.blank ∷ []) ++ later.listed;
            reserves = r.reserve ∷ later.reserves;
            root = later.root;
            tree = later.tree;
            spacing = p.spacing;
            are = (whole (codes "/memreserve/" ∷ r.before ∷ r.address ∷ r.between ∷ r.size ∷ r.after ∷ codes ";" ∷ later.blank ∷ []), later.listed, r.spelled later.blank later.spacing, later.are, refl);
            says = later.says;
            is = so_far
                ∙ (ap (λ (z : Bytes). p.blank ++ (47 ∷ 109 ∷ (codes "emreserve" ++ 47 ∷ (r.before ++ (r.address ++ (r.between ++ (r.size ++ (r.after ++ 59 ∷ z)))))))) later.is
                ∙ item_text p.blank r.before r.address r.between r.size r.after later.blank later.listed later.root);
            said = later.said ∙ said_first b.reserves r.reserve later.reserves;
            tokens = later.tokens;
          }

      item_at : (x : Bool) → (p.first == 109) ≡ x → (y : Bool) → (p.first == 123) ≡ y → (z : Bool) → is_space p.first ≡ z
          → cont 0 b p.first p.rest (cond x (pass (Word keywords.Reserve 1)) (cond y (pass (Body true)) (cond z (pass RootOpen) None))) ≡ Some fin → Itemed b text
      item_at true is y o z q e = one_reserve is e
      item_at false i true is z q e =
          rooted p.blank (p.first ∷ p.rest) p.spacing p.is (tree_back b [] (p.first ∷ p.rest) p.rest no_blank refl (ap (λ (k : ℕ). k ∷ p.rest) (eqb-true p.first 123 is)) e)
      item_at false i false o true is e =
          let t = peel_token fin done RootOpen token_root_open 0 b p.rest e in
          let open_brace = only_back 0 b t.first 123 t.rest (pass (Body true)) (token_gets fin done RootOpen refl 0 b p.rest t) in
          rooted p.blank (p.first ∷ p.rest) p.spacing p.is
          (tree_back b (p.first ∷ t.blank) (p.first ∷ p.rest) t.rest (more_blank (p.first ∷ []) t.blank (inl (p.first, is, refl)) t.spacing) (space_plain p.first is)
          (ap (λ (z : Bytes). p.first ∷ z) (t.is ∙ ap (λ (k : ℕ). t.blank ++ k ∷ t.rest) open_brace.0)) open_brace.1)
      item_at false i false o false q e = nowhere fin done e

    item_peeled : (fuel : ℕ) (le : length text ≤ suc fuel) → ((more : Built) (left : Bytes) → length left ≤ fuel → Gets fin done Outside Item 0 more left → Itemed more left) → Peeled fin done Item 0 b text → Itemed b text
    item_peeled fuel le on (inl p) = absurd (true≢false (sym p.over))
    item_peeled fuel le on (inr (inl p)) = nowhere fin done (ap (λ (m : Next). cont 0 b p.first p.rest (token_turn m 0 p.first)) (sym (same_behind fin done Item refl p.blank)) ∙ p.gets)
    item_peeled fuel le on (inr (inr p)) =
        item_at fuel le on p (p.first == 109) refl (p.first == 123) refl (is_space p.first) refl
        (ap (λ (m : Next). cont 0 b p.first p.rest (slash_turn m p.first)) (sym (same_behind fin done Item refl p.blank)) ∙ p.gets)

  items_back : (fuel : ℕ) (b : Built) (text : Bytes) → length text ≤ fuel → Gets fin done Outside Item 0 b text → Itemed b text
  items_back zero b [] le e = stops fin done Outside Item 0 b refl e
  items_back zero b (c ∷ text) le e = absurd (omega arith)
  items_back (suc fuel) b text le e = item_peeled b text fuel le (λ more left. items_back fuel more left) (peel fin done (length text) Item gap_item 0 b text (omega arith) e)

  -- What was read says these reservations and this tree.
  pub record Said (text : Bytes) : Type 0 where
    pub reserves : List Reserve
    pub tree : Tree
    pub says : IsSource text reserves tree
    pub said : fin.3.reserves ≡ reserves
    pub tokens : fin.3.tokens ≡ begin_node [] ∷ (spelled_properties tree.properties ++ spelled tree.children)

  version_text : (before between behind rest : Bytes) → before ++ (47 ∷ 100 ∷ (codes "ts-v1" ++ 47 ∷ (between ++ 59 ∷ (behind ++ rest)))) ≡ (before ++ (codes "/dts-v1/" ++ (between ++ 59 ∷ behind))) ++ rest
  version_text before between behind rest = simp append_assoc

  pub sound : (text : Bytes) → reached text ≡ Some fin → Said text
  sound text e = by (peel fin done (length text) Start gap_start 0 unread text (omega arith) e)
    where
      slashed : (p : Slashed fin done Start 0 unread text) → cont 0 unread p.first p.rest (cond (p.first == 100) (pass (Word keywords.Version 1)) None) ≡ Some fin → Said text
      slashed p e =
          let first = only_back 0 unread p.first 100 p.rest (pass (Word keywords.Version 1)) e in
          let w = word_back keywords.Version (codes "ts-v1") 1 0 unread p.rest refl first.1 in
          let f = fresh_back VersionEnd gap_version_end 0 unread w.0 w.2 in
          let t = peel_token fin done VersionEnd token_version_end 0 unread w.0 f.1 in
          let end = only_back 0 unread t.first 59 t.rest (pass Item) (token_gets fin done VersionEnd refl 0 unread w.0 t) in
          let items = items_back (length t.rest) unread t.rest (omega arith) end.1 in record {
            reserves = filter is_said items.reserves;
            tree = items.tree;
            says = record {
              version_text = p.blank ++ (codes "/dts-v1/" ++ (t.blank ++ 59 ∷ items.blank));
              reserves_text = items.listed;
              root_text = items.root;
              version = (p.blank, t.blank, items.blank, p.spacing, (t.spacing, front_comment t.blank (t.first ∷ t.rest) (ap begins_no_comment (sym t.is) ∙ f.0)), items.spacing, refl);
              reserved = (items.reserves, items.are, refl);
              root = items.says;
              spelled = p.is
                  ∙ (ap (λ (k : ℕ). p.blank ++ 47 ∷ k ∷ p.rest) first.0
                  ∙ (ap (λ (z : Bytes). p.blank ++ 47 ∷ 100 ∷ z) (w.1 ∙ ap (λ (z : Bytes). codes "ts-v1" ++ 47 ∷ z) (t.is ∙ (ap (λ (k : ℕ). t.blank ++ k ∷ t.rest) end.0 ∙ ap (λ (z : Bytes). t.blank ++ 59 ∷ z) items.is)))
                  ∙ version_text p.blank t.blank items.blank (items.listed ++ items.root)));
            };
            said = items.said;
            tokens = items.tokens;
          }

      by : Peeled fin done Start 0 unread text → Said text
      by (inl p) = absurd (true≢false (sym p.over))
      by (inr (inl p)) = nowhere fin done (ap (λ (m : Next). cont 0 unread p.first p.rest (token_turn m 0 p.first)) (sym (same_behind fin done Start refl p.blank)) ∙ p.gets)
      by (inr (inr p)) = slashed p (ap (λ (m : Next). cont 0 unread p.first p.rest (slash_turn m p.first)) (sym (same_behind fin done Start refl p.blank)) ∙ p.gets)
