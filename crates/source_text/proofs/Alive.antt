-- Wherever the reader stands, some text leads it to its end.
use Rattle.std.proofs.Common.{◌≡◌, ◌∙◌, refl, ap, ℕ, suc, zero, Bool, true, false, [], ◌∷◌, ◌++◌, drop, Option, Some, None, cond, codes}
use Rattle.std.specs.Prelude.{◌==◌, slice_get}
use Rattle.std.proofs.lemmas.Bool.{eq-eqb}
use Rattle.fdt_tree.specs.Tree.{Bytes}
use Rattle.source_text.specs.Characters.{is_property_byte, is_node_byte, is_space}
use Rattle.source_text.specs.declared.state.Comment.{Comment}
use Rattle.source_text.specs.declared.state.Comment.TheVariants.{Outside, Fresh, Slash, ToFeed, ToStar, Star}
use Rattle.source_text.specs.declared.state.Keyword.{Keyword}
use Rattle.source_text.specs.declared.state.Keyword.TheVariants as keywords
use Rattle.source_text.specs.declared.state.Kind.{Kind}
use Rattle.source_text.specs.declared.state.Kind.TheVariants as kinds
use Rattle.source_text.specs.declared.state.Digits.{Digits}
use Rattle.source_text.specs.declared.state.Digits.TheVariants.{Zero, Prefix, Hexadecimal, Decimal}
use Rattle.source_text.specs.declared.state.Next.{Next}
use Rattle.source_text.specs.declared.state.Next.TheVariants.{Start, Word, VersionEnd, Item, Address, AddressDigits, Size, SizeDigits, ReserveEnd, RootOpen, Body, Name, AfterName, Value, Quoted, Cells, CellDigits, Pairs, Half, AfterValue, Closed, Over}
use Rattle.source_text.specs.declared.state.Action.TheVariants.{Close}
use Rattle.source_text.specs.PrivateTurns.{pass, word_turn, word_text, after_word, spaced, is_done}
use Rattle.source_text.specs.PrivateReadings.{Built, Stand, act, runs}
use Rattle.source_text.proofs.Running.{cont}

-- The text, and where it leads.
pub record Ends (k : Comment) (n : Next) (d : ℕ) (b : Built) : Type 0 where
  pub more : Bytes
  pub stand : Stand
  pub way : runs k n d b more ≡ Some stand
  pub done : is_done stand.0 stand.1 ≡ true

-- First some bytes, and then a text that ends it.
first : (k : Comment) (n : Next) (d : ℕ) (b : Built) (front : Bytes) (l : Comment) (m : Next) (f : ℕ) (c : Built) → ((rest : Bytes) → runs k n d b (front ++ rest) ≡ runs l m f c rest) → Ends l m f c → Ends k n d b
first k n d b front l m f c way e = record { more = front ++ e.more; stand = e.stand; way = way e.more ∙ e.way; done = e.done }

closed : (d : ℕ) (b : Built) → Ends Outside Closed d b
unfolding is_space
closed zero b = record { more = 59 ∷ []; stand = (Outside, Over, 0, b); way = refl; done = refl }
closed (suc d) b = first Outside Closed (suc d) b (59 ∷ 125 ∷ []) Outside Closed d (act Close 59 b) (λ rest. refl) (closed d (act Close 59 b))

body : (fresh : Bool) (d : ℕ) (b : Built) → Ends Outside (Body fresh) d b
unfolding is_space
body fresh d b = first Outside (Body fresh) d b (125 ∷ []) Outside Closed d b (λ rest. refl) (closed d b)

after_value : (d : ℕ) (b : Built) → Ends Outside AfterValue d b
unfolding is_space
after_value d b = first Outside AfterValue d b (59 ∷ []) Outside (Body true) d _ (λ rest. refl) (body true d _)

cells : (separated : Bool) (d : ℕ) (b : Built) → Ends Outside (Cells separated) d b
unfolding is_space
cells separated d b = first Outside (Cells separated) d b (62 ∷ []) Outside AfterValue d b (λ rest. refl) (after_value d b)

pairs : (d : ℕ) (b : Built) → Ends Outside Pairs d b
unfolding is_space
pairs d b = first Outside Pairs d b (93 ∷ []) Outside AfterValue d b (λ rest. refl) (after_value d b)

item : (d : ℕ) (b : Built) → Ends Outside Item d b
unfolding is_space
item d b = first Outside Item d b (47 ∷ 123 ∷ []) Outside (Body true) d b (λ rest. refl) (body true d b)

version_end : (d : ℕ) (b : Built) → Ends Outside VersionEnd d b
unfolding is_space
version_end d b = first Outside VersionEnd d b (59 ∷ []) Outside Item d b (λ rest. refl) (item d b)

reserve_end : (d : ℕ) (b : Built) → Ends Outside ReserveEnd d b
unfolding is_space
reserve_end d b = first Outside ReserveEnd d b (59 ∷ []) Outside Item d b (λ rest. refl) (item d b)

-- `0;` behind the size, and ` 0 ` behind the address.
size_true : (d : ℕ) (b : Built) → Ends Outside (Size true) d b
unfolding is_space
size_true d b = first Outside (Size true) d b (48 ∷ 59 ∷ []) Outside Item d _ (λ rest. refl) (item d _)

size : (read : Bool) (d : ℕ) (b : Built) → Ends Outside (Size read) d b
unfolding is_space
size read d b = first Outside (Size read) d b (32 ∷ []) Outside (Size true) d b (λ rest. refl) (size_true d b)

address_true : (d : ℕ) (b : Built) → Ends Outside (Address true) d b
unfolding is_space
address_true d b = first Outside (Address true) d b (48 ∷ 32 ∷ []) Outside (Size true) d _ (λ rest. refl) (size_true d _)

address : (read : Bool) (d : ℕ) (b : Built) → Ends Outside (Address read) d b
unfolding is_space
address read d b = first Outside (Address read) d b (32 ∷ []) Outside (Address true) d b (λ rest. refl) (address_true d b)

name : (kind : Kind) (d : ℕ) (b : Built) → Ends Outside (Name kind) d b
unfolding is_space is_property_byte is_node_byte
name kinds.Either d b = first Outside (Name kinds.Either) d b (59 ∷ []) Outside (Body true) d _ (λ rest. refl) (body true d _)
name kinds.Property d b = first Outside (Name kinds.Property) d b (59 ∷ []) Outside (Body true) d _ (λ rest. refl) (body true d _)
name kinds.Node d b = first Outside (Name kinds.Node) d b (123 ∷ []) Outside (Body true) (suc d) _ (λ rest. refl) (body true (suc d) _)

after_name : (kind : Kind) (d : ℕ) (b : Built) → Ends Outside (AfterName kind) d b
unfolding is_space
after_name kinds.Either d b = first Outside (AfterName kinds.Either) d b (59 ∷ []) Outside (Body true) d _ (λ rest. refl) (body true d _)
after_name kinds.Property d b = first Outside (AfterName kinds.Property) d b (59 ∷ []) Outside (Body true) d _ (λ rest. refl) (body true d _)
after_name kinds.Node d b = first Outside (AfterName kinds.Node) d b (123 ∷ []) Outside (Body true) (suc d) _ (λ rest. refl) (body true (suc d) _)

cell_digits : (x : Digits) (d : ℕ) (b : Built) → Ends Outside (CellDigits x) d b
unfolding is_space
cell_digits Zero d b = first Outside (CellDigits Zero) d b (62 ∷ []) Outside AfterValue d _ (λ rest. refl) (after_value d _)
cell_digits Prefix d b = first Outside (CellDigits Prefix) d b (48 ∷ 62 ∷ []) Outside AfterValue d _ (λ rest. refl) (after_value d _)
cell_digits (Hexadecimal n) d b = first Outside (CellDigits (Hexadecimal n)) d b (62 ∷ []) Outside AfterValue d _ (λ rest. refl) (after_value d _)
cell_digits (Decimal n) d b = first Outside (CellDigits (Decimal n)) d b (62 ∷ []) Outside AfterValue d _ (λ rest. refl) (after_value d _)

size_digits : (x : Digits) (d : ℕ) (b : Built) → Ends Outside (SizeDigits x) d b
unfolding is_space
size_digits Zero d b = first Outside (SizeDigits Zero) d b (59 ∷ []) Outside Item d _ (λ rest. refl) (item d _)
size_digits Prefix d b = first Outside (SizeDigits Prefix) d b (48 ∷ 59 ∷ []) Outside Item d _ (λ rest. refl) (item d _)
size_digits (Hexadecimal n) d b = first Outside (SizeDigits (Hexadecimal n)) d b (59 ∷ []) Outside Item d _ (λ rest. refl) (item d _)
size_digits (Decimal n) d b = first Outside (SizeDigits (Decimal n)) d b (59 ∷ []) Outside Item d _ (λ rest. refl) (item d _)

address_digits : (x : Digits) (d : ℕ) (b : Built) → Ends Outside (AddressDigits x) d b
unfolding is_space
address_digits Zero d b = first Outside (AddressDigits Zero) d b (32 ∷ []) Outside (Size true) d _ (λ rest. refl) (size_true d _)
address_digits Prefix d b = first Outside (AddressDigits Prefix) d b (48 ∷ 32 ∷ []) Outside (Size true) d _ (λ rest. refl) (size_true d _)
address_digits (Hexadecimal n) d b = first Outside (AddressDigits (Hexadecimal n)) d b (32 ∷ []) Outside (Size true) d _ (λ rest. refl) (size_true d _)
address_digits (Decimal n) d b = first Outside (AddressDigits (Decimal n)) d b (32 ∷ []) Outside (Size true) d _ (λ rest. refl) (size_true d _)

-- Behind the last slash of a keyword.
fresh_word : (word : Keyword) (d : ℕ) (b : Built) → Ends Fresh (after_word word) d b
unfolding is_space
fresh_word keywords.Version d b = first Fresh VersionEnd d b (59 ∷ []) Outside Item d b (λ rest. refl) (item d b)
fresh_word keywords.Reserve d b = first Fresh (Address false) d b (32 ∷ []) Outside (Address true) d b (λ rest. refl) (address_true d b)

-- The bytes of a keyword that are left.
nth : (xs : Bytes) (i c : ℕ) (left : Bytes) → drop i xs ≡ c ∷ left → (slice_get xs i ≡ Some c) × (drop (suc i) xs ≡ left)
nth [] zero c left e = absurd (cc)
nth [] (suc i) c left e = absurd (cc)
nth (x ∷ xs) zero c left e = (cc, cc)
nth (x ∷ xs) (suc i) c left e = nth xs i c left e

no_nth : (xs : Bytes) (i : ℕ) → drop i xs ≡ [] → slice_get xs i ≡ None
no_nth [] i e = refl
no_nth (x ∷ xs) zero e = absurd (cc)
no_nth (x ∷ xs) (suc i) e = no_nth xs i e

same_byte : (w : ℕ) → (w == w) ≡ true
same_byte w = eq-eqb w w refl

word : (word : Keyword) (left : Bytes) (read d : ℕ) (b : Built) → drop read (word_text word) ≡ left → Ends Outside (Word word read) d b
word w [] read d b at =
    first Outside (Word w read) d b (47 ∷ []) Fresh (after_word w) d b (λ rest. ap (λ (o : Option ℕ). cont d b 47 rest (word_turn w read o 47)) (no_nth (word_text w) read at)) (fresh_word w d b)
word w (c ∷ left) read d b at =
    let n = nth (word_text w) read c left at in
    first Outside (Word w read) d b (c ∷ []) Outside (Word w (suc read)) d b
    (λ rest. ap (λ (o : Option ℕ). cont d b c rest (word_turn w read o c)) n.0 ∙ ap (λ z. cont d b c rest (cond z (pass (Word w (suc read))) None)) (same_byte c))
    (word w left (suc read) d b n.1)

outside : (n : Next) (d : ℕ) (b : Built) → Ends Outside n d b
unfolding is_space
outside Start d b = first Outside Start d b (47 ∷ 100 ∷ []) Outside (Word keywords.Version 1) d b (λ rest. refl) (word keywords.Version (codes "ts-v1") 1 d b refl)
outside (Word w read) d b = word w (drop read (word_text w)) read d b refl
outside VersionEnd d b = version_end d b
outside Item d b = item d b
outside (Address read) d b = address read d b
outside (AddressDigits x) d b = address_digits x d b
outside (Size read) d b = size read d b
outside (SizeDigits x) d b = size_digits x d b
outside ReserveEnd d b = reserve_end d b
outside RootOpen d b = first Outside RootOpen d b (123 ∷ []) Outside (Body true) d b (λ rest. refl) (body true d b)
outside (Body fresh) d b = body fresh d b
outside (Name kind) d b = name kind d b
outside (AfterName kind) d b = after_name kind d b
outside Value d b = first Outside Value d b (60 ∷ []) Outside (Cells true) d b (λ rest. refl) (cells true d b)
outside Quoted d b = first Outside Quoted d b (34 ∷ []) Outside AfterValue d _ (λ rest. refl) (after_value d _)
outside (Cells separated) d b = cells separated d b
outside (CellDigits x) d b = cell_digits x d b
outside Pairs d b = pairs d b
outside (Half high) d b = first Outside (Half high) d b (48 ∷ []) Outside Pairs d _ (λ rest. refl) (pairs d _)
outside AfterValue d b = after_value d b
outside Closed d b = closed d b
outside Over d b = record { more = []; stand = (Outside, Over, d, b); way = refl; done = refl }

-- The reader can always go on to an end.
pub alive : (k : Comment) (n : Next) (d : ℕ) (b : Built) → Ends k n d b
unfolding is_space
alive Outside n d b = outside n d b
alive Fresh n d b = first Fresh n d b (32 ∷ []) Outside (spaced n) d b (λ rest. refl) (outside (spaced n) d b)
alive Slash n d b = first Slash n d b (42 ∷ 42 ∷ 47 ∷ []) Outside (spaced n) d b (λ rest. refl) (outside (spaced n) d b)
alive ToFeed n d b = first ToFeed n d b (10 ∷ []) Outside (spaced n) d b (λ rest. refl) (outside (spaced n) d b)
alive ToStar n d b = first ToStar n d b (42 ∷ 47 ∷ []) Outside (spaced n) d b (λ rest. refl) (outside (spaced n) d b)
alive Star n d b = first Star n d b (47 ∷ []) Outside (spaced n) d b (λ rest. refl) (outside (spaced n) d b)
