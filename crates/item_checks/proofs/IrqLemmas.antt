-- Interrupts, as the state keeps them.
use Rattle.std.proofs.Common.{◌≡◌, ℕ, ◌||◌, ◌&&◌, Bool, true, false, cond, not, List, [], ◌∷◌, ◌++◌, Option, Some, None, refl, sym, ap, ◌∙◌, arith}
use Rattle.std.specs.Prelude.{◌==◌, nat_le, min, option_map}
use Rattle.std.specs.List.{find, list_any}
use Rattle.std.specs.Option.{option_or}
use Rattle.std.proofs.lemmas.Bool.Decides.{nat_tests}
use Rattle.std.proofs.lemmas.List.Folds.{find-append}
use Rattle.described.specs.declared.item.Item.{Item}
use Rattle.described.specs.declared.item.What.{What}
use Rattle.described.specs.declared.item.What.TheVariants as whats
use Rattle.described.specs.declared.why.Why.{Why}
use Rattle.item_checks.specs.declared.state.Taker.{Taker}
use Rattle.item_checks.specs.Taken.{Passed, item_of, what_of, belongs_to}
use Rattle.described.specs.Reasons.{where_so}
use Rattle.item_checks.specs.Reasons.{is_irq, is_past_spis, has_console}
use Rattle.item_checks.specs.Standing.{is_guest, is_other, first_other, is_of_other, item_where}
use Rattle.item_checks.specs.PrivateStanding.{is_irq_of_other}
use Rattle.frame_alloc.proofs.CommonFrames.{or_none}

belongs_is : (guest : Option ℕ) (p : Passed) → belongs_to guest p ≡ is_guest guest p.entry.guest
belongs_is None p = refl
belongs_is (Some number) p = refl

-- the less of two numbers of interrupts
pub least_past : (a b number : ℕ) → nat_le (min a b) number ≡ (nat_le a number || nat_le b number)
least_past a b number = grind (arith, nat_tests)

or_nothing : (o : Option Item) → option_or o None ≡ o
or_nothing None = refl
or_nothing (Some x) = refl

-- an interrupt of that number and guest
abbrev pub is_taker : ℕ → ℕ → Taker → Bool
is_taker number guest taker = (taker.number == number) && (taker.guest == guest)

both : (a b : Bool) → (a && b) ≡ true → (a ≡ true) × (b ≡ true)
both true true is = (refl, refl)
both true false is = absurd cc
both false b is = absurd cc

equal : (a b : ℕ) → (a == b) ≡ true → a ≡ b
equal a b is = grind (arith, nat_tests)

-- one of that number and guest is another's just where its number and guest are
same_other : (number guest sought : ℕ) (other : Option ℕ) (t : Taker) → is_taker number guest t ≡ true → is_other sought other t ≡ (not (is_guest other (Some guest)) && (number == sought))
same_other number guest sought other t is =
    let parts = both (t.number == number) (t.guest == guest) is in
    let numbers : t.number ≡ number = equal t.number number parts.0 in
    let guests : t.guest ≡ guest = equal t.guest guest parts.1 in
    ap (λ (n : ℕ). not (is_guest other (Some n)) && (t.number == sought)) guests ∙ ap (λ (n : ℕ). not (is_guest other (Some guest)) && (n == sought)) numbers

-- where there is one of that number and guest, a second one changes nothing
kept : (number guest sought : ℕ) (other : Option ℕ) (x : Option Item) (ts : List Taker) → list_any (is_taker number guest) ts ≡ true → (not (is_guest other (Some guest)) && (number == sought)) ≡ true →
    first_other sought other ts ≡ option_or (first_other sought other ts) x
kept number guest sought other x [] some is = absurd cc
kept number guest sought other x (t ∷ ts) some is = by_test (is_taker number guest t) (is_other sought other t) refl refl some (kept number guest sought other x ts)
  where
    by_test : (a b : Bool) → is_taker number guest t ≡ a → is_other sought other t ≡ b → (a || list_any (is_taker number guest) ts) ≡ true
        → (list_any (is_taker number guest) ts ≡ true → (not (is_guest other (Some guest)) && (number == sought)) ≡ true → first_other sought other ts ≡ option_or (first_other sought other ts) x)
        → first_other sought other (t ∷ ts) ≡ option_or (first_other sought other (t ∷ ts)) x
    by_test a true here there some rest = rw there refl
    by_test true false here there some rest = let e : false ≡ true = sym there ∙ same_other number guest sought other t here ∙ is in absurd cc
    by_test false false here there some rest = rw there (rest some is)

pub taker_kept : (number guest sought : ℕ) (other : Option ℕ) (item : Item) (ts : List Taker) → list_any (is_taker number guest) ts ≡ true →
    first_other sought other ts ≡ option_or (first_other sought other ts) (cond (is_irq_of_other sought other (Some guest) (whats.Irq number)) (Some item) None)
taker_kept number guest sought other item ts some = by_test (not (is_guest other (Some guest)) && (number == sought)) refl
  where
    by_test : (b : Bool) → (not (is_guest other (Some guest)) && (number == sought)) ≡ b → first_other sought other ts ≡ option_or (first_other sought other ts) (cond b (Some item) None)
    by_test true is = kept number guest sought other (Some item) ts some is
    by_test false is = sym (or_nothing (first_other sought other ts))

abbrev taker_item : Taker → Item
taker_item taker = taker.item

either_taker : (o p : Option Taker) → option_map taker_item (option_or o p) ≡ option_or (option_map taker_item o) (option_map taker_item p)
either_taker None p = refl
either_taker (Some x) p = refl

one_taker : (b : Bool) (t : Taker) → option_map taker_item (cond b (Some t) None) ≡ cond b (Some t.item) None
one_taker true t = refl
one_taker false t = refl

pub taker_more : (sought : ℕ) (other : Option ℕ) (t : Taker) (ts : List Taker) →
    first_other sought other (ts ++ t ∷ []) ≡ option_or (first_other sought other ts) (cond (is_irq_of_other sought other (Some t.guest) (whats.Irq t.number)) (Some t.item) None)
taker_more sought other t ts =
    ap (option_map taker_item) (find-append (is_other sought other) ts (t ∷ []))
    ∙ either_taker (find (is_other sought other) ts) (find (is_other sought other) (t ∷ []))
    ∙ ap (option_or (first_other sought other ts)) (one_taker (is_other sought other t) t)

-- one item more
either_item : (o p : Option Passed) → option_map item_of (option_or o p) ≡ option_or (option_map item_of o) (option_map item_of p)
either_item None p = refl
either_item (Some x) p = refl

one_item : (b : Bool) (p : Passed) → option_map item_of (cond b (Some p) None) ≡ cond b (Some (item_of p)) None
one_item true p = refl
one_item false p = refl

pub item_where-more : (test : Passed → Bool) (ps : List Passed) (p : Passed) → item_where test (ps ++ p ∷ []) ≡ option_or (item_where test ps) (cond (test p) (Some (item_of p)) None)
item_where-more test ps p =
    ap (option_map item_of) (find-append test ps (p ∷ []))
    ∙ either_item (find test ps) (find test (p ∷ []))
    ∙ ap (option_or (item_where test ps)) (one_item (test p) p)

-- what an item says of another guest's interrupt
pub other_is : (number : ℕ) (other : Option ℕ) (p : Passed) → is_irq_of_other number other p.entry.guest (what_of p) ≡ (is_of_other other p && is_irq number (what_of p))
other_is number other p = rw (belongs_is other p) refl

-- no item is there
fresh : (number : ℕ) (of : What → Bool) (p : Passed) (ps : List Passed) → list_any (belongs_to (Some number)) (p ∷ ps) ≡ false → (belongs_to (Some number) p && of (what_of p)) ≡ false
fresh number of p ps none = ap (λ (b : Bool). b && of (what_of p)) (or_none (belongs_to (Some number) p) (list_any (belongs_to (Some number)) ps) none).0

pub fresh_spis : (number irq : ℕ) (before : List Passed) → list_any (belongs_to (Some number)) before ≡ false → list_any (λ (passed : Passed). belongs_to (Some number) passed && is_past_spis irq (what_of passed)) before ≡ false
fresh_spis number irq [] none = refl
fresh_spis number irq (p ∷ ps) none =
    rw (fresh number (is_past_spis irq) p ps none) (fresh_spis number irq ps (or_none (belongs_to (Some number) p) (list_any (belongs_to (Some number)) ps) none).1)

pub fresh_console : (number : ℕ) (before : List Passed) → list_any (belongs_to (Some number)) before ≡ false → item_where (λ passed. belongs_to (Some number) passed && has_console (what_of passed)) before ≡ None
fresh_console number [] none = refl
fresh_console number (p ∷ ps) none =
    rw (fresh number has_console p ps none) (fresh_console number ps (or_none (belongs_to (Some number) p) (list_any (belongs_to (Some number)) ps) none).1)

-- the reasons in a row, where the first is not there
pub irq_last : (b : Bool) (name : Why) (o w : Option Why) (why : Option Why) → b ≡ false → None ≡ o → why ≡ w → why ≡ option_or (where_so b name) (option_or o w)
irq_last b name o w why is none same = rw (is, sym none) same

pub irq_some : (b : Bool) (name why : Why) (o w : Option Why) → b ≡ false → Some why ≡ o → Some why ≡ option_or (where_so b name) (option_or o w)
irq_some b name why o w is some = rw (is, sym some) refl
