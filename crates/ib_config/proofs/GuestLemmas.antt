-- Guests one after the other, and their port groups in one table.
use Rattle.std.proofs.Common.{◌≡◌, ℕ, zero, suc, ◌+◌, ◌-◌, ◌<◌, ◌≤◌, List, [], ◌∷◌, ◌++◌, length, map, refl, sym, ◌∙◌, ap, arith, None, Ok, Err, inl, inr, append_assoc, append-nil, slice_get, get_or}
use Rattle.std.specs.Prelude.{Result, nat_lt}
use Rattle.std.specs.List.{list_all}
use Rattle.std.proofs.lemmas.Bool.{cases_Bool}
use Rattle.std.proofs.lemmas.Bool.Decides.{nat_tests}
use Rattle.texts.specs.Consecutive.{numbers}
use Rattle.texts.proofs.NumberLists.{numbers-zero, numbers-cons, length-map-numbers, get_or-map-numbers, map-numbers-more, length-numbers}
use Rattle.std.proofs.lemmas.Option.{slice_get-get_or}
use Rattle.ib_config.specs.Rules.{is_linked}
use Rattle.ib_config.specs.Settings.{◌>>=◌, each, IsFault}
use Rattle.ib_config.specs.PrivateScan.{linked_in}
use Rattle.ib_config.specs.declared.fault.ConfigFault.{ConfigFault}
use Rattle.ib_config.specs.declared.fault.ConfigFault.TheVariants as faults
use Rattle.ib_config.specs.declared.groups.PortGroup.{PortGroup}

pub past_end : {A : Type 0} (xs : List A) (i : ℕ) → length xs ≤ i → slice_get xs i ≡ None
past_end [] i past = refl
past_end (x ∷ xs) zero past = absurd (omega arith)
past_end (x ∷ xs) (suc i) past = past_end xs i (omega arith)

linked_is : (ports : ℕ → List PortGroup) (count : ℕ) (g : PortGroup) → linked_in (map ports (numbers 0 count)) g ≡ is_linked ports count g
linked_is ports count g =
    let len = length-map-numbers ports 0 count in
    elim (cases_Bool (nat_lt g.peer count)) [
      | inl below ↦
          let h : g.peer < count = grind (arith, nat_tests) in
          let there = slice_get-get_or (map ports (numbers 0 count)) g.peer [] (omega arith) in
          let zero_more : 0 + g.peer ≡ g.peer = omega arith in
          let value : get_or (map ports (numbers 0 count)) g.peer [] ≡ ports g.peer = get_or-map-numbers ports 0 count g.peer [] h ∙ ap ports zero_more in
          rw (below, there, value) refl
      | inr past ↦
          let h : count ≤ g.peer = grind (arith, nat_tests) in
          let absent = past_end (map ports (numbers 0 count)) g.peer (omega arith) in
          rw (past, absent) refl
    ]

all_linked_is : (ports : ℕ → List PortGroup) (count : ℕ) (groups : List PortGroup) → list_all (linked_in (map ports (numbers 0 count))) groups ≡ list_all (is_linked ports count) groups
all_linked_is ports count [] = refl
all_linked_is ports count (g ∷ groups) = rw (linked_is ports count g, all_linked_is ports count groups) refl

pub all_linked : (table : List (List PortGroup)) (ports : ℕ → List PortGroup) (count : ℕ) (groups : List PortGroup) → table ≡ map ports (numbers 0 count)
    → list_all (linked_in table) groups ≡ list_all (is_linked ports count) groups
all_linked table ports count groups is = rw is (all_linked_is ports count groups)

pub ruleset port_lemmas = (all_linked)

-- one more guest in the table
pub one_more : {A : Type 0} (f : ℕ → A) (n : ℕ) (xs new : List A) (x : A) → xs ≡ map f (numbers 0 n) → x ≡ f n → new ≡ xs ++ x ∷ [] → new ≡ map f (numbers 0 (n + 1))
one_more f n xs new x so_far is new_is =
    let zero_more : 0 + n ≡ n = omega arith in
    let more : map f (numbers 0 (n + 1)) ≡ map f (numbers 0 n) ++ f n ∷ [] = map-numbers-more f 0 n ∙ ap (λ m. map f (numbers 0 n) ++ f m ∷ []) zero_more in
    new_is ∙ rw (so_far, is, more) refl

pub no_more : {A : Type 0} (f : ℕ → A) (xs : List A) → xs ≡ [] → xs ≡ map f (numbers 0 0)
no_more f xs none = none ∙ rw (numbers-zero 0) refl

-- a fault that is one of `found` is one of `other`, where each fault of `found` is handed on
pub hand_on : {X Y : Type 0} (fault : ConfigFault) (found : Result X ConfigFault) (other : Result Y ConfigFault) → ((e : ConfigFault) → found ≡ Err e → other ≡ Err e)
    → IsFault fault found → IsFault fault other
hand_on (faults.NotUtf8 n) found other on is = on _ is
hand_on (faults.BadName n) found other on is = on _ is
hand_on (faults.BadIndex n) found other on is = on _ is
hand_on (faults.OpenQuote n) found other on is = on _ is
hand_on (faults.NotPlain n) found other on is = on _ is
hand_on (faults.Unsupported n) found other on is = on _ is
hand_on (faults.Missing name n) found other on is = on _ is
hand_on (faults.BadValue name n) found other on is = on _ is
hand_on (faults.TooMany n) found other on is = on _ is
hand_on faults.Memory found other on is = tt

-- Guests that are read, and those that follow.
module _ {A : Type 0} (f : ℕ → Result A ConfigFault) (count : ℕ) where
  cut : (i : ℕ) → i < count → numbers i (count - i) ≡ i ∷ numbers (i + 1) (count - (i + 1))
  cut i below = let one : count - i ≡ (count - (i + 1)) + 1 = omega arith in rw one (numbers-cons i (count - (i + 1)))

  first_result : (i : ℕ) (read : List A) (g : A) (later : Result (List A) ConfigFault) → f i ≡ Ok g
      → ((f i >>= λ y. later >>= λ ys. Ok (y ∷ ys)) >>= λ ys. Ok (read ++ ys)) ≡ (later >>= λ ys. Ok ((read ++ g ∷ []) ++ ys))
  first_result i read g (Ok ys) here = rw here (ap (λ zs. Ok zs) (sym (append_assoc read (g ∷ []) ys)))
  first_result i read g (Err e) here = rw here refl

  pub each_start : (read : List A) → read ≡ [] → each f (numbers 0 count) ≡ (each f (numbers 0 (count - 0)) >>= λ later. Ok (read ++ later))
  each_start read none = let all : count - 0 ≡ count = omega arith in rw (none, all) (same (each f (numbers 0 count)))
    where
      same : (r : Result (List A) ConfigFault) → r ≡ (r >>= λ later. Ok ([] ++ later))
      same (Ok xs) = refl
      same (Err e) = refl

  pub each_on : (all : Result (List A) ConfigFault) (i : ℕ) (read new : List A) (g : A) → i < count → all ≡ (each f (numbers i (count - i)) >>= λ later. Ok (read ++ later))
      → f i ≡ Ok g → new ≡ read ++ g ∷ [] → all ≡ (each f (numbers (i + 1) (count - (i + 1))) >>= λ later. Ok (new ++ later))
  each_on all i read new g below so_far here new_is = so_far ∙ rw (cut i below, new_is) (first_result i read g (each f (numbers (i + 1) (count - (i + 1)))) here)

  pub each_bad : (all : Result (List A) ConfigFault) (i : ℕ) (read : List A) (fault : ConfigFault) → i < count → all ≡ (each f (numbers i (count - i)) >>= λ later. Ok (read ++ later))
      → IsFault fault (f i) → IsFault fault all
  each_bad all i read fault below so_far is = hand_on fault (f i) all (λ e bad. so_far ∙ rw (cut i below) (rw bad refl)) is

  pub each_end : (all : Result (List A) ConfigFault) (i : ℕ) (read : List A) → count ≤ i → all ≡ (each f (numbers i (count - i)) >>= λ later. Ok (read ++ later)) → all ≡ Ok read
  each_end all i read past so_far =
      let none : count - i ≡ 0 = omega arith in
      so_far ∙ rw (none, numbers-zero i) (ap (λ xs. Ok xs) (append-nil read))

length_each : {A B : Type 0} (f : A → Result B ConfigFault) (xs : List A) (ys : List B) → each f xs ≡ Ok ys → length ys ≡ length xs
length_each f [] ys read = let none : [] ≡ ys = cc in rw (sym none) refl
length_each {B = B} f (x ∷ xs) ys read = by (f x) (each f xs) refl read (λ zs later. length_each f xs zs later)
  where
    by : (here : Result B ConfigFault) (rest : Result (List B) ConfigFault) → each f xs ≡ rest → (here >>= λ z. rest >>= λ zs. Ok (z ∷ zs)) ≡ Ok ys
        → ((zs : List B) → each f xs ≡ Ok zs → length zs ≡ length xs) → length ys ≡ length (x ∷ xs)
    by (Ok z) (Ok zs) later read same = let whole : z ∷ zs ≡ ys = cc in let len = same zs later in rw (sym whole) (omega arith)
    by (Ok z) (Err e) later read same = absurd (cc)
    by (Err e) rest later read same = absurd (cc)

pub guest_number : {A : Type 0} (f : ℕ → Result A ConfigFault) (count : ℕ) (guests : List A) → each f (numbers 0 count) ≡ Ok guests → length guests ≡ count
guest_number f count guests read = length_each f (numbers 0 count) guests read ∙ length-numbers 0 count
