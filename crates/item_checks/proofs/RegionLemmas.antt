-- Regions of shared memory, as the state keeps them.
use Rattle.std.proofs.Common.{◌≡◌, ℕ, suc, ◌+◌, ◌<◌, ◌||◌, ◌&&◌, Bool, true, false, cond, not, List, [], ◌∷◌, ◌++◌, length, map, Option, Some, None, refl, sym, ap, ◌∙◌, arith, append_assoc, append-nil, length-append, zero-add}
use Rattle.std.specs.Prelude.{◌==◌, option_map, option_and_then, bytes_eq}
use Rattle.std.specs.List.{find, slice_get, list_any}
use Rattle.std.specs.Option.{option_or}
use Rattle.std.proofs.lemmas.Bool.Decides.{nat_tests}
use Rattle.std.proofs.lemmas.List.Folds.{find-append, list_any-append}
use Rattle.texts.specs.declared.ranges.FrameRange.{FrameRange}
use Rattle.described.specs.declared.item.Item.{Item}
use Rattle.described.specs.declared.item.What.{What}
use Rattle.described.specs.declared.item.What.TheVariants as whats
use Rattle.described.specs.declared.why.Why.{Why}
use Rattle.described.specs.declared.why.Why.TheVariants as whys
use Rattle.item_checks.specs.declared.state.Region.{Region}
use Rattle.item_checks.specs.declared.state.Taken.{Taken}
use Rattle.frame_alloc.specs.Ranges.{have_common}
use Rattle.item_checks.specs.Taken.{Passed, item_of, what_of, belongs_to}
use Rattle.described.specs.Reasons.{where_so}
use Rattle.item_checks.specs.Reasons.{is_same_host, have_one_base, unlike, is_owner}
use Rattle.item_checks.specs.Standing.{taken_at, taken_from, claims_taken, is_guest, region_in, regions_from}
use Rattle.item_checks.specs.PrivateStanding.{is_region, is_sought, is_region_at}
use Rattle.frame_alloc.proofs.CommonFrames.{none_common, common-cons_left}

pub found : {A : Type 0} (test : A → Bool) (one : A) (rest : List A) → test one ≡ true → find test (one ∷ rest) ≡ Some one
found test one rest here = rw here refl

pub missed : {A : Type 0} (test : A → Bool) (one : A) (rest : List A) → test one ≡ false → find test (one ∷ rest) ≡ find test rest
missed test one rest here = rw here refl

alone : (b : Bool) → (b || false) ≡ b
alone true = refl
alone false = refl

and_false : (b : Bool) → (b && false) ≡ false
and_false true = refl
and_false false = refl

abbrev is_at : List ℕ → ℕ → Region → Bool
is_at id place region = (region.place == place) && bytes_eq id region.id

one_at : (id : List ℕ) (k start : ℕ) (item : Item) (guest : Option ℕ) (what : What) → list_any (is_at id k) (region_in item start guest what) ≡ ((start == k) && is_region id what)
one_at id k start item guest what = elim what as (λ (w : What). list_any (is_at id k) (region_in item start guest w) ≡ ((start == k) && is_region id w)) [
  | whats.Shared other host page size owner ↦ alone ((start == k) && bytes_eq id other)
  | _ ↦ sym (and_false (start == k))
]

-- the first of several items is a region at this place, or else one of the others is
at_either : (id : List ℕ) (k start : ℕ) (p : Passed) (ps : List Passed) →
    list_any (is_at id k) (regions_from start (p ∷ ps)) ≡ (((start == k) && is_region id (what_of p)) || list_any (is_at id k) (regions_from (start + 1) ps))
unfolding regions_from
at_either id k start p ps =
    list_any-append (is_at id k) (region_in (item_of p) start p.entry.guest (what_of p)) (regions_from (start + 1) ps)
    ∙ ap (λ (b : Bool). b || list_any (is_at id k) (regions_from (start + 1) ps)) (one_at id k start (item_of p) p.entry.guest (what_of p))

at_none : (id : List ℕ) (k start : ℕ) → list_any (is_at id k) (regions_from start []) ≡ false
unfolding regions_from
at_none id k start = refl

-- the items past a place are not at it
past : (id : List ℕ) (k start : ℕ) (ps : List Passed) → k < start → list_any (is_at id k) (regions_from start ps) ≡ false
past id k start [] less = at_none id k start
past id k start (p ∷ ps) less =
    let not_here : (start == k) ≡ false = grind (arith, nat_tests) in
    let later : k < start + 1 = omega arith in
    at_either id k start p ps ∙ rw (not_here, past id k (start + 1) ps later) refl

same_place : (k : ℕ) → (k == k) ≡ true
same_place k = grind (arith, nat_tests)

-- the item at the seam of two lists is a region of that id, where one is found at its place
region_at_seam : (id : List ℕ) (start k : ℕ) (front : List Passed) (p : Passed) (ps : List Passed) → k ≡ start + length front → list_any (is_at id k) (regions_from start (front ++ p ∷ ps)) ≡ is_region id (what_of p)
region_at_seam id start k [] p ps is =
    let here : (start == k) ≡ true = grind (arith, nat_tests) in
    let later : k < start + 1 = omega arith in
    at_either id k start p ps ∙ rw (here, past id k (start + 1) ps later) (alone (is_region id (what_of p)))
region_at_seam id start k (x ∷ xs) p ps is =
    let not_here : (start == k) ≡ false = grind (arith, nat_tests) in
    let later : k ≡ start + 1 + length xs = omega arith in
    at_either id k start x (xs ++ p ∷ ps) ∙ rw not_here (region_at_seam id (start + 1) k xs p ps later)

-- a range of an item that is no region of that id, and that has a frame of these
abbrev pub other_at : List ℕ → List Region → List FrameRange → Taken → Bool
other_at id regions claims taken = not (is_region_at id taken.item regions) && have_common (taken.range ∷ []) claims

abbrev place_of : Option Taken → Option ℕ
place_of taken = option_map (λ (one : Taken). one.item) taken

-- among the ranges of one item
place_at : (id : List ℕ) (regions : List Region) (claims rs : List FrameRange) (k : ℕ) (other : Bool) → not (is_region_at id k regions) ≡ other →
    place_of (find (other_at id regions claims) (map (taken_at k) rs)) ≡ cond (other && have_common rs claims) (Some k) None
place_at id regions claims [] k other is = rw (none_common claims, and_false other) refl
place_at id regions claims (r ∷ rs) k other is =
    rw (common-cons_left r rs claims) (by_test other (have_common (r ∷ []) claims) is refl (place_at id regions claims rs k other is))
  where
    by_test : (o b : Bool) → not (is_region_at id k regions) ≡ o → have_common (r ∷ []) claims ≡ b → place_of (find (other_at id regions claims) (map (taken_at k) rs)) ≡ cond (o && have_common rs claims) (Some k) None
        → place_of (find (other_at id regions claims) (taken_at k r ∷ map (taken_at k) rs)) ≡ cond (o && (b || have_common rs claims)) (Some k) None
    by_test true true is here rest = rw (is, here) refl
    by_test true false is here rest = rw (is, here) rest
    by_test false b is here rest = rw is rest

either_place : (o p : Option Taken) → place_of (option_or o p) ≡ option_or (place_of o) (place_of p)
either_place None p = refl
either_place (Some x) p = refl

item_at_seam : (front : List Passed) (p : Passed) (ps : List Passed) → slice_get (map item_of (front ++ p ∷ ps)) (length front) ≡ Some (item_of p)
item_at_seam [] p ps = refl
item_at_seam (x ∷ xs) p ps = item_at_seam xs p ps

-- no region of that id, and it claims one of these frames
abbrev pub is_other_claimant : List ℕ → List FrameRange → Passed → Bool
is_other_claimant id claims passed = not (is_region id (what_of passed)) && have_common (claims_taken passed) claims

others_none : (id : List ℕ) (claims : List FrameRange) (regions : List Region) (items : List Item) (k : ℕ) →
    option_and_then (slice_get items) (place_of (find (other_at id regions claims) (taken_from claims_taken k []))) ≡ None
unfolding taken_from
others_none id claims regions items k = refl

others_more : (id : List ℕ) (claims : List FrameRange) (regions : List Region) (k : ℕ) (p : Passed) (ps : List Passed) → is_region_at id k regions ≡ is_region id (what_of p) →
    place_of (find (other_at id regions claims) (taken_from claims_taken k (p ∷ ps))) ≡ cond (is_other_claimant id claims p) (Some k) (place_of (find (other_at id regions claims) (taken_from claims_taken (k + 1) ps)))
unfolding taken_from
others_more id claims regions k p ps is =
    ap place_of (find-append (other_at id regions claims) (map (taken_at k) p.claims) (taken_from claims_taken (k + 1) ps))
    ∙ either_place (find (other_at id regions claims) (map (taken_at k) p.claims)) (find (other_at id regions claims) (taken_from claims_taken (k + 1) ps))
    ∙ ap (λ (o : Option ℕ). option_or o (place_of (find (other_at id regions claims) (taken_from claims_taken (k + 1) ps)))) (place_at id regions claims p.claims k (not (is_region id (what_of p))) (ap not is))
    ∙ either (is_other_claimant id claims p)
  where
    either : (b : Bool) → option_or (cond b (Some k) None) (place_of (find (other_at id regions claims) (taken_from claims_taken (k + 1) ps))) ≡ cond b (Some k) (place_of (find (other_at id regions claims) (taken_from claims_taken (k + 1) ps)))
    either true = refl
    either false = refl

named_from : (id : List ℕ) (claims : List FrameRange) (all front ps : List Passed) → all ≡ front ++ ps →
    option_and_then (slice_get (map item_of all)) (place_of (find (other_at id (regions_from 0 all) claims) (taken_from claims_taken (length front) ps))) ≡ option_map item_of (find (is_other_claimant id claims) ps)
named_from id claims all front [] is = others_none id claims (regions_from 0 all) (map item_of all) (length front)
named_from id claims all front (p ∷ ps) is =
    let here : is_region_at id (length front) (regions_from 0 all) ≡ is_region id (what_of p) =
    ap (λ (xs : List Passed). is_region_at id (length front) (regions_from 0 xs)) is ∙ region_at_seam id 0 (length front) front p ps (sym (zero-add (length front))) in
    let item : slice_get (map item_of all) (length front) ≡ Some (item_of p) = ap (λ (xs : List Passed). slice_get (map item_of xs) (length front)) is ∙ item_at_seam front p ps in
    let lists : all ≡ (front ++ p ∷ []) ++ ps = is ∙ sym (append_assoc front (p ∷ []) ps) in
    let long : length (front ++ p ∷ []) ≡ length front + 1 = length-append front (p ∷ []) in
    let rest : option_and_then (slice_get (map item_of all)) (place_of (find (other_at id (regions_from 0 all) claims) (taken_from claims_taken (length front + 1) ps))) ≡ option_map item_of (find (is_other_claimant id claims) ps) =
    ap (λ (n : ℕ). option_and_then (slice_get (map item_of all)) (place_of (find (other_at id (regions_from 0 all) claims) (taken_from claims_taken n ps)))) (sym long) ∙ named_from id claims all (front ++ p ∷ []) ps lists in
    ap (option_and_then (slice_get (map item_of all))) (others_more id claims (regions_from 0 all) (length front) p ps here)
    ∙ by_test (is_other_claimant id claims p) (place_of (find (other_at id (regions_from 0 all) claims) (taken_from claims_taken (length front + 1) ps))) item rest
  where
    by_test : (b : Bool) (later : Option ℕ) → slice_get (map item_of all) (length front) ≡ Some (item_of p) → option_and_then (slice_get (map item_of all)) later ≡ option_map item_of (find (is_other_claimant id claims) ps)
        → option_and_then (slice_get (map item_of all)) (cond b (Some (length front)) later) ≡ option_map item_of (cond b (Some p) (find (is_other_claimant id claims) ps))
    by_test true later item rest = item
    by_test false later item rest = rest

-- the item that the place names
pub named_other : (id : List ℕ) (claims : List FrameRange) (before : List Passed) →
    option_and_then (slice_get (map item_of before)) (option_map (λ (one : Taken). one.item) (find (other_at id (regions_from 0 before) claims) (taken_from claims_taken 0 before))) ≡ option_map item_of (find (is_other_claimant id claims) before)
named_other id claims before = named_from id claims before [] before refl

-- the first region that is sought tells of the first item that is
found_from : {X : Type 0} (f : Region → X) (g : Passed → X) (t : Region → Bool) (q : Passed → Bool) →
    ((k : ℕ) (p : Passed) → option_map f (find t (region_in (item_of p) k p.entry.guest (what_of p))) ≡ cond (q p) (Some (g p)) None) →
    (k : ℕ) (ps : List Passed) → option_map f (find t (regions_from k ps)) ≡ option_map g (find q ps)
unfolding regions_from
found_from f g t q each k [] = refl
found_from f g t q each k (p ∷ ps) =
    ap (option_map f) (find-append t (region_in (item_of p) k p.entry.guest (what_of p)) (regions_from (k + 1) ps))
    ∙ either (find t (region_in (item_of p) k p.entry.guest (what_of p))) (find t (regions_from (k + 1) ps))
    ∙ by_test (q p) (each k p) (found_from f g t q each (k + 1) ps)
  where
    either : (o r : Option Region) → option_map f (option_or o r) ≡ option_or (option_map f o) (option_map f r)
    either None r = refl
    either (Some x) r = refl

    by_test : (b : Bool) → option_map f (find t (region_in (item_of p) k p.entry.guest (what_of p))) ≡ cond b (Some (g p)) None → option_map f (find t (regions_from (k + 1) ps)) ≡ option_map g (find q ps)
        → option_or (option_map f (find t (region_in (item_of p) k p.entry.guest (what_of p)))) (option_map f (find t (regions_from (k + 1) ps))) ≡ option_map g (cond b (Some p) (find q ps))
    by_test true here rest = rw here refl
    by_test false here rest = rw here rest

belongs_is : (guest : Option ℕ) (p : Passed) → belongs_to guest p ≡ is_guest guest p.entry.guest
belongs_is None p = refl
belongs_is (Some number) p = refl

abbrev pub region_item : Region → Item
region_item region = region.item

one_region : {X : Type 0} (f : Region → X) (b : Bool) (c : Bool) (r : Region) → b ≡ c → option_map f (cond b (Some r) None) ≡ cond c (Some (f r)) None
one_region f true c r is = rw (sym is) refl
one_region f false c r is = rw (sym is) refl

no_region : {X : Type 0} (x : X) (b : Bool) → None ≡ cond (b && false) (Some x) None
no_region x true = refl
no_region x false = refl

in_guest_only : (a b : Bool) → (a && (false || b) && (not false || false)) ≡ (b && a)
in_guest_only true true = refl
in_guest_only true false = refl
in_guest_only false true = refl
in_guest_only false false = refl

in_any_owner : (a b : Bool) → (a && true && b) ≡ (a && b)
in_any_owner true b = refl
in_any_owner false b = refl

and_true : (a : Bool) → (a && true && true) ≡ a
and_true true = refl
and_true false = refl

-- ShmTwice: the guest has a region of the id
pub twice_found : (id : List ℕ) (guest : Option ℕ) (before : List Passed) →
    option_map region_item (find (is_sought id guest false false) (regions_from 0 before)) ≡ option_map item_of (find (λ p. belongs_to guest p && is_region id (what_of p)) before)
twice_found id guest before = found_from region_item item_of (is_sought id guest false false) (λ p. belongs_to guest p && is_region id (what_of p)) each 0 before
  where
    by_what : (item : Item) (k : ℕ) (of : Option ℕ) (what : What) → option_map region_item (find (is_sought id guest false false) (region_in item k of what)) ≡ cond (is_guest guest of && is_region id what) (Some item) None
    by_what item k of what = elim what as (λ (w : What). option_map region_item (find (is_sought id guest false false) (region_in item k of w)) ≡ cond (is_guest guest of && is_region id w) (Some item) None) [
      | whats.Shared other host page size owner ↦ one_region region_item (is_sought id guest false false (record { item = item; place = k; guest = of; id = other; host = host; size = size; owner = owner })) (is_guest guest of && bytes_eq id other)
          (record { item = item; place = k; guest = of; id = other; host = host; size = size; owner = owner }) (in_guest_only (bytes_eq id other) (is_guest guest of))
      | _ ↦ no_region item (is_guest guest of)
    ]

    each : (k : ℕ) (p : Passed) → option_map region_item (find (is_sought id guest false false) (region_in (item_of p) k p.entry.guest (what_of p))) ≡ cond (belongs_to guest p && is_region id (what_of p)) (Some (item_of p)) None
    each k p = rw (belongs_is guest p) (by_what (item_of p) k p.entry.guest (what_of p))

-- OwnerTwice: a region of the id has the role owner
pub owner_found : (id : List ℕ) (guest : Option ℕ) (before : List Passed) →
    option_map region_item (find (is_sought id guest true true) (regions_from 0 before)) ≡ option_map item_of (find (λ p. is_region id (what_of p) && is_owner (what_of p)) before)
owner_found id guest before = found_from region_item item_of (is_sought id guest true true) (λ p. is_region id (what_of p) && is_owner (what_of p)) (λ k p. by_what (item_of p) k p.entry.guest (what_of p)) 0 before
  where
    by_what : (item : Item) (k : ℕ) (of : Option ℕ) (what : What) → option_map region_item (find (is_sought id guest true true) (region_in item k of what)) ≡ cond (is_region id what && is_owner what) (Some item) None
    by_what item k of what = elim what as (λ (w : What). option_map region_item (find (is_sought id guest true true) (region_in item k of w)) ≡ cond (is_region id w && is_owner w) (Some item) None) [
      | whats.Shared other host page size owner ↦ one_region region_item (is_sought id guest true true (record { item = item; place = k; guest = of; id = other; host = host; size = size; owner = owner })) (bytes_eq id other && owner)
          (record { item = item; place = k; guest = of; id = other; host = host; size = size; owner = owner }) (in_any_owner (bytes_eq id other) owner)
      | _ ↦ refl
    ]

-- whether a region has this host base and size; if not, ShmDiffers
abbrev pub has_base : Option ℕ → ℕ → Region → Bool
has_base host size region = is_same_host host region.host && (size == region.size)

abbrev pub differs : Option ℕ → ℕ → Region → Option Why
differs host size region = where_so (not (has_base host size region)) (whys.ShmDiffers region.item)

abbrev differs_from : List ℕ → Option ℕ → ℕ → Passed → Option Why
differs_from id host size p = where_so (not (have_one_base (whats.Shared id host 0 size false) (what_of p))) (whys.ShmDiffers (item_of p))

abbrev pub inner : Option (Option Why) → Option Why
inner None = None
inner (Some why) = why

unlike_inner : (id : List ℕ) (host : Option ℕ) (size : ℕ) (o : Option Passed) → inner (option_map (differs_from id host size) o) ≡ unlike (whats.Shared id host 0 size false) o
unlike_inner id host size None = refl
unlike_inner id host size (Some p) = refl

-- ShmDiffers: the first region of the id has another base or size
pub differs_found : (id : List ℕ) (guest host : Option ℕ) (size : ℕ) (before : List Passed) →
    inner (option_map (differs host size) (find (is_sought id guest true false) (regions_from 0 before))) ≡ unlike (whats.Shared id host 0 size false) (find (λ p. is_region id (what_of p)) before)
differs_found id guest host size before =
    ap inner (found_from (differs host size) (differs_from id host size) (is_sought id guest true false) (λ p. is_region id (what_of p)) (λ k p. by_what (item_of p) k p.entry.guest (what_of p)) 0 before)
    ∙ unlike_inner id host size (find (λ p. is_region id (what_of p)) before)
  where
    by_what : (item : Item) (k : ℕ) (of : Option ℕ) (what : What) → option_map (differs host size) (find (is_sought id guest true false) (region_in item k of what))
        ≡ cond (is_region id what) (Some (where_so (not (have_one_base (whats.Shared id host 0 size false) what)) (whys.ShmDiffers item))) None
    by_what item k of what = elim what as (λ (w : What). option_map (differs host size) (find (is_sought id guest true false) (region_in item k of w))
        ≡ cond (is_region id w) (Some (where_so (not (have_one_base (whats.Shared id host 0 size false) w)) (whys.ShmDiffers item))) None) [
          | whats.Shared other other_host page other_size owner ↦ one_region (differs host size) (is_sought id guest true false (record { item = item; place = k; guest = of; id = other; host = other_host; size = other_size; owner = owner })) (bytes_eq id other)
              (record { item = item; place = k; guest = of; id = other; host = other_host; size = other_size; owner = owner }) (and_true (bytes_eq id other))
          | _ ↦ refl
        ]

-- one item more
pub regions_from-more : (place : ℕ) (xs : List Passed) (x : Passed) → regions_from place (xs ++ x ∷ []) ≡ regions_from place xs ++ region_in (item_of x) (place + length xs) x.entry.guest (what_of x)
unfolding regions_from
regions_from-more place [] x =
    let e : region_in (item_of x) place x.entry.guest (what_of x) ++ [] ≡ region_in (item_of x) place x.entry.guest (what_of x) = append-nil (region_in (item_of x) place x.entry.guest (what_of x)) in
    let n : place + 0 ≡ place = omega arith in
    e ∙ ap (λ (k : ℕ). region_in (item_of x) k x.entry.guest (what_of x)) (sym n)
regions_from-more place (y ∷ ys) x =
    let n : place + 1 + length ys ≡ place + suc (length ys) = omega arith in
    ap (λ (more : List Region). region_in (item_of y) place y.entry.guest (what_of y) ++ more) (regions_from-more (place + 1) ys x ∙ ap (λ (k : ℕ). regions_from (place + 1) ys ++ region_in (item_of x) k x.entry.guest (what_of x)) n)
    ∙ sym (append_assoc (region_in (item_of y) place y.entry.guest (what_of y)) (regions_from (place + 1) ys) (region_in (item_of x) (place + suc (length ys)) x.entry.guest (what_of x)))

pub regions_none : regions_from 0 [] ≡ []
unfolding regions_from
regions_none = refl

pub differs_is : (b : Bool) (host : Option ℕ) (size : ℕ) (region : Region) → not (has_base host size region) ≡ b → where_so b (whys.ShmDiffers region.item) ≡ inner (Some (differs host size region))
differs_is b host size region is = ap (λ (b : Bool). where_so b (whys.ShmDiffers region.item)) (sym is)

pub lands_last : (b : Bool) (name : Why) (o w : Option Why) (why : Option Why) → b ≡ true → None ≡ o → why ≡ w → why ≡ option_or (where_so (not b) name) (option_or o w)
lands_last b name o w why is none same = rw (is, sym none) same
