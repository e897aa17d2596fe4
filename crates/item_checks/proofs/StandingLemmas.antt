-- What a state that stands for items tells of them.
use Rattle.std.proofs.Common.{◌≡◌, ℕ, suc, ◌+◌, ◌||◌, ◌&&◌, Bool, true, false, cond, is_some, List, [], ◌∷◌, ◌++◌, map, Option, Some, None, refl, sym, ap, ◌∙◌, arith, append_assoc, append-nil, length, zero-add}
use Rattle.std.specs.Prelude.{◌==◌, nat_le, flat_map, sum_by}
use Rattle.std.specs.List.{list_any}
use Rattle.std.proofs.lemmas.List.Folds.{list_any-append}
use Rattle.texts.specs.declared.ranges.BaseSize.{BaseSize}
use Rattle.texts.specs.declared.ranges.FrameRange.{FrameRange}
use Rattle.described.specs.declared.item.What.{What}
use Rattle.described.specs.declared.item.What.TheVariants as whats
use Rattle.std.proofs.lemmas.Bool.Decides.{nat_tests}
use Rattle.std.proofs.lemmas.List.{map-append, length-map}
use Rattle.std.proofs.lemmas.List.Sums.{sum_by-append, sum_by-cons}
use Rattle.frame_alloc.proofs.CommonFrames.{or_none}
use Rattle.item_checks.proofs.RegionLemmas.{regions_from-more}
use Rattle.item_checks.proofs.IrqLemmas.{item_where-more, other_is}
use Rattle.std.specs.Option.{option_or}
use Rattle.item_checks.specs.Reasons.{is_past_spis, has_console, is_irq}
use Rattle.std.proofs.lemmas.Grind.{flat_map-append}
use Rattle.described.specs.declared.item.Described.{Described}
use Rattle.item_checks.specs.declared.state.Owner.{Owner}
use Rattle.item_checks.specs.declared.state.State.{State}
use Rattle.item_checks.specs.declared.state.Taken.{Taken}
use Rattle.item_checks.specs.declared.reasons.Takes.{Takes}
use Rattle.frame_alloc.specs.Ranges.{cut}
use Rattle.item_checks.specs.Taken.{Passed, item_of, what_of, belongs_to, says_direct, is_direct, static_pages, pages_before, claims_of, pages_of, passing, is_load_over, is_loaded, is_range, is_repeated}
use Rattle.item_checks.specs.Standing.{Stands, taken_at, taken_from, claims_taken, pages_taken, load_in, entry_of, is_of_other, item_where}
use Rattle.item_checks.specs.PrivateStanding.{IsAdded, in_guest}

abbrev over : BaseSize → BaseSize → Bool
over at load = (load.base == at.base) && nat_le at.size load.size

one_load : (at : BaseSize) (what : What) → list_any (over at) (load_in what) ≡ is_load_over at what
one_load at what = elim what as (λ (w : What). list_any (over at) (load_in w) ≡ is_load_over at w) [
  | whats.Load load ↦ alone (over at load)
  | _ ↦ refl
]
  where
    alone : (b : Bool) → (b || false) ≡ b
    alone true = refl
    alone false = refl

-- some load lies over the module
pub loaded : (at : BaseSize) (before : List Passed) → list_any (over at) (flat_map (λ (passed : Passed). load_in (what_of passed)) before) ≡ is_loaded before at
loaded at [] = refl
loaded at (p ∷ ps) = list_any-append (over at) (load_in (what_of p)) (flat_map (λ (passed : Passed). load_in (what_of passed)) ps) ∙ rw (one_load at (what_of p), loaded at ps) refl

-- one item more
taken_from-more : (takes : Passed → List FrameRange) (place : ℕ) (xs : List Passed) (x : Passed) → taken_from takes place (xs ++ x ∷ []) ≡ taken_from takes place xs ++ map (taken_at (place + length xs)) (takes x)
unfolding taken_from
taken_from-more takes place [] x =
    let e : map (taken_at place) (takes x) ++ [] ≡ map (taken_at place) (takes x) = append-nil (map (taken_at place) (takes x)) in
    let n : place + 0 ≡ place = omega arith in
    e ∙ ap (λ (k : ℕ). map (taken_at k) (takes x)) (sym n)
taken_from-more takes place (y ∷ ys) x =
    let n : place + 1 + length ys ≡ place + suc (length ys) = omega arith in
    ap (λ (more : List Taken). map (taken_at place) (takes y) ++ more) (taken_from-more takes (place + 1) ys x ∙ ap (λ (k : ℕ). taken_from takes (place + 1) ys ++ map (taken_at k) (takes x)) n)
    ∙ sym (append_assoc (map (taken_at place) (takes y)) (taken_from takes (place + 1) ys) (map (taken_at (place + suc (length ys))) (takes x)))

belongs_self : (guest : Option ℕ) (passed : Passed) → passed.entry.guest ≡ guest → belongs_to guest passed ≡ is_some guest
belongs_self None passed is = refl
belongs_self (Some number) passed is = rw is same
  where
    same : (number == number) ≡ true
    same = grind (arith, nat_tests)

pages_in : {A : Type 0} (guest : Option ℕ) (there otherwise : A) → cond (is_some guest) there otherwise ≡ in_guest guest there otherwise
pages_in None there otherwise = refl
pages_in (Some number) there otherwise = refl

cut_more : (a b : ℕ) → cut (cut (cut a) + b) ≡ cut (a + b)
cut_more a b = omega arith

alone : (b : Bool) → (b || false) ≡ b
alone true = refl
alone false = refl

-- a state that stands for items stands for one more, once it was added with what it takes
pub stands_more : (owner : Owner) (before : List Passed) (described : Described) (takes : Takes) (old new : State) → Stands owner.guest before old → IsAdded owner described takes old new →
    takes.claims.items ≡ claims_of before (entry_of owner described) → takes.pages.items ≡ pages_of before (entry_of owner described) →
    Stands owner.guest (before ++ passing before (entry_of owner described) ∷ []) new
stands_more owner before described takes old new stands added claims pages = record {
  items = added.items ∙ rw stands.items (sym (map-append item_of before (mine ∷ [])));
  claims = added.claims ∙ rw (stands.claims, claims, count) (sym (taken_from-more claims_taken 0 before mine));
  loads = added.seen.loads ∙ rw stands.loads (ap (λ (more : List BaseSize). flat_map (λ (passed : Passed). load_in (what_of passed)) before ++ more) (sym (append-nil (load_in described.what))) ∙ sym (flat_map-append (λ (passed : Passed). load_in (what_of passed)) before (mine ∷ [])));
  pages = added.last.pages ∙ rw (stands.pages, pages, count) (ap (λ (ranges : List FrameRange). taken_from (pages_taken owner.guest) 0 before ++ map (taken_at (0 + length before)) ranges) own_pages ∙ sym (taken_from-more (pages_taken owner.guest) 0 before mine));
  direct = added.last.direct ∙ rw stands.direct (ap (λ (b : Bool). is_direct before owner.guest || b) (sym own_direct) ∙ sym (list_any-append (λ (passed : Passed). belongs_to owner.guest passed && says_direct (what_of passed)) before (mine ∷ [])));
  static_pages = added.last.static_pages ∙ rw stands.static_pages (cut_more (sum_by pages_by before) (in_guest owner.guest (static_pages described.what) 0) ∙ ap cut (ap (λ (n : ℕ). sum_by pages_by before + n) own_static ∙ sym (sum_by-append pages_by before (mine ∷ []))));
  triples = λ host size page. added.last.triples host size page ∙ rw (stands.triples host size page) (ap (λ (b : Bool). is_repeated before owner.guest host size page || b) (sym (own_range host size page)) ∙ sym (list_any-append (λ (passed : Passed). belongs_to owner.guest passed && is_range host size page (what_of passed)) before (mine ∷ [])));
  regions = added.seen.regions ∙ rw (stands.regions, count) (sym (regions_from-more 0 before mine));
  spis = λ number. added.last.spis number ∙ rw (stands.spis number) (ap (λ (b : Bool). list_any (λ (passed : Passed). belongs_to owner.guest passed && is_past_spis number (what_of passed)) before || b) (sym (own_test (is_past_spis number))) ∙ sym (list_any-append (λ (passed : Passed). belongs_to owner.guest passed && is_past_spis number (what_of passed)) before (mine ∷ [])));
  console = added.last.console ∙ rw stands.console (ap (λ (b : Bool). option_or (item_where (λ passed. belongs_to owner.guest passed && has_console (what_of passed)) before) (cond (b && has_console described.what) (Some described.item) None)) (sym (belongs_self owner.guest mine refl)) ∙ sym (item_where-more (λ passed. belongs_to owner.guest passed && has_console (what_of passed)) before mine));
  takers = λ number other. added.seen.takers number other ∙ rw (stands.takers number other) (ap (λ (b : Bool). option_or (item_where (λ passed. is_of_other other passed && is_irq number (what_of passed)) before) (cond b (Some described.item) None)) (other_is number other mine) ∙ sym (item_where-more (λ passed. is_of_other other passed && is_irq number (what_of passed)) before mine));
}
  where
    mine : Passed
    mine = passing before (entry_of owner described)

    count : length old.items.items ≡ 0 + length before
    count = let e : length old.items.items ≡ length before = ap length stands.items ∙ length-map before item_of in omega arith

    pages_by : Passed → ℕ
    pages_by passed = cond (belongs_to owner.guest passed) (static_pages (what_of passed)) 0

    own_pages : in_guest owner.guest (pages_of before (entry_of owner described)) [] ≡ pages_taken owner.guest mine
    own_pages = sym (pages_in owner.guest (pages_of before (entry_of owner described)) []) ∙ ap (λ (b : Bool). cond b (pages_of before (entry_of owner described)) []) (sym (belongs_self owner.guest mine refl))

    own_direct : list_any (λ (passed : Passed). belongs_to owner.guest passed && says_direct (what_of passed)) (mine ∷ []) ≡ (is_some owner.guest && says_direct described.what)
    own_direct = alone (belongs_to owner.guest mine && says_direct described.what) ∙ ap (λ (b : Bool). b && says_direct described.what) (belongs_self owner.guest mine refl)

    own_range : (host size page : ℕ) → list_any (λ (passed : Passed). belongs_to owner.guest passed && is_range host size page (what_of passed)) (mine ∷ []) ≡ (is_some owner.guest && is_range host size page described.what)
    own_range host size page = alone (belongs_to owner.guest mine && is_range host size page described.what) ∙ ap (λ (b : Bool). b && is_range host size page described.what) (belongs_self owner.guest mine refl)

    own_test : (of : What → Bool) → list_any (λ (passed : Passed). belongs_to owner.guest passed && of (what_of passed)) (mine ∷ []) ≡ (is_some owner.guest && of described.what)
    own_test of = alone (belongs_to owner.guest mine && of described.what) ∙ ap (λ (b : Bool). b && of described.what) (belongs_self owner.guest mine refl)

    own_static : in_guest owner.guest (static_pages described.what) 0 ≡ sum_by pages_by (mine ∷ [])
    own_static = sym (pages_in owner.guest (static_pages described.what) 0) ∙ ap (λ (b : Bool). cond b (static_pages described.what) 0) (sym (belongs_self owner.guest mine refl)) ∙ sym (zero-add (cond (belongs_to owner.guest mine) (static_pages described.what) 0))

-- a guest that owns no item so far fills no page, is not direct-mapped, and has no static pages
pub fresh_pages : (number place : ℕ) (before : List Passed) → list_any (belongs_to (Some number)) before ≡ false → taken_from (pages_taken (Some number)) place before ≡ []
unfolding taken_from
fresh_pages number place [] none = refl
fresh_pages number place (p ∷ ps) none =
    let parts = or_none (belongs_to (Some number) p) (list_any (belongs_to (Some number)) ps) none in
    let own : pages_taken (Some number) p ≡ [] = ap (λ (b : Bool). cond b p.pages []) parts.0 in
    ap (λ (ranges : List FrameRange). map (taken_at place) ranges ++ taken_from (pages_taken (Some number)) (place + 1) ps) own ∙ fresh_pages number (place + 1) ps parts.1

pub fresh_direct : (number : ℕ) (before : List Passed) → list_any (belongs_to (Some number)) before ≡ false → is_direct before (Some number) ≡ false
fresh_direct number [] none = refl
fresh_direct number (p ∷ ps) none =
    let parts = or_none (belongs_to (Some number) p) (list_any (belongs_to (Some number)) ps) none in
    ap (λ (b : Bool). (b && says_direct (what_of p)) || is_direct ps (Some number)) parts.0 ∙ fresh_direct number ps parts.1

both_zero : (a b : ℕ) → a ≡ 0 → b ≡ 0 → a + b ≡ 0
both_zero a b h k = omega arith

fresh_sum : (number : ℕ) (before : List Passed) → list_any (belongs_to (Some number)) before ≡ false → sum_by (λ (passed : Passed). cond (belongs_to (Some number) passed) (static_pages (what_of passed)) 0) before ≡ 0
fresh_sum number [] none = refl
fresh_sum number (p ∷ ps) none =
    let parts = or_none (belongs_to (Some number) p) (list_any (belongs_to (Some number)) ps) none in
    let rest = fresh_sum number ps parts.1 in
    let own : cond (belongs_to (Some number) p) (static_pages (what_of p)) 0 ≡ 0 = ap (λ (b : Bool). cond b (static_pages (what_of p)) 0) parts.0 in
    sum_by-cons (λ (passed : Passed). cond (belongs_to (Some number) passed) (static_pages (what_of passed)) 0) p ps ∙ both_zero _ _ own rest

pub fresh_static : (number : ℕ) (before : List Passed) → list_any (belongs_to (Some number)) before ≡ false → pages_before before (Some number) ≡ 0
fresh_static number before none = ap cut (fresh_sum number before none)

pub fresh_triples : (number host size page : ℕ) (before : List Passed) → list_any (belongs_to (Some number)) before ≡ false → is_repeated before (Some number) host size page ≡ false
fresh_triples number host size page [] none = refl
fresh_triples number host size page (p ∷ ps) none =
    let parts = or_none (belongs_to (Some number) p) (list_any (belongs_to (Some number)) ps) none in
    ap (λ (b : Bool). (b && is_range host size page (what_of p)) || is_repeated ps (Some number) host size page) parts.0 ∙ fresh_triples number host size page ps parts.1

-- a state that stands for no item stands for none of a guest
pub stands_none : (number : ℕ) (state : State) → Stands None [] state → Stands (Some number) [] state
unfolding taken_from
stands_none number state s = record { items = s.items; claims = s.claims; loads = s.loads; pages = s.pages; direct = s.direct; static_pages = s.static_pages; triples = s.triples; regions = s.regions; spis = s.spis; console = s.console; takers = s.takers }
