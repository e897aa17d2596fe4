-- One item of a guest after the other.
use Rattle.std.proofs.Common.{◌≡◌, ℕ, Bool, true, cond, List, [], ◌∷◌, ◌++◌, map, Some, None, refl, sym, ap, ◌∙◌, append-nil, append_assoc, suc, zero, ◌+◌, ◌<◌, length, get_or, subst, arith, length-append, All}
use Rattle.std.specs.Prelude.{flat_map}
use Rattle.std.proofs.lemmas.Grind.{flat_map-append}
use Rattle.texts.specs.declared.ranges.FrameRange.{FrameRange}
use Rattle.described.specs.declared.map_range.MapRange.{MapRange}
use Rattle.described.specs.declared.item.Described.{Described}
use Rattle.described.specs.declared.item.What.{What}
use Rattle.domain_plan.specs.declared.giving.Given.{Given}
use Rattle.domain_plan.specs.declared.giving.Said.{Said}
use Rattle.item_checks.specs.declared.state.Owner.{Owner}
use Rattle.item_checks.specs.Taken.{Passed, what_of, belongs_to, pages_of, passing, all_passed}
use Rattle.domain_plan.specs.GuestMaps.{laid, maps_of, guest_ranges}
use Rattle.domain_plan.specs.PrivateLaying.{maps_by}
use Rattle.domain_plan.specs.Plans.{said_by, static_memory, region_of, port_of}
use Rattle.item_checks.specs.Standing.{Stands, entry_of}
use Rattle.domain_plan.specs.PrivateGiving.{irq_of, HasSaid, SaysToo, Gives}
use Rattle.std.proofs.lemmas.List.{map-append}
use Rattle.item_checks.proofs.LoopLemmas.{all_passed-append}
use Rattle.item_checks.proofs.StandingLemmas.{stands_none}
use Rattle.domain_plan.proofs.MapLemmas.{item_ranges}
use Rattle.domain_plan.proofs.GuestsLaw.{guest_belongs}

-- what one item more says
said_more : {A : Type 0} (says : What → List A) (number : ℕ) (before : List Passed) (mine : Passed) → belongs_to (Some number) mine ≡ true → said_by (before ++ mine ∷ []) number says ≡ said_by before number says ++ says (what_of mine)
said_more says number before mine belongs =
    flat_map-append (λ (one : Passed). cond (belongs_to (Some number) one) (says (what_of one)) []) before (mine ∷ [])
    ∙ ap (λ (b : Bool). said_by before number says ++ (cond b (says (what_of mine)) [] ++ [])) belongs
    ∙ ap (λ (xs : List _). said_by before number says ++ xs) (append-nil (says (what_of mine)))

-- what one item more maps
ranges_more : (number : ℕ) (drawn : List FrameRange) (before : List Passed) (mine : Passed) → belongs_to (Some number) mine ≡ true → guest_ranges (before ++ mine ∷ []) number drawn ≡ guest_ranges before number drawn ++ maps_of mine
unfolding guest_ranges
ranges_more number drawn before mine belongs =
    ap (λ (xs : List MapRange). laid 0 drawn ++ xs) (flat_map-append (item_ranges number) before (mine ∷ [])
    ∙ ap (λ (b : Bool). flat_map (item_ranges number) before ++ (cond b (maps_of mine) [] ++ [])) belongs
    ∙ ap (λ (xs : List MapRange). flat_map (item_ranges number) before ++ xs) (append-nil (maps_of mine)))
    ∙ sym (append_assoc (laid 0 drawn) (flat_map (item_ranges number) before) (maps_of mine))

-- one item more says what it says
says_more : (number : ℕ) (before : List Passed) (mine : Passed) (old new : Said) → belongs_to (Some number) mine ≡ true → HasSaid number before old → SaysToo (what_of mine) old new → HasSaid number (before ++ mine ∷ []) new
says_more number before mine old new belongs has more = record {
  statics = more.statics ∙ ap (λ (xs : List (ℕ × ℕ)). xs ++ static_memory (what_of mine)) has.statics ∙ sym (said_more static_memory number before mine belongs);
  irqs = more.irqs ∙ ap (λ (xs : List ℕ). xs ++ irq_of (what_of mine)) has.irqs ∙ sym (said_more irq_of number before mine belongs);
  shared = more.shared ∙ ap (λ (xs : List (List ℕ × ℕ × ℕ)). xs ++ region_of (what_of mine)) has.shared ∙ sym (said_more region_of number before mine belongs);
  ports = more.ports ∙ ap (λ (xs : List (ℕ × ℕ × ℕ)). xs ++ port_of (what_of mine)) has.ports ∙ sym (said_more port_of number before mine belongs);
}

-- one item more gives what it says and maps
pub gives_more : (owner : Owner) (number : ℕ) (drawn : List FrameRange) (before : List Passed) (described : Described) (pages : List FrameRange) (old new : Given) → owner.guest ≡ Some number → Gives number drawn before old →
    Stands (Some number) (before ++ passing before (entry_of owner described) ∷ []) new.state → pages ≡ pages_of before (entry_of owner described) →
    new.ranges.items ≡ old.ranges.items ++ maps_by described.what pages → SaysToo described.what old.said new.said →
    Gives number drawn (before ++ passing before (entry_of owner described) ∷ []) new
gives_more owner number drawn before described pages old new is gives stands filled ranges said = record {
  stands = stands;
  ranges = ranges ∙ ap (λ (xs : List MapRange). xs ++ maps_by described.what pages) gives.ranges
      ∙ ap (λ (ps : List FrameRange). guest_ranges before number drawn ++ maps_by described.what ps) filled
      ∙ sym (ranges_more number drawn before mine belongs);
  said = says_more number before mine old.said new.said belongs gives.said said;
}
  where
    mine : Passed
    mine = passing before (entry_of owner described)

    belongs : belongs_to (Some number) mine ≡ true
    belongs = guest_belongs number mine is

-- no item gives nothing, beside what was drawn
pub gives_none : (number : ℕ) (drawn : List FrameRange) (given : Given) → Stands None [] given.state → given.ranges.items ≡ laid 0 drawn → HasSaid number [] given.said → Gives number drawn [] given
unfolding guest_ranges
gives_none number drawn given stands ranges said = record {
  stands = stands_none number given.state stands;
  ranges = ranges ∙ sym (append-nil (laid 0 drawn));
  said = said;
}

-- items, and then more
two_passed : (owner : Owner) (before : List Passed) (xs ys : List Described) → all_passed (all_passed before (map (entry_of owner) xs)) (map (entry_of owner) ys) ≡ all_passed before (map (entry_of owner) (xs ++ ys))
two_passed owner before xs ys = sym (all_passed-append before (map (entry_of owner) xs) (map (entry_of owner) ys)) ∙ ap (all_passed before) (sym (map-append (entry_of owner) xs ys))

pub four_passed : (owner : Owner) (before : List Passed) (a b c d : List Described) →
    all_passed (all_passed (all_passed (all_passed before (map (entry_of owner) a)) (map (entry_of owner) b)) (map (entry_of owner) c)) (map (entry_of owner) d) ≡ all_passed before (map (entry_of owner) (a ++ b ++ c ++ d))
four_passed owner before a b c d =
    ap (λ (p : List Passed). all_passed p (map (entry_of owner) d)) (ap (λ (p : List Passed). all_passed p (map (entry_of owner) c)) (two_passed owner before a b) ∙ two_passed owner before (a ++ b) c)
    ∙ two_passed owner before (a ++ b ++ c) d

pub four_mapped : {X Y : Type 0} (f : X → Y) (a b c d : List X) → map f a ++ map f b ++ map f c ++ map f d ≡ map f (a ++ b ++ c ++ d)
four_mapped f a b c d =
    ap (λ (xs : List _). xs ++ map f c ++ map f d) (sym (map-append f a b)) ∙ ap (λ (xs : List _). xs ++ map f d) (sym (map-append f (a ++ b) c)) ∙ sym (map-append f (a ++ b ++ c) d)

-- a list of which each was changed
pub get_map : {X Y : Type 0} (f : X → Y) (xs : List X) (k : ℕ) (x : X) → k < length xs → x ≡ get_or xs k x → f x ≡ get_or (map f xs) k (f x)
get_map f [] k x low is = absurd (omega arith)
get_map f (y ∷ ys) zero x low is = ap f is
get_map f (y ∷ ys) (suc k) x low is = get_map f ys k x (omega arith) is

get_left : {X : Type 0} (xs ys : List X) (k : ℕ) (d : X) → k < length xs → get_or (xs ++ ys) k d ≡ get_or xs k d
get_left [] ys k d low = absurd (omega arith)
get_left (x ∷ xs) ys zero d low = refl
get_left (x ∷ xs) ys (suc k) d low = get_left xs ys k d (omega arith)

get_right : {X : Type 0} (xs ys : List X) (k : ℕ) (d : X) → get_or (xs ++ ys) (length xs + k) d ≡ get_or ys k d
get_right [] ys k d = ap (λ (n : ℕ). get_or ys n d) (let e : 0 + k ≡ k = omega arith in e)
get_right (x ∷ xs) ys k d = ap (λ (n : ℕ). get_or (x ∷ (xs ++ ys)) n d) (let e : suc (length xs) + k ≡ suc (length xs + k) = omega arith in e) ∙ get_right xs ys k d

-- what holds of two lists
pub all_left : {X : Type 0} (P : X → Type 0) (xs ys : List X) → All P (xs ++ ys) → All P xs
all_left P xs ys all k d low = subst P (get_left xs ys k d low) (all k d (omega (arith, length-append xs ys)))

pub all_right : {X : Type 0} (P : X → Type 0) (xs ys : List X) → All P (xs ++ ys) → All P ys
all_right P xs ys all k d low = subst P (get_right xs ys k d) (all (length xs + k) d (omega (arith, length-append xs ys)))
