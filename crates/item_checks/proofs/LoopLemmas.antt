-- One item after the other.
use Rattle.std.proofs.Common.{◌≡◌, ℕ, ◌+◌, ◌<◌, ◌≤◌, List, [], ◌∷◌, ◌++◌, length, map, take, drop, get_or, Option, Some, None, refl, sym, ap, ◌∙◌}
use Rattle.std.specs.Option.{option_or}
use Rattle.std.proofs.lemmas.List.{map-append, take_more, drop_more, drop_all}
use Rattle.texts.specs.declared.ranges.FrameRange.{FrameRange}
use Rattle.described.specs.declared.item.Described.{Described}
use Rattle.described.specs.declared.item.Item.{Item}
use Rattle.described.specs.declared.why.Why.{Why}
use Rattle.domain_bindings.specs.declared.host.Host.{Host}
use Rattle.item_checks.specs.declared.state.Owner.{Owner}
use Rattle.item_checks.specs.Entries.{Entry}
use Rattle.item_checks.specs.Taken.{Passed, passing, all_passed}
use Rattle.item_checks.specs.Refusals.{Refusal, why, or_later, first_refused}
use Rattle.item_checks.specs.Standing.{entry_of}

pub all_passed-none : (before : List Passed) → all_passed before [] ≡ before
unfolding all_passed
all_passed-none before = refl

pub all_passed-one : (before : List Passed) (entry : Entry) → all_passed before (entry ∷ []) ≡ before ++ passing before entry ∷ []
unfolding all_passed
all_passed-one before entry = refl

pub all_passed-append : (before : List Passed) (xs ys : List Entry) → all_passed before (xs ++ ys) ≡ all_passed (all_passed before xs) ys
unfolding all_passed
all_passed-append before [] ys = refl
all_passed-append before (x ∷ xs) ys = all_passed-append (before ++ passing before x ∷ []) xs ys

later_or : (item : Item) (reason : Option Why) (a b : Option Refusal) → or_later item reason (option_or a b) ≡ option_or (or_later item reason a) b
later_or item None a b = refl
later_or item (Some reason) a b = refl

-- what is against two lists in a row
pub first_refused-append : (host : Host) (before : List Passed) (xs ys : List Entry) →
    first_refused host before (xs ++ ys) ≡ option_or (first_refused host before xs) (first_refused host (all_passed before xs) ys)
unfolding first_refused all_passed
first_refused-append host before [] ys = refl
first_refused-append host before (x ∷ xs) ys =
    ap (or_later x.described.item (why host before x)) (first_refused-append host (before ++ passing before x ∷ []) xs ys)
    ∙ later_or x.described.item (why host before x) (first_refused host (before ++ passing before x ∷ []) xs) (first_refused host (all_passed (before ++ passing before x ∷ []) xs) ys)

pub first_refused-here : (host : Host) (before : List Passed) (entry : Entry) (entries : List Entry) (reason : Why) → why host before entry ≡ Some reason →
    first_refused host before (entry ∷ entries) ≡ Some (entry.described.item, reason)
unfolding first_refused
first_refused-here host before entry entries reason is = ap (λ (found : Option Why). or_later entry.described.item found (first_refused host (before ++ passing before entry ∷ []) entries)) is

pub first_refused-later : (host : Host) (before : List Passed) (entry : Entry) (entries : List Entry) → why host before entry ≡ None →
    first_refused host before (entry ∷ entries) ≡ first_refused host (before ++ passing before entry ∷ []) entries
unfolding first_refused
first_refused-later host before entry entries is = ap (λ (found : Option Why). or_later entry.described.item found (first_refused host (before ++ passing before entry ∷ []) entries)) is

pub first_refused-none : (host : Host) (before : List Passed) → first_refused host before [] ≡ None
unfolding first_refused
first_refused-none host before = refl

-- the items before an index, and those from it on
abbrev pub passed_to : Owner → List Passed → List Described → ℕ → List Passed
passed_to owner before items i = all_passed before (map (entry_of owner) (take i items))

abbrev pub refused_from : Host → Owner → List Passed → List Described → ℕ → Option Refusal
refused_from host owner before items i = first_refused host (passed_to owner before items i) (map (entry_of owner) (drop i items))

pub passed_to-more : (owner : Owner) (before : List Passed) (items : List Described) (i : ℕ) (d : Described) → i < length items →
    passed_to owner before items (i + 1) ≡ passed_to owner before items i ++ passing (passed_to owner before items i) (entry_of owner (get_or items i d)) ∷ []
passed_to-more owner before items i d low =
    ap (λ (xs : List Described). all_passed before (map (entry_of owner) xs)) (take_more items i d low)
    ∙ ap (all_passed before) (map-append (entry_of owner) (take i items) (get_or items i d ∷ []))
    ∙ all_passed-append before (map (entry_of owner) (take i items)) (entry_of owner (get_or items i d) ∷ [])
    ∙ all_passed-one (passed_to owner before items i) (entry_of owner (get_or items i d))

pub refused_from-here : (host : Host) (owner : Owner) (before : List Passed) (items : List Described) (i : ℕ) (d : Described) (reason : Why) → i < length items →
    why host (passed_to owner before items i) (entry_of owner (get_or items i d)) ≡ Some reason → refused_from host owner before items i ≡ Some ((get_or items i d).item, reason)
refused_from-here host owner before items i d reason low is =
    ap (λ (xs : List Described). first_refused host (passed_to owner before items i) (map (entry_of owner) xs)) (drop_more items i d low)
    ∙ first_refused-here host (passed_to owner before items i) (entry_of owner (get_or items i d)) (map (entry_of owner) (drop (i + 1) items)) reason is

pub refused_from-later : (host : Host) (owner : Owner) (before : List Passed) (items : List Described) (i : ℕ) (d : Described) → i < length items →
    why host (passed_to owner before items i) (entry_of owner (get_or items i d)) ≡ None → refused_from host owner before items i ≡ refused_from host owner before items (i + 1)
refused_from-later host owner before items i d low is =
    ap (λ (xs : List Described). first_refused host (passed_to owner before items i) (map (entry_of owner) xs)) (drop_more items i d low)
    ∙ first_refused-later host (passed_to owner before items i) (entry_of owner (get_or items i d)) (map (entry_of owner) (drop (i + 1) items)) is
    ∙ ap (λ (passed : List Passed). first_refused host passed (map (entry_of owner) (drop (i + 1) items))) (sym (passed_to-more owner before items i d low))

pub refused_from-end : (host : Host) (owner : Owner) (before : List Passed) (items : List Described) (i : ℕ) → length items ≤ i → refused_from host owner before items i ≡ None
refused_from-end host owner before items i past =
    ap (λ (xs : List Described). first_refused host (passed_to owner before items i) (map (entry_of owner) xs)) (drop_all i items past)
    ∙ first_refused-none host (passed_to owner before items i)
