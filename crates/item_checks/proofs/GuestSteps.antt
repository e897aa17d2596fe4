-- One guest after the other.
use Rattle.std.proofs.Common.{◌≡◌, ℕ, ◌+◌, ◌<◌, ◌≤◌, ◌⊎◌, ◌||◌, Bool, true, false, List, [], ◌∷◌, ◌++◌, length, drop, get_or, Option, Some, None, refl, sym, ap, subst, ◌∙◌, arith, inl, inr}
use Rattle.std.specs.Prelude.{◌==◌}
use Rattle.std.specs.List.{list_any}
use Rattle.std.specs.Option.{option_or}
use Rattle.std.proofs.lemmas.List.{drop_more, drop_all}
use Rattle.std.proofs.lemmas.List.Folds.{list_any-append}
use Rattle.std.proofs.lemmas.Bool.Decides.{eqb_tells}
use Rattle.texts.specs.declared.ranges.FrameRange.{FrameRange}
use Rattle.described.specs.declared.item.Described.{Described}
use Rattle.described.specs.declared.item.Item.{Item}
use Rattle.described.specs.declared.why.Why.{Why}
use Rattle.domain_bindings.specs.declared.host.Host.{Host}
use Rattle.item_checks.specs.declared.guests.Guest.{Guest}
use Rattle.item_checks.specs.declared.state.State.{State}
use Rattle.item_checks.specs.Entries.{Entry, of_host, of_guest, guest_entries, items_of, is_read}
use Rattle.item_checks.specs.Taken.{Passed, belongs_to, passing, all_passed}
use Rattle.item_checks.specs.Refusals.{Refusal, first_refused}
use Rattle.item_checks.specs.Standing.{Stands}
use Rattle.item_checks.specs.PrivateStanding.{AreOfHost}
use Rattle.item_checks.proofs.LoopLemmas.{all_passed-none, all_passed-append, first_refused-append, first_refused-none}

-- guests before one have no item of it
pub fresh_block : (number own : ℕ) (read : Bool) (items : List Described) (mid : List Passed) → own < number → list_any (belongs_to (Some number)) mid ≡ false → list_any (belongs_to (Some number)) (all_passed mid (of_guest own read items)) ≡ false
unfolding all_passed
fresh_block number own read [] mid low none = none
fresh_block number own read (d ∷ ds) mid low none =
    fresh_block number own read ds (mid ++ passing mid (record { guest = Some own; partial_read = read; described = d }) ∷ []) low
    (list_any-append (belongs_to (Some number)) mid (passing mid (record { guest = Some own; partial_read = read; described = d }) ∷ []) ∙ both_none _ _ none (other (eqb_tells own number)))
  where
    both_none : (a b : Bool) → a ≡ false → b ≡ false → (a || b) ≡ false
    both_none a b h k = rw (h, k) refl

    other : (((own == number) ≡ true) × (own ≡ number)) ⊎ (((own == number) ≡ false) × (own ≡ number → ⊥)) → ((own == number) || false) ≡ false
    other (inl h) = absurd (let e : own ≡ number = h.1 in omega arith)
    other (inr h) = rw h.0 refl

-- the guests before an index were passed; what is against all is against those from it on
pub record IsAtGuest (host : Host) (before : List Passed) (guests : List Guest) (index : ℕ) (state : State) : Type 0 where
  pub mid : List Passed
  pub last : Option ℕ
  pub stands : Stands last mid state
  pub fresh : (number : ℕ) → index ≤ number → list_any (belongs_to (Some number)) mid ≡ false
  pub clear : first_refused host before (guest_entries 0 guests) ≡ first_refused host mid (guest_entries index (drop index guests))
  pub passed : all_passed before (guest_entries 0 guests) ≡ all_passed mid (guest_entries index (drop index guests))

pub at_first : (host : Host) (before : List Passed) (guests : List Guest) (state : State) → Stands None before state → AreOfHost before → IsAtGuest host before guests 0 state
at_first host before guests state stands none = record { mid = before; last = None; stands = stands; fresh = λ number low. none number; clear = refl; passed = refl }

abbrev block : ℕ → Guest → List Entry
block number guest = of_guest number (is_read guest.partial) (items_of guest)

next_entries : (guests : List Guest) (i : ℕ) (g : Guest) → i < length guests → g ≡ get_or guests i g → guest_entries i (drop i guests) ≡ block i g ++ guest_entries (i + 1) (drop (i + 1) guests)
next_entries guests i g low is = ap (guest_entries i) (drop_more guests i g low ∙ ap (λ (one : Guest). one ∷ drop (i + 1) guests) (sym is))

pub at_next : (host : Host) (before : List Passed) (guests : List Guest) (i : ℕ) (g : Guest) (old new : State) → i < length guests → g ≡ get_or guests i g → (at : IsAtGuest host before guests i old) →
    Stands (Some i) (all_passed at.mid (of_guest i (is_read g.partial) (items_of g))) new → first_refused host at.mid (of_guest i (is_read g.partial) (items_of g)) ≡ None → IsAtGuest host before guests (i + 1) new
at_next host before guests i g old new low is at stands none = record {
  mid = all_passed at.mid (block i g);
  last = Some i;
  stands = stands;
  fresh = λ number above. fresh_block number i (is_read g.partial) (items_of g) at.mid (omega arith) (at.fresh number (omega arith));
  clear = at.clear ∙ ap (first_refused host at.mid) (next_entries guests i g low is) ∙ first_refused-append host at.mid (block i g) (guest_entries (i + 1) (drop (i + 1) guests))
      ∙ ap (λ (o : Option Refusal). option_or o (first_refused host (all_passed at.mid (block i g)) (guest_entries (i + 1) (drop (i + 1) guests)))) none;
  passed = at.passed ∙ ap (all_passed at.mid) (next_entries guests i g low is) ∙ all_passed-append at.mid (block i g) (guest_entries (i + 1) (drop (i + 1) guests));
}

pub refused_at : (host : Host) (before : List Passed) (guests : List Guest) (i : ℕ) (g : Guest) (old : State) (item : Item) (reason : Why) → i < length guests → g ≡ get_or guests i g → (at : IsAtGuest host before guests i old) →
    first_refused host at.mid (of_guest i (is_read g.partial) (items_of g)) ≡ Some (item, reason) → first_refused host before (guest_entries 0 guests) ≡ Some (item, reason)
refused_at host before guests i g old item reason low is at some =
    at.clear ∙ ap (first_refused host at.mid) (next_entries guests i g low is) ∙ first_refused-append host at.mid (block i g) (guest_entries (i + 1) (drop (i + 1) guests))
    ∙ ap (λ (o : Option Refusal). option_or o (first_refused host (all_passed at.mid (block i g)) (guest_entries (i + 1) (drop (i + 1) guests)))) some

pub at_last : (host : Host) (before : List Passed) (guests : List Guest) (i : ℕ) (state : State) → length guests ≤ i → IsAtGuest host before guests i state →
    ((last : Option ℕ) × Stands last (all_passed before (guest_entries 0 guests)) state) × (first_refused host before (guest_entries 0 guests) ≡ None)
at_last host before guests i state past at =
    let none : guest_entries i (drop i guests) ≡ [] = ap (guest_entries i) (drop_all i guests past) in
    let all : all_passed before (guest_entries 0 guests) ≡ at.mid = at.passed ∙ ap (all_passed at.mid) none ∙ all_passed-none at.mid in (
      (at.last, subst (λ (passed : List Passed). Stands at.last passed state) (sym all) at.stands),
      at.clear ∙ ap (first_refused host at.mid) none ∙ first_refused-none host at.mid,
    )

-- items of the host belong to no guest
pub fresh_host : (items : List Described) (mid : List Passed) → AreOfHost mid → AreOfHost (all_passed mid (of_host items))
unfolding all_passed
fresh_host [] mid host number = host number
fresh_host (d ∷ ds) mid host number =
    fresh_host ds (mid ++ passing mid (record { guest = None; partial_read = false; described = d }) ∷ [])
    (λ one. list_any-append (belongs_to (Some one)) mid (passing mid (record { guest = None; partial_read = false; described = d }) ∷ []) ∙ both_none _ _ (host one) refl) number
  where
    both_none : (a b : Bool) → a ≡ false → b ≡ false → (a || b) ≡ false
    both_none a b h k = rw (h, k) refl
