use Rattle.std.proofs.Common.{rules, ◌≡◌, ◌+◌, ◌*◌, ◌<◌, ◌⊎◌, ℕ, List, true, false, Option, Some, None, sym, ap, refl, ◌∙◌, arith, inl, inr}
use Rattle.std.specs.Option.{is_some}
use Rattle.std.specs.Ordering.{nat_cmp}
use Rattle.std.specs.BTreeMap.{get}
use Rattle.std.proofs.lemmas.Bool.{false≢true}
use Rattle.stage2_walk.specs.Pages.{number_at}
use Rattle.stage2_walk.proofs.PlaceMapLemmas.{ArePlaces-none, ArePlaces-more, stands_by_places}
use Rattle.stage2_walk.proofs.ReadLemmas.{stands_before, twice_at, none_twice}
use Rattle.stage2_walk.proofs.page_index.find_places.Goals as goal

pub loop-place-init : goal.loop-place-init
loop-place-init c = record {
  places = ArePlaces-none c.args.bytes.now c.new-places.result c.new-places.ensures.empty c.new-places.ensures.len c.new-places.ensures.ordered;
  apart = λ j less. absurd (omega arith);
}

pub returns-then-contains_key-clause-err : goal.returns-then-contains_key-clause-err
returns-then-contains_key-clause-err c = λ _ root.
    let bytes : List ℕ = c.args.bytes.now in
    let k : ℕ = c.loop-place.place in
    let held : is_some (get nat_cmp c.loop-place.places (number_at bytes (24 + 4104 * k))) ≡ true =
    ap (λ (f : ℕ). is_some (get nat_cmp c.loop-place.places f)) (sym c.read_number-frame.ensures) ∙ sym c.if-contains_key.ensures in
    twice_at bytes c.args.count k root c.loop-place-test.true c.requires.low c.loop-place.invariant.apart
    (stands_by_places bytes c.args.count k c.loop-place.places c.loop-place-test.true c.loop-place.invariant.places ∙ held)

pub loop-place-preserved : goal.loop-place-preserved
loop-place-preserved c =
    let bytes : List ℕ = c.args.bytes.now in
    let k : ℕ = c.loop-place.place in
    let fresh : get nat_cmp c.loop-place.places c.read_number-frame.result ≡ None = none (get nat_cmp c.loop-place.places c.read_number-frame.result) (sym c.if-contains_key.ensures) in
    record {
      places = ArePlaces-more bytes k c.read_number-frame.result c.loop-place.places c.insert.new.self c.loop-place.invariant.places c.read_number-frame.ensures fresh (search rules) (search rules) c.insert.ensures.ordered;
      apart = λ j less. by_place j (split j k less);
    }
  where
    none : (o : Option ℕ) → is_some o ≡ false → o ≡ None
    none None at = refl
    none (Some k) at = absurd (false≢true (sym at))

    split : (j k : ℕ) → j < k + 1 → (j < k) ⊎ (j ≡ k)
    split j k less = grind arith

    by_place : (j : ℕ) → (j < c.loop-place.place) ⊎ (j ≡ c.loop-place.place) → stands_before c.args.bytes.now c.args.count j ≡ false
    by_place j (inl less) = c.loop-place.invariant.apart j less
    by_place j (inr same) =
        ap (stands_before c.args.bytes.now c.args.count) same
        ∙ stands_by_places c.args.bytes.now c.args.count c.loop-place.place c.loop-place.places c.loop-place-test.true c.loop-place.invariant.places
        ∙ ap (λ (f : ℕ). is_some (get nat_cmp c.loop-place.places f)) (sym c.read_number-frame.ensures) ∙ sym c.if-contains_key.ensures

pub returns-clause-apart : goal.returns-clause-apart
returns-clause-apart c =
    let past = c.loop-place-test.false in
    none_twice c.args.bytes.now c.args.count (λ j less. c.loop-place.invariant.apart j (omega arith))
