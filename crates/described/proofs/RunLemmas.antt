-- A run of a merged map lies in one of its ranges.
use Rattle.std.proofs.Common.{◌≡◌, ℕ, suc, ◌+◌, ◌-◌, ◌<◌, ◌≤◌, ◌⊎◌, true, false, leb, List, [], ◌∷◌, Some, None, refl, sym, ap, ◌∙◌, arith, inl, inr, add-one}
use Rattle.std.specs.List.{slice_get}
use Rattle.std.proofs.lemmas.Option.{same_Some, none-some}
use Rattle.std.proofs.lemmas.Bool.Decides.{leb_tells}
use Rattle.described.specs.Maps.{Target, holds_page, target_of, AreSortedFrom, AreMergedAfter, AreMerged}
use Rattle.described.specs.declared.map_range.Kind.{Kind}
use Rattle.described.specs.declared.map_range.MapRange.{MapRange}

-- whether a range holds a page, and what follows
pub holds_tells : (range : MapRange) (page : ℕ) → ((holds_page range page ≡ true) × (range.page ≤ page) × (page < range.page + range.count)) ⊎ ((holds_page range page ≡ false) × ((page < range.page) ⊎ (range.page + range.count ≤ page)))
holds_tells range page = both (leb_tells range.page page) (leb_tells (suc page) (range.page + range.count))
  where
    both : ((leb range.page page ≡ true) × (range.page ≤ page)) ⊎ ((leb range.page page ≡ false) × (page < range.page))
        → ((leb (suc page) (range.page + range.count) ≡ true) × (suc page ≤ range.page + range.count)) ⊎ ((leb (suc page) (range.page + range.count) ≡ false) × (range.page + range.count < suc page))
        → ((holds_page range page ≡ true) × (range.page ≤ page) × (page < range.page + range.count)) ⊎ ((holds_page range page ≡ false) × ((page < range.page) ⊎ (range.page + range.count ≤ page)))
    both (inl a) (inl b) = inl (rw (a.0, b.0) refl, a.1, b.1)
    both (inl a) (inr b) = inr (rw (a.0, b.0) refl, inr (omega arith))
    both (inr a) b = inr (rw a.0 refl, inl a.1)

target_hit : (range : MapRange) (ranges : List MapRange) (page : ℕ) → holds_page range page ≡ true → target_of (range ∷ ranges) page ≡ Some (record { frame = range.first + (page - range.page); kind = range.kind })
target_hit range ranges page hit = rw hit refl

target_miss : (range : MapRange) (ranges : List MapRange) (page : ℕ) → holds_page range page ≡ false → target_of (range ∷ ranges) page ≡ target_of ranges page
target_miss range ranges page miss = rw miss refl

-- below the first range nothing is mapped
pub target_below : (ranges : List MapRange) (start page : ℕ) → AreSortedFrom start ranges → page < start → target_of ranges page ≡ None
target_below [] start page ok low = refl
target_below (range ∷ ranges) start page ok low =
    by_test (target_below ranges (range.page + range.count) page ok.4 (omega arith)) (holds_tells range page)
  where
    by_test : target_of ranges page ≡ None → ((holds_page range page ≡ true) × (range.page ≤ page) × (page < range.page + range.count)) ⊎ ((holds_page range page ≡ false) × ((page < range.page) ⊎ (range.page + range.count ≤ page))) → target_of (range ∷ ranges) page ≡ None
    by_test rest (inl h) = absurd (let a : range.page ≤ page = h.1 in let b : start ≤ range.page = ok.0 in omega arith)
    by_test rest (inr h) = target_miss range ranges page h.0 ∙ rest

-- count pages from page on go to consecutive frames of one kind
abbrev pub IsRunOf : List MapRange → ℕ → ℕ → Target → Type 0
IsRunOf ranges page count target = (k : ℕ) → k < count → target_of ranges (page + k) ≡ Some (record { frame = target.frame + k; kind = target.kind })

-- such pages lie in one range
pub record LiesIn (ranges : List MapRange) (page count : ℕ) (target : Target) (index : ℕ) (range : MapRange) : Type 0 where
  pub at : slice_get ranges index ≡ Some range
  pub begins : range.page ≤ page
  pub ends : page + count ≤ range.page + range.count
  pub frame : target.frame ≡ range.first + (page - range.page)
  pub kind : target.kind ≡ range.kind

-- what stands at the end of a range does not run on from it
at_end : (range : MapRange) (ranges : List MapRange) (frame : ℕ) (kind : Kind) → AreSortedFrom (range.page + range.count) ranges → AreMergedAfter range ranges →
    target_of ranges (range.page + range.count) ≡ Some (record { frame = frame; kind = kind }) → frame ≡ range.first + range.count → kind ≡ range.kind → ⊥
at_end range [] frame kind ok merged at same_frame same_kind = none-some _ at
at_end range (next ∷ ranges) frame kind ok merged at same_frame same_kind = by_test (holds_tells next (range.page + range.count))
  where
    end : ℕ
    end = range.page + range.count

    by_test : ((holds_page next (range.page + range.count) ≡ true) × (next.page ≤ range.page + range.count) × (range.page + range.count < next.page + next.count)) ⊎ ((holds_page next (range.page + range.count) ≡ false) × ((range.page + range.count < next.page) ⊎ (next.page + next.count ≤ range.page + range.count))) → ⊥
    by_test (inl h) =
        let given : Target = record { frame = frame; kind = kind } in
        let found : Target = record { frame = next.first + ((range.page + range.count) - next.page); kind = next.kind } in
        let same : found ≡ given = same_Some found given (sym (target_hit next ranges (range.page + range.count) h.0) ∙ at) in
        let frames : next.first + ((range.page + range.count) - next.page) ≡ frame = ap (λ (t : Target). t.frame) same in
        let kinds : next.kind ≡ kind = ap (λ (t : Target). t.kind) same in
        let above : range.page + range.count ≤ next.page = ok.0 in
        let upto : next.page ≤ range.page + range.count = h.1 in
        let page : next.page ≡ range.page + range.count = omega arith in
        let first : next.first ≡ range.first + range.count = omega arith in
        merged.0 (record { page = page; frame = first; kind = kinds ∙ same_kind })
    by_test (inr h) =
        let above : range.page + range.count ≤ next.page = ok.0 in
        let some : 0 < next.count = ok.1 in
        none-some _ (sym (target_below ranges (next.page + next.count) (range.page + range.count) ok.4 (omega arith)) ∙ sym (target_miss next ranges (range.page + range.count) h.0) ∙ at)

merged_rest : (range : MapRange) (ranges : List MapRange) → AreMergedAfter range ranges → AreMerged ranges
merged_rest range [] merged = tt
merged_rest range (next ∷ ranges) merged = merged.1

-- a range does not hold a page at or past its end
past_end : (range : MapRange) (page : ℕ) → range.page + range.count ≤ page → holds_page range page ≡ false
past_end range page past = by_test (holds_tells range page)
  where
    by_test : ((holds_page range page ≡ true) × (range.page ≤ page) × (page < range.page + range.count)) ⊎ ((holds_page range page ≡ false) × ((page < range.page) ⊎ (range.page + range.count ≤ page))) → holds_page range page ≡ false
    by_test (inl h) = absurd (let low : page < range.page + range.count = h.2 in omega arith)
    by_test (inr h) = h.0

-- a run that begins in a range ends there
ends_within : (range : MapRange) (ranges : List MapRange) (page count : ℕ) (target : Target) → AreSortedFrom (range.page + range.count) ranges → AreMergedAfter range ranges →
    range.page ≤ page → page < range.page + range.count → target.frame ≡ range.first + (page - range.page) → target.kind ≡ range.kind →
    IsRunOf (range ∷ ranges) page count target → page + count ≤ range.page + range.count
ends_within range ranges page count target ok merged low high frame kind run = by_end (page_or_past (page + count) (range.page + range.count))
  where
    page_or_past : (a b : ℕ) → (a ≤ b) ⊎ (b < a)
    page_or_past a b = grind arith

    by_end : (page + count ≤ range.page + range.count) ⊎ (range.page + range.count < page + count) → page + count ≤ range.page + range.count
    by_end (inl h) = h
    by_end (inr h) =
        let k : ℕ = (range.page + range.count) - page in
        let end : page + k ≡ range.page + range.count = omega arith in
        let here : target_of (range ∷ ranges) (range.page + range.count) ≡ Some (record { frame = target.frame + k; kind = target.kind }) = ap (target_of (range ∷ ranges)) (sym end) ∙ run k (omega arith) in
        let miss : holds_page range (range.page + range.count) ≡ false = past_end range (range.page + range.count) (omega arith) in
        let rest : target_of ranges (range.page + range.count) ≡ Some (record { frame = target.frame + k; kind = target.kind }) = sym (target_miss range ranges (range.page + range.count) miss) ∙ here in
        absurd (at_end range ranges (target.frame + k) target.kind ok merged rest (omega arith) kind)

pub run_in_range : (ranges : List MapRange) (start page count : ℕ) (target : Target) → AreSortedFrom start ranges → AreMerged ranges → 0 < count → IsRunOf ranges page count target →
    (index : ℕ) × (range : MapRange) × LiesIn ranges page count target index range
run_in_range [] start page count target ok merged some run = absurd (none-some _ (run 0 some))
run_in_range (range ∷ ranges) start page count target ok merged some run =
    by_test (λ (past : range.page + range.count ≤ page). run_in_range ranges (range.page + range.count) page count target ok.4 (merged_rest range ranges merged) some
    (λ k low. sym (target_miss range ranges (page + k) (past_end range (page + k) (omega arith))) ∙ run k low))
    (holds_tells range page)
  where
    first : target_of (range ∷ ranges) page ≡ Some target
    first =
        let page_is : page + 0 ≡ page = omega arith in
        let frame_is : target.frame + 0 ≡ target.frame = omega arith in
        ap (target_of (range ∷ ranges)) (sym page_is) ∙ run 0 some ∙ ap (λ (f : ℕ). Some (record { frame = f; kind = target.kind })) frame_is

    by_test : (range.page + range.count ≤ page → (index : ℕ) × (r : MapRange) × LiesIn ranges page count target index r) →
        ((holds_page range page ≡ true) × (range.page ≤ page) × (page < range.page + range.count)) ⊎ ((holds_page range page ≡ false) × ((page < range.page) ⊎ (range.page + range.count ≤ page))) →
        (index : ℕ) × (r : MapRange) × LiesIn (range ∷ ranges) page count target index r
    by_test later (inl h) =
        let found : Target = record { frame = range.first + (page - range.page); kind = range.kind } in
        let same : found ≡ target = same_Some found target (sym (target_hit range ranges page h.0) ∙ first) in
        let frame : target.frame ≡ range.first + (page - range.page) = ap (λ (t : Target). t.frame) (sym same) in
        let kind : target.kind ≡ range.kind = ap (λ (t : Target). t.kind) (sym same) in (
          0,
          range,
          record {
            at = refl;
            begins = h.1;
            ends = ends_within range ranges page count target ok.4 merged h.1 h.2 frame kind run;
            frame = frame;
            kind = kind;
          },
        )
    by_test later (inr h) = by_side later h.0 h.1
      where
        by_side : (range.page + range.count ≤ page → (index : ℕ) × (r : MapRange) × LiesIn ranges page count target index r) → holds_page range page ≡ false → (page < range.page) ⊎ (range.page + range.count ≤ page) →
            (index : ℕ) × (r : MapRange) × LiesIn (range ∷ ranges) page count target index r
        by_side later miss (inl low) = absurd (none-some target (sym (target_below ranges (range.page + range.count) page ok.4 (omega arith)) ∙ sym (target_miss range ranges page miss) ∙ first))
        by_side later miss (inr past) =
            let r = later past in (
              r.0 + 1,
              r.1,
              record {
                at = rw (add-one r.0) r.2.at;
                begins = r.2.begins;
                ends = r.2.ends;
                frame = r.2.frame;
                kind = r.2.kind;
              },
            )
