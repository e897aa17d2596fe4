-- Sorted ranges that are merged are determined by where they map each page.
use Rattle.std.proofs.Common.{◌≡◌, ◌∙◌, ap, ap₂, sym, subst, refl, ℕ, ◌+◌, ◌-◌, ◌<◌, ◌≤◌, ◌⊎◌, inl, inr, true, false, List, [], ◌∷◌, Option, Some, None, arith}
use Rattle.std.proofs.lemmas.Bool.{cases_order}
use Rattle.std.proofs.lemmas.Option.{same_Some, none-some}
use Rattle.described.specs.Maps.{Target, target_of, holds_page, AreSortedFrom, AreMerged, AreMergedAfter}
use Rattle.described.specs.declared.map_range.MapRange.{MapRange}
use Rattle.described.proofs.RunLemmas.{holds_tells}

abbrev HoldsOrNot : MapRange → ℕ → Type 0
HoldsOrNot range page =
    ((holds_page range page ≡ true) × (range.page ≤ page) × (page < range.page + range.count))
    ⊎ ((holds_page range page ≡ false) × ((page < range.page) ⊎ (range.page + range.count ≤ page)))

-- nothing is mapped before sorted ranges begin
unmapped_before : (ranges : List MapRange) (start page : ℕ) → AreSortedFrom start ranges → page < start → target_of ranges page ≡ None
unmapped_before [] start page sorted less = refl
unmapped_before (range ∷ ranges) start page sorted less = by (holds_tells range page) (unmapped_before ranges (range.page + range.count) page sorted.4 (let begins : start ≤ range.page = sorted.0 in omega arith))
  where
    by : HoldsOrNot range page → target_of ranges page ≡ None → target_of (range ∷ ranges) page ≡ None
    by (inl h) later = absurd (let begins : start ≤ range.page = sorted.0 in let above : range.page ≤ page = h.1 in omega arith)
    by (inr h) later = rw h.0 later

-- a page of the first range
mapped_at : (range : MapRange) (ranges : List MapRange) (k : ℕ) → k < range.count → target_of (range ∷ ranges) (range.page + k) ≡ Some (record { frame = range.first + k; kind = range.kind })
mapped_at range ranges k less = by (holds_tells range (range.page + k))
  where
    by : HoldsOrNot range (range.page + k) → target_of (range ∷ ranges) (range.page + k) ≡ Some (record { frame = range.first + k; kind = range.kind })
    by (inl h) = let same : range.first + (range.page + k - range.page) ≡ range.first + k = omega arith in rw h.0 (ap (λ (f : ℕ). Some (record { frame = f; kind = range.kind })) same)
    by (inr h) = absurd (elim h.1 [ inl below ↦ omega arith | inr above ↦ omega arith ])

-- a page that the first range does not hold
passed_on : (range : MapRange) (ranges : List MapRange) (page : ℕ) → holds_page range page ≡ false → target_of (range ∷ ranges) page ≡ target_of ranges page
passed_on range ranges page not_held = rw not_held refl

-- both lists map alike
abbrev MapAlike : List MapRange → List MapRange → Type 0
MapAlike xs ys = (page : ℕ) → target_of xs page ≡ target_of ys page

other_way : (xs ys : List MapRange) → MapAlike xs ys → MapAlike ys xs
other_way xs ys alike page = sym (alike page)

none_is_some : {A : Type 0} (o : Option A) (x : A) → o ≡ None → o ≡ Some x → ⊥
none_is_some o x none some = none-some x (sym none ∙ some)

-- the first page of one is not below that of the other
not_below : (x : MapRange) (xs : List MapRange) (y : MapRange) (ys : List MapRange) (s t : ℕ) → AreSortedFrom s (x ∷ xs) → AreSortedFrom t (y ∷ ys) → MapAlike (x ∷ xs) (y ∷ ys) → x.page < y.page → ⊥
not_below x xs y ys s t sorted sorted_too alike less =
    let some : 0 < x.count = sorted.1 in
    let here : target_of (y ∷ ys) (x.page + 0) ≡ Some (record { frame = x.first + 0; kind = x.kind }) = sym (alike (x.page + 0)) ∙ mapped_at x xs 0 some in
    let none : target_of (y ∷ ys) (x.page + 0) ≡ None = unmapped_before (y ∷ ys) y.page (x.page + 0) (omega arith, sorted_too.1, sorted_too.2, sorted_too.3, sorted_too.4) (omega arith) in
    none_is_some (target_of (y ∷ ys) (x.page + 0)) (record { frame = x.first + 0; kind = x.kind }) none here

-- what is mapped right behind the first range runs on from it
runs_on_behind : (x : MapRange) (xs : List MapRange) (frame : ℕ) → AreSortedFrom (x.page + x.count) xs → target_of xs (x.page + x.count) ≡ Some (record { frame = frame; kind = x.kind }) → frame ≡ x.first + x.count → AreMergedAfter x xs → ⊥
runs_on_behind x [] frame sorted some is merged = none-some (record { frame = frame; kind = x.kind }) some
runs_on_behind x (z ∷ zs) frame sorted some is merged = by (cases_order (x.page + x.count) z.page)
  where
    at : x.page + x.count ≡ z.page → ⊥
    at same =
        let has : 0 < z.count = sorted.1 in
        let there : target_of (z ∷ zs) (z.page + 0) ≡ Some (record { frame = z.first + 0; kind = z.kind }) = mapped_at z zs 0 has in
        let begins : z.page + 0 ≡ x.page + x.count = omega arith in
        let next : Target = record { frame = z.first + 0; kind = z.kind } in
        let told : Target = record { frame = frame; kind = x.kind } in
        let target : next ≡ told = same_Some next told (sym there ∙ ap (target_of (z ∷ zs)) begins ∙ some) in
        let first : z.first + 0 ≡ frame = ap (λ (t : Target). t.frame) target in
        merged.0 (record { page = sym same; frame = omega arith; kind = ap (λ (t : Target). t.kind) target })

    by : (x.page + x.count ≡ z.page) ⊎ ((x.page + x.count < z.page) ⊎ (z.page < x.page + x.count)) → ⊥
    by (inl same) = at same
    by (inr (inl less)) =
        none_is_some (target_of (z ∷ zs) (x.page + x.count)) (record { frame = frame; kind = x.kind })
        (unmapped_before (z ∷ zs) z.page (x.page + x.count) (omega arith, sorted.1, sorted.2, sorted.3, sorted.4) less) some
    by (inr (inr more)) = let begins : x.page + x.count ≤ z.page = sorted.0 in omega arith

-- two ranges begin alike
pub record BeginAlike (x y : MapRange) : Type 0 where
  pub page : x.page ≡ y.page
  pub first : x.first ≡ y.first
  pub kind : x.kind ≡ y.kind

begin_alike : (x : MapRange) (xs : List MapRange) (y : MapRange) (ys : List MapRange) → 0 < x.count → 0 < y.count → MapAlike (x ∷ xs) (y ∷ ys) → x.page ≡ y.page → BeginAlike x y
begin_alike x xs y ys some some_too alike page =
    let one : Target = record { frame = x.first + 0; kind = x.kind } in
    let other : Target = record { frame = y.first + 0; kind = y.kind } in
    let target : one ≡ other =
    same_Some one other (sym (mapped_at x xs 0 some) ∙ alike (x.page + 0) ∙ ap (λ (p : ℕ). target_of (y ∷ ys) (p + 0)) page ∙ mapped_at y ys 0 some_too) in
    let first : x.first + 0 ≡ y.first + 0 = ap (λ (t : Target). t.frame) target in
    record { page = page; first = omega arith; kind = ap (λ (t : Target). t.kind) target }

-- ranges that begin alike: one is not shorter than the other
not_shorter : (x : MapRange) (xs : List MapRange) (y : MapRange) (ys : List MapRange) → AreSortedFrom (x.page + x.count) xs → AreMergedAfter x xs → MapAlike (x ∷ xs) (y ∷ ys) → BeginAlike x y → x.count < y.count → ⊥
not_shorter x xs y ys sorted merged alike begin less =
    let page : x.page ≡ y.page = begin.page in
    let first : x.first ≡ y.first = begin.first in
    let there : target_of (x ∷ xs) (x.page + x.count) ≡ Some (record { frame = y.first + x.count; kind = y.kind }) =
    alike (x.page + x.count) ∙ ap (λ (p : ℕ). target_of (y ∷ ys) (p + x.count)) page ∙ mapped_at y ys x.count less in
    let behind : target_of xs (x.page + x.count) ≡ Some (record { frame = y.first + x.count; kind = x.kind }) =
    sym (passed_on x xs (x.page + x.count) (past (holds_tells x (x.page + x.count)))) ∙ there ∙ ap (λ k. Some (record { frame = y.first + x.count; kind = k })) (sym begin.kind) in
    runs_on_behind x xs (y.first + x.count) sorted behind (omega arith) merged
  where
    past : HoldsOrNot x (x.page + x.count) → holds_page x (x.page + x.count) ≡ false
    past (inl h) = absurd (let below : x.page + x.count < x.page + x.count = h.2 in omega arith)
    past (inr h) = h.0

merged_tail : (x : MapRange) (xs : List MapRange) → AreMergedAfter x xs → AreMerged xs
merged_tail x [] merged = tt
merged_tail x (z ∷ zs) merged = merged.1

-- behind equal ranges the others map alike
alike_behind : (x : MapRange) (xs : List MapRange) (y : MapRange) (ys : List MapRange) → AreSortedFrom (x.page + x.count) xs → AreSortedFrom (y.page + y.count) ys → MapAlike (x ∷ xs) (y ∷ ys) → x ≡ y → MapAlike xs ys
alike_behind x xs y ys sorted sorted_too alike same page = by (holds_tells x page)
  where
    by : HoldsOrNot x page → target_of xs page ≡ target_of ys page
    by (inl h) =
        let below : page < y.page + y.count = subst (λ (r : MapRange). page < r.page + r.count) same h.2 in
        unmapped_before xs (x.page + x.count) page sorted h.2 ∙ sym (unmapped_before ys (y.page + y.count) page sorted_too below)
    by (inr h) =
        let not_held : holds_page y page ≡ false = ap (λ (r : MapRange). holds_page r page) (sym same) ∙ h.0 in
        sym (passed_on x xs page h.0) ∙ alike page ∙ passed_on y ys page not_held

same_range : (x y : MapRange) → BeginAlike x y → x.count ≡ y.count → x ≡ y
same_range x y begin count =
    ap (λ (page : ℕ). record { page = page; first = x.first; count = x.count; kind = x.kind }) begin.page
    ∙ ap (λ (first : ℕ). record { page = y.page; first = first; count = x.count; kind = x.kind }) begin.first
    ∙ ap (λ (c : ℕ). record { page = y.page; first = y.first; count = c; kind = x.kind }) count
    ∙ ap (λ k. record { page = y.page; first = y.first; count = y.count; kind = k }) begin.kind

same_first : (x : MapRange) (xs : List MapRange) (y : MapRange) (ys : List MapRange) (s t : ℕ) → AreSortedFrom s (x ∷ xs) → AreMergedAfter x xs → AreSortedFrom t (y ∷ ys) → AreMergedAfter y ys
    → MapAlike (x ∷ xs) (y ∷ ys) → x ≡ y
same_first x xs y ys s t sorted merged sorted_too merged_too alike = same_range x y begin count
  where
    page : x.page ≡ y.page
    page = elim (cases_order x.page y.page) [
      | inl same ↦ same
      | inr (inl less) ↦ absurd (not_below x xs y ys s t sorted sorted_too alike less)
      | inr (inr more) ↦ absurd (not_below y ys x xs t s sorted_too sorted (other_way (x ∷ xs) (y ∷ ys) alike) more)
    ]

    begin : BeginAlike x y
    begin = begin_alike x xs y ys sorted.1 sorted_too.1 alike page

    back : BeginAlike y x
    back = record { page = sym begin.page; first = sym begin.first; kind = sym begin.kind }

    count : x.count ≡ y.count
    count = elim (cases_order x.count y.count) [
      | inl same ↦ same
      | inr (inl less) ↦ absurd (not_shorter x xs y ys sorted.4 merged alike begin less)
      | inr (inr more) ↦ absurd (not_shorter y ys x xs sorted_too.4 merged_too (other_way (x ∷ xs) (y ∷ ys) alike) back more)
    ]

-- one map has one list of sorted, merged ranges
pub one_list : (xs ys : List MapRange) (s t : ℕ) → AreSortedFrom s xs → AreMerged xs → AreSortedFrom t ys → AreMerged ys → MapAlike xs ys → xs ≡ ys
one_list [] [] s t sorted merged sorted_too merged_too alike = refl
one_list [] (y ∷ ys) s t sorted merged sorted_too merged_too alike =
    absurd (none-some (record { frame = y.first + 0; kind = y.kind }) (alike (y.page + 0) ∙ mapped_at y ys 0 sorted_too.1))
one_list (x ∷ xs) [] s t sorted merged sorted_too merged_too alike =
    absurd (none-some (record { frame = x.first + 0; kind = x.kind }) (sym (alike (x.page + 0)) ∙ mapped_at x xs 0 sorted.1))
one_list (x ∷ xs) (y ∷ ys) s t sorted merged sorted_too merged_too alike =
    let same : x ≡ y = same_first x xs y ys s t sorted merged sorted_too merged_too alike in
    ap₂ (λ (r : MapRange) (rs : List MapRange). r ∷ rs) same
    (one_list xs ys (x.page + x.count) (y.page + y.count) sorted.4 (merged_tail x xs merged) sorted_too.4 (merged_tail y ys merged_too) (alike_behind x xs y ys sorted.4 sorted_too.4 alike same))
