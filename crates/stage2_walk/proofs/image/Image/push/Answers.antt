use Rattle.std.proofs.Common.{get_or, cond, ◌≤◌, ◌<◌, Bool, ◌≡◌, ℕ, ◌+◌, ◌*◌, true, List, [], ◌∷◌, ◌++◌, length, replicate, Option, None, Some, refl, sym, ap, subst, ◌∙◌, arith, vec_len}
use Rattle.std.specs.List.{insert}
use Rattle.std.proofs.lemmas.List.Edits.{length-insert}
use Rattle.std.specs.Prelude.{IsNone}
use Rattle.std.specs.Result.{is_ok}
use Rattle.std.specs.Vec.{with_items}
use Rattle.std.proofs.lemmas.List.{with_items_is}
use Rattle.stage2_walk.specs.Pages.{Page, page_of, pages_at, number_at, blank_page}
use Rattle.stage2_walk.specs.Places.{place_in}
use Rattle.stage2_walk.specs.ImageViews.{image_view, IsIndex}
use Rattle.stage2_walk.specs.TableImages.{TableImage}
use Rattle.stage2_walk.specs.declared.places.Place.{Place}
use Rattle.stage2_walk.proofs.PageLemmas.{IsWritten, page_of-found}
use Rattle.stage2_walk.proofs.PushLemmas.{IsPushed, grown_is, pages_at-pushed, IsIndex-pushed}
use Rattle.stage2_walk.proofs.image.Image.push.Goals as goal

grown : (c : goal.After-insert) → c.resize.new.self.items ≡ c.self.inside.bytes.items ++ replicate {A = ℕ} 4104 0
grown c =
    let i = c.self.inside in
    let room : 0 < (image_view i).spare = subst (λ (image : TableImage). 0 < image.spare) (sym c.self.view_is) c.requires.room in
    let had : vec_len i.bytes ≡ length i.bytes.items = omega (arith, i.bytes.ok.0) in
    let fine : is_ok c.resize.result ≡ true = c.resize.ensures.succeeds (omega arith) in
    grown_is (is_ok c.resize.result) i.bytes.items c.resize.new.self.items (c.len-end.result + 4104) (vec_len i.bytes) fine c.resize.ensures.items (omega (arith, i.bytes.ok.0)) had

-- the entry of the new page
abbrev entry : (c : goal.After-insert) → Place
entry c = record { frame = c.args.frame; place = length c.self.inside.index.items }

indexed : (c : goal.After-insert) → c.insert.new.self.items ≡ insert c.self.inside.index.items c.count_below-at.result (entry c)
indexed c =
    let i = c.self.inside in
    let room : 0 < (image_view i).spare = subst (λ (image : TableImage). 0 < image.spare) (sym c.self.view_is) c.requires.room in
    let fine : is_ok c.insert.result ≡ true = c.insert.ensures.succeeds (omega arith) in
    let at : c.len-place.result ≡ length i.index.items = omega (arith, i.index.ok.0) in
    c.insert.ensures.items
    ∙ ap (λ (b : Bool). cond b (insert i.index.items c.count_below-at.result (record { frame = c.args.frame; place = c.len-place.result })) i.index.items) fine
    ∙ ap (λ (n : ℕ). insert i.index.items c.count_below-at.result (record { frame = c.args.frame; place = n })) at

is_pushed : (c : goal.After-insert) → IsPushed c.self.inside.bytes.items c.write_number.new.bytes (length c.self.inside.index.items) c.args.frame
is_pushed c =
    let i = c.self.inside in
    let whole : length i.bytes.items ≡ 4104 * length i.index.items = c.self.invariant.indexed.bytes_whole in
    let at : c.len-end.result ≡ 4104 * length i.index.items = omega (arith, i.bytes.ok.0) in
    let was : c.deref_mut.result.now ≡ i.bytes.items ++ replicate {A = ℕ} 4104 0 = c.deref_mut.ensures.value ∙ grown c in
    let put : IsWritten (i.bytes.items ++ replicate {A = ℕ} 4104 0) c.write_number.new.bytes c.len-end.result c.args.frame = record {
      written = c.write_number.ensures.written;
      before = λ o h. c.write_number.ensures.before o h ∙ ap (λ (bytes : List ℕ). number_at bytes o) was;
      after = λ o h. c.write_number.ensures.after o h ∙ ap (λ (bytes : List ℕ). number_at bytes o) was;
      same_length = c.write_number.ensures.same_length ∙ ap (λ (bytes : List ℕ). length bytes) was;
    } in
    record { written = subst (λ (place : ℕ). IsWritten (i.bytes.items ++ replicate {A = ℕ} 4104 0) c.write_number.new.bytes place c.args.frame) at put; whole = whole }

fresh : (c : goal.After-insert) → place_in c.self.inside.index.items c.args.frame ≡ None
fresh c = by_place (place_in c.self.inside.index.items c.args.frame) refl
  where
    by_place : (o : Option ℕ) → place_in c.self.inside.index.items c.args.frame ≡ o → place_in c.self.inside.index.items c.args.frame ≡ None
    by_place None at = at
    by_place (Some k) at =
        let i = c.self.inside in
        let none : IsNone (page_of (image_view i).pages c.args.frame) = subst (λ (image : TableImage). IsNone (page_of image.pages c.args.frame)) (sym c.self.view_is) c.requires.fresh in
        let found = page_of-found i.bytes.items i.index.items c.self.invariant.indexed c.args.frame k at in
        absurd (let some = subst IsNone found none in cc)

stored : (c : goal.After-insert) → (with_items c.resize.new.self c.write_number.new.bytes).items ≡ c.write_number.new.bytes
stored c = with_items_is c.resize.new.self c.write_number.new.bytes (c.write_number.ensures.same_length ∙ c.deref_mut.ensures.len)

fits : (c : goal.After-insert) → c.count_below-at.result ≤ length c.self.inside.index.items
fits c = omega (arith, c.count_below-at.ensures.within, ap (λ (places : List Place). length places) c.deref.ensures.value)

pub returns-clause-pages : goal.returns-clause-pages
returns-clause-pages c =
    let i = c.self.inside in
    let count : length c.insert.new.self.items ≡ length i.index.items + 1 = ap (λ (places : List Place). length places) (indexed c) ∙ length-insert i.index.items c.count_below-at.result (entry c) (fits c) in
    let old : pages_at i.bytes.items 0 (length i.index.items) ≡ c.args.self.now.pages = ap (λ (image : TableImage). image.pages) c.self.view_is in
    ap (λ (bytes : List ℕ). pages_at bytes 0 (length c.insert.new.self.items)) (stored c)
    ∙ ap (pages_at c.write_number.new.bytes 0) count
    ∙ pages_at-pushed i.bytes.items c.write_number.new.bytes (length i.index.items) c.args.frame (is_pushed c)
    ∙ ap (λ (pages : List Page). pages ++ blank_page c.args.frame ∷ []) old

pub invariant_of-self : goal.invariant_of-self
invariant_of-self c =
    let i = c.self.inside in
    let was : c.deref.result.now ≡ i.index.items = c.deref.ensures.value in
    let below : (k : ℕ) (d : Place) → k < c.count_below-at.result → (get_or i.index.items k d).frame < c.args.frame =
    (λ k d low. subst (λ (places : List Place). (get_or places k d).frame < c.args.frame) was (c.count_below-at.ensures.below k d (omega arith) low)) in
    let above : (k : ℕ) (d : Place) → c.count_below-at.result ≤ k → k < length i.index.items → c.args.frame ≤ (get_or i.index.items k d).frame =
    (λ k d high late. subst (λ (places : List Place). c.args.frame ≤ (get_or places k d).frame) was (c.count_below-at.ensures.above k d high (subst (λ (places : List Place). k < length places) (sym was) late))) in
    let now : IsIndex c.write_number.new.bytes (insert i.index.items c.count_below-at.result (entry c)) =
    IsIndex-pushed i.bytes.items c.write_number.new.bytes i.index.items c.args.frame c.count_below-at.result c.self.invariant.indexed (fresh c) c.requires.low (fits c) below above (is_pushed c) in
    record {
      even = c.self.invariant.even;
      low = c.self.invariant.low;
      indexed = subst (λ (bytes : List ℕ). IsIndex bytes c.insert.new.self.items) (sym (stored c)) (subst (IsIndex c.write_number.new.bytes) (sym (indexed c)) now);
    }
