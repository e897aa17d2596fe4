-- Images in which nothing is found walk as their plans map, and their tables are apart from each other and from all that is mapped.
use Rattle.std.proofs.Common.{◌≡◌, ◌≢◌, ◌∙◌, refl, sym, ap, subst, ℕ, zero, suc, ◌+◌, ◌-◌, ◌/◌, ◌^◌, ◌<◌, ◌≤◌, ◌⊎◌, ◌||◌, Bool, true, false, cond, eqb, List, [], ◌∷◌, ◌++◌, append-nil, append_assoc, Option, Some, None, arith, inl, inr, true≢false}
use Rattle.std.specs.Prelude.{option_map, Result, IsTrue, All, find}
use Rattle.std.specs.List.{list_any}
use Rattle.std.specs.Option.{option_or}
use Rattle.std.proofs.lemmas.Bool.{cases_order}
use Rattle.std.proofs.lemmas.Bool.Decides.{eqb_tells}
use Rattle.std.proofs.lemmas.List.Elements.{All-head, All-tail}
use Rattle.std.proofs.lemmas.Option.{same_Some}
use Rattle.std.proofs.lemmas.List.Folds.{list_any-append}
use Rattle.texts.specs.Consecutive.{is_in}
use Rattle.described.specs.Maps.{Target, target_of, holds_page, AreMapRanges, AreMerged}
use Rattle.outside.specs.Outside.{File}
use Rattle.described.specs.declared.map_range.MapRange.{MapRange}
use Rattle.described.proofs.RunLemmas.{holds_tells}
use Rattle.frame_alloc.specs.Frames.{is_within}
use Rattle.frame_alloc.proofs.FreeFrames.{is_in_nil, is_in_cons}
use Rattle.frame_alloc.proofs.CommonFrames.{within_tells, or_left, or_right, or_none}
use Rattle.stage2_walk.specs.Pages.{Page, frames_of}
use Rattle.stage2_walk.specs.Files.{image_of}
use Rattle.stage2_walk.specs.Runs.{map_of}
use Rattle.stage2_walk.specs.declared.image_fault.ImageFault.{ImageFault}
use Rattle.stage2_tables.specs.Translation.{translated}
use Rattle.domain_plan.specs.declared.planned.GuestPlan.{GuestPlan}
use Rattle.guest_images.specs.Walks.{walked, WalksAsDescribed, AllWalk, frame_of, tables_in, tables_of, AreApart}
use Rattle.domain_plan.specs.Apart.{target_in, ArePlannedApart}
use Rattle.guest_images.proofs.WalksApart.{reached_from, images_meet, images_share}
use Rattle.image_audit.specs.Findings.{planned_map, first_difference, difference, tear, table_where, is_mapped}
use Rattle.image_audit.specs.Texts.{frame_text, table_mapped, table_shared}
use Rattle.image_audit.specs.Audits.{has_table, IsSound, AreAudited, FindsNothing}
use Rattle.image_audit.proofs.FirstDifference.{agree_where_none}
use Rattle.image_audit.proofs.PageWalks.{walks_as_planned}

-- ---- nothing is found

none_first : (one other : Option (List ℕ)) → option_or one other ≡ None → one ≡ None
none_first None other e = refl
none_first (Some text) other e = absurd (cc)

none_second : (one other : Option (List ℕ)) → option_or one other ≡ None → other ≡ None
none_second None other e = e
none_second (Some text) other e = absurd (cc)

none_mapped : {A : Type 0} (f : A → List ℕ) (o : Option A) → option_map f o ≡ None → o ≡ None
none_mapped f None e = refl
none_mapped f (Some x) e = absurd (cc)

-- no number of a list passes a test that finds none
none_passes : (test : ℕ → Bool) (xs : List ℕ) → find test xs ≡ None → (x : ℕ) → is_in xs x ≡ true → test x ≡ false
none_passes test [] none x there = absurd (true≢false (sym there ∙ is_in_nil x))
none_passes test (y ∷ ys) none x there = by (test y) refl none (eqb_tells y x) (sym (is_in_cons x y ys) ∙ there) (λ rest. none_passes test ys rest x)
  where
    by : (b : Bool) → test y ≡ b → cond b (Some y) (find test ys) ≡ None → ((eqb y x ≡ true) × (y ≡ x)) ⊎ ((eqb y x ≡ false) × (y ≢ x)) → (eqb y x || is_in ys x) ≡ true → (find test ys ≡ None → is_in ys x ≡ true → test x ≡ false) → test x ≡ false
    by true pass e at here rest = absurd (cc)
    by false fail e (inl h) here rest = ap test (sym h.1) ∙ fail
    by false fail e (inr h) here rest = rest e (rw h.0 at here)

module _ (mapped earlier : ℕ → Bool) (ranges : List MapRange) (bytes : List ℕ) (sound : IsSound mapped earlier ranges bytes) where
  abbrev tables : Option (List ℕ)
  tables = option_or (table_where table_mapped mapped sound.pages) (table_where table_shared earlier sound.pages)

  behind_tear : option_or (difference ranges sound.pages sound.root) tables ≡ None
  behind_tear = none_second (tear sound.pages sound.root) _ sound.nothing_found

  no_tables : tables ≡ None
  no_tables = none_second (difference ranges sound.pages sound.root) tables behind_tear

  its_tables : tables_in (image_of bytes) ≡ frames_of sound.pages
  its_tables = ap tables_in sound.image

  table_there : (frame : ℕ) → is_in (tables_in (image_of bytes)) frame ≡ true → is_in (frames_of sound.pages) frame ≡ true
  table_there frame there = ap (λ (frames : List ℕ). is_in frames frame) (sym its_tables) ∙ there

  -- so each page goes as it is planned
  pages_agree : AreMapRanges ranges → AreMerged ranges → (page : ℕ) → page < 2 ^ 28 → map_of sound.pages sound.root page ≡ planned_map ranges page
  unfolding difference
  pages_agree sorted merged =
      agree_where_none sound.pages sound.root ranges sorted merged (none_mapped _ (first_difference (map_of sound.pages sound.root) (planned_map ranges)) (none_first (difference ranges sound.pages sound.root) tables behind_tear))

  -- no table lies in a frame that is mapped
  not_mapped : (frame : ℕ) → is_in (tables_in (image_of bytes)) frame ≡ true → mapped frame ≡ false
  unfolding table_where
  not_mapped frame there =
      none_passes mapped (frames_of sound.pages) (none_mapped (frame_text table_mapped) (find mapped (frames_of sound.pages)) (none_first (table_where table_mapped mapped sound.pages) (table_where table_shared earlier sound.pages) no_tables)) frame (table_there frame there)

  -- and none in one of an earlier image
  not_earlier : (frame : ℕ) → is_in (tables_in (image_of bytes)) frame ≡ true → earlier frame ≡ false
  unfolding table_where
  not_earlier frame there =
      none_passes earlier (frames_of sound.pages) (none_mapped (frame_text table_shared) (find earlier (frames_of sound.pages)) (none_second (table_where table_mapped mapped sound.pages) (table_where table_shared earlier sound.pages) no_tables)) frame (table_there frame there)

  sound_walks : (plan : GuestPlan) → plan.ranges ≡ ranges → AreMapRanges ranges → AreMerged ranges → WalksAsDescribed plan bytes
  sound_walks plan same sorted merged address low =
      ap (λ (read : Result (ℕ × List Page) ImageFault). walked read address) sound.image
      ∙ walks_as_planned sound.pages sound.root ranges (pages_agree sorted merged) address low
      ∙ ap (λ (ranges : List MapRange). translated address (target_of ranges (address / 2 ^ 12))) (sym same)

-- ---- all images

-- images are sound one after the other
abbrev AllSound : List GuestPlan → List (List ℕ) → List GuestPlan → List (List ℕ) → Type 0
AllSound plans before [] images = images ≡ []
AllSound plans before (plan ∷ later) [] = ⊥
AllSound plans before (plan ∷ later) (image ∷ images) = IsSound (is_mapped plans) (has_table before) plan.ranges image × AllSound plans (before ++ image ∷ []) later images

module _ (told : Option (List File)) (folder : Option (List ℕ)) (plans : List GuestPlan) where
  all_sound : (before : List (List ℕ)) (later : List GuestPlan) (images : List (List ℕ)) → AreAudited told folder plans before later images → (rest : List (List ℕ)) × (images ≡ before ++ rest) × AllSound plans before later rest
  all_sound before [] images are = ([], are ∙ sym (append-nil before), refl)
  all_sound before (plan ∷ later) images are =
      let rest = all_sound (before ++ are.0 ∷ []) later images are.2 in
      (are.0 ∷ rest.0, rest.1 ∙ append_assoc before (are.0 ∷ []) rest.0, (are.1.sound, rest.2))

module _ (plans : List GuestPlan) where
  all_walk : (before : List (List ℕ)) (later : List GuestPlan) (images : List (List ℕ)) → All (λ plan. AreMapRanges plan.ranges) later → All (λ plan. AreMerged plan.ranges) later → AllSound plans before later images → AllWalk later images
  all_walk before [] images sorted merged are = are
  all_walk before (plan ∷ later) [] sorted merged are = elim are [ ]
  all_walk before (plan ∷ later) (image ∷ images) sorted merged are = (
    sound_walks (is_mapped plans) (has_table before) plan.ranges image are.0 plan refl (All-head (λ (plan : GuestPlan). AreMapRanges plan.ranges) plan later sorted) (All-head (λ (plan : GuestPlan). AreMerged plan.ranges) plan later merged),
    all_walk (before ++ image ∷ []) later images (All-tail (λ (plan : GuestPlan). AreMapRanges plan.ranges) plan later sorted) (All-tail (λ (plan : GuestPlan). AreMerged plan.ranges) plan later merged) are.1,
  )

  -- a table of any of them is in no frame that is mapped
  no_table_mapped : (before : List (List ℕ)) (later : List GuestPlan) (images : List (List ℕ)) → AllSound plans before later images → (n frame : ℕ) → is_in (tables_of images n) frame ≡ true → is_mapped plans frame ≡ false
  no_table_mapped before [] images are n frame there = absurd (true≢false (sym there ∙ ap (λ (xs : List (List ℕ)). is_in (tables_of xs n) frame) are ∙ is_in_nil frame))
  no_table_mapped before (plan ∷ later) [] are n frame there = elim are [ ]
  no_table_mapped before (plan ∷ later) (image ∷ images) are zero frame there = not_mapped (is_mapped plans) (has_table before) plan.ranges image are.0 frame there
  no_table_mapped before (plan ∷ later) (image ∷ images) are (suc n) frame there = no_table_mapped (before ++ image ∷ []) later images are.1 n frame there

  has-last : (before : List (List ℕ)) (image : List ℕ) (frame : ℕ) → has_table (before ++ image ∷ []) frame ≡ (has_table before frame || (is_in (tables_in (image_of image)) frame || false))
  has-last before image frame = list_any-append (λ (image : List ℕ). is_in (tables_in (image_of image)) frame) before (image ∷ [])

  -- nor in one of the images before
  no_table_before : (before : List (List ℕ)) (later : List GuestPlan) (images : List (List ℕ)) → AllSound plans before later images → (n frame : ℕ) → is_in (tables_of images n) frame ≡ true → has_table before frame ≡ false
  no_table_before before [] images are n frame there = absurd (true≢false (sym there ∙ ap (λ (xs : List (List ℕ)). is_in (tables_of xs n) frame) are ∙ is_in_nil frame))
  no_table_before before (plan ∷ later) [] are n frame there = elim are [ ]
  no_table_before before (plan ∷ later) (image ∷ images) are zero frame there = not_earlier (is_mapped plans) (has_table before) plan.ranges image are.0 frame there
  no_table_before before (plan ∷ later) (image ∷ images) are (suc n) frame there =
      (or_none (has_table before frame) (is_in (tables_in (image_of image)) frame || false) (sym (has-last before image frame) ∙ no_table_before (before ++ image ∷ []) later images are.1 n frame there)).0

  -- so no two images have a table in one frame
  tables_apart : (before : List (List ℕ)) (later : List GuestPlan) (images : List (List ℕ)) → AllSound plans before later images → (n m frame : ℕ) → n < m → is_in (tables_of images n) frame ≡ true → is_in (tables_of images m) frame ≡ true → ⊥
  tables_apart before [] images are n m frame less one other = true≢false (sym one ∙ ap (λ (xs : List (List ℕ)). is_in (tables_of xs n) frame) are ∙ is_in_nil frame)
  tables_apart before (plan ∷ later) [] are n m frame less one other = elim are [ ]
  tables_apart before (plan ∷ later) (image ∷ images) are n zero frame less one other = absurd (omega arith)
  tables_apart before (plan ∷ later) (image ∷ images) are zero (suc m) frame less one other =
      let none = or_none (has_table before frame) (is_in (tables_in (image_of image)) frame || false) (sym (has-last before image frame) ∙ no_table_before (before ++ image ∷ []) later images are.1 m frame other) in
      true≢false (sym one ∙ (or_none (is_in (tables_in (image_of image)) frame) false none.1).0)
  tables_apart before (plan ∷ later) (image ∷ images) are (suc n) (suc m) frame less one other = tables_apart (before ++ image ∷ []) later images are.1 n m frame (omega arith) one other

-- ---- a frame that some plan maps

within_it : (first count frame : ℕ) → first ≤ frame → frame < first + count → is_within first count frame ≡ true
within_it first count frame low high = elim (within_tells first count frame) [
  | inl h ↦ h.0
  | inr h ↦ absurd (elim h.1 [ inl below ↦ omega arith | inr above ↦ omega arith ])
]

abbrev any_range : List MapRange → ℕ → Bool
any_range ranges frame = list_any (λ (range : MapRange). is_within range.first range.count frame) ranges

same_frame : (one other : Target) → Some one ≡ Some other → one.frame ≡ other.frame
same_frame one other e = ap (λ (target : Target). target.frame) (same_Some one other e)

mapped_by : (ranges : List MapRange) (page : ℕ) (target : Target) → target_of ranges page ≡ Some target → any_range ranges target.frame ≡ true
mapped_by [] page target e = absurd (cc)
mapped_by (range ∷ ranges) page target e = by (holds_tells range page) (mapped_by ranges page target)
  where
    by : ((holds_page range page ≡ true) × (range.page ≤ page) × (page < range.page + range.count)) ⊎ ((holds_page range page ≡ false) × ((page < range.page) ⊎ (range.page + range.count ≤ page)))
        → (target_of ranges page ≡ Some target → any_range ranges target.frame ≡ true) → any_range (range ∷ ranges) target.frame ≡ true
    by (inl h) rest =
        let here : range.first + (page - range.page) ≡ target.frame = same_frame (record { frame = range.first + (page - range.page); kind = range.kind }) target (rw h.0 at e) in
        or_left (is_within range.first range.count target.frame) (any_range ranges target.frame) (within_it range.first range.count target.frame (omega arith) (omega arith))
    by (inr h) rest = or_right (is_within range.first range.count target.frame) (any_range ranges target.frame) (rest (rw h.0 at e))

planned_mapped : (plans : List GuestPlan) (n page : ℕ) (target : Target) → target_in plans n page ≡ Some target → is_mapped plans target.frame ≡ true
planned_mapped [] n page target e = absurd (cc)
planned_mapped (plan ∷ plans) zero page target e = or_left (any_range plan.ranges target.frame) (is_mapped plans target.frame) (mapped_by plan.ranges page target e)
planned_mapped (plan ∷ plans) (suc n) page target e = or_right (any_range plan.ranges target.frame) (is_mapped plans target.frame) (planned_mapped plans n page target e)

-- ---- what an audit promises

not_true : (b : Bool) → (b ≡ true → ⊥) → b ≡ false
not_true true never = absurd (never refl)
not_true false never = refl

module _ (plans : List GuestPlan) (images : List (List ℕ)) (walks : AllWalk plans images) (are : AllSound plans [] plans images) where
  unreached : (one other here frame : ℕ) → here < 2 ^ 40 → IsTrue (is_in (tables_of images one) frame) → frame_of images other here ≢ Some frame
  unreached one other here frame low table e =
      let at = reached_from plans images walks other here frame low e in
      true≢false (sym (planned_mapped plans other _ at.0 at.1) ∙ ap (is_mapped plans) at.2 ∙ no_table_mapped plans [] plans images are one frame table)

  alone : (one other frame : ℕ) → one ≢ other → IsTrue (is_in (tables_of images one) frame) → is_in (tables_of images other) frame ≡ false
  alone one other frame differ table = not_true (is_in (tables_of images other) frame) (λ there. by there (cases_order one other))
    where
      by : is_in (tables_of images other) frame ≡ true → (one ≡ other) ⊎ ((one < other) ⊎ (other < one)) → ⊥
      by there (inl same) = differ same
      by there (inr (inl less)) = tables_apart plans [] plans images are one other frame less table there
      by there (inr (inr more)) = tables_apart plans [] plans images are other one frame more there table

  are_apart : (common : ℕ → ℕ → ℕ → Bool) (free : List ℕ) → ArePlannedApart common plans free → AreApart images
  are_apart common free apart = record { shared = images_share plans images walks common free apart; unmapped = unreached; tables = alone }

pub audit_of : (told : Option (List File)) (folder : Option (List ℕ)) (plans : List GuestPlan) (images : List (List ℕ)) → All (λ plan. AreMapRanges plan.ranges) plans → All (λ plan. AreMerged plan.ranges) plans → AreAudited told folder plans [] plans images
    → FindsNothing told folder plans
audit_of told folder plans images sorted merged audited =
    let found = all_sound told folder plans [] plans images audited in
    let are : AllSound plans [] plans images = subst (AllSound plans [] plans) (sym found.1) found.2 in
    let walks = all_walk plans [] plans images sorted merged are in
    record {
      images = images;
      audited = audited;
      walks = walks;
      meet = λ common free apart. images_meet plans images walks common free apart;
      apart = are_apart plans images walks are;
    }
