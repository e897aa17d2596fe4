-- Ranges by where they begin, of which those that begin later end no earlier, as they are searched.
use Rattle.std.proofs.Common.{◌≡◌, ℕ, ◌+◌, ◌<◌, ◌≤◌, ◌⊎◌, inl, inr, ◌&&◌, Bool, true, false, cond, List, [], ◌∷◌, ◌++◌, map, Option, Some, None, refl, sym, ap, ◌∙◌, subst, arith}
use Rattle.std.proofs.lemmas.Grind.{common_steps}
use Rattle.std.specs.Prelude.{find, IsSome}
use Rattle.std.specs.Ordering.{nat_cmp, is_gt, is_lt}
use Rattle.std.specs.Cmp.{nat_cmp_is}
use Rattle.std.specs.declared.cmp.Ordering.TheVariants.{Less}
use Rattle.std.specs.BTreeMap.{get}
use Rattle.std.proofs.lemmas.Map.Keys.{ge_from_not_lt}
use Rattle.texts.specs.declared.ranges.FrameRange.{FrameRange}
use Rattle.frame_alloc.specs.Frames.{is_within}
use Rattle.frame_alloc.specs.Ranges.{holds}
use Rattle.frame_alloc.proofs.CommonFrames.{or_tells, or_left, or_right, within_bounds, holds_one, common_tells}
use Rattle.item_checks.specs.declared.state.Taken.{Taken}
use Rattle.item_checks.specs.PrivateTakings.{Ends, Has, IsCovered, AreRising, IsIndex, AreClear}
use Rattle.item_checks.proofs.EarliestLemmas.{takes_of}

there : (o : Option ℕ) (end : ℕ) → o ≡ Some end → IsSome o
there o end is = subst (λ (p : Option ℕ). IsSome p) (sym is) refl

at_most : (one first : ℕ) → one ≤ first → is_gt (nat_cmp one first) ≡ false
at_most one first h = grind (arith, common_steps)

below : (one end : ℕ) → one < end → nat_cmp one end ≡ Less
below one end h = sym (nat_cmp_is one end Less h)

-- where the greatest range that begins by a frame ends too early, all do
pub all_end : (ends : Ends) (first end key top one last : ℕ) → AreRising ends → Has ends key top → top < end
    → ((q : ℕ) → Unit {0} × (is_gt (nat_cmp q first) ≡ false) → IsSome (get nat_cmp ends q) → is_lt (nat_cmp key q) ≡ false)
    → Has ends one last → one ≤ first → last < end
all_end ends first end key top one last rising here short greatest has by =
    let later : one ≤ key = ge_from_not_lt key one (greatest one (tt, at_most one first by) (there (get nat_cmp ends one) last has)) in
    let ordered : last ≤ top = rising one key last top later has here in
    omega (arith, ordered, short)

-- the frames of a range
pub bounds : (range : FrameRange) (frame : ℕ) → holds (range ∷ []) frame ≡ true → (range.first ≤ frame) × (frame < range.first + range.count)
bounds range frame h = within_bounds range.first range.count frame (sym (holds_one range frame) ∙ h)

-- where the greatest range that begins before the end of some frames ends by their first, none of them is covered
pub clear_past : (ends : Ends) (range : FrameRange) (key top end : ℕ) → AreRising ends → Has ends key top → top ≤ range.first → end ≡ range.first + range.count
    → ((q : ℕ) → Unit {0} × (nat_cmp q end ≡ Less) → IsSome (get nat_cmp ends q) → is_lt (nat_cmp key q) ≡ false) → AreClear ends (range ∷ [])
clear_past ends range key top end rising has short is greatest frame held c =
    let within = bounds range frame held in
    let later : c.0 ≤ key = ge_from_not_lt key c.0 (greatest c.0 (tt, below c.0 end (omega (arith, within.1, c.3, is))) (there (get nat_cmp ends c.0) c.1 c.2)) in
    let ordered : c.1 ≤ top = rising c.0 key c.1 top later c.2 has in
    omega (arith, within.0, c.4, ordered, short)

-- of some ranges, those before an index are clear
pub clear_more : (ends : Ends) (range : FrameRange) (rest : List FrameRange) → AreClear ends (range ∷ []) → AreClear ends rest → AreClear ends (range ∷ rest)
clear_more ends range rest first later frame held c = by_test (or_tells (is_within range.first range.count frame) (holds rest frame) held)
  where
    by_test : (is_within range.first range.count frame ≡ true) ⊎ (holds rest frame ≡ true) → ⊥
    by_test (inl h) = first frame (holds_one range frame ∙ h) c
    by_test (inr h) = later frame h c

pub clear_none : (ends : Ends) → AreClear ends []
clear_none ends frame held c = absurd (cc)

-- where none takes something of ranges, none of another kind does
pub none_of_kind : (test other : Taken → Bool) (taken : List Taken) → find test taken ≡ None → find (λ (one : Taken). other one && test one) taken ≡ None
none_of_kind test other [] none = refl
none_of_kind test other (one ∷ taken) none = by_test (test one) (other one) refl none (λ later. none_of_kind test other taken later)
  where
    by_test : (b c : Bool) → test one ≡ b → cond (test one) (Some one) (find test taken) ≡ None → (find test taken ≡ None → find (λ (x : Taken). other x && test x) taken ≡ None)
        → cond (c && test one) (Some one) (find (λ (x : Taken). other x && test x) taken) ≡ None
    by_test true c is found rest = absurd (let some : Some one ≡ None = sym (ap (λ (b : Bool). cond b (Some one) (find test taken)) is) ∙ found in cc)
    by_test false c is found rest =
        let later : find test taken ≡ None = sym (ap (λ (b : Bool). cond b (Some one) (find test taken)) is) ∙ found in
        ap (λ (b : Bool). cond (c && b) (Some one) (find (λ (x : Taken). other x && test x) taken)) is ∙ (neither c ∙ rest later)
      where
        neither : (c : Bool) → cond (c && false) (Some one) (find (λ (x : Taken). other x && test x) taken) ≡ find (λ (x : Taken). other x && test x) taken
        neither true = refl
        neither false = refl

-- none takes anything of clear ranges
pub none_takes : (ranges : List FrameRange) (taken : List Taken) → ((frame : ℕ) → holds (map (λ (one : Taken). one.range) taken) frame ≡ true → holds ranges frame ≡ true → ⊥)
    → find (takes_of ranges) taken ≡ None
none_takes ranges [] apart = refl
none_takes ranges (one ∷ taken) apart =
    by_test (takes_of ranges one) refl (none_takes ranges taken (λ frame held other. apart frame (or_right (is_within one.range.first one.range.count frame) _ held) other))
  where
    by_test : (b : Bool) → takes_of ranges one ≡ b → find (takes_of ranges) taken ≡ None → cond b (Some one) (find (takes_of ranges) taken) ≡ None
    by_test true is rest = absurd (
        let found = common_tells (one.range ∷ []) ranges is in
        apart found.0 (or_left (is_within one.range.first one.range.count found.0) _ (sym (holds_one one.range found.0) ∙ found.1)) found.2)
    by_test false is rest = rest

-- the ranges cover one thing more
held_last : (taken : List Taken) (one : Taken) (frame : ℕ) → holds (map (λ (other : Taken). other.range) (taken ++ one ∷ [])) frame ≡ true
    → (holds (map (λ (other : Taken). other.range) taken) frame ≡ true) ⊎ (holds (one.range ∷ []) frame ≡ true)
held_last [] one frame held = inr held
held_last (x ∷ taken) one frame held =
    by_test (or_tells (is_within x.range.first x.range.count frame) _ held) (λ later. held_last taken one frame later)
  where
    later_test : (holds (map (λ (other : Taken). other.range) taken) frame ≡ true) ⊎ (holds (one.range ∷ []) frame ≡ true)
        → (holds (map (λ (other : Taken). other.range) (x ∷ taken)) frame ≡ true) ⊎ (holds (one.range ∷ []) frame ≡ true)
    later_test (inl h) = inl (or_right (is_within x.range.first x.range.count frame) _ h)
    later_test (inr h) = inr h

    by_test : (is_within x.range.first x.range.count frame ≡ true) ⊎ (holds (map (λ (other : Taken). other.range) (taken ++ one ∷ [])) frame ≡ true)
        → (holds (map (λ (other : Taken). other.range) (taken ++ one ∷ [])) frame ≡ true → (holds (map (λ (other : Taken). other.range) taken) frame ≡ true) ⊎ (holds (one.range ∷ []) frame ≡ true))
        → (holds (map (λ (other : Taken). other.range) (x ∷ taken)) frame ≡ true) ⊎ (holds (one.range ∷ []) frame ≡ true)
    by_test (inl h) rest = inl (or_left (is_within x.range.first x.range.count frame) _ h)
    by_test (inr h) rest = later_test (rest h)

pub index_more : (old new : Ends) (before after : List Taken) (one : Taken) → IsIndex old before → AreRising new → ((frame : ℕ) → IsCovered old frame → IsCovered new frame)
    → ((frame : ℕ) → holds (one.range ∷ []) frame ≡ true → IsCovered new frame) → after ≡ before ++ one ∷ [] → IsIndex new after
index_more old new before after one index rising kept covered added = record {
  rising = rising;
  covers = λ frame held. by_test frame (held_last before one frame (subst (λ (taken : List Taken). holds (map (λ (other : Taken). other.range) taken) frame ≡ true) added held));
}
  where
    by_test : (frame : ℕ) → (holds (map (λ (other : Taken). other.range) before) frame ≡ true) ⊎ (holds (one.range ∷ []) frame ≡ true) → IsCovered new frame
    by_test frame (inl h) = kept frame (index.covers frame h)
    by_test frame (inr h) = covered frame h
