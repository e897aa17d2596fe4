-- Names that were written are read: those of nodes where they stand, those of properties by their offset.
use Rattle.std.proofs.Common.{◌≡◌, ℕ, suc, ◌+◌, ◌-◌, ◌<◌, Bool, true, false, cond, ltb, not, ◌==◌, ◌||◌, List, [], ◌∷◌, ◌++◌, Some, None, option_map, length, take, drop, refl, sym, ap, ◌∙◌, arith, append_assoc, length-append}
use Rattle.std.specs.List.{list_all, position_or_len}
use Rattle.std.specs.Str.{bytes_eq}
use Rattle.std.proofs.lemmas.List.{take_at}
use Rattle.std.proofs.lemmas.Bool.{and_parts, lt-ltb, cond-true}
use Rattle.std.proofs.lemmas.Slice.Eq.{bytes_eq-Decides}
use Rattle.std.proofs.Math.Seq.{take-append-add}
use Rattle.fdt_tree.specs.Tree.{Bytes}
use Rattle.fdt_read.specs.Tokens.{text}
use Rattle.fdt_write.specs.Strings.{is_among, offset_in, ended, strings_of}
use Rattle.fdt_write.proofs.Words.{drop_past}

-- Whether a name has no NUL.
abbrev pub no_nul : Bytes → Bool
no_nul name = list_all (λ byte. not (byte == 0)) name

position-ended : (name after : Bytes) → no_nul name ≡ true → position_or_len (λ byte. byte == 0) (name ++ 0 ∷ after) ≡ length name
position-ended [] after h = refl
position-ended (byte ∷ name) after h =
    let parts = and_parts (not (byte == 0)) (no_nul name) h in
    let counted : 1 + length name ≡ suc (length name) = omega arith in
    cond-true (not (byte == 0)) (1 + position_or_len (λ byte. byte == 0) (name ++ 0 ∷ after)) 0 parts.0 ∙ (ap (λ n. 1 + n) (position-ended name after parts.1) ∙ counted)

-- A name ends at its NUL.
pub text-ended : (name after : Bytes) → no_nul name ≡ true → text (name ++ 0 ∷ after) ≡ Some name
text-ended name after h =
    let whole : Bytes = name ++ 0 ∷ after in
    let at : length name < length whole = omega (arith, length-append name (0 ∷ after)) in
    let found : ltb (length name) (length whole) ≡ true = lt-ltb (length name) (length whole) at in
    ap (λ n. option_map (λ k. take k whole) (cond (ltb n (length whole)) (Some n) None)) (position-ended name after h) ∙ (ap (option_map (λ k. take k whole)) (cond-true (ltb (length name) (length whole)) (Some (length name)) None found) ∙ ap Some (take_at name (0 ∷ after) (length name) refl))

-- The same where the rest is cut after the NUL.
pub text-cut : (name after : Bytes) (n : ℕ) → no_nul name ≡ true → length name < n → text (take n (name ++ 0 ∷ after)) ≡ Some name
text-cut name after n h lt =
    let m : ℕ = n - (length name + 1) in
    let at : n ≡ length name + suc m = omega arith in
    ap (λ k. text (take k (name ++ 0 ∷ after))) at ∙ (ap text (take-append-add name (0 ∷ after) (suc m)) ∙ text-ended name (take m after) h)

bytes_eq-same : (name : Bytes) → bytes_eq name name ≡ true
bytes_eq-same name = (bytes_eq-Decides name name).1 refl

-- A name is read at its offset in the strings block.
pub text-at : (names : List Bytes) (name : Bytes) → no_nul name ≡ true → is_among names name ≡ true → text (drop (offset_in names name) (strings_of names)) ≡ Some name
text-at [] name h among = absurd (cc)
text-at (first ∷ rest) name h among =
    elim (bytes_eq first name) as (λ same. bytes_eq first name ≡ same → text (drop (cond same 0 (length first + 1 + offset_in rest name)) (ended first ++ strings_of rest)) ≡ Some name) [
      | true ↦ λ e. let same : first ≡ name = (bytes_eq-Decides first name).0 e in
          ap (λ (f : Bytes). text (f ++ strings_of rest)) (ap ended same) ∙ (ap text (append_assoc name (0 ∷ []) (strings_of rest)) ∙ text-ended name (strings_of rest) h)
      | false ↦ λ e.
          let others : is_among rest name ≡ true = ap (λ b. b || is_among rest name) (sym e) ∙ among in
          let past : drop (length first + 1 + offset_in rest name) (ended first ++ strings_of rest) ≡ drop (offset_in rest name) (strings_of rest) =
          ap (λ n. drop (n + offset_in rest name) (ended first ++ strings_of rest)) (sym (length-append first (0 ∷ []))) ∙ drop_past (ended first) (strings_of rest) (offset_in rest name) in
          ap text past ∙ text-at rest name h others
    ] refl

-- A name stands within the strings block.
pub offset_in-lt : (names : List Bytes) (name : Bytes) → is_among names name ≡ true → offset_in names name < length (strings_of names)
offset_in-lt [] name among = absurd (cc)
offset_in-lt (first ∷ rest) name among =
    elim (bytes_eq first name) as (λ same. bytes_eq first name ≡ same → cond same 0 (length first + 1 + offset_in rest name) < length (ended first ++ strings_of rest)) [
      | true ↦ λ e. omega (arith, length-append (ended first) (strings_of rest), length-append first (0 ∷ []))
      | false ↦ λ e.
          let others : is_among rest name ≡ true = ap (λ b. b || is_among rest name) (sym e) ∙ among in
          omega (arith, length-append (ended first) (strings_of rest), length-append first (0 ∷ []), offset_in-lt rest name others)
    ] refl
