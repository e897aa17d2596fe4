-- How far the names of a strings block go, and where they lie in the file.
use Rattle.std.proofs.Common.{◌≡◌, ℕ, suc, zero, ◌+◌, ◌-◌, ◌^◌, ◌<◌, ◌≤◌, ◌==◌, true, cond, not, List, [], ◌∷◌, Some, None, option_map, length, take, drop, get_or, refl, sym, ap, ◌∙◌, arith}
use Rattle.std.specs.Prelude.{slice_range}
use Rattle.std.proofs.lemmas.Bool.{lt-ltb, le-ltb}
use Rattle.std.proofs.lemmas.List.{length-drop, length-take-le, take-take, drop-take, drop-drop}
use Rattle.std.proofs.lemmas.List.Sums.{prefix_len-le-length}
use Rattle.fdt_tree.specs.Tree.{Bytes}
use Rattle.fdt_read.specs.Built.{has_no_nul}
use Rattle.fdt_read.specs.PrivateStrings.{length_before_nul, lengths_of, AreLengths}
use Rattle.fdt_read.specs.Tokens.{text}
use Rattle.fdt_read.proofs.Texts.{prefix_passes}

-- No more bytes stand before a NUL than there are.
pub at_most : (bytes : Bytes) (k : ℕ) → length_before_nul (drop k bytes) ≤ length bytes - k
at_most bytes k =
    omega (arith, prefix_len-le-length (λ (c : ℕ). not (c == 0)) (drop k bytes), length-drop k bytes)

-- The length that is listed for a byte is that of the text which it begins.
listed : (bytes : Bytes) (k d : ℕ) → k < length bytes → get_or (lengths_of bytes) k d ≡ length_before_nul (drop k bytes)
listed [] k d h = absurd (omega arith)
listed (b ∷ bytes) zero d h = refl
listed (b ∷ bytes) (suc k) d h = listed bytes k d (omega arith)

length-lengths : (bytes : Bytes) → length (lengths_of bytes) ≡ length bytes
length-lengths [] = refl
length-lengths (b ∷ bytes) = ap suc (length-lengths bytes)

-- The lengths of a part of a file.
pub measured : (file bytes : Bytes) (start size : ℕ) (lengths : List ℕ) → bytes ≡ file → start + size ≤ length file → start + size < 2 ^ 64 → lengths ≡ lengths_of (slice_range bytes start (start + size)) → (length lengths ≡ size) × AreLengths file start lengths
measured file bytes start size lengths e w s k =
    let back : start + size - start ≡ size = omega arith in
    let listing : lengths ≡ lengths_of (take size (drop start file)) = k ∙ (ap (λ z. lengths_of (slice_range z start (start + size))) e ∙ ap (λ z. lengths_of (take z (drop start file))) back) in
    let long : length lengths ≡ size = ap length listing ∙ (length-lengths (take size (drop start file)) ∙ length-take-le size (drop start file) (omega (arith, w, length-drop start file))) in (
      long,
      record {
        within = omega (arith, w, long);
        short = omega (arith, s, long);
        known = listing ∙ ap (λ z. lengths_of (take z (drop start file))) (sym long);
      },
    )

-- A text that ends is what stands before its NUL, and one that does not end is none.
ends : (bytes : Bytes) (n : ℕ) → n ≡ length_before_nul bytes → n < length bytes → Some (take n bytes) ≡ text bytes
ends bytes n e h =
    sym (ap (λ b. option_map (λ k. take k bytes) (cond b (Some (length_before_nul bytes)) None)) (lt-ltb (length_before_nul bytes) (length bytes) (omega (arith, e, h))) ∙ ap (λ k. Some (take k bytes)) (sym e))

runs_out : (bytes : Bytes) (n : ℕ) → n ≡ length_before_nul bytes → length bytes ≤ n → None ≡ text bytes
runs_out bytes n e h =
    sym (ap (λ b. option_map (λ k. take k bytes) (cond b (Some (length_before_nul bytes)) None)) (le-ltb (length_before_nul bytes) (length bytes) (omega (arith, e, h))))

module _ (file : Bytes) (start : ℕ) (lengths : List ℕ) (offset n : ℕ) (a : AreLengths file start lengths) (h : offset < length lengths) (e : n ≡ get_or lengths offset n) where
  abbrev block : Bytes
  block = take (length lengths) (drop start file)

  whole : length block ≡ length lengths
  whole = length-take-le (length lengths) (drop start file) (omega (arith, a.within, length-drop start file))

  known : n ≡ length_before_nul (drop offset block)
  known = e ∙ (ap (λ z. get_or z offset n) a.known ∙ listed block offset n (omega (arith, h, whole)))

  left : length (drop offset block) ≡ length lengths - offset
  left = length-drop offset block ∙ ap (λ k. k - offset) whole

  -- What is left of the block at an offset is found in the file.
  placed : n ≤ length lengths - offset → take n (drop offset block) ≡ slice_range file (start + offset) (start + offset + n)
  placed g =
      let split : offset + (length lengths - offset) ≡ length lengths = omega (arith, h) in let size : start + offset + n - (start + offset) ≡ n = omega arith in
      ap (λ k. take n (drop offset (take k (drop start file)))) (sym split) ∙ (ap (take n) (drop-take offset (length lengths - offset) (drop start file)) ∙ (take-take n (length lengths - offset) (drop offset (drop start file)) g ∙ (ap (take n) (drop-drop offset start file) ∙ ap (λ k. take k (drop (start + offset) file)) (sym size))))

  -- A name that ends before the block does is that part of the file.
  pub name_found : n < length lengths - offset → Some (slice_range file (start + offset) (start + offset + n)) ≡ text (drop offset block)
  name_found g = ap Some (sym (placed (omega (arith, g)))) ∙ ends (drop offset block) n known (omega (arith, g, left))

  pub name_missing : length lengths - offset ≤ n → None ≡ text (drop offset block)
  name_missing g = runs_out (drop offset block) n known (omega (arith, g, left))

  -- A name that ends before the block does has no NUL.
  pub name_ended : n < length lengths - offset → has_no_nul (slice_range file (start + offset) (start + offset + n)) ≡ true
  name_ended g =
      ap has_no_nul (sym (placed (omega (arith, g)))) ∙ (ap (λ k. has_no_nul (take k (drop offset block))) known ∙ prefix_passes (λ c. not (c == 0)) (drop offset block))
