-- The header that was written is read, and the blocks lie where it says.
use Rattle.std.proofs.Common.{◌≡◌, ℕ, ◌+◌, ◌%◌, ◌^◌, ◌<◌, ◌≤◌, Bool, true, false, ltb, eqb, not, List, [], ◌∷◌, ◌++◌, Some, None, length, take, drop, flat_map, refl, sym, ap, ◌∙◌, arith, append_assoc, length-append}
use Rattle.std.proofs.lemmas.List.{drop_at, take_all}
use Rattle.std.proofs.lemmas.Bool.{le-ltb, eq-eqb, not_from_true, or_from, cond-false}
use Rattle.fdt_tree.specs.Tree.{Bytes}
use Rattle.fdt_read.specs.declared.fault.FdtFault.{FdtFault}
use Rattle.fdt_read.specs.declared.fault.FdtFault.TheVariants.{Bounds}
use Rattle.fdt_read.specs.Header.{magic, total_size, structure_offset, structure_size, structure_end, strings_offset, strings_size, strings_end, strings_block, reservations_offset, version, last_compatible_version, boot_processor}
use Rattle.fdt_read.specs.Reservations.{reservations_block, reservations_end}
use Rattle.texts.specs.Rows.{first_that_applies}
use Rattle.fdt_read.specs.Refusals.{layout_rows, is_reservations_fault, header_fault}
use Rattle.fdt_write.specs.Blocks.{word_bytes}
use Rattle.fdt_write.specs.Flattened.{header_words}
use Rattle.fdt_write.proofs.Words.{word-row, length-row}

-- No row applies.
abbrev IsClear : List (Bool × FdtFault) → Type 0
IsClear [] = Unit {0}
IsClear (row ∷ rows) = (row.0 ≡ false) × IsClear rows

first_row-clear : (rows : List (Bool × FdtFault)) → IsClear rows → first_that_applies rows ≡ None
first_row-clear [] clear = refl
first_row-clear (row ∷ rows) clear = cond-false row.0 (Some row.1) (first_that_applies rows) clear.0 ∙ first_row-clear rows clear.1

not-is : (a b : ℕ) → a ≡ b → not (eqb a b) ≡ false
not-is a b e = not_from_true (eqb a b) (eq-eqb a b e)

-- The header as a row of words, and the blocks.
abbrev pub whole_row : ℕ → Bytes → Bytes → Bytes → Bytes
whole_row boot reserved structured named =
    flat_map word_bytes (header_words boot (length reserved) (length structured) (length named)) ++ (reserved ++ (structured ++ named))

module _ (boot : ℕ) (reserved structured named : Bytes) (bounded : boot < 2 ^ 32) (short : length (whole_row boot reserved structured named) ≤ 2097152) where
  abbrev whole : Bytes
  whole = whole_row boot reserved structured named

  abbrev words : List ℕ
  words = header_words boot (length reserved) (length structured) (length named)

  abbrev blocks : Bytes
  blocks = reserved ++ (structured ++ named)

  length-header : length (flat_map word_bytes words) ≡ 40
  length-header = length-row words

  pub length-whole : length whole ≡ 40 + length reserved + length structured + length named
  length-whole =
      omega (arith, length-header, length-append (flat_map word_bytes words) blocks, length-append reserved (structured ++ named), length-append structured named)

  pub magic-read : magic whole ≡ 0xd00dfeed
  magic-read = word-row words blocks 0 0xd00dfeed refl (omega arith)

  pub total_size-read : total_size whole ≡ length whole
  total_size-read =
      word-row words blocks 1 (40 + length reserved + length structured + length named) refl (omega (arith, length-whole)) ∙ sym length-whole

  pub structure_offset-read : structure_offset whole ≡ 40 + length reserved
  structure_offset-read = word-row words blocks 2 (40 + length reserved) refl (omega (arith, length-whole))

  pub strings_offset-read : strings_offset whole ≡ 40 + length reserved + length structured
  strings_offset-read =
      word-row words blocks 3 (40 + length reserved + length structured) refl (omega (arith, length-whole))

  pub reservations_offset-read : reservations_offset whole ≡ 40
  reservations_offset-read = word-row words blocks 4 40 refl (omega arith)

  pub version-read : version whole ≡ 17
  version-read = word-row words blocks 5 17 refl (omega arith)

  pub last_compatible_version-read : last_compatible_version whole ≡ 16
  last_compatible_version-read = word-row words blocks 6 16 refl (omega arith)

  pub boot_processor-read : boot_processor whole ≡ boot
  boot_processor-read = word-row words blocks 7 boot refl bounded

  pub strings_size-read : strings_size whole ≡ length named
  strings_size-read = word-row words blocks 8 (length named) refl (omega (arith, length-whole))

  pub structure_size-read : structure_size whole ≡ length structured
  structure_size-read = word-row words blocks 9 (length structured) refl (omega (arith, length-whole))

  pub structure_end-read : structure_end whole ≡ 40 + length reserved + length structured
  structure_end-read = omega (arith, structure_offset-read, structure_size-read)

  pub strings_end-read : strings_end whole ≡ length whole
  strings_end-read = omega (arith, strings_offset-read, strings_size-read, length-whole)

  -- What stands from the structure block on, after what stands before it.
  abbrev pub before_structure : Bytes
  before_structure = flat_map word_bytes words ++ reserved

  pub from_structure : whole ≡ before_structure ++ (structured ++ named)
  from_structure = sym (append_assoc (flat_map word_bytes words) reserved (structured ++ named))

  pub length-before_structure : length before_structure ≡ 40 + length reserved
  length-before_structure = omega (arith, length-header, length-append (flat_map word_bytes words) reserved)

  pub strings_block-read : strings_block whole ≡ named
  strings_block-read =
      let from_strings : whole ≡ (before_structure ++ structured) ++ named = from_structure ∙ sym (append_assoc before_structure structured named) in
      let before : length (before_structure ++ structured) ≡ strings_offset whole = omega (arith, length-append before_structure structured, length-before_structure, strings_offset-read) in
      ap (λ (b : Bytes). take (strings_size whole) (drop (strings_offset whole) b)) from_strings ∙ (ap (take (strings_size whole)) (drop_at (before_structure ++ structured) named (strings_offset whole) before) ∙ take_all (strings_size whole) named (omega (arith, strings_size-read)))

  pub reservations_block-read : reservations_block whole ≡ blocks
  reservations_block-read =
      ap (drop (reservations_offset whole)) (take_all (total_size whole) whole (omega (arith, total_size-read))) ∙ drop_at (flat_map word_bytes words) blocks (reservations_offset whole) (omega (arith, length-header, reservations_offset-read))

  -- The header has no fault, where the reservations end and the structure block begins at a multiple of four.
  pub header_fault-none : (40 + length reserved) % 4 ≡ 0 → reservations_end whole ≡ true → header_fault whole ≡ None
  header_fault-none aligned ends =
      let long : 40 ≤ length whole = omega (arith, length-whole) in
      first_row-clear (layout_rows whole ++ (is_reservations_fault whole, Bounds 16) ∷ []) (or_from (ltb (length whole) 4) (not (eqb (magic whole) 0xd00dfeed)) (le-ltb (length whole) 4 (omega arith)) (not-is (magic whole) 0xd00dfeed magic-read), (le-ltb (length whole) 40 long, (or_from (ltb (version whole) 17) (ltb 17 (last_compatible_version whole)) (le-ltb (version whole) 17 (omega (arith, version-read))) (le-ltb 17 (last_compatible_version whole) (omega (arith, last_compatible_version-read))), (or_from (ltb (total_size whole) 40) (ltb (length whole) (total_size whole)) (le-ltb (total_size whole) 40 (omega (arith, total_size-read))) (le-ltb (length whole) (total_size whole) (omega (arith, total_size-read))), (or_from (not (eqb (structure_offset whole % 4) 0)) (ltb (total_size whole) (structure_end whole)) (not-is (structure_offset whole % 4) 0 (ap (λ n. n % 4) structure_offset-read ∙ aligned)) (le-ltb (total_size whole) (structure_end whole) (omega (arith, total_size-read, structure_end-read, length-whole))), (le-ltb (total_size whole) (strings_end whole) (omega (arith, total_size-read, strings_end-read)), (or_from (not (eqb (reservations_offset whole % 8) 0)) (not (reservations_end whole)) (not-is (reservations_offset whole % 8) 0 (ap (λ n. n % 8) reservations_offset-read)) (not_from_true (reservations_end whole) ends), tt)))))))
