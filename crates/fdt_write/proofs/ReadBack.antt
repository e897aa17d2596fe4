-- What is written is read as what was written.
use Rattle.std.proofs.Common.{◌≡◌, ℕ, ◌+◌, ◌^◌, ◌<◌, ◌≤◌, true, List, [], ◌∷◌, ◌++◌, map, length, drop, flat_map, sym, ap, ◌∙◌, arith, length-append}
use Rattle.std.specs.List.{list_any}
use Rattle.fdt_tree.specs.Tree.{Bytes, Tree}
use Rattle.fdt_tree.specs.declared.reserve.Reserve.{Reserve}
use Rattle.fdt_read.specs.Header.{structure_offset, structure_size, structure_end}
use Rattle.fdt_read.specs.Reservations.{pairs_up_to, pairs, is_last_pair, before_last, reservations, reservations_block, reservations_end}
use Rattle.fdt_read.specs.Tokens.{Token, end, text, tokens_from, tokens}
use Rattle.fdt_read.specs.Spelling.{spelled_whole, root_unnamed, plain, counting}
use Rattle.fdt_read.specs.Spells.{Spells}
use Rattle.fdt_write.specs.Strings.{strings, offset_in, strings_of}
use Rattle.fdt_write.specs.Blocks.{token_bytes, structure_bytes, reservation_bytes}
use Rattle.fdt_write.specs.Flattened.{header_bytes, flattened, length_limit}
use Rattle.fdt_tree.specs.Whole.{IsKept}
use Rattle.fdt_write.specs.Laws.{AreReserves, IsReadBack}
use Rattle.fdt_write.proofs.Texts.{text-at, offset_in-lt}
use Rattle.fdt_write.proofs.TokensRead.{HasStrings, AllComeBack, tokens-read, length-tokens}
use Rattle.fdt_write.proofs.ReservesRead.{pairs-read, ends-at, before_last-at, length-reservations}
use Rattle.fdt_write.proofs.Spelled.{spelled_node, spelled_whole-ends, node-back, all-count, whole-named}
use Rattle.fdt_write.proofs.HeaderRead.{whole_row, length-whole, boot_processor-read, structure_offset-read, structure_size-read, structure_end-read, before_structure, from_structure, length-before_structure, strings_block-read, reservations_block-read, header_fault-none}

module _ (reserves : List Reserve) (boot : ℕ) (t : Tree) (ends : AreReserves reserves) (bounded : boot < 2 ^ 32) (kept : IsKept t) (short : length (whole_row boot (reservation_bytes reserves) (structure_bytes t) (strings_of (strings t))) ≤ length_limit) where
  abbrev whole : Bytes
  whole = whole_row boot (reservation_bytes reserves) (structure_bytes t) (strings_of (strings t))

  abbrev reserved : Bytes
  reserved = reservation_bytes reserves

  abbrev structured : Bytes
  structured = structure_bytes t

  abbrev named : Bytes
  named = strings_of (strings t)

  long : length whole ≡ 40 + length reserved + length structured + length named
  long = length-whole boot reserved structured named bounded short

  pairs-whole : (left : ℕ) × (pairs (reservations_block whole) ≡ reserves ++ record { address = 0; size = 0 } ∷ pairs_up_to left (structured ++ named))
  pairs-whole =
      let block : Bytes = reserved ++ (structured ++ named) in
      let read = pairs-read reserves (structured ++ named) (length block) ends.wide (omega (arith, length-append reserved (structured ++ named), length-reservations reserves)) in
      (read.0, ap pairs (reservations_block-read boot reserved structured named bounded short) ∙ read.1)

  reserves-read : reservations whole ≡ reserves
  reserves-read =
      ap before_last pairs-whole.1 ∙ before_last-at reserves (pairs_up_to pairs-whole.0 (structured ++ named)) ends.not_last

  reserves-end : reservations_end whole ≡ true
  reserves-end =
      ap (list_any is_last_pair) pairs-whole.1 ∙ ends-at reserves (pairs_up_to pairs-whole.0 (structured ++ named))

  has-strings : HasStrings whole (strings t)
  has-strings = record {
    found = λ name h among. ap (λ (b : Bytes). text (drop (offset_in (strings t) name) b)) (strings_block-read boot reserved structured named bounded short) ∙ text-at (strings t) name h among;
    small = λ name among. omega (arith, offset_in-lt (strings t) name among, long);
  }

  back : AllComeBack (strings t) (spelled_node t)
  back = node-back t kept.unnamed kept.names

  tokens-whole : map (λ (u : ℕ × Token). u.1) (tokens whole) ≡ spelled_node t ++ end ∷ []
  tokens-whole =
      let begin = before_structure boot reserved structured named bounded short in
      let spelled : structured ≡ flat_map (token_bytes (strings t)) (spelled_node t ++ end ∷ []) = ap (flat_map (token_bytes (strings t))) (spelled_whole-ends t) in
      let place : structure_offset whole ≡ length begin = structure_offset-read boot reserved structured named bounded short ∙ sym (length-before_structure boot reserved structured named bounded short) in
      let stop : structure_end whole ≡ length begin + length (flat_map (token_bytes (strings t)) (spelled_node t ++ end ∷ [])) =
      omega (arith, structure_end-read boot reserved structured named bounded short, length-before_structure boot reserved structured named bounded short, ap length spelled) in
      let enough : length (spelled_node t) < structure_size whole + 1 =
      omega (arith, structure_size-read boot reserved structured named bounded short, length-tokens (strings t) (spelled_node t) back, ap length spelled) in
      ap (λ n. map (λ (u : ℕ × Token). u.1) (tokens_from (structure_size whole + 1) whole (structure_end whole) n)) place ∙ tokens-read (strings t) (spelled_node t) begin named whole (structure_size whole + 1) (structure_end whole) has-strings back stop (omega (arith, structure_end-read boot reserved structured named bounded short, long)) enough (from_structure boot reserved structured named bounded short ∙ ap (λ (b : Bytes). begin ++ (b ++ named)) spelled)

  counting-whole : counting (tokens whole) ≡ spelled_whole t
  counting-whole =
      ap plain tokens-whole ∙ (ap root_unnamed (all-count (strings t) (spelled_node t) back) ∙ (ap (λ (name : Bytes). root_unnamed (spelled_node (record t { name = name }) ++ end ∷ [])) kept.unnamed ∙ (ap (λ (name : Bytes). spelled_node (record t { name = name }) ++ end ∷ []) (sym kept.unnamed) ∙ sym (spelled_whole-ends t))))

  read_back : Spells whole reserves boot t
  read_back = record {
    header = header_fault-none boot reserved structured named bounded short (omega (arith, length-reservations reserves)) reserves-end;
    reserved = reserves-read;
    processor = boot_processor-read boot reserved structured named bounded short;
    unnamed = kept.unnamed;
    structure = counting-whole;
    names = whole-named t kept.names;
    depth = kept.shallow;
  }

pub is_read_back : IsReadBack
unfolding flattened header_bytes
is_read_back reserves boot t ends bounded kept short = read_back reserves boot t ends bounded kept short
