-- The strings of a value, one after another.
use Rattle.std.proofs.Common.{◌≡◌, ℕ, ◌==◌, ◌<◌, true, false, ◌&&◌, List, [], ◌∷◌, ◌++◌, length, refl, sym, ap, ◌∙◌, append_assoc, arith}
use Rattle.std.specs.Prelude.{codes}
use Rattle.std.specs.List.{slice_split}
use Rattle.std.proofs.lemmas.List.Splits.{length-slice_split}
use Rattle.fdt_tree.specs.Tree.{Bytes}
use Rattle.fdt_tree.specs.Values.{strings, all_but_last}
use Rattle.source_text.specs.Printed.{behind_marks, quoted, is_string, are_ended_strings, strings_text, joined}
use Rattle.fdt_tree.proofs.StringLists.{all_but_last-cons}

-- The pieces of bytes between NULs.
abbrev pub pieces : Bytes → List Bytes
pieces bytes = slice_split (λ byte. byte == 0) bytes

pub strings-cons : (bytes string after : Bytes) → pieces bytes ≡ string ∷ pieces after → strings bytes ≡ string ∷ strings after
strings-cons bytes string after e =
    ap all_but_last e ∙ all_but_last-cons string (pieces after) (omega (arith, length-slice_split (λ (b : ℕ). b == 0) after))

pub strings-last : (bytes : Bytes) → pieces bytes ≡ bytes ∷ [] → strings bytes ≡ []
strings-last bytes e = ap all_but_last e

-- One more string is added behind a comma.
pub more-strings : (out comma added bytes string after : Bytes) → pieces bytes ≡ string ∷ pieces after → comma ≡ out ++ codes ", " → added ≡ comma ++ quoted string → added ++ behind_marks (codes ", ") quoted (strings after) ≡ out ++ behind_marks (codes ", ") quoted (strings bytes)
more-strings out comma added bytes string after e c a =
    let others : Bytes = behind_marks (codes ", ") quoted (strings after) in
    ap (λ (b : Bytes). b ++ others) (a ∙ ap (λ (b : Bytes). b ++ quoted string) c)
    ∙ (ap (λ (b : Bytes). b ++ others) (append_assoc out (codes ", ") (quoted string))
    ∙ (append_assoc out (codes ", " ++ quoted string) others
    ∙ ap (λ (found : List Bytes). out ++ behind_marks (codes ", ") quoted found) (sym (strings-cons bytes string after e))))

-- No string is left.
pub no-more-strings : (out initial all bytes : Bytes) → pieces bytes ≡ bytes ∷ [] → out ++ behind_marks (codes ", ") quoted (strings bytes) ≡ initial → out ++ [] ≡ initial
no-more-strings out initial all bytes e kept =
    ap (λ (found : List Bytes). out ++ behind_marks (codes ", ") quoted found) (sym (strings-last bytes e)) ∙ kept

-- The first string, and those after it.
pub first-string : (out added last bytes string after : Bytes) → pieces bytes ≡ string ∷ pieces after → added ≡ out ++ quoted string → last ≡ added ++ behind_marks (codes ", ") quoted (strings after) → last ≡ out ++ strings_text bytes
first-string out added last bytes string after e a l =
    l ∙ (ap (λ (b : Bytes). b ++ behind_marks (codes ", ") quoted (strings after)) a
    ∙ (append_assoc out (quoted string) (behind_marks (codes ", ") quoted (strings after))
    ∙ ap (λ (found : List Bytes). out ++ joined (codes ", ") quoted found) (sym (strings-cons bytes string after e))))

ended-cons : (piece : Bytes) (rest : List Bytes) → 0 < length rest → are_ended_strings (piece ∷ rest) ≡ (is_string piece && are_ended_strings rest)
ended-cons piece [] h = absurd (omega arith)
ended-cons piece (next ∷ rest) h = refl

-- The first piece is a string that ends, and so are those after it.
pub ended-first : (bytes string after : Bytes) → pieces bytes ≡ string ∷ pieces after → are_ended_strings (pieces bytes) ≡ (is_string string && are_ended_strings (pieces after))
ended-first bytes string after e =
    ap are_ended_strings e ∙ ended-cons string (pieces after) (omega (arith, length-slice_split (λ (b : ℕ). b == 0) after))

-- The first piece is no string.
pub ended-not : (bytes string after : Bytes) → pieces bytes ≡ string ∷ pieces after → is_string string ≡ false → are_ended_strings (pieces bytes) ≡ false
ended-not bytes string after e n = ended-first bytes string after e ∙ ap (λ b. b && are_ended_strings (pieces after)) n

-- The first piece is a string.
pub ended-yes : (bytes string after : Bytes) → pieces bytes ≡ string ∷ pieces after → is_string string ≡ true → are_ended_strings (pieces bytes) ≡ are_ended_strings (pieces after)
ended-yes bytes string after e y = ended-first bytes string after e ∙ ap (λ b. b && are_ended_strings (pieces after)) y

-- The last piece has no bytes.
pub ended-last : (bytes : Bytes) → pieces bytes ≡ bytes ∷ [] → are_ended_strings (pieces bytes) ≡ (length bytes == 0)
ended-last bytes e = ap are_ended_strings e
