-- How the paths of open nodes change where a node begins.
use Rattle.std.proofs.Common.{◌≡◌, ℕ, suc, ◌==◌, true, false, List, [], ◌∷◌, ◌++◌, length, reverse, take, refl, sym, ap, ◌∙◌, append_assoc, arith}
use Rattle.std.specs.Prelude.{codes}
use Rattle.std.proofs.Math.Seq.{take-append_seam}
use Rattle.std.proofs.lemmas.Bool.{eqb-true}
use Rattle.std.proofs.lemmas.List.{reverse-append, length-reverse}
use Rattle.fdt_tree.specs.Tree.{Bytes}
use Rattle.fdt_write.specs.Opened.{path_below, paths, path_inside, shown}

-- A path of no bytes is shown as `/`.
pub shown-root : (opened others : List Bytes) (held path : Bytes) (lengths : List ℕ) → opened ≡ paths held lengths → opened ≡ path ∷ others → (length held == 0) ≡ true → codes "/" ≡ shown path
shown-root opened others [] path [] o e empty = absurd (cc)
shown-root opened others [] path (above ∷ lengths) o e empty = let same : [] ≡ path = cc in ap shown same
shown-root opened others (byte ∷ held) path lengths o e empty =
    absurd (omega (arith, eqb-true (length (byte ∷ held)) 0 empty))

-- A path of some bytes is shown as it is.
pub shown-path : (opened others : List Bytes) (held path : Bytes) (lengths : List ℕ) → opened ≡ paths held lengths → opened ≡ path ∷ others → (length held == 0) ≡ false → held ≡ shown path
shown-path opened others held path [] o e some = absurd (cc)
shown-path opened others [] path (above ∷ lengths) o e some = absurd (cc)
shown-path opened others (byte ∷ held) path (above ∷ lengths) o e some = let same : byte ∷ held ≡ path = cc in ap shown same

-- One more length is the first in reverse.
reverse-push : (lengths more : List ℕ) (above : ℕ) → more ≡ lengths ++ above ∷ [] → reverse more ≡ above ∷ reverse lengths
reverse-push lengths more above e = ap reverse e ∙ reverse-append lengths (above ∷ [])

-- No lengths: a root begins.
pub root-opened : (held path name : Bytes) (lengths more : List ℕ) (above : ℕ) → (length lengths == 0) ≡ true → path ≡ [] → more ≡ lengths ++ above ∷ [] → paths path (reverse more) ≡ path_inside (paths held (reverse lengths)) name ∷ paths held (reverse lengths)
root-opened held path name [] more above none e pushed =
    ap (λ (ns : List ℕ). paths path (reverse ns)) pushed ∙ ap (λ (p : Bytes). p ∷ []) e
root-opened held path name (first ∷ lengths) more above none e pushed =
    absurd (omega (arith, eqb-true (length (first ∷ lengths)) 0 none))

-- A node begins inside the one of the held path.
inside-held : (held name : Bytes) (lengths : List ℕ) → (length lengths == 0) ≡ false → path_inside (paths held lengths) name ≡ path_below held name
inside-held held name [] some = absurd (cc)
inside-held held name (above ∷ lengths) some = refl

-- The path of the node above is the first part of the path of a node.
take-above : (held name path : Bytes) (above : ℕ) → above ≡ length held → path ≡ path_below held name → take above path ≡ held
take-above held name path above a p =
    ap (λ n. take n path) a ∙ (ap (take (length held)) (p ∙ append_assoc held (codes "/") name) ∙ take-append_seam held (codes "/" ++ name))

-- Some lengths: a node begins inside another.
pub node-opened : (held path name : Bytes) (lengths more : List ℕ) (above : ℕ) → (length lengths == 0) ≡ false → above ≡ length held → path ≡ path_below held name → more ≡ lengths ++ above ∷ [] → paths path (reverse more) ≡ path_inside (paths held (reverse lengths)) name ∷ paths held (reverse lengths)
node-opened held path name lengths more above some a p pushed =
    let reversed : (length (reverse lengths) == 0) ≡ false = ap (λ n. n == 0) (length-reverse lengths) ∙ some in
    ap (paths path) (reverse-push lengths more above pushed)
    ∙ (ap (λ (q : Bytes). path ∷ paths q (reverse lengths)) (take-above held name path above a p)
    ∙ ap (λ (q : Bytes). q ∷ paths held (reverse lengths)) (p ∙ sym (inside-held held name (reverse lengths) reversed)))

-- There are as many paths as lengths.
pub length-paths : (path : Bytes) (lengths : List ℕ) → length (paths path lengths) ≡ length lengths
length-paths path [] = refl
length-paths path (above ∷ lengths) = ap suc (length-paths (take above path) lengths)

pub no-paths : (path : Bytes) (lengths : List ℕ) → (length lengths == 0) ≡ (length (paths path (reverse lengths)) == 0)
no-paths path lengths = ap (λ n. n == 0) (sym (length-paths path (reverse lengths) ∙ length-reverse lengths))
