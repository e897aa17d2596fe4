-- What is appended in parts is appended whole.
use Rattle.std.proofs.Common.{◌≡◌, ◌++◌, Result, Ok, Err, OnOk, ap, ◌∙◌, append_assoc}
use Rattle.fdt_tree.specs.Tree.{Bytes}

-- A fact from a fact, where a call succeeds.
pub OnOk-then : {T E : Type 0} (result : Result T E) (P Q : Type 0) → (P → Q) → OnOk result P → OnOk result Q
OnOk-then (Ok x) P Q f h = f h
OnOk-then (Err e) P Q f h = h

pub two-parts : (start first second one two : Bytes) → one ≡ start ++ first → two ≡ one ++ second → two ≡ start ++ (first ++ second)
two-parts start first second one two f s = s ∙ (ap (λ (b : Bytes). b ++ second) f ∙ append_assoc start first second)

pub four-parts : {T E : Type 0} (result : Result T E) (start first second third fourth one two three four : Bytes) → one ≡ start ++ first → two ≡ one ++ second → three ≡ two ++ third → OnOk result (four ≡ three ++ fourth) → OnOk result (four ≡ start ++ (first ++ (second ++ (third ++ fourth))))
four-parts result start first second third fourth one two three four a b c d =
    OnOk-then result (four ≡ three ++ fourth) (four ≡ start ++ (first ++ (second ++ (third ++ fourth)))) (λ e. two-parts start first (second ++ (third ++ fourth)) one four a (two-parts one second (third ++ fourth) two four b (two-parts two third fourth three four c e))) d
