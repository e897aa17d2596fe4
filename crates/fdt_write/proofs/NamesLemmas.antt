-- Names that are added, and their offsets.
use Rattle.std.proofs.Common.{◌≡◌, ℕ, ◌+◌, true, false, cond, ◌||◌, List, [], ◌∷◌, ◌++◌, Option, Some, None, length, Bor, refl, sym, ap, ◌∙◌, subst, arith, length-append}
use Rattle.std.specs.BTreeMap.{BTreeMap, get, Updates}
use Rattle.std.specs.Str.{bytes_eq}
use Rattle.std.specs.Option.{is_some}
use Rattle.std.proofs.lemmas.Bool.{false≢true, or_parts, cond-false}
use Rattle.std.proofs.lemmas.List.{append-nil, map-append}
use Rattle.std.proofs.lemmas.Map.Text.{is_eq-slice_cmp}
use Rattle.std.proofs.lemmas.Slice.Eq.{bytes_eq-Decides}
use Rattle.fdt_tree.specs.Tree.{Bytes}
use Rattle.fdt_write.specs.Strings.{is_among, firsts, offset_in, ended, strings_of}
use Rattle.fdt_write.specs.PrivateNames.{saturated, texts, with_name, offset_of, name_cmp, IsIndex}
use Rattle.fdt_tree.proofs.PhandleLemmas.{same_Bool, or-shuffle}

-- It does not matter which name comes first.
bytes_eq-swap : (a b : Bytes) → bytes_eq a b ≡ bytes_eq b a
bytes_eq-swap a b =
    same_Bool (bytes_eq a b) (bytes_eq b a) (λ e. (bytes_eq-Decides b a).1 (sym ((bytes_eq-Decides a b).0 e))) (λ e. (bytes_eq-Decides a b).1 (sym ((bytes_eq-Decides b a).0 e)))

-- The offset of a name after so many bytes, if it is among these.
abbrev offset_after : ℕ → List Bytes → Bytes → Option ℕ
offset_after start names name = cond (is_among names name) (Some (saturated (start + offset_in names name))) None

offset_after-last : (names : List Bytes) (start : ℕ) (name q : Bytes) → is_among names name ≡ false → offset_after start (names ++ name ∷ []) q ≡ cond (bytes_eq name q) (Some (saturated (start + length (strings_of names)))) (offset_after start names q)
offset_after-last [] start name q absent =
    elim (bytes_eq name q) as (λ b. cond (b || false) (Some (saturated (start + cond b 0 (length name + 1 + 0)))) None ≡ cond b (Some (saturated (start + 0))) None) [ true ↦ refl | false ↦ refl ]
offset_after-last (first ∷ rest) start name q absent =
    let parts = or_parts (bytes_eq first name) (is_among rest name) absent in
    let onward : ℕ = start + (length first + 1) in
    let more : List Bytes = rest ++ name ∷ [] in
    let block : onward + length (strings_of rest) ≡ start + length (strings_of (first ∷ rest)) = omega (arith, length-append (ended first) (strings_of rest), length-append first (0 ∷ [])) in
    let shift : (names : List Bytes) → start + (length first + 1 + offset_in names q) ≡ onward + offset_in names q = λ names. omega arith in
    elim (bytes_eq first q) as (λ b. bytes_eq first q ≡ b → cond (b || is_among more q) (Some (saturated (start + cond b 0 (length first + 1 + offset_in more q)))) None ≡ cond (bytes_eq name q) (Some (saturated (start + length (strings_of (first ∷ rest))))) (cond (b || is_among rest q) (Some (saturated (start + cond b 0 (length first + 1 + offset_in rest q)))) None)) [
      | true ↦ λ same. let other : bytes_eq name q ≡ false = ap (bytes_eq name) (sym ((bytes_eq-Decides first q).0 same)) ∙ (bytes_eq-swap name first ∙ parts.0) in
          sym (cond-false (bytes_eq name q) (Some (saturated (start + length (strings_of (first ∷ rest))))) (Some (saturated (start + 0))) other)
      | false ↦ λ other. ap (λ n. cond (is_among more q) (Some (saturated n)) None) (shift more) ∙ (offset_after-last rest onward name q parts.1 ∙ (ap (λ n. cond (bytes_eq name q) (Some (saturated n)) (offset_after onward rest q)) block ∙ ap (λ n. cond (bytes_eq name q) (Some (saturated (start + length (strings_of (first ∷ rest))))) (cond (is_among rest q) (Some (saturated n)) None)) (sym (shift rest))))
    ] refl

from-none : (names : List Bytes) (q : Bytes) → offset_after 0 names q ≡ offset_of names q
from-none names q =
    let start : 0 + offset_in names q ≡ offset_in names q = omega arith in
    ap (λ n. cond (is_among names q) (Some (saturated n)) None) start

-- A new last name begins where the others end.
offset_of-last : (names : List Bytes) (name q : Bytes) → is_among names name ≡ false → offset_of (names ++ name ∷ []) q ≡ cond (bytes_eq name q) (Some (saturated (length (strings_of names)))) (offset_of names q)
offset_of-last names name q absent =
    let start : 0 + length (strings_of names) ≡ length (strings_of names) = omega arith in
    sym (from-none (names ++ name ∷ []) q) ∙ (offset_after-last names 0 name q absent ∙ (ap (λ n. cond (bytes_eq name q) (Some (saturated n)) (offset_after 0 names q)) start ∙ ap (λ o. cond (bytes_eq name q) (Some (saturated (length (strings_of names)))) o) (from-none names q)))

-- The index with a new last name.
indexed-more : (old new : BTreeMap (Bor (List ℕ)) ℕ) (names : List Bytes) (name : Bor (List ℕ)) (size : ℕ) → IsIndex old names → Updates name_cmp old new name (Some size) → is_among names name.now ≡ false → size ≡ saturated (length (strings_of names)) → IsIndex new (names ++ name.now ∷ [])
indexed-more old new names name size indexed updates absent sized =
    λ q. updates.0 q ∙ (ap (λ b. cond b (Some size) (get name_cmp old q)) (is_eq-slice_cmp name.now q.now) ∙ (ap (λ o. cond (bytes_eq name.now q.now) (Some size) o) (indexed q) ∙ (ap (λ n. cond (bytes_eq name.now q.now) (Some n) (offset_of names q.now)) sized ∙ sym (offset_of-last names name.now q.now absent))))

-- One name more takes its length and one byte.
pub length-strings_push : (names : List Bytes) (name : Bytes) → length (strings_of (names ++ name ∷ [])) ≡ length (strings_of names) + (length name + 1)
length-strings_push [] name =
    omega (arith, length-append (ended name) [], length-append name (0 ∷ []))
length-strings_push (first ∷ rest) name =
    omega (arith, length-append (ended first) (strings_of (rest ++ name ∷ [])), length-append (ended first) (strings_of rest), length-strings_push rest name)

-- A later name is one of the first, unless it was seen.
firsts-more : (seen names : List Bytes) (name : Bytes) → firsts seen (names ++ name ∷ []) ≡ firsts seen names ++ cond (is_among seen name || is_among (firsts seen names) name) [] (name ∷ [])
firsts-more seen [] name =
    elim (is_among seen name) as (λ b. cond b [] (name ∷ []) ≡ cond (b || false) [] (name ∷ [])) [ true ↦ refl | false ↦ refl ]
firsts-more seen (first ∷ rest) name =
    elim (is_among seen first) as (λ b. cond b (firsts seen (rest ++ name ∷ [])) (first ∷ firsts (first ∷ seen) (rest ++ name ∷ [])) ≡ cond b (firsts seen rest) (first ∷ firsts (first ∷ seen) rest) ++ cond (is_among seen name || is_among (cond b (firsts seen rest) (first ∷ firsts (first ∷ seen) rest)) name) [] (name ∷ [])) [
      | true ↦ firsts-more seen rest name
      | false ↦ ap (λ (ns : List Bytes). first ∷ ns) (firsts-more (first ∷ seen) rest name ∙ ap (λ b. firsts (first ∷ seen) rest ++ cond b [] (name ∷ [])) (or-shuffle (bytes_eq first name) (is_among seen name) (is_among (firsts (first ∷ seen) rest) name)))
    ]

pub firsts-push : (names : List Bytes) (name : Bytes) → firsts [] (names ++ name ∷ []) ≡ with_name (firsts [] names) name
firsts-push names name =
    firsts-more [] names name ∙ (elim (is_among (firsts [] names) name) as (λ b. firsts [] names ++ cond b [] (name ∷ []) ≡ cond b (firsts [] names) (firsts [] names ++ name ∷ [])) [ true ↦ append-nil (firsts [] names) | false ↦ refl ])

-- The names with one more, which was not there.
pub record IsAdded (before after : List (Bor (List ℕ))) (index : BTreeMap (Bor (List ℕ)) ℕ) (name : Bytes) (total : ℕ) : Type 0 where
  pub indexed : IsIndex index (texts after)
  pub sized : total ≡ saturated (length (strings_of (texts after)))
  pub names : texts after ≡ with_name (texts before) name

among-none : (names : List Bytes) (name : Bytes) (result : Option ℕ) → is_some result ≡ false → result ≡ offset_of names name → is_among names name ≡ false
among-none names name result missing found =
    elim (is_among names name) as (λ b. result ≡ cond b (Some (saturated (offset_in names name))) None → b ≡ false) [
      | true ↦ λ e. absurd (false≢true (sym missing ∙ ap is_some e))
      | false ↦ λ e. refl
    ] found

pub added : (before after : List (Bor (List ℕ))) (old new : BTreeMap (Bor (List ℕ)) ℕ) (name : Bor (List ℕ)) (size longer total : ℕ) (result : Option ℕ) → false ≡ is_some result → result ≡ offset_of (texts before) name.now → after ≡ before ++ name ∷ [] → Updates name_cmp old new name (Some size) → IsIndex old (texts before) → size ≡ saturated (length (strings_of (texts before))) → longer ≡ saturated (size + length name.now) → total ≡ saturated (longer + 1) → IsAdded before after new name.now total
added before after old new name size longer total result missing found last updates indexed sized more most =
    let absent : is_among (texts before) name.now ≡ false = among-none (texts before) name.now result (sym missing) found in
    let names : texts after ≡ texts before ++ name.now ∷ [] = ap texts last ∙ map-append (λ (n : Bor (List ℕ)). n.now) before (name ∷ []) in
    record {
      indexed = subst (λ (ns : List Bytes). IsIndex new ns) (sym names) (indexed-more old new (texts before) name size indexed updates absent sized);
      sized = (let h : total ≡ saturated (length (strings_of (texts before)) + (length name.now + 1)) = omega arith in h) ∙ ap saturated (sym (length-strings_push (texts before) name.now) ∙ ap (λ (ns : List Bytes). length (strings_of ns)) (sym names));
      names = names ∙ sym (cond-false (is_among (texts before) name.now) (texts before) (texts before ++ name.now ∷ []) absent);
    }
