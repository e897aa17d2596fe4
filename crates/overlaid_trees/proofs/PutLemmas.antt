-- Words that are put in their place.
use Rattle.std.proofs.Common.{◌≡◌, ◌∙◌, ap, sym, subst, refl, ℕ, ◌-◌, ◌^◌, ◌<◌, ◌≤◌, min, length, take, drop, [], ◌∷◌, Bool, true, false, Option, Some, None, option_map, arith}
use Rattle.std.specs.Prelude.{option_and_then, nat_lt, is_some, slice_index_or, IfSome}
use Rattle.std.proofs.Math.Seq.{take-length}
use Rattle.std.specs.Int.{w32, from_be_bytes}
use Rattle.std.proofs.lemmas.Bool.Decides.{nat_tests}
use Rattle.fdt_tree.specs.Tree.{Bytes, Tree, Place, edit, change_properties, property_of, find_place}
use Rattle.fdt_tree.specs.PathEdits.{set_property}
use Rattle.fdt_tree.specs.Document.{Document, place_of, properties_of, with_properties}
use Rattle.indexed_tree.specs.Words.{with_word}
use Rattle.overlaid_trees.specs.Words.{moved, word_at, replaced, with_moved, with_all_moved}
use Rattle.overlaid_trees.specs.Values.{changed_at}
use Rattle.fdt_nodes.specs.Nodes.{properties_at}
use Rattle.overlaid_trees.specs.Resolve.{with_spot}
use Rattle.overlaid_trees.proofs.ShiftLemmas.{changed-some, at-found}
use Rattle.overlaid_trees.proofs.SetLemmas.{changed-next, changed-stop, changed-missing, changed-end}
use Rattle.overlaid_trees.proofs.SpotLemmas.{replaced-past, replaced-within}
use Rattle.overlaid_trees.proofs.WordLemmas.{turn-some, turn-none, at-end, left-over}

module _ (d : Document) (node : ℕ) (name : Bytes) (offset : ℕ) where
  -- a word that lies there is put
  pub word-put : (e : Document) (word number : ℕ) (change : Bytes → Option Bytes) → Some word ≡ option_and_then (λ value. word_at value offset) (property_of (properties_of d node) name) → ((value : Bytes) → property_of (properties_of d node) name ≡ Some value → word_at value offset ≡ Some word → change value ≡ Some (with_word value offset number)) → ((value : Bytes) → property_of (properties_of d node) name ≡ Some value → e ≡ with_properties d (place_of d node) (set_property name (with_word value offset number))) → changed_at d.tree (place_of d node) name change ≡ Some e.tree
  word-put e word number change is ok done = by (property_of (properties_of d node) name) refl is
    where
      by : (o : Option Bytes) → property_of (properties_of d node) name ≡ o → Some word ≡ option_and_then (λ value. word_at value offset) o → changed_at d.tree (place_of d node) name change ≡ Some e.tree
      by None there is = absurd (cc)
      by (Some value) there is =
          changed-some d e node name value (with_word value offset number) (with_word value offset number) change (sym there) (ok value there (sym is)) refl (done value there)

  -- no word lies there, or one that cannot be put
  pub word-missing : (found : Option ℕ) (change : Bytes → Option Bytes) → found ≡ option_and_then (λ value. word_at value offset) (property_of (properties_of d node) name) → ((value : Bytes) → property_of (properties_of d node) name ≡ Some value → word_at value offset ≡ found → change value ≡ None) → changed_at d.tree (place_of d node) name change ≡ None
  word-missing found change is stuck = by (property_of (properties_of d node) name) refl is
    where
      written : Bytes → Tree
      written bytes = edit (change_properties (set_property name bytes)) d.tree (place_of d node)

      by : (o : Option Bytes) → property_of (properties_of d node) name ≡ o → found ≡ option_and_then (λ value. word_at value offset) o → changed_at d.tree (place_of d node) name change ≡ None
      by None there is = ap (λ o. option_map written (option_and_then change o)) there
      by (Some value) there is = ap (λ o. option_map written (option_and_then change o)) there ∙ ap (option_map written) (stuck value there (sym is))

-- a word that stays a phandle is moved
pub word-moved : (d e : Document) (node : ℕ) (name : Bytes) (offset by word sum : ℕ) → Some word ≡ option_and_then (λ value. word_at value offset) (property_of (properties_of d node) name) → Some sum ≡ moved by word → ((value : Bytes) → property_of (properties_of d node) name ≡ Some value → e ≡ with_properties d (place_of d node) (set_property name (with_word value offset sum))) → changed_at d.tree (place_of d node) name (λ value. with_moved by value offset) ≡ Some e.tree
word-moved d e node name offset by word sum is more done =
    word-put d node name offset e word sum (λ value. with_moved by value offset) is (λ value there at. ap (λ o. option_map (with_word value offset) (option_and_then (moved by) o)) at ∙ ap (option_map (with_word value offset)) (sym more)) done

-- another is not
pub word-stays : (d : Document) (node : ℕ) (name : Bytes) (offset by word : ℕ) → Some word ≡ option_and_then (λ value. word_at value offset) (property_of (properties_of d node) name) → None ≡ moved by word → changed_at d.tree (place_of d node) name (λ value. with_moved by value offset) ≡ None
word-stays d node name offset by word is past =
    word-missing d node name offset (Some word) (λ value. with_moved by value offset) is (λ value there at. ap (λ o. option_map (with_word value offset) (option_and_then (moved by) o)) at ∙ ap (option_map (with_word value offset)) (sym past))

-- nor one that does not lie there
pub word-gone : (d : Document) (node : ℕ) (name : Bytes) (offset by : ℕ) → None ≡ option_and_then (λ value. word_at value offset) (property_of (properties_of d node) name) → changed_at d.tree (place_of d node) name (λ value. with_moved by value offset) ≡ None
word-gone d node name offset by is =
    word-missing d node name offset None (λ value. with_moved by value offset) is (λ value there at. ap (λ o. option_map (with_word value offset) (option_and_then (moved by) o)) at)

module _ (by a b c d : ℕ) (later : Bytes) (whole : Tree) (place : Place) (name : Bytes) where
  -- the first of the words that offsets list is moved, and the others are left
  pub words-next : (made : Tree) → changed_at whole place name (λ value. with_moved by value (from_be_bytes w32 (a ∷ b ∷ c ∷ d ∷ []))) ≡ Some made → changed_at whole place name (with_all_moved by (a ∷ b ∷ c ∷ d ∷ later)) ≡ changed_at made place name (with_all_moved by later)
  words-next made done =
      changed-next whole made place name (λ value. with_moved by value (from_be_bytes w32 (a ∷ b ∷ c ∷ d ∷ []))) (with_all_moved by (a ∷ b ∷ c ∷ d ∷ later)) (with_all_moved by later) (λ value new is. turn-some by a b c d later value new is) done

  -- it is not
  pub words-stop : changed_at whole place name (λ value. with_moved by value (from_be_bytes w32 (a ∷ b ∷ c ∷ d ∷ []))) ≡ None → changed_at whole place name (with_all_moved by (a ∷ b ∷ c ∷ d ∷ later)) ≡ None
  words-stop done =
      changed-stop whole place name (λ value. with_moved by value (from_be_bytes w32 (a ∷ b ∷ c ∷ d ∷ []))) (with_all_moved by (a ∷ b ∷ c ∷ d ∷ later)) (λ value is. turn-none by a b c d later value is) done

-- the same of the bytes that are left, of which the first four are the offset
pub words-step : (by : ℕ) (rest : Bytes) (offset : ℕ) (whole made : Tree) (place : Place) (name : Bytes) → 4 ≤ length rest → offset ≡ from_be_bytes w32 (slice_index_or rest 0 0 ∷ slice_index_or rest 1 0 ∷ slice_index_or rest 2 0 ∷ slice_index_or rest 3 0 ∷ []) → changed_at whole place name (λ value. with_moved by value offset) ≡ Some made → changed_at whole place name (with_all_moved by rest) ≡ changed_at made place name (with_all_moved by (take (length rest - 4) (drop 4 rest)))
words-step by [] offset whole made place name long is done = absurd (omega arith)
words-step by (a ∷ []) offset whole made place name long is done = absurd (omega arith)
words-step by (a ∷ b ∷ []) offset whole made place name long is done = absurd (omega arith)
words-step by (a ∷ b ∷ c ∷ []) offset whole made place name long is done = absurd (omega arith)
words-step by (a ∷ b ∷ c ∷ d ∷ later) offset whole made place name long is done =
    let count : length (a ∷ b ∷ c ∷ d ∷ later) - 4 ≡ length later = omega arith in
    words-next by a b c d later whole place name made (subst (λ n. changed_at whole place name (λ value. with_moved by value n) ≡ Some made) is done) ∙ ap (λ bytes. changed_at made place name (with_all_moved by bytes)) (sym (ap (λ n. take n later) count ∙ take-length later))

pub words-fault : (by : ℕ) (rest : Bytes) (offset : ℕ) (whole : Tree) (place : Place) (name : Bytes) → 4 ≤ length rest → offset ≡ from_be_bytes w32 (slice_index_or rest 0 0 ∷ slice_index_or rest 1 0 ∷ slice_index_or rest 2 0 ∷ slice_index_or rest 3 0 ∷ []) → changed_at whole place name (λ value. with_moved by value offset) ≡ None → changed_at whole place name (with_all_moved by rest) ≡ None
words-fault by [] offset whole place name long is done = absurd (omega arith)
words-fault by (a ∷ []) offset whole place name long is done = absurd (omega arith)
words-fault by (a ∷ b ∷ []) offset whole place name long is done = absurd (omega arith)
words-fault by (a ∷ b ∷ c ∷ []) offset whole place name long is done = absurd (omega arith)
words-fault by (a ∷ b ∷ c ∷ d ∷ later) offset whole place name long is done =
    words-stop by a b c d later whole place name (subst (λ n. changed_at whole place name (λ value. with_moved by value n) ≡ None) is done)

-- no offset is left, and the value is there
pub words-end : {A : Type 0} (by : ℕ) (rest : Bytes) (whole : Tree) (place : Place) (name : Bytes) (bytes : A → Bytes) (found : Option A) → length rest ≡ 0 → is_some found ≡ true → option_map bytes found ≡ property_of (properties_at whole place) name → changed_at whole place name (with_all_moved by rest) ≡ Some whole
words-end by rest whole place name bytes None empty there is = absurd (cc)
words-end by rest whole place name bytes (Some value) empty there is =
    changed-end whole place name (with_all_moved by rest) (bytes value) (sym is) (at-end by rest (bytes value) empty)

-- it is not
pub words-missing : {A : Type 0} (by : ℕ) (rest : Bytes) (whole : Tree) (place : Place) (name : Bytes) (bytes : A → Bytes) (found : Option A) → is_some found ≡ false → option_map bytes found ≡ property_of (properties_at whole place) name → changed_at whole place name (with_all_moved by rest) ≡ None
words-missing by rest whole place name bytes None missing is = changed-missing whole place name (with_all_moved by rest) (sym is)
words-missing by rest whole place name bytes (Some value) missing is = absurd (cc)

-- bytes are left that are no offset
pub words-left : (by : ℕ) (rest : Bytes) (whole : Tree) (place : Place) (name : Bytes) → length rest < 4 → 0 < length rest → changed_at whole place name (with_all_moved by rest) ≡ None
words-left by rest whole place name short some = on_value (property_of (properties_at whole place) name)
  where
    written : Bytes → Tree
    written bytes = edit (change_properties (set_property name bytes)) whole place

    on_value : (o : Option Bytes) → option_map written (option_and_then (with_all_moved by rest) o) ≡ None
    on_value None = refl
    on_value (Some value) = ap (option_map written) (left-over by rest value short some)

-- an offset that is held down names the same word
pub replaced-held : (number : ℕ) (bytes : Bytes) (offset wanted most : ℕ) → offset ≡ min wanted most → length bytes ≤ most → replaced number bytes wanted ≡ replaced number bytes offset
replaced-held number bytes offset wanted most is small = by (nat_lt offset (length bytes)) refl
  where
    by : (t : Bool) → nat_lt offset (length bytes) ≡ t → replaced number bytes wanted ≡ replaced number bytes offset
    by true e = let within : offset < length bytes = grind (arith, nat_tests) in replaced-within number bytes offset wanted most is within small
    by false e =
        let past : length bytes ≤ offset = grind (arith, nat_tests) in
        let own : offset ≡ min offset offset = omega arith in
        replaced-past number bytes offset wanted most is past ∙ sym (replaced-past number bytes offset offset offset own past)

module _ (d : Document) (node : ℕ) (path name : Bytes) (offset wanted number : ℕ) (found : Some (place_of d node) ≡ find_place d.tree path) (held : offset ≡ min wanted (2 ^ 64 - 1)) (small : IfSome (property_of (properties_of d node) name) (λ value. length value ≤ 2 ^ 64 - 1)) where
  same : (value : Bytes) → property_of (properties_of d node) name ≡ Some value → replaced number value wanted ≡ option_map (λ _. with_word value offset number) (word_at value offset)
  same value there = replaced-held number value offset wanted (2 ^ 64 - 1) held (subst (λ (o : Option Bytes). IfSome o (λ v. length v ≤ 2 ^ 64 - 1)) there small)

  -- a number is put at a word of its own
  pub spot-put : (e : Document) (word : ℕ) → Some word ≡ option_and_then (λ value. word_at value offset) (property_of (properties_of d node) name) → ((value : Bytes) → property_of (properties_of d node) name ≡ Some value → e ≡ with_properties d (place_of d node) (set_property name (with_word value offset number))) → with_spot number d.tree (record { path = path; name = name; offset = wanted }) ≡ Some e.tree
  spot-put e word is done =
      at-found d node (find_place d.tree path) (λ place. changed_at d.tree place name (λ bytes. replaced number bytes wanted)) (Some e.tree) found (word-put d node name offset e word number (λ bytes. replaced number bytes wanted) is (λ value there at. same value there ∙ ap (option_map (λ _. with_word value offset number)) at) done)

  -- no word lies there
  pub spot-missing : None ≡ option_and_then (λ value. word_at value offset) (property_of (properties_of d node) name) → with_spot number d.tree (record { path = path; name = name; offset = wanted }) ≡ None
  spot-missing is =
      at-found d node (find_place d.tree path) (λ place. changed_at d.tree place name (λ bytes. replaced number bytes wanted)) None found (word-missing d node name offset None (λ bytes. replaced number bytes wanted) is (λ value there at. same value there ∙ ap (option_map (λ _. with_word value offset number)) at))
