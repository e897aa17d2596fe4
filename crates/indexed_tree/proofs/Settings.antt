-- What is read of entries, and what they are after a change.
use Rattle.std.proofs.Common.{IsTrue, ◌≡◌, ◌∙◌, ap, sym, subst, refl, ℕ, ◌<◌, ◌≤◌, ◌+◌, List, [], ◌∷◌, ◌++◌, Bool, true, false, cond, Option, Some, None, Result, Ok, Err, OnOk, OnErr, length, get_or, set, slice_get, arith}
use Rattle.std.specs.Prelude.{◌&&◌, bytes_eq, IsSomeAnd}
use Rattle.std.specs.declared.alloc.AllocError.{AllocError}
use Rattle.tree_parts.proofs.Growing.{edit-same, edit-nothing}
use Rattle.fdt_tree.specs.Tree.{Tree, change_properties, Bytes, Property, Place, is_property_name, property_of, depth}
use Rattle.fdt_tree.specs.Document.{Document, place_of, properties_of, with_properties, have_names}
use Rattle.fdt_tree.specs.PathEdits.{set_property}
use Rattle.fdt_tree.specs.PrivateLinks.{modified}
use Rattle.fdt_tree.proofs.Lists.{read-there, set-modified}
use Rattle.indexed_tree.specs.Words.{with_word}
use Rattle.indexed_tree.specs.PrivateArena.{held, IsEntryOf, IsHeld}
use Rattle.indexed_tree.specs.declared.entry.Entry.{Entry}
use Rattle.indexed_tree.proofs.Values.{named-of}
use Rattle.indexed_tree.proofs.Numberings.{properties-face}
use Rattle.indexed_tree.proofs.Changed.{IsChanged, held-changed, IsHeld-changed}

-- the entry of a live number
pub entry-at : (d : Document) (es : List Entry) (i : ℕ) (x : Entry) → IsHeld d es → i < length d.places → x ≡ get_or es i x → IsEntryOf d i x
entry-at d es i x is live here = is.entries_of i x (read-there es i x (omega (arith, live, is.numbered)) here)

pub properties-at : (d : Document) (es : List Entry) (i : ℕ) (x : Entry) → IsHeld d es → i < length d.places → x ≡ get_or es i x → properties_of d i ≡ x.properties
properties-at d es i x is live here = properties-face d i x.name x.properties (entry-at d es i x is live here).says

pub depth-at : (d : Document) (es : List Entry) (i : ℕ) (x : Entry) → IsHeld d es → i < length d.places → x ≡ get_or es i x → length x.place.items + 1 ≡ depth (place_of d i)
depth-at d es i x is live here = ap (λ (q : Place). length q + 1) (entry-at d es i x is live here).stands

both : (a b : Bool) → IsTrue a → IsTrue b → IsTrue (a && b)
both true b one other = other
both false b one other = one

first : (a b : Bool) → IsTrue (a && b) → IsTrue a
first true b h = refl
first false b h = h

second : (a b : Bool) → IsTrue (a && b) → IsTrue b
second true b h = h
second false true h = refl
second false false h = h

-- properties that are set have names that they may have
pub have-set : (n b : Bytes) (ps : List Property) → IsTrue (have_names ps) → IsTrue (is_property_name n) → IsTrue (have_names (set_property n b ps))
have-set n b [] all good = both (is_property_name n) true good refl
have-set n b (p ∷ ps) all good = by (bytes_eq p.0 n) (have-set n b ps (second (is_property_name p.0) (have_names ps) all) good)
  where
    by : (t : Bool) → IsTrue (have_names (set_property n b ps)) → IsTrue (have_names (cond t ((n, b) ∷ ps) (p ∷ set_property n b ps)))
    by true later = both (is_property_name n) (have_names ps) good (second (is_property_name p.0) (have_names ps) all)
    by false later = both (is_property_name p.0) (have_names (set_property n b ps)) (first (is_property_name p.0) (have_names ps) all) later

pub have-last : (n b : Bytes) (ps : List Property) → IsTrue (have_names ps) → IsTrue (is_property_name n) → IsTrue (have_names (ps ++ (n, b) ∷ []))
have-last n b [] all good = both (is_property_name n) true good refl
have-last n b (p ∷ ps) all good = both (is_property_name p.0) (have_names (ps ++ (n, b) ∷ [])) (first (is_property_name p.0) (have_names ps) all) (have-last n b ps (second (is_property_name p.0) (have_names ps) all) good)

pub names-at : (d : Document) (es : List Entry) (i : ℕ) (x : Entry) → IsHeld d es → i < length d.places → x ≡ get_or es i x → IsTrue (have_names x.properties)
names-at d es i x is live here = subst (λ ps. IsTrue (have_names ps)) (properties-at d es i x is live here) (is.kept.properties i live)

-- what entries are after a change of one's properties
pub record IsAfter (was now : List Entry) (p : ℕ) (g : List Property → List Property) : Type 0 where
  pub is_held : IsHeld (held now) now
  pub document : held now ≡ with_properties (held was) (place_of (held was) p) g

pub after-change : (was : List Entry) (p : ℕ) (x y : Entry) (g : List Property → List Property) → IsHeld (held was) was → p < length (held was).places → x ≡ get_or was p x → IsChanged g x y → IsTrue (have_names (g x.properties)) → IsAfter was (set was p y) p g
after-change was p x y g is live here changed good =
    let within : p < length was = omega (arith, live, is.numbered) in
    let there : slice_get was p ≡ Some x = read-there was p x within here in
    let items : modified (λ _. y) p was ≡ set was p y = sym (set-modified (λ _. y) was p x within here) in
    let document = held-changed was p x y g is there changed in
    subst (λ (es : List Entry). IsAfter was es p g) items (record {
      is_held = subst (λ (z : Document). IsHeld z (modified (λ _. y) p was)) (sym document) (IsHeld-changed was p x y g is there changed good);
      document = document;
    })

-- the same, where it may have failed
pub record IsTried (was now : List Entry) (p : ℕ) (g : List Property → List Property) (r : Result (Unit {0}) AllocError) : Type 0 where
  pub is_held : IsHeld (held now) now
  pub document : OnOk r (held now ≡ with_properties (held was) (place_of (held was) p) g)
  pub places : (held now).places ≡ (held was).places
  pub failed : OnErr r (held now ≡ held was)

-- a change that changes nothing
nothing-changed : (d : Document) (q : Place) → with_properties d q (λ ps. ps) ≡ d
nothing-changed d q = ap (λ (t : Tree). record d { tree = t }) (edit-same (change_properties (λ ps. ps)) (λ u. u) (λ u. refl) d.tree q ∙ edit-nothing d.tree q)

pub after-trying : (was : List Entry) (p : ℕ) (x : Entry) (ps : List Property) (g : List Property → List Property) (r : Result (Unit {0}) AllocError) → IsHeld (held was) was → p < length (held was).places → x ≡ get_or was p x → OnOk r (ps ≡ g x.properties) → OnErr r (ps ≡ x.properties) → IsTrue (have_names (g x.properties)) → IsTried was (set was p (record x { properties = ps })) p g r
after-trying was p x ps g (Ok u) is live here done failed good =
    let after = after-change was p x (record x { properties = ps }) g is live here (record { entry = refl; properties = done }) good in
    record { is_held = after.is_held; document = after.document; places = ap (λ (z : Document). z.places) after.document; failed = tt }
after-trying was p x ps g (Err e) is live here done failed good =
    let after = after-change was p x (record x { properties = ps }) (λ qs. qs) is live here (record { entry = refl; properties = failed }) (names-at (held was) was p x is live here) in
    record { is_held = after.is_held; document = tt; places = ap (λ (z : Document). z.places) after.document; failed = after.document ∙ nothing-changed (held was) (place_of (held was) p) }

-- a value within which a word lies
pub within-at : (d : Document) (es : List Entry) (i : ℕ) (x : Entry) (n : Bytes) (offset : ℕ) → IsHeld d es → i < length d.places → x ≡ get_or es i x → IsSomeAnd (property_of (properties_of d i) n) (λ value. offset + 4 ≤ length value) → IsSomeAnd (property_of x.properties n) (λ value. offset + 4 ≤ length value)
within-at d es i x n offset is live here within = subst (λ ps. IsSomeAnd (property_of ps n) (λ value. offset + 4 ≤ length value)) (properties-at d es i x is live here) within

-- what entries are after a word was put in its place
pub record IsWritten (was now : List Entry) (p : ℕ) (n : Bytes) (offset number : ℕ) : Type 0 where
  pub is_held : IsHeld (held now) now
  pub document : (value : Bytes) → property_of (properties_of (held was) p) n ≡ Some value → held now ≡ with_properties (held was) (place_of (held was) p) (set_property n (with_word value offset number))
  pub places : (held now).places ≡ (held was).places

pub after-writing : (was : List Entry) (p : ℕ) (x : Entry) (ps : List Property) (n : Bytes) (offset number : ℕ) → IsHeld (held was) was → p < length (held was).places → x ≡ get_or was p x → IsSomeAnd (property_of (properties_of (held was) p) n) (λ value. offset + 4 ≤ length value) → ((value : Bytes) → property_of x.properties n ≡ Some value → ps ≡ set_property n (with_word value offset number) x.properties) → IsWritten was (set was p (record x { properties = ps })) p n offset number
after-writing was p x ps n offset number is live here within done = by (property_of (properties_of (held was) p) n) refl within
  where
    same : properties_of (held was) p ≡ x.properties
    same = properties-at (held was) was p x is live here

    named : (value : Bytes) → property_of x.properties n ≡ Some value → IsTrue (is_property_name n)
    named value at = named-of x.properties n value (names-at (held was) was p x is live here) (sym at)

    by : (o : Option Bytes) → property_of (properties_of (held was) p) n ≡ o → IsSomeAnd o (λ value. offset + 4 ≤ length value) → IsWritten was (set was p (record x { properties = ps })) p n offset number
    by None at within = absurd within
    by (Some value) at within =
        let there : property_of x.properties n ≡ Some value = ap (λ qs. property_of qs n) (sym same) ∙ at in
        let after = after-change was p x (record x { properties = ps }) (set_property n (with_word value offset number)) is live here (record { entry = refl; properties = done value there }) (have-set n (with_word value offset number) x.properties (names-at (held was) was p x is live here) (named value there)) in
        record {
          is_held = after.is_held;
          document = λ other is_other. after.document ∙ ap (λ (v : Bytes). with_properties (held was) (place_of (held was) p) (set_property n (with_word v offset number))) (one value other at is_other);
          places = ap (λ (z : Document). z.places) after.document;
        }
      where
        one : (value other : Bytes) → property_of (properties_of (held was) p) n ≡ Some value → property_of (properties_of (held was) p) n ≡ Some other → value ≡ other
        one value other e f = cc
