-- Assignments one after the other, and what they come to.
use Rattle.std.proofs.Common.{◌≡◌, ℕ, ◌+◌, ◌==◌, Bool, true, false, cond, not, ◌&&◌, List, [], ◌∷◌, ◌++◌, length, drop, refl, ap, sym, ◌∙◌, Ok, Err, Some, None, if◌then◌else◌, append_assoc, append-nil, arith, filter, is_some, fold, map}
use Rattle.std.specs.Prelude.{Result, Option}
use Rattle.std.specs.Option.{option_or}
use Rattle.std.specs.List.{slice_split, filter_map}
use Rattle.std.specs.Map.{lookup, keys_of}
use Rattle.std.specs.Str.{is_utf8, chars}
use Rattle.std.specs.Str.Lines.{strip_carriage_return}
use Rattle.indexmap.specs.IndexMap.{IndexMap, insert_entry}
use Rattle.indexmap.proofs.CallerLemmas.{insert_entry-new, keys-insert_entry-present}
use Rattle.ib_config.specs.Runs.{run_of, after_run}
use Rattle.ib_config.specs.Settings.{◌>>=◌}
use Rattle.ib_config.specs.Line.{Assignment, lines_of, line_fault, assignment_of, assignments_of, first_line_fault, says_nothing}
use Rattle.ib_config.specs.Variables.{Assigned, assigned_in, last_text, assigned_keys, same_key}
use Rattle.ib_config.specs.PrivateScan.{held, assign, assign_some, nothing_assigned, rest_read, file_read, line_read, unless, not_feed, line_at, after_line}
use Rattle.ib_config.specs.declared.assignments.Key.{Key}
use Rattle.ib_config.specs.declared.fault.ConfigFault.{ConfigFault}

module _ {S : Type 0} (m n : IndexMap Key (List ℕ) S) (key : Key) (text : List ℕ) where
  keys_after : n.entries ≡ insert_entry same_key m.entries key text → (r : Option (List ℕ)) → lookup (same_key key) m.entries ≡ r
      → keys_of n.entries ≡ (if is_some r then keys_of m.entries else keys_of m.entries ++ key ∷ [])
  keys_after inserted None absent = ap keys_of inserted ∙ ap keys_of (insert_entry-new same_key m key text absent) ∙ keys_append m.entries
    where
      keys_append : (es : List (Key × List ℕ)) → keys_of (es ++ (key, text) ∷ []) ≡ keys_of es ++ key ∷ []
      keys_append [] = refl
      keys_append (e ∷ es) = ap (λ ks. e.0 ∷ ks) (keys_append es)
  keys_after inserted (Some x) there = ap keys_of inserted ∙ keys-insert_entry-present same_key m key text (rw there refl)

  -- an insertion into the map is an assignment
  pub held-insert : n.entries ≡ insert_entry same_key m.entries key text → ((q : Key) → lookup (same_key q) n.entries ≡ cond (same_key key q) (Some text) (lookup (same_key q) m.entries))
      → held n.entries ≡ assign (held m.entries) (record { key = key; text = text })
  held-insert inserted texts =
      let keys = keys_after inserted (lookup (same_key key) m.entries) refl in
      λ j. record { texts = λ q. texts q j; keys = keys j }

-- two filters in a row are one
filter_twice : {A : Type 0} (p q r : A → Bool) (xs : List A) → ((x : A) → r x ≡ (q x && p x)) → filter r xs ≡ filter p (filter q xs)
filter_twice p q r [] both = refl
filter_twice p q r (x ∷ xs) both = by (q x) (p x) refl refl (filter_twice p q r xs both)
  where
    by : (a b : Bool) → q x ≡ a → p x ≡ b → filter r xs ≡ filter p (filter q xs) → filter r (x ∷ xs) ≡ filter p (filter q (x ∷ xs))
    by true true first second rest = rw (both x, first, second) (ap (λ ys. x ∷ ys) rest)
    by true false first second rest = rw (both x, first, second) rest
    by false b first second rest = rw (both x, first) rest

-- a text that a later assignment overrides
later_wins : (last : Option (List ℕ)) (same : Bool) (text : List ℕ) (before : Option (List ℕ))
    → option_or last (if same then Some text else before) ≡ option_or (option_or last (if same then Some text else None)) before
later_wins None true text before = refl
later_wins None false text before = refl
later_wins (Some t) same text before = refl

texts_fold : (given : List Assignment) (s : Assigned) (key : Key) → (fold assign s given).texts key ≡ option_or (last_text given key) (s.texts key)
texts_fold [] s key = refl
texts_fold (a ∷ given) s key = texts_fold given (assign s a) key ∙ later_wins (last_text given key) (same_key a.key key) a.text (s.texts key)

hides : (same : Bool) (text : List ℕ) (before : Option (List ℕ)) → not (is_some (if same then Some text else before)) ≡ (not same && not (is_some before))
hides true text before = refl
hides false text before = refl

keys_fold : (given : List Assignment) (s : Assigned) → (fold assign s given).keys ≡ s.keys ++ filter (λ key. not (is_some (s.texts key))) (assigned_keys given)
keys_fold [] s = sym (append-nil s.keys)
keys_fold (a ∷ given) s = keys_fold given (assign s a) ∙ by (is_some (s.texts a.key)) refl
  where
    both : filter (λ key. not (is_some ((assign s a).texts key))) (assigned_keys given)
        ≡ filter (λ key. not (is_some (s.texts key))) (filter (λ key. not (same_key a.key key)) (assigned_keys given))
    both = filter_twice (λ key. not (is_some (s.texts key))) (λ key. not (same_key a.key key)) (λ key. not (is_some ((assign s a).texts key))) (assigned_keys given)
        (λ key. hides (same_key a.key key) a.text (s.texts key))

    by : (b : Bool) → is_some (s.texts a.key) ≡ b → (assign s a).keys ++ filter (λ key. not (is_some ((assign s a).texts key))) (assigned_keys given)
        ≡ s.keys ++ filter (λ key. not (is_some (s.texts key))) (assigned_keys (a ∷ given))
    by true e = rw (both, e) refl
    by false e = rw (both, e) (append_assoc s.keys (a.key ∷ []) _)

all_new : (ks : List Key) → filter (λ key. not (is_some (nothing_assigned.texts key))) ks ≡ ks
all_new [] = refl
all_new (k ∷ ks) = ap (λ t. k ∷ t) (all_new ks)

or_none : (last : Option (List ℕ)) → option_or last None ≡ last
or_none None = refl
or_none (Some x) = refl

-- from nothing, they come to the last texts and the first places
pub fold-assign : (given : List Assignment) → fold assign nothing_assigned given ≡ assigned_in given
fold-assign given =
    let texts : (key : Key) → (fold assign nothing_assigned given).texts key ≡ last_text given key = λ key. texts_fold given nothing_assigned key ∙ or_none (last_text given key) in
    let keys : (fold assign nothing_assigned given).keys ≡ assigned_keys given = keys_fold given nothing_assigned ∙ all_new (assigned_keys given) in
    λ j. record { texts = λ key. texts key j; keys = keys j }

-- the parts between line feeds, the first one off
unfoldable pub parts_after : List ℕ → List (List ℕ)
parts_after [] = []
parts_after (x ∷ xs) = slice_split (λ c. c == 10) xs

pub parts_cut : (bytes : List ℕ) → slice_split (λ c. c == 10) bytes ≡ run_of not_feed bytes ∷ parts_after (after_run not_feed bytes)
unfolding parts_after
parts_cut [] = refl
parts_cut (x ∷ xs) = by (x == 10) refl (parts_cut xs)
  where
    by : (b : Bool) → (x == 10) ≡ b → slice_split (λ c. c == 10) xs ≡ run_of not_feed xs ∷ parts_after (after_run not_feed xs)
        → slice_split (λ c. c == 10) (x ∷ xs) ≡ run_of not_feed (x ∷ xs) ∷ parts_after (after_run not_feed (x ∷ xs))
    by true feed rest = rw feed refl
    by false other rest = rw (other, rest) refl

-- one line, and then the others
one_line : (n : ℕ) (done : Assigned) (line : List ℕ) (lines : List (List ℕ))
    → unless (first_line_fault n (line ∷ lines)) (fold assign done (filter_map assignment_of (line ∷ lines)))
    ≡ (line_read n line >>= λ a. unless (first_line_fault (n + 1) lines) (fold assign (assign_some done a) (filter_map assignment_of lines)))
one_line n done line lines = by (line_fault n line) (assignment_of line) refl refl
  where
    by : (f : Option ConfigFault) (a : Option Assignment) → line_fault n line ≡ f → assignment_of line ≡ a
        → unless (first_line_fault n (line ∷ lines)) (fold assign done (filter_map assignment_of (line ∷ lines)))
        ≡ (line_read n line >>= λ a. unless (first_line_fault (n + 1) lines) (fold assign (assign_some done a) (filter_map assignment_of lines)))
    by (Some e) a fault says = rw fault refl
    by None None fault says = rw (fault, says) refl
    by None (Some a) fault says = rw (fault, says) refl

-- an empty line says nothing
empty_line : (n : ℕ) → line_read n [] ≡ Ok None
unfolding line_fault assignment_of says_nothing is_utf8 chars lib.Utf8.encode
empty_line n = refl

pub read_none : (n : ℕ) (done : Assigned) → rest_read n done [] ≡ Ok done
unfolding rest_read assignments_of
read_none n done = one_line n done [] [] ∙ rw (empty_line n) refl

bind_same : {A B : Type 0} (r : Result A ConfigFault) (f g : A → Result B ConfigFault) → ((a : A) → f a ≡ g a) → (r >>= f) ≡ (r >>= g)
bind_same (Ok x) f g same = same x
bind_same (Err e) f g same = refl

rest_cut : (n : ℕ) (done : Assigned) (front rest : List ℕ)
    → unless (first_line_fault n (map strip_carriage_return (front ∷ parts_after rest))) (fold assign done (filter_map assignment_of (map strip_carriage_return (front ∷ parts_after rest))))
    ≡ (line_read n (strip_carriage_return front) >>= λ a. rest_read (n + 1) (assign_some done a) (drop 1 rest))
unfolding parts_after rest_read assignments_of
rest_cut n done front [] = one_line n done (strip_carriage_return front) [] ∙ bind_same (line_read n (strip_carriage_return front)) _ _ (λ a. sym (read_none (n + 1) (assign_some done a)))
rest_cut n done front (x ∷ xs) = one_line n done (strip_carriage_return front) (lines_of xs)

pub read_more : (n : ℕ) (done : Assigned) (bytes : List ℕ) → rest_read n done bytes ≡ (line_read n (line_at bytes) >>= λ a. rest_read (n + 1) (assign_some done a) (after_line bytes))
unfolding rest_read assignments_of
read_more n done bytes = rw (parts_cut bytes) (rest_cut n done (run_of not_feed bytes) (after_run not_feed bytes))

pub read_first : (bytes : List ℕ) → rest_read 1 nothing_assigned bytes ≡ file_read bytes
unfolding rest_read file_read
read_first bytes = rw (fold-assign (assignments_of bytes)) refl

pub ruleset read_lemmas = (read_none, read_more, read_first)

-- where nothing is left
pub read_end : {file : Result Assigned ConfigFault} (n : ℕ) (done : Assigned) (bytes : List ℕ) → file ≡ rest_read n done bytes → length bytes ≡ 0 → file ≡ Ok done
read_end n done [] same none = same ∙ read_none n done
read_end n done (x ∷ xs) same none = absurd (omega arith)

-- where a line is read, and what it assigns is noted
pub read_on : {file : Result Assigned ConfigFault} (n : ℕ) (done new : Assigned) (bytes line rest : List ℕ) (a : Option Assignment) → file ≡ rest_read n done bytes
    → line ≡ line_at bytes → rest ≡ after_line bytes → line_read n line ≡ Ok a → new ≡ assign_some done a → file ≡ rest_read (n + 1) new rest
read_on n done new bytes line rest a same line_is rest_is read new_is =
    let here : line_read n (line_at bytes) ≡ Ok a = rw line_is at read in
    rw (new_is, rest_is) (same ∙ read_more n done bytes ∙ rw here refl)
