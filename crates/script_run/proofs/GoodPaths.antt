-- Paths, names and numbers that are printed are read back.
use Rattle.std.proofs.Common.{◌≡◌, ℕ, ◌/◌, ◌%◌, ◌^◌, ◌<◌, ◌==◌, Bool, true, false, not, ◌&&◌, ◌||◌, List, [], ◌∷◌, ◌++◌, refl, sym, ap, ◌∙◌, arith, nat_lt, append_assoc, append-nil}
use Rattle.std.specs.Prelude.{codes, bytes_eq, decimal, flat_map}
use Rattle.std.specs.List.{list_all, slice_split}
use Rattle.std.specs.Fmt.{digit_glyph}
use Rattle.std.proofs.lemmas.Bool.{and_parts}
use Rattle.std.proofs.lemmas.Bool.Decides.{nat_tests}
use Rattle.ib_config.specs.Runs.{is_empty}
use Rattle.ib_config.specs.Line.{is_blank}
use Rattle.ib_script.specs.Properties.{two_cells, below, numbered, on}
use Rattle.ib_script.specs.Guests.{guest_path}
use Rattle.ib_script.specs.declared.command.Command.{Command}
use Rattle.script_run.specs.Words.{is_script_byte}
use Rattle.script_run.specs.Commands.{is_path, is_plain_name}
use Rattle.script_run.proofs.CommandLemmas.{word_byte, wordable, wordable_all, all_append, is_cell}
use Rattle.script_run.proofs.Printed.{good_path, good_name}
use Rattle.script_run.proofs.PrintedLines.{AllGood}
use Rattle.script_run.proofs.EditSteps.{path_of, is_component, split_path}
use Rattle.script_run.proofs.GuestEdits.{all_decimal, domain, chosen}

pub AllGood-append : (cs ds : List Command) → AllGood cs → AllGood ds → AllGood (cs ++ ds)
AllGood-append [] ds a b = b
AllGood-append (c ∷ cs) ds a b = (a.0, AllGood-append cs ds a.1 b)

pub AllGood-flat : {A : Type 0} (f : A → List Command) (p : A → Bool) → ((x : A) → p x ≡ true → AllGood (f x)) → (xs : List A) → list_all p xs ≡ true → AllGood (flat_map f xs)
AllGood-flat f p each [] h = tt
AllGood-flat f p each (x ∷ xs) h = let k = and_parts (p x) (list_all p xs) h in AllGood-append (f x) (flat_map f xs) (each x k.0) (AllGood-flat f p each xs k.1)

pub AllGood-on : (test : Bool) (cs : List Command) → AllGood cs → AllGood (on test cs)
AllGood-on true cs h = h
AllGood-on false cs h = tt

-- a name of a path that needs no quotes
abbrev pub wordy : List ℕ → Bool
wordy w = is_component w && wordable w

words_all : (names : List (List ℕ)) → list_all wordy names ≡ true → list_all word_byte (path_of names) ≡ true
unfolding is_blank is_script_byte
words_all [] h = refl
words_all (n ∷ ns) h =
    let k = and_parts (wordy n) (list_all wordy ns) h in
    all_append word_byte n (path_of ns) (wordable_all n (and_parts (is_component n) (wordable n) k.0).1) (words_all ns k.1)

components_all : (names : List (List ℕ)) → list_all wordy names ≡ true → list_all is_component names ≡ true
components_all [] h = refl
components_all (n ∷ ns) h = let k = and_parts (wordy n) (list_all wordy ns) h in rw ((and_parts (is_component n) (wordable n) k.0).0) (components_all ns k.1)

filled : (names : List (List ℕ)) → list_all is_component names ≡ true → list_all (λ c. not (is_empty c)) names ≡ true
filled [] h = refl
filled ([] ∷ ns) h = cc
filled ((c ∷ cs) ∷ ns) h = filled ns (and_parts (is_component (c ∷ cs)) (list_all is_component ns) h).1

pub good_path_of : (name : List ℕ) (names : List (List ℕ)) → list_all wordy (name ∷ names) ≡ true → good_path (path_of (name ∷ names)) ≡ true
unfolding is_path is_blank is_script_byte
good_path_of name names h =
    let all : list_all word_byte (name ++ path_of names) ≡ true = words_all (name ∷ names) h in
    let comps = components_all (name ∷ names) h in
    let k = and_parts (is_component name) (list_all is_component names) comps in
    let parts : list_all (λ c. not (is_empty c)) (slice_split (λ c. c == 47) (name ++ path_of names)) ≡ true = ap (list_all (λ c. not (is_empty c))) (split_path name names k.0 k.1) ∙ filled (name ∷ names) comps in
    rw (all, parts) (or_true (bytes_eq (47 ∷ name ++ path_of names) (codes "/")))
  where
    or_true : (b : Bool) → (b || true) ≡ true
    or_true true = refl
    or_true false = refl

digit_byte : (d : ℕ) → d < 10 → word_byte (digit_glyph false d) ≡ true
unfolding is_blank is_script_byte
digit_byte d h = grind (arith, nat_tests)

no_slash_digit : (d : ℕ) → d < 10 → not (digit_glyph false d == 47) ≡ true
no_slash_digit d h = grind (arith, nat_tests)

-- numbered names
numbered_wordy : (name : List ℕ) (n : ℕ) → wordy (name ++ decimal n) ≡ true → wordy (numbered name n) ≡ true
unfolding numbered
numbered_wordy name n h = h

decimal_words : (n : ℕ) → list_all word_byte (decimal n) ≡ true
decimal_words n = all_decimal word_byte digit_byte n

decimal_slashes : (n : ℕ) → list_all (λ c. not (c == 47)) (decimal n) ≡ true
decimal_slashes n = all_decimal (λ c. not (c == 47)) no_slash_digit n

pub wordy_domain : (n : ℕ) → wordy (numbered (codes "domU") n) ≡ true
unfolding numbered is_blank is_script_byte
wordy_domain n = rw (decimal_words n, decimal_slashes n) refl

pub wordy_shm : (n : ℕ) → wordy (numbered (codes "shm") n) ≡ true
unfolding numbered is_blank is_script_byte
wordy_shm n = rw (decimal_words n, decimal_slashes n) refl

pub wordy_evtchn : (n : ℕ) → wordy (numbered (codes "evtchn") n) ≡ true
unfolding numbered is_blank is_script_byte
wordy_evtchn n = rw (decimal_words n, decimal_slashes n) refl

-- the paths of a guest and of its children
pub guest_path-is : (n : ℕ) → guest_path n ≡ path_of (chosen ∷ domain n ∷ [])
unfolding guest_path below
guest_path-is n = ap (λ z. codes "/chosen" ++ codes "/" ++ z) (sym (append-nil (domain n)))

pub child_path-is : (n : ℕ) (child : List ℕ) → below (guest_path n) child ≡ path_of (chosen ∷ domain n ∷ child ∷ [])
unfolding guest_path below
child_path-is n child =
    ap (λ z. z ++ child) (append_assoc (codes "/chosen/") (domain n) (codes "/")) ∙ (append_assoc (codes "/chosen/") (domain n ++ codes "/") child
    ∙ ap (λ z. codes "/chosen/" ++ z) (append_assoc (domain n) (codes "/") child ∙ ap (λ z. domain n ++ 47 ∷ z) (sym (append-nil child))))

chosen_wordy : wordy chosen ≡ true
unfolding is_blank is_script_byte
chosen_wordy = refl

pub good_guest_path : (n : ℕ) → good_path (guest_path n) ≡ true
good_guest_path n = rw (guest_path-is n) (good_path_of chosen (domain n ∷ []) (rw (chosen_wordy, wordy_domain n) refl))

pub good_child_path : (n : ℕ) (child : List ℕ) → wordy child ≡ true → good_path (below (guest_path n) child) ≡ true
good_child_path n child h = rw (child_path-is n child) (good_path_of chosen (domain n ∷ child ∷ []) (rw (chosen_wordy, wordy_domain n, h) refl))

-- a name of a node
pub good_name-wordy : (w : List ℕ) → wordy w ≡ true → good_name w ≡ true
unfolding is_plain_name is_script_byte
good_name-wordy [] h = cc
good_name-wordy (c ∷ cs) h =
    let k = and_parts (is_component (c ∷ cs)) (wordable (c ∷ cs)) h in
    rw (k.1, k.0) refl

-- Numbers in cells.
pub wide_cells : (n : ℕ) → n < 2 ^ 64 → list_all is_cell (two_cells n) ≡ true
wide_cells n h =
    let high : nat_lt (n / 2 ^ 32) (2 ^ 32) ≡ true = grind (arith, nat_tests) in
    let low : nat_lt (n % 2 ^ 32) (2 ^ 32) ≡ true = grind (arith, nat_tests) in
    rw (high, low) refl

pub all_cells : (xs ys : List ℕ) → list_all is_cell xs ≡ true → list_all is_cell ys ≡ true → list_all is_cell (xs ++ ys) ≡ true
all_cells xs ys a b = all_append is_cell xs ys a b

unfoldable pub wide : ℕ → Bool
wide n = nat_lt n (2 ^ 64)

pub wide_is : (n : ℕ) → wide n ≡ true → n < 2 ^ 64
unfolding wide
wide_is n h = grind (arith, nat_tests)
