-- Words of a text, one after the other.
use Rattle.std.proofs.Common.{◌≡◌, ℕ, ◌<◌, ◌≤◌, ◌==◌, ◌&&◌, Bool, true, false, not, List, [], ◌∷◌, ◌++◌, length, refl, sym, ◌∙◌, ap, arith, Some, None, true≢false, filter, append_assoc, append-nil, ◌^◌, ◌-◌}
use Rattle.std.specs.Prelude.{Option, nat_le}
use Rattle.std.specs.List.{list_all, slice_split}
use Rattle.std.specs.Str.{is_utf8}
use Rattle.std.proofs.lemmas.Bool.{and_parts}
use Rattle.std.proofs.lemmas.Bool.Decides.{nat_tests}
use Rattle.ib_config.specs.Runs.{after_run, first_is, is_empty}
use Rattle.ib_config.specs.Line.{is_letter, is_digit}
use Rattle.ib_config.specs.Rules.{◌>>=◌, words_of, number, number_between, range_of, pairs, region_of, shm_groups, port_of, port_groups, is_shm_id, is_id_byte, shm_id}
use Rattle.ib_config.specs.PrivateWords.{is_space, not_space, from_word, word_at, after_word, onto}
use Rattle.ib_config.proofs.RunLemmas.{length-after_run}
use Rattle.ib_config.proofs.TextLemmas.{class_is_text}
use Rattle.texts.specs.declared.ranges.BaseSize.{BaseSize}
use Rattle.ib_config.specs.declared.groups.ShmGroup.{ShmGroup}
use Rattle.ib_config.specs.declared.groups.PortGroup.{PortGroup}

id_small : (c : ℕ) → is_id_byte c ≡ true → c < 128
unfolding is_letter is_digit
id_small c h = grind (arith, nat_tests)

pub id_is_text : (id : List ℕ) → is_shm_id id ≡ true → is_utf8 id ≡ true
id_is_text id h = class_is_text is_id_byte id id_small (and_parts (nat_le 1 (length id) && nat_le (length id) 15) (list_all is_id_byte id) h).1

-- a text at a word does not begin with a space
abbrev pub IsAtWord : List ℕ → Type 0
IsAtWord text = first_is is_space text ≡ false

pub from_word_is_at : (text : List ℕ) → IsAtWord (from_word text)
from_word_is_at [] = refl
from_word_is_at (x ∷ xs) = by (x == 32) refl (from_word_is_at xs)
  where
    by : (b : Bool) → (x == 32) ≡ b → IsAtWord (from_word xs) → IsAtWord (from_word (x ∷ xs))
    by true space rest = rw space rest
    by false other rest = rw (other, other) refl

words_from : (text : List ℕ) → words_of text ≡ words_of (from_word text)
words_from [] = refl
words_from (x ∷ xs) = by (x == 32) refl (words_from xs)
  where
    by : (b : Bool) → (x == 32) ≡ b → words_of xs ≡ words_of (from_word xs) → words_of (x ∷ xs) ≡ words_of (from_word (x ∷ xs))
    by true space rest = rw space rest
    by false other rest = rw (other, other) refl

-- the parts of a text that does not begin with a space: its first word, and those behind the space after it
unfoldable parts_after : List ℕ → List (List ℕ)
parts_after [] = []
parts_after (x ∷ xs) = slice_split (λ c. c == 32) xs

parts_cut : (text : List ℕ) → slice_split (λ c. c == 32) text ≡ word_at text ∷ parts_after (after_run not_space text)
unfolding parts_after
parts_cut [] = refl
parts_cut (x ∷ xs) = by (x == 32) refl (parts_cut xs)
  where
    by : (b : Bool) → (x == 32) ≡ b → slice_split (λ c. c == 32) xs ≡ word_at xs ∷ parts_after (after_run not_space xs)
        → slice_split (λ c. c == 32) (x ∷ xs) ≡ word_at (x ∷ xs) ∷ parts_after (after_run not_space (x ∷ xs))
    by true space rest = rw space refl
    by false other rest = rw (other, rest) refl

-- what stands after a run of not_space is nothing or begins with a space
words_after : (rest : List ℕ) → (first_is not_space rest ≡ false) → filter (λ w. not (is_empty w)) (parts_after rest) ≡ words_of (from_word rest)
unfolding parts_after
words_after [] stop = refl
words_after (x ∷ xs) stop =
    let space : (x == 32) ≡ true = by (x == 32) stop in
    rw space (words_from xs)
  where
    by : (b : Bool) → not b ≡ false → b ≡ true
    by true h = refl
    by false h = absurd (true≢false h)

run_stops : (text : List ℕ) → first_is not_space (after_run not_space text) ≡ false
run_stops [] = refl
run_stops (x ∷ xs) = by (not_space x) refl (run_stops xs)
  where
    by : (b : Bool) → not_space x ≡ b → first_is not_space (after_run not_space xs) ≡ false → first_is not_space (after_run not_space (x ∷ xs)) ≡ false
    by true more rest = rw more rest
    by false stop rest = rw (stop, stop) refl

-- the first word, and the others
pub words_cut : (text : List ℕ) → IsAtWord text → 0 < length text → words_of text ≡ word_at text ∷ words_of (after_word text)
words_cut [] at some = absurd (omega arith)
words_cut (x ∷ xs) at some =
    let parts = parts_cut (x ∷ xs) in
    let later = words_after (after_run not_space (x ∷ xs)) (run_stops (x ∷ xs)) in
    rw parts (rw at (ap (λ ws. (x ∷ word_at xs) ∷ ws) (rw at at later)))

-- text is used up
pub shorter : (text : List ℕ) → 0 < length text → length (after_word text) < length text
shorter [] some = absurd (omega arith)
shorter (x ∷ xs) some = by (x == 32) refl
  where
    by : (b : Bool) → (x == 32) ≡ b → length (after_word (x ∷ xs)) < length (x ∷ xs)
    by true space = rw (space, space) (let rest = length-after_run is_space xs in omega arith)
    by false other = rw other (let first = length-after_run not_space xs in let then = length-after_run is_space (after_run not_space xs) in omega arith)

pub no_longer : (text : List ℕ) → length (after_word text) ≤ length text
no_longer text = let first = length-after_run not_space text in let then = length-after_run is_space (after_run not_space text) in omega arith

-- One group after the other.

pub groups_end : {A : Type 0} (all : Option (List A)) (read : List A) (here : Option (List A)) → all ≡ onto read here → here ≡ Some [] → all ≡ Some read
groups_end all read here same none = same ∙ rw none (ap (λ xs. Some xs) (append-nil read))

onto_more : {A : Type 0} (read : List A) (item : A) (rest : Option (List A)) → onto read (rest >>= λ more. Some (item ∷ more)) ≡ onto (read ++ item ∷ []) rest
onto_more read item None = refl
onto_more read item (Some more) = ap (λ xs. Some xs) (sym (append_assoc read (item ∷ []) more))

pub groups_on : {A : Type 0} (all : Option (List A)) (read : List A) (here : Option (List A)) (found : Option A) (item : A) (rest : Option (List A)) → all ≡ onto read here
    → here ≡ (found >>= λ x. rest >>= λ more. Some (x ∷ more)) → found ≡ Some item → all ≡ onto (read ++ item ∷ []) rest
groups_on all read here found item rest same here_is found_is = same ∙ rw (here_is, found_is) (onto_more read item rest)

pub groups_bad : {A : Type 0} (all : Option (List A)) (read : List A) (here : Option (List A)) (found : Option A) (rest : Option (List A)) → all ≡ onto read here
    → here ≡ (found >>= λ x. rest >>= λ more. Some (x ∷ more)) → found ≡ None → all ≡ None
groups_bad all read here found rest same here_is found_is = same ∙ rw (here_is, found_is) refl

abbrev none_of : {T : Type 0} → Option T
none_of = None

no_second : {A B : Type 0} (a : Option A) → (a >>= λ x. none_of {T = B}) ≡ None
no_second None = refl
no_second (Some x) = refl

no_third : {A B C : Type 0} (a : Option A) (b : Option B) → (a >>= λ x. b >>= λ y. none_of {T = C}) ≡ None
no_third None b = refl
no_third (Some x) b = no_second b

no_fourth : {A B C D : Type 0} (a : Option A) (b : Option B) (c : Option C) → (a >>= λ x. b >>= λ y. c >>= λ z. none_of {T = D}) ≡ None
no_fourth None b c = refl
no_fourth (Some x) b c = no_third b c

-- BASE SIZE
after_base : (base text : List ℕ) → IsAtWord text → pairs (base ∷ words_of text) ≡ (range_of base (word_at text) >>= λ range. pairs (words_of (after_word text)) >>= λ more. Some (range ∷ more))
after_base base [] at = rw (no_second {B = BaseSize} (number base)) refl
after_base base (x ∷ xs) at = rw (words_cut (x ∷ xs) at (omega arith)) refl

pub ranges_cut : (text : List ℕ) → IsAtWord text → 0 < length text
    → pairs (words_of text) ≡ (range_of (word_at text) (word_at (after_word text)) >>= λ range. pairs (words_of (after_word (after_word text))) >>= λ more. Some (range ∷ more))
ranges_cut text at some = rw (words_cut text at some) (after_base (word_at text) (after_word text) (from_word_is_at (after_run not_space text)))

-- PORT PEER PEERPORT
after_peer : (port peer text : List ℕ) → IsAtWord text
    → port_groups (port ∷ peer ∷ words_of text) ≡ (port_of port peer (word_at text) >>= λ group. port_groups (words_of (after_word text)) >>= λ more. Some (group ∷ more))
after_peer port peer [] at = rw (no_third {C = PortGroup} (number_between 0 (2 ^ 32 - 1) port) (number_between 0 (2 ^ 32 - 1) peer)) refl
after_peer port peer (x ∷ xs) at = rw (words_cut (x ∷ xs) at (omega arith)) refl

after_port : (port text : List ℕ) → IsAtWord text → port_groups (port ∷ words_of text)
    ≡ (port_of port (word_at text) (word_at (after_word text)) >>= λ group. port_groups (words_of (after_word (after_word text))) >>= λ more. Some (group ∷ more))
after_port port [] at = rw (no_second {B = PortGroup} (number_between 0 (2 ^ 32 - 1) port)) refl
after_port port (x ∷ xs) at = rw (words_cut (x ∷ xs) at (omega arith)) (after_peer port (word_at (x ∷ xs)) (after_word (x ∷ xs)) (from_word_is_at (after_run not_space (x ∷ xs))))

pub ports_cut : (text : List ℕ) → IsAtWord text → 0 < length text
    → port_groups (words_of text) ≡ (port_of (word_at text) (word_at (after_word text)) (word_at (after_word (after_word text)))
    >>= λ group. port_groups (words_of (after_word (after_word (after_word text)))) >>= λ more. Some (group ∷ more))
ports_cut text at some = rw (words_cut text at some) (after_port (word_at text) (after_word text) (from_word_is_at (after_run not_space text)))

-- ID HOST GUEST SIZE
after_guest : (id host guest text : List ℕ) → IsAtWord text → shm_groups (id ∷ host ∷ guest ∷ words_of text)
    ≡ (region_of id host guest (word_at text) >>= λ region. shm_groups (words_of (after_word text)) >>= λ more. Some (region ∷ more))
after_guest id host guest [] at = rw (no_fourth {D = ShmGroup} (shm_id id) (number host) (number guest)) refl
after_guest id host guest (x ∷ xs) at = rw (words_cut (x ∷ xs) at (omega arith)) refl

after_host : (id host text : List ℕ) → IsAtWord text → shm_groups (id ∷ host ∷ words_of text)
    ≡ (region_of id host (word_at text) (word_at (after_word text)) >>= λ region. shm_groups (words_of (after_word (after_word text))) >>= λ more. Some (region ∷ more))
after_host id host [] at = rw (no_third {C = ShmGroup} (shm_id id) (number host)) refl
after_host id host (x ∷ xs) at = rw (words_cut (x ∷ xs) at (omega arith)) (after_guest id host (word_at (x ∷ xs)) (after_word (x ∷ xs)) (from_word_is_at (after_run not_space (x ∷ xs))))

after_id : (id text : List ℕ) → IsAtWord text → shm_groups (id ∷ words_of text)
    ≡ (region_of id (word_at text) (word_at (after_word text)) (word_at (after_word (after_word text)))
    >>= λ region. shm_groups (words_of (after_word (after_word (after_word text)))) >>= λ more. Some (region ∷ more))
after_id id [] at = rw (no_second {B = ShmGroup} (shm_id id)) refl
after_id id (x ∷ xs) at = rw (words_cut (x ∷ xs) at (omega arith)) (after_host id (word_at (x ∷ xs)) (after_word (x ∷ xs)) (from_word_is_at (after_run not_space (x ∷ xs))))

pub regions_cut : (text : List ℕ) → IsAtWord text → 0 < length text
    → shm_groups (words_of text) ≡ (region_of (word_at text) (word_at (after_word text)) (word_at (after_word (after_word text))) (word_at (after_word (after_word (after_word text))))
    >>= λ region. shm_groups (words_of (after_word (after_word (after_word (after_word text))))) >>= λ more. Some (region ∷ more))
regions_cut text at some = rw (words_cut text at some) (after_id (word_at text) (after_word text) (from_word_is_at (after_run not_space text)))

pub no_words : (text : List ℕ) → length text ≡ 0 → words_of text ≡ []
no_words [] none = refl
no_words (x ∷ xs) none = absurd (omega arith)

pub words_from_word : (text : List ℕ) → words_of text ≡ words_of (from_word text)
words_from_word text = words_from text

onto_none : {A : Type 0} (p : Option (List A)) → onto [] p ≡ p
onto_none None = refl
onto_none (Some xs) = refl

pub groups_start : {A : Type 0} (all : Option (List A)) (read : List A) (here : Option (List A)) → read ≡ [] → all ≡ here → all ≡ onto read here
groups_start all read here none same = rw none (same ∙ sym (onto_none here))

-- what follows two words or more is shorter
pub shorter_2 : (rest more : List ℕ) → more ≡ after_word (after_word rest) → 0 < length rest → length more < length rest
shorter_2 rest more is some = rw is (let first = shorter rest some in let second = no_longer (after_word rest) in omega arith)

pub shorter_3 : (rest more : List ℕ) → more ≡ after_word (after_word (after_word rest)) → 0 < length rest → length more < length rest
shorter_3 rest more is some = rw is (let first = shorter_2 rest _ refl some in let last = no_longer (after_word (after_word rest)) in omega arith)

pub shorter_4 : (rest more : List ℕ) → more ≡ after_word (after_word (after_word (after_word rest))) → 0 < length rest → length more < length rest
shorter_4 rest more is some = rw is (let first = shorter_3 rest _ refl some in let last = no_longer (after_word (after_word (after_word rest))) in omega arith)

pub at_word : (rest more : List ℕ) → more ≡ after_word rest → IsAtWord more
at_word rest more is = rw is (from_word_is_at (after_run not_space rest))

pub at_first : (text rest : List ℕ) → rest ≡ from_word text → IsAtWord rest
at_first text rest is = rw is (from_word_is_at text)

pub words_same : (text rest : List ℕ) → rest ≡ from_word text → words_of text ≡ words_of rest
words_same text rest is = rw is (words_from text)

pub ranges_on : (all : Option (List BaseSize)) (read new : List BaseSize) (rest more : List ℕ) (found : Option BaseSize) (item : BaseSize) → all ≡ onto read (pairs (words_of rest)) → IsAtWord rest → 0 < length rest
    → found ≡ range_of (word_at rest) (word_at (after_word rest)) → more ≡ after_word (after_word rest) → found ≡ Some item → new ≡ read ++ item ∷ [] → all ≡ onto new (pairs (words_of more))
ranges_on all read new rest more found item same at some found_is more_is is new_is =
    rw (new_is, more_is) (groups_on all read _ (range_of (word_at rest) (word_at (after_word rest))) item _ same (ranges_cut rest at some) (sym found_is ∙ is))

pub ranges_bad : (all : Option (List BaseSize)) (read : List BaseSize) (rest : List ℕ) (found : Option BaseSize) → all ≡ onto read (pairs (words_of rest)) → IsAtWord rest → 0 < length rest
    → found ≡ range_of (word_at rest) (word_at (after_word rest)) → found ≡ None → all ≡ None
ranges_bad all read rest found same at some found_is is = groups_bad all read _ (range_of (word_at rest) (word_at (after_word rest))) _ same (ranges_cut rest at some) (sym found_is ∙ is)

pub ports_on : (all : Option (List PortGroup)) (read new : List PortGroup) (rest more : List ℕ) (found : Option PortGroup) (item : PortGroup) → all ≡ onto read (port_groups (words_of rest)) → IsAtWord rest → 0 < length rest
    → found ≡ port_of (word_at rest) (word_at (after_word rest)) (word_at (after_word (after_word rest))) → more ≡ after_word (after_word (after_word rest)) → found ≡ Some item → new ≡ read ++ item ∷ [] → all ≡ onto new (port_groups (words_of more))
ports_on all read new rest more found item same at some found_is more_is is new_is =
    rw (new_is, more_is) (groups_on all read _ (port_of (word_at rest) (word_at (after_word rest)) (word_at (after_word (after_word rest)))) item _ same (ports_cut rest at some) (sym found_is ∙ is))

pub ports_bad : (all : Option (List PortGroup)) (read : List PortGroup) (rest : List ℕ) (found : Option PortGroup) → all ≡ onto read (port_groups (words_of rest)) → IsAtWord rest → 0 < length rest
    → found ≡ port_of (word_at rest) (word_at (after_word rest)) (word_at (after_word (after_word rest))) → found ≡ None → all ≡ None
ports_bad all read rest found same at some found_is is = groups_bad all read _ (port_of (word_at rest) (word_at (after_word rest)) (word_at (after_word (after_word rest)))) _ same (ports_cut rest at some) (sym found_is ∙ is)

pub regions_on : (all : Option (List ShmGroup)) (read new : List ShmGroup) (rest more : List ℕ) (found : Option ShmGroup) (item : ShmGroup) → all ≡ onto read (shm_groups (words_of rest)) → IsAtWord rest → 0 < length rest
    → found ≡ region_of (word_at rest) (word_at (after_word rest)) (word_at (after_word (after_word rest))) (word_at (after_word (after_word (after_word rest)))) → more ≡ after_word (after_word (after_word (after_word rest))) → found ≡ Some item → new ≡ read ++ item ∷ [] → all ≡ onto new (shm_groups (words_of more))
regions_on all read new rest more found item same at some found_is more_is is new_is =
    rw (new_is, more_is) (groups_on all read _ (region_of (word_at rest) (word_at (after_word rest)) (word_at (after_word (after_word rest))) (word_at (after_word (after_word (after_word rest))))) item _ same (regions_cut rest at some) (sym found_is ∙ is))

pub regions_bad : (all : Option (List ShmGroup)) (read : List ShmGroup) (rest : List ℕ) (found : Option ShmGroup) → all ≡ onto read (shm_groups (words_of rest)) → IsAtWord rest → 0 < length rest
    → found ≡ region_of (word_at rest) (word_at (after_word rest)) (word_at (after_word (after_word rest))) (word_at (after_word (after_word (after_word rest)))) → found ≡ None → all ≡ None
regions_bad all read rest found same at some found_is is = groups_bad all read _ (region_of (word_at rest) (word_at (after_word rest)) (word_at (after_word (after_word rest))) (word_at (after_word (after_word (after_word rest))))) _ same (regions_cut rest at some) (sym found_is ∙ is)
