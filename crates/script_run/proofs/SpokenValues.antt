-- The values that the rules of a configuration allow can be spoken in a script.
use Rattle.std.proofs.Common.{◌≡◌, ℕ, ◌+◌, ◌-◌, ◌^◌, ◌<◌, ◌≤◌, ◌==◌, Bool, true, false, cond, not, ◌&&◌, List, [], ◌∷◌, drop, Option, Some, None, Ok, Err, option_map, length, nat_lt, refl, ap, subst, ◌∙◌, arith}
use Rattle.std.specs.Prelude.{Result, if◌then◌else◌, nat_le, ok_or, unwrap_or}
use Rattle.std.specs.Option.{option_map_or}
use Rattle.std.specs.Result.{result_map_both, result_ok}
use Rattle.std.specs.List.{list_all, slice_split}
use Rattle.std.specs.Str.Parse.{digits_value}
use Rattle.std.specs.Char.{digit_value}
use Rattle.std.proofs.lemmas.Bool.{and_parts}
use Rattle.std.proofs.lemmas.Bool.Decides.{nat_tests}
use Rattle.std.proofs.lemmas.List.Sums.{length-filter, count_by-le-length}
use Rattle.std.proofs.lemmas.List.Splits.{length-slice_split}
use Rattle.texts.specs.declared.ranges.BaseSize.{BaseSize}
use Rattle.texts.specs.declared.number.NumberFault.TheVariants.{Empty, BadDigit, TooBig}
use Rattle.texts.specs.NumberTexts.{is_hexadecimal, number_in}
use Rattle.ib_config.specs.Runs.{is_empty}
use Rattle.ib_config.specs.Line.{is_letter, is_digit, is_plain, is_blank, until}
use Rattle.ib_config.specs.Rules.{◌>>=◌, where_true, words_of, number, number_between, is_file_byte, file_name, is_id_byte, is_shm_id, shm_id, range_of, pairs, region_of, shm_groups, port_of, port_groups, not_empty, static_ranges, shared_regions, is_linked, event_channels}
use Rattle.ib_config.specs.Variables.{Assigned, Wrong, Variable, value_of, text_of, guest_count}
use Rattle.ib_config.specs.declared.fault.ConfigFault.TheVariants.{BadValue, TooMany}
use Rattle.ib_config.specs.declared.groups.ShmGroup.{ShmGroup}
use Rattle.ib_config.specs.declared.groups.PortGroup.{PortGroup}
use Rattle.script_run.specs.Words.{is_script_byte}
use Rattle.script_run.proofs.CommandLemmas.{word_byte, wordable, weaker, is_cell}
use Rattle.script_run.proofs.Printed.{quotable}
use Rattle.script_run.proofs.GoodPaths.{wide}
use Rattle.script_run.proofs.GoodGuests.{good_range, good_region}
use Rattle.script_run.proofs.AssignedTexts.{IsText, Holds, variable_text}

-- Values of variables: what holds of every value that the rule gives of an assigned text, and of the default, holds of the variable's.
pub value_holds : {A : Type 0} (P : A → Type 0) (limit : ℕ) (assigned : Assigned) (v : Variable A) (index : Option ℕ) (x : A) → Holds limit assigned
    → ((text : List ℕ) → IsText limit text → (y : A) → v.read text ≡ Ok y → P y) → ((y : A) → v.missing ≡ Ok y → P y) → value_of assigned v index ≡ Ok x → P x
unfolding value_of
value_holds {A = A} P limit assigned v index x held by_text by_default is = by (text_of assigned v index) refl is
  where
    from : (r : Result A Wrong) → ((y : A) → r ≡ Ok y → P y) → result_map_both (λ x. x) (λ (wrong : Wrong). wrong v.name (unwrap_or index 0)) r ≡ Ok x → P x
    from (Ok y) each e = let same : y ≡ x = cc in subst P same (each y refl)
    from (Err wrong) each e = cc

    by : (o : Option (List ℕ)) → text_of assigned v index ≡ o → result_map_both (λ x. x) (λ (wrong : Wrong). wrong v.name (unwrap_or index 0)) (option_map_or v.read o v.missing) ≡ Ok x → P x
    by None f e = from v.missing by_default e
    by (Some text) f e = from (v.read text) (by_text text (variable_text limit assigned v index text held f)) e

-- A rule that gives a value.
pub rule_some : {A : Type 0} (o : Option A) (wrong : Wrong) (y : A) → ok_or o wrong ≡ Ok y → o ≡ Some y
rule_some None wrong y e = cc
rule_some (Some x) wrong y e = let same : x ≡ y = cc in ap (λ z. Some z) same

pub optional_some : {A : Type 0} (P : Option A → Type 0) (o : Option A) (wrong : Wrong) (y : Option A) → ((x : A) → o ≡ Some x → P (Some x)) → ok_or (option_map Some o) wrong ≡ Ok y → P y
optional_some P None wrong y each e = cc
optional_some P (Some x) wrong y each e = let same : Some x ≡ y = cc in subst P same (each x refl)

some_true : {A : Type 0} (b : Bool) (x y : A) → where_true b x ≡ Some y → (b ≡ true) × (x ≡ y)
some_true true x y e = (refl, cc)
some_true false x y e = cc

-- Numbers.
in_small : (base : ℕ) (digits : List ℕ) (n : ℕ) → result_ok (number_in base digits) ≡ Some n → n < 2 ^ 64
in_small base digits n e =
    by (length digits == 0) (not (list_all (λ digit. nat_lt (digit_value digit) base) digits)) (nat_lt (digits_value base digits) (2 ^ 64)) refl e
  where
    by : (a b c : Bool) → nat_lt (digits_value base digits) (2 ^ 64) ≡ c
        → result_ok (cond a (Err Empty) (cond b (Err BadDigit) (cond c (Ok (digits_value base digits)) (Err TooBig)))) ≡ Some n → n < 2 ^ 64
    by true b c f e = cc
    by false true c f e = cc
    by false false true f e =
        let same : digits_value base digits ≡ n = cc in
        let small : digits_value base digits < 2 ^ 64 = grind (arith, nat_tests) in
        subst (λ m. m < 2 ^ 64) same small
    by false false false f e = cc

pub number_small : (text : List ℕ) (n : ℕ) → number text ≡ Some n → n < 2 ^ 64
number_small text n e = by (is_hexadecimal text) e
  where
    by : (b : Bool) → result_ok (cond b (number_in 16 (drop 2 text)) (number_in 10 text)) ≡ Some n → n < 2 ^ 64
    by true e = in_small 16 (drop 2 text) n e
    by false e = in_small 10 text n e

pub number_wide : (text : List ℕ) (n : ℕ) → number text ≡ Some n → wide n ≡ true
unfolding wide
number_wide text n e = let small = number_small text n e in grind (arith, nat_tests)

pub between_high : (low high : ℕ) (text : List ℕ) (n : ℕ) → number_between low high text ≡ Some n → n ≤ high
between_high low high text n e = by (number text) e
  where
    by : (o : Option ℕ) → (o >>= λ n. where_true (nat_le low n && nat_le n high) n) ≡ Some n → n ≤ high
    by None e = cc
    by (Some m) e =
        let k = some_true (nat_le low m && nat_le m high) m n e in
        let below : nat_le m high ≡ true = (and_parts (nat_le low m) (nat_le m high) k.0).1 in
        let m_high : m ≤ high = grind (arith, nat_tests) in
        subst (λ z. z ≤ high) k.1 m_high

-- Texts.
plain_script : (c : ℕ) → is_plain c ≡ true → is_script_byte c ≡ true
unfolding is_plain is_script_byte
plain_script c h = grind (arith, nat_tests)

plain_unquoted : (c : ℕ) → is_plain c ≡ true → until 34 c ≡ true
unfolding is_plain
plain_unquoted c h = grind (arith, nat_tests)

pub text_quotable : (limit : ℕ) (text : List ℕ) → IsText limit text → quotable text ≡ true
text_quotable limit text h = rw (weaker is_plain (until 34) plain_unquoted text h.plain, weaker is_plain is_script_byte plain_script text h.plain) refl

file_word_byte : (c : ℕ) → is_file_byte c ≡ true → word_byte c ≡ true
unfolding is_letter is_digit is_blank is_script_byte
file_word_byte c h = grind (arith, nat_tests)

file_unquoted : (c : ℕ) → is_file_byte c ≡ true → not (c == 34) ≡ true
unfolding is_letter is_digit
file_unquoted c h = grind (arith, nat_tests)

pub file_wordable : (text name : List ℕ) → file_name text ≡ Some name → wordable name ≡ true
file_wordable text name e =
    let k = some_true (nat_le 1 (length text) && nat_le (length text) 255 && list_all is_file_byte text) text name e in
    let parts = and_parts (nat_le 1 (length text) && nat_le (length text) 255) (list_all is_file_byte text) k.0 in
    subst (λ w. wordable w ≡ true) k.1 (by text (and_parts (nat_le 1 (length text)) (nat_le (length text) 255) parts.0).0 parts.1)
  where
    by : (w : List ℕ) → nat_le 1 (length w) ≡ true → list_all is_file_byte w ≡ true → wordable w ≡ true
    by [] some all = cc
    by (c ∷ cs) some all =
        let first = file_unquoted c (and_parts (is_file_byte c) (list_all is_file_byte cs) all).0 in
        rw (first, weaker is_file_byte word_byte file_word_byte (c ∷ cs) all) refl

id_script : (c : ℕ) → is_id_byte c ≡ true → is_script_byte c ≡ true
unfolding is_letter is_digit is_script_byte
id_script c h = grind (arith, nat_tests)

id_unquoted : (c : ℕ) → is_id_byte c ≡ true → until 34 c ≡ true
unfolding is_letter is_digit
id_unquoted c h = grind (arith, nat_tests)

id_quotable : (text id : List ℕ) → shm_id text ≡ Some id → quotable id ≡ true
id_quotable text id e =
    let k = some_true (is_shm_id text) text id e in
    let all : list_all is_id_byte text ≡ true = (and_parts (nat_le 1 (length text) && nat_le (length text) 15) (list_all is_id_byte text) k.0).1 in
    subst (λ w. quotable w ≡ true) k.1 (rw (weaker is_id_byte (until 34) id_unquoted text all, weaker is_id_byte is_script_byte id_script text all) refl)

-- Ranges, regions and port groups.
one_some : {A B : Type 0} (o : Option A) (f : A → Option B) (y : B) → (o >>= f) ≡ Some y → (x : A) × (o ≡ Some x) × (f x ≡ Some y)
one_some None f y e = cc
one_some (Some x) f y e = (x, refl, e)

good_range_of : (base size : List ℕ) (r : BaseSize) → range_of base size ≡ Some r → good_range r ≡ true
good_range_of base size r e =
    let b = one_some (number base) _ r e in
    let s = one_some (number size) _ r b.2 in
    let same : record { base = b.0; size = s.0 } ≡ r = let h = s.2 in cc in
    subst (λ (z : BaseSize). good_range z ≡ true) same (rw (number_wide base b.0 b.1, number_wide size s.0 s.1) refl)

good_pairs : (words : List (List ℕ)) (rs : List BaseSize) → pairs words ≡ Some rs → list_all good_range rs ≡ true
good_pairs [] rs e = let same : [] ≡ rs = cc in subst (λ (z : List BaseSize). list_all good_range z ≡ true) same refl
good_pairs (one ∷ []) rs e = cc
good_pairs (base ∷ size ∷ words) rs e =
    let first = one_some (range_of base size) _ rs e in
    let more = one_some (pairs words) _ rs first.2 in
    let same : first.0 ∷ more.0 ≡ rs = let h = more.2 in cc in
    subst (λ (z : List BaseSize). list_all good_range z ≡ true) same (rw (good_range_of base size first.0 first.1, good_pairs words more.0 more.1) refl)

good_region_of : (id host guest size : List ℕ) (r : ShmGroup) → region_of id host guest size ≡ Some r → good_region r ≡ true
good_region_of id host guest size r e =
    let i = one_some (shm_id id) _ r e in
    let h = one_some (number host) _ r i.2 in
    let g = one_some (number guest) _ r h.2 in
    let s = one_some (number size) _ r g.2 in
    let same : record { id = i.0; host = h.0; guest = g.0; size = s.0 } ≡ r = let k = s.2 in cc in
    subst (λ (z : ShmGroup). good_region z ≡ true) same (rw (id_quotable id i.0 i.1, number_wide host h.0 h.1, number_wide guest g.0 g.1, number_wide size s.0 s.1) refl)

-- regions whose parts can be spoken, no more of them than words
abbrev AreRegions : ℕ → List ShmGroup → Type 0
AreRegions count rs = (list_all good_region rs ≡ true) × (length rs ≤ count)

good_groups : (words : List (List ℕ)) (rs : List ShmGroup) → shm_groups words ≡ Some rs → AreRegions (length words) rs
good_groups [] rs e = let same : [] ≡ rs = cc in subst (AreRegions 0) same (refl, omega arith)
good_groups (a ∷ []) rs e = cc
good_groups (a ∷ b ∷ []) rs e = cc
good_groups (a ∷ b ∷ c ∷ []) rs e = cc
good_groups (id ∷ host ∷ guest ∷ size ∷ words) rs e =
    let first = one_some (region_of id host guest size) _ rs e in
    let more = one_some (shm_groups words) _ rs first.2 in
    let same : first.0 ∷ more.0 ≡ rs = let k = more.2 in cc in
    let rest = good_groups words more.0 more.1 in
    subst (AreRegions (length (id ∷ host ∷ guest ∷ size ∷ words))) same (rw (good_region_of id host guest size first.0 first.1, rest.0) refl, omega (arith, rest.1))

-- a text has no more words than bytes, and one
words_few : (text : List ℕ) → length (words_of text) ≤ length text + 1
words_few text =
    let parts : List (List ℕ) = slice_split (λ c. c == 32) text in
    omega (arith, length-filter (λ (w : List ℕ). not (is_empty w)) parts, count_by-le-length (λ (w : List ℕ). not (is_empty w)) parts, length-slice_split (λ c. c == 32) text, count_by-le-length (λ c. c == 32) text)

some_of : {A : Type 0} (P : List A → Type 0) (o : Option (List A)) (ys : List A) → ((xs : List A) → o ≡ Some xs → P xs) → (o >>= not_empty) ≡ Some ys → P ys
some_of P None ys each e = cc
some_of P (Some xs) ys each e = let k = some_true (not (is_empty xs)) xs ys e in subst P k.1 (each xs refl)

pub ranges_good : (text : List ℕ) (rs : List BaseSize) → static_ranges text ≡ Some rs → list_all good_range rs ≡ true
ranges_good text rs e = some_of (λ (z : List BaseSize). list_all good_range z ≡ true) (pairs (words_of text)) rs (good_pairs (words_of text)) e

pub regions_good : (limit : ℕ) (text : List ℕ) (rs : List ShmGroup) → IsText limit text → shared_regions text ≡ Some rs → (list_all good_region rs ≡ true) × (length rs ≤ limit + 1)
regions_good limit text rs h e =
    let k = some_of (AreRegions (length (words_of text))) (shm_groups (words_of text)) rs (good_groups (words_of text)) e in
    (k.0, omega (arith, k.1, words_few text, h.short))

abbrev pub has_cell : PortGroup → Bool
has_cell group = is_cell group.port

port_cell : (port peer peer_port : List ℕ) (g : PortGroup) → port_of port peer peer_port ≡ Some g → has_cell g ≡ true
port_cell port peer peer_port g e =
    let p = one_some (number_between 0 (2 ^ 32 - 1) port) _ g e in
    let q = one_some (number_between 0 (2 ^ 32 - 1) peer) _ g p.2 in
    let r = one_some (number_between 0 (2 ^ 32 - 1) peer_port) _ g q.2 in
    let same : record { port = p.0; peer = q.0; peer_port = r.0 } ≡ g = let k = r.2 in cc in
    let high : p.0 ≤ 2 ^ 32 - 1 = between_high 0 (2 ^ 32 - 1) port p.0 p.1 in
    subst (λ (z : PortGroup). has_cell z ≡ true) same (small p.0 high)
  where
    small : (n : ℕ) → n ≤ 2 ^ 32 - 1 → nat_lt n (2 ^ 32) ≡ true
    small n h = grind (arith, nat_tests)

port_cells : (words : List (List ℕ)) (gs : List PortGroup) → port_groups words ≡ Some gs → list_all has_cell gs ≡ true
port_cells [] gs e = let same : [] ≡ gs = cc in subst (λ (z : List PortGroup). list_all has_cell z ≡ true) same refl
port_cells (a ∷ []) gs e = cc
port_cells (a ∷ b ∷ []) gs e = cc
port_cells (port ∷ peer ∷ peer_port ∷ words) gs e =
    let first = one_some (port_of port peer peer_port) _ gs e in
    let more = one_some (port_groups words) _ gs first.2 in
    let same : first.0 ∷ more.0 ≡ gs = let k = more.2 in cc in
    subst (λ (z : List PortGroup). list_all has_cell z ≡ true) same (rw (port_cell port peer peer_port first.0 first.1, port_cells words more.0 more.1) refl)

pub channels_good : (ports : ℕ → List PortGroup) (count : ℕ) (text : List ℕ) (gs : List PortGroup) → event_channels ports count text ≡ Some gs → list_all has_cell gs ≡ true
channels_good ports count text gs e =
    let read = one_some (port_groups (words_of text)) _ gs e in
    let some = one_some (not_empty read.0) _ gs read.2 in
    let k = some_true (not (is_empty read.0)) read.0 some.0 some.1 in
    let l = some_true (list_all (is_linked ports count) some.0) some.0 gs some.2 in
    subst (λ (z : List PortGroup). list_all has_cell z ≡ true) (k.1 ∙ l.1) (port_cells (words_of text) read.0 read.1)

-- at most 16 guests
pub guest_count_low : (text : List ℕ) (count : ℕ) → guest_count text ≡ Ok count → count ≤ 16
guest_count_low text count e = by (number text) e
  where
    inside : (n : ℕ) (b : Bool) → nat_lt 16 n ≡ b → cond {A = Result ℕ Wrong} b (Err (λ (name : List ℕ) (index : ℕ). TooMany n)) (Ok n) ≡ Ok count → count ≤ 16
    inside n true f e = cc
    inside n false f e = let same : n ≡ count = cc in let low : n ≤ 16 = grind (arith, nat_tests) in subst (λ z. z ≤ 16) same low

    by : (o : Option ℕ) → option_map_or (λ count. if nat_lt 16 count then Err (λ (name : List ℕ) (index : ℕ). TooMany count) else Ok count) o (Err BadValue) ≡ Ok count → count ≤ 16
    by None e = cc
    by (Some n) e = inside n (nat_lt 16 n) refl e
