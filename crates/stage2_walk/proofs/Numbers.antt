-- Numbers at places in a list of bytes.
use Rattle.std.proofs.Common.{◌≡◌, ℕ, zero, suc, ◌+◌, ◌-◌, ◌^◌, ◌<◌, ◌≤◌, List, ◌++◌, length, get_or, take, drop, refl, sym, ap, ◌∙◌, arith, add-suc, append_assoc}
use Rattle.std.proofs.lemmas.List.{get_or-drop, get_or_append_left, get_or-append_right, get_or-take, drop_at, length-take-le}
use Rattle.byteorder.specs.Endian.{little_from, little_bytes}
use Rattle.byteorder.specs.Numbers.{little_number-reads_back}
use Rattle.stage2_walk.specs.Pages.{number_at}

-- numbers whose bytes are equal
pub little_from-same : (i n : ℕ) (xs ys : List ℕ) → ((k : ℕ) → i ≤ k → k < i + n → get_or xs k 0 ≡ get_or ys k 0) → little_from i n xs ≡ little_from i n ys
little_from-same i zero xs ys same = refl
little_from-same i (suc n) xs ys same =
    let first : get_or xs i 0 ≡ get_or ys i 0 = same i (omega arith) (omega arith) in
    let rest : little_from (suc i) n xs ≡ little_from (suc i) n ys = little_from-same (suc i) n xs ys (λ k low high. same k (omega arith) (omega arith)) in
    cc

pub little_from-drop : (p i n : ℕ) (xs : List ℕ) → little_from i n (drop p xs) ≡ little_from (p + i) n xs
little_from-drop p i zero xs = refl
little_from-drop p i (suc n) xs =
    let first : get_or (drop p xs) i 0 ≡ get_or xs (p + i) 0 = get_or-drop p xs i 0 in
    let rest : little_from (suc i) n (drop p xs) ≡ little_from (suc (p + i)) n xs = rw (← add-suc p i) (little_from-drop p (suc i) n xs) in
    cc

pub number_at_drop : (p : ℕ) (xs : List ℕ) → little_from 0 8 (drop p xs) ≡ number_at xs p
unfolding number_at
number_at_drop p xs = let e : p + 0 ≡ p = omega arith in little_from-drop p 0 8 xs ∙ ap (λ i. little_from i 8 xs) e

-- after a number is written at a place
pub number_at-written : (p number : ℕ) (xs rest zs : List ℕ) → number < 2 ^ 64 → p ≤ length xs → number_at (take p xs ++ ((little_bytes 8 number ++ rest) ++ zs)) p ≡ number
number_at-written p number xs rest zs small within =
    let all : List ℕ = take p xs ++ ((little_bytes 8 number ++ rest) ++ zs) in
    let cut : drop p all ≡ (little_bytes 8 number ++ rest) ++ zs = drop_at (take p xs) ((little_bytes 8 number ++ rest) ++ zs) p (length-take-le p xs within) in
    let joined : (little_bytes 8 number ++ rest) ++ zs ≡ little_bytes 8 number ++ (rest ++ zs) = append_assoc (little_bytes 8 number) rest zs in
    sym (number_at_drop p all) ∙ ap (λ bytes. little_from 0 8 bytes) (cut ∙ joined) ∙ little_number-reads_back 8 number (rest ++ zs) small

pub number_at-same : (p : ℕ) (xs ys : List ℕ) → ((k : ℕ) → p ≤ k → k < p + 8 → get_or xs k 0 ≡ get_or ys k 0) → number_at xs p ≡ number_at ys p
unfolding number_at
number_at-same p xs ys same = little_from-same p 8 xs ys same

-- a byte below a part that was written, and one above it
pub get_or-below : (p j : ℕ) (xs ys : List ℕ) → j < p → p ≤ length xs → get_or (take p xs ++ ys) j 0 ≡ get_or xs j 0
get_or-below p j xs ys low within =
    let len : j < length (take p xs) = omega (arith, length-take-le p xs within) in
    get_or_append_left (take p xs) ys 0 j len ∙ get_or-take p xs j 0 low

pub get_or-above : (p k n j : ℕ) (xs ys : List ℕ) → length ys ≡ n → k ≡ n → p + n ≤ j → p ≤ length xs → get_or (take p xs ++ (ys ++ drop k (drop p xs))) j 0 ≡ get_or xs j 0
get_or-above p k n j xs ys len same high within =
    let first = get_or-append_right (take p xs) (ys ++ drop k (drop p xs)) p j 0 (length-take-le p xs within) (omega arith) in
    let second = get_or-append_right ys (drop k (drop p xs)) n (j - p) 0 len (omega arith) in
    let third = get_or-drop k (drop p xs) (j - p - n) 0 in
    let fourth = get_or-drop p xs (k + (j - p - n)) 0 in
    let at : p + (k + (j - p - n)) ≡ j = omega arith in
    first ∙ second ∙ third ∙ fourth ∙ ap (λ i. get_or xs i 0) at

pub number_at-below : (p o : ℕ) (xs ys : List ℕ) → o + 8 ≤ p → p ≤ length xs → number_at (take p xs ++ ys) o ≡ number_at xs o
number_at-below p o xs ys low within = number_at-same o (take p xs ++ ys) xs (λ j a b. get_or-below p j xs ys (omega arith) within)

pub number_at-above : (p k n o : ℕ) (xs ys : List ℕ) → length ys ≡ n → k ≡ n → p + n ≤ o → p ≤ length xs → number_at (take p xs ++ (ys ++ drop k (drop p xs))) o ≡ number_at xs o
number_at-above p k n o xs ys len same high within =
    number_at-same o (take p xs ++ (ys ++ drop k (drop p xs))) xs (λ j a b. get_or-above p k n j xs ys len same (omega arith) within)
