-- Bytes that spell pages are what the pages are spelled as.
use Rattle.std.proofs.Common.{◌≡◌, ℕ, zero, suc, ◌+◌, ◌*◌, ◌/◌, ◌%◌, ◌^◌, ◌<◌, ◌≤◌, List, ◌∷◌, ◌++◌, length, get_or, map, take, drop, refl, sym, ap, ◌∙◌, arith}
use Rattle.std.proofs.Math.Nat.{div-div-eq-div-mul, pow-succ'}
use Rattle.std.proofs.lemmas.List.{take_all, drop-drop}
use Rattle.std.proofs.Math.Seq.{take-add, drop-cons}
use Rattle.std.specs.List.{flat_map, range_with_len}
use Rattle.std.specs.Int.{byte_at, bytes_low_first}
use Rattle.byteorder.specs.Endian.{little_from, little_bytes}
use Rattle.texts.specs.Consecutive.{numbers}
use Rattle.stage2_walk.specs.Pages.{number_at, page_at, pages_at}
use Rattle.stage2_walk.specs.Files.{spelled_page}

byte_at-shift : (j n : ℕ) → byte_at (suc j) n ≡ byte_at j (n / 256)
byte_at-shift zero n = refl
byte_at-shift (suc j) n = ap (λ (m : ℕ). m % 256) (ap (λ (p : ℕ). n / p) (pow-succ' 256 (suc j)) ∙ sym (div-div-eq-div-mul n 256 (256 ^ suc j)))

low_first-shift : (j k n : ℕ) → bytes_low_first (suc j) k n ≡ bytes_low_first j k (n / 256)
low_first-shift j zero n = refl
low_first-shift j (suc k) n = let first = byte_at-shift j n in let rest = low_first-shift (suc j) k n in cc

-- the bytes of the number that bytes spell
spelled_back : (k i : ℕ) (xs : List ℕ) → ((m : ℕ) → get_or xs m 0 < 256) → i + k ≤ length xs → bytes_low_first 0 k (little_from i k xs) ≡ take k (drop i xs)
spelled_back zero i xs small within = refl
spelled_back (suc k) i xs small within =
    let byte : get_or xs i 0 < 256 = small i in
    let low : (get_or xs i 0 + 256 * little_from (suc i) k xs) % 256 ≡ get_or xs i 0 = omega arith in
    let high : (get_or xs i 0 + 256 * little_from (suc i) k xs) / 256 ≡ little_from (suc i) k xs = omega arith in
    let rest : bytes_low_first 1 k (get_or xs i 0 + 256 * little_from (suc i) k xs) ≡ take k (drop (suc i) xs) =
    low_first-shift 0 k (get_or xs i 0 + 256 * little_from (suc i) k xs) ∙ ap (bytes_low_first 0 k) high ∙ spelled_back k (suc i) xs small (omega arith) in
    let cut : drop i xs ≡ get_or xs i 0 ∷ drop (suc i) xs = drop-cons xs i 0 (omega arith) in
    rw cut (ap (λ (b : ℕ). b ∷ bytes_low_first 1 k (get_or xs i 0 + 256 * little_from (suc i) k xs)) low ∙ ap (λ (bs : List ℕ). get_or xs i 0 ∷ bs) rest)

pub number_spelled : (place : ℕ) (xs : List ℕ) → ((m : ℕ) → get_or xs m 0 < 256) → place + 8 ≤ length xs → little_bytes 8 (number_at xs place) ≡ take 8 (drop place xs)
unfolding number_at
number_spelled place xs small within = spelled_back 8 place xs small within

take-two : (w m q : ℕ) (xs : List ℕ) → take w (drop q xs) ++ take m (drop (q + w) xs) ≡ take (w + m) (drop q xs)
take-two w m q xs = ap (λ (ys : List ℕ). take w (drop q xs) ++ take m ys) (sym (drop-drop w q xs)) ∙ sym (take-add w m (drop q xs))

-- pieces of one length that are spelled one after the other
pieces_from : {X : Type 0} (h : X → List ℕ) (g : ℕ → X) (w p : ℕ) (xs : List ℕ) (a n : ℕ) → ((k : ℕ) → a ≤ k → k < a + n → h (g k) ≡ take w (drop (p + w * k) xs)) →
    flat_map h (map g (range_with_len a n)) ≡ take (w * n) (drop (p + w * a) xs)
pieces_from h g w p xs a zero each = let none : w * 0 ≡ 0 = grind arith in ap (λ (m : ℕ). take m (drop (p + w * a) xs)) (sym none)
pieces_from h g w p xs a (suc n) each =
    let first : h (g a) ≡ take w (drop (p + w * a) xs) = each a (omega arith) (omega arith) in
    let rest : flat_map h (map g (range_with_len (a + 1) n)) ≡ take (w * n) (drop (p + w * (a + 1)) xs) = pieces_from h g w p xs (a + 1) n (λ k low high. each k (omega arith) (omega arith)) in
    let at : p + w * (a + 1) ≡ p + w * a + w = grind arith in
    let size : w + w * n ≡ w * suc n = grind arith in
    ap (λ (ys : List ℕ). ys ++ flat_map h (map g (range_with_len (a + 1) n))) first
    ∙ ap (λ (ys : List ℕ). take w (drop (p + w * a) xs) ++ ys) (rest ∙ ap (λ (q : ℕ). take (w * n) (drop q xs)) at)
    ∙ take-two w (w * n) (p + w * a) xs
    ∙ ap (λ (m : ℕ). take m (drop (p + w * a) xs)) size

pub pieces : {X : Type 0} (h : X → List ℕ) (g : ℕ → X) (w p : ℕ) (xs : List ℕ) (n : ℕ) → ((k : ℕ) → k < n → h (g k) ≡ take w (drop (p + w * k) xs)) →
    flat_map h (map g (numbers 0 n)) ≡ take (w * n) (drop p xs)
unfolding numbers
pieces h g w p xs n each =
    let at : p + w * 0 ≡ p = grind arith in
    pieces_from h g w p xs 0 n (λ k _ low. each k (omega arith)) ∙ ap (λ (q : ℕ). take (w * n) (drop q xs)) at

page_spelled : (place : ℕ) (xs : List ℕ) → ((m : ℕ) → get_or xs m 0 < 256) → place + 4104 ≤ length xs → spelled_page (page_at xs place) ≡ take 4104 (drop place xs)
unfolding spelled_page page_at
page_spelled place xs small within =
    let words : flat_map (little_bytes 8) (map (λ (i : ℕ). number_at xs (place + 8 + 8 * i)) (numbers 0 512)) ≡ take (8 * 512) (drop (place + 8) xs) =
    pieces (little_bytes 8) (λ (i : ℕ). number_at xs (place + 8 + 8 * i)) 8 (place + 8) xs 512 (λ k low. number_spelled (place + 8 + 8 * k) xs small (omega arith)) in
    ap (λ (ys : List ℕ). ys ++ flat_map (little_bytes 8) (map (λ (i : ℕ). number_at xs (place + 8 + 8 * i)) (numbers 0 512))) (number_spelled place xs small (omega arith))
    ∙ ap (λ (ys : List ℕ). take 8 (drop place xs) ++ ys) words
    ∙ take-two 8 4096 place xs

-- whole pages
pub pages_spelled : (xs : List ℕ) (n : ℕ) → ((m : ℕ) → get_or xs m 0 < 256) → length xs ≡ 4104 * n → flat_map spelled_page (pages_at xs 0 n) ≡ xs
unfolding pages_at
pages_spelled xs n small whole =
    pieces spelled_page (λ (k : ℕ). page_at xs (0 + 4104 * k)) 4104 0 xs n (λ k low. page_spelled (0 + 4104 * k) xs small (omega arith))
    ∙ take_all (4104 * n) xs (omega arith)
