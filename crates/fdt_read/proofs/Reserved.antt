-- The loop over the pairs of the reservation block.
use Rattle.std.proofs.Common.{◌≡◌, ℕ, zero, suc, ◌+◌, ◌-◌, ◌%◌, ◌<◌, ◌≤◌, ◌==◌, Bool, true, false, cond, not, ◌||◌, List, [], ◌∷◌, ◌++◌, length, take, drop, refl, sym, ap, ◌∙◌, append_assoc, arith, length-drop, length-take}
use Rattle.std.specs.List.{list_any, prefix_len, slice_range}
use Rattle.std.specs.Int.{w64, from_be_bytes}
use Rattle.std.proofs.lemmas.Bool.{lt-ltb, le-ltb, eq-eqb, ne_eqb}
use Rattle.std.proofs.lemmas.List.{append-nil, drop_all, drop-drop, drop-take}
use Rattle.fdt_tree.specs.Tree.{Bytes}
use Rattle.fdt_tree.specs.declared.reserve.Reserve.{Reserve}
use Rattle.fdt_read.specs.Reservations.{first_pair, pairs_up_to, pairs, reservations_block, is_last_pair, reservations_end, before_last, reservations}
use Rattle.fdt_read.specs.Header.{wide, total_size, reservations_offset}
use Rattle.fdt_read.specs.Refusals.{is_reservations_fault}

-- What is known at an offset: these pairs were read, none of them zeros, and the rest decides.
pub record Listed (block : Bytes) (reserves : List Reserve) (at : ℕ) : Type 0 where
  pub within : at ≤ length block
  pub most : ℕ
  pub enough : length block ≤ at + most
  pub ends : list_any is_last_pair (pairs block) ≡ list_any is_last_pair (pairs_up_to most (drop at block))
  pub listed : before_last (pairs block) ≡ reserves ++ before_last (pairs_up_to most (drop at block))

-- Before the first pair.
pub none_listed : (block : Bytes) → Listed block [] 0
none_listed block = record {
  within = omega arith;
  most = length block;
  enough = omega arith;
  ends = refl;
  listed = refl;
}

no_more : (most : ℕ) (rest : Bytes) → length rest < 16 → pairs_up_to most rest ≡ []
no_more zero rest h = refl
no_more (suc most) rest h =
    ap (λ b. cond b [] (first_pair rest ∷ pairs_up_to most (drop 16 rest))) (lt-ltb (length rest) 16 h)

one_more : (most : ℕ) (rest : Bytes) → 16 ≤ length rest → pairs_up_to (suc most) rest ≡ first_pair rest ∷ pairs_up_to most (drop 16 rest)
one_more most rest h =
    ap (λ b. cond b [] (first_pair rest ∷ pairs_up_to most (drop 16 rest))) (le-ltb (length rest) 16 h)

before_last-cons : (r : Reserve) (rs : List Reserve) → before_last (r ∷ rs) ≡ cond (is_last_pair r) [] (r ∷ before_last rs)
before_last-cons r rs = by_test (is_last_pair r) refl
  where
    by_test : (b : Bool) → is_last_pair r ≡ b → before_last (r ∷ rs) ≡ cond b [] (r ∷ before_last rs)
    by_test true e = ap (λ b. take (cond (not b) (1 + prefix_len (λ q. not (is_last_pair q)) rs) 0) (r ∷ rs)) e
    by_test false e =
        let n = prefix_len (λ q. not (is_last_pair q)) rs in let s : 1 + n ≡ suc n = omega arith in ap (λ b. take (cond (not b) (1 + n) 0) (r ∷ rs)) e ∙ ap (λ m. take m (r ∷ rs)) s

-- The block ends without a pair of zeros.
pub unended : (block : Bytes) (reserves : List Reserve) (at : ℕ) → Listed block reserves at → length block < at + 16 → list_any is_last_pair (pairs block) ≡ false
unended block reserves at l h =
    l.ends ∙ ap (list_any is_last_pair) (no_more l.most (drop at block) (omega (arith, l.within, length-drop at block)))

drop_next : (at : ℕ) (block : Bytes) → drop 16 (drop at block) ≡ drop (at + 16) block
drop_next at block = drop-drop 16 at block

module _ (block : Bytes) (reserves : List Reserve) (at : ℕ) (pair : Reserve) where
  -- A pair of zeros ends the list.
  zeros_by : (most : ℕ) → at + 16 ≤ length block → length block ≤ at + most → pair ≡ first_pair (drop at block) → is_last_pair pair ≡ true → (list_any is_last_pair (pairs_up_to most (drop at block)) ≡ true) × (before_last (pairs_up_to most (drop at block)) ≡ [])
  zeros_by zero w h e z = absurd (omega arith)
  zeros_by (suc most) w h e z =
      let m = one_more most (drop at block) (omega (arith, length-drop at block)) in let f : is_last_pair (first_pair (drop at block)) ≡ true = ap is_last_pair (sym e) ∙ z in (ap (list_any is_last_pair) m ∙ ap (λ b. b || list_any is_last_pair (pairs_up_to most (drop 16 (drop at block)))) f, ap before_last m ∙ (before_last-cons (first_pair (drop at block)) (pairs_up_to most (drop 16 (drop at block))) ∙ ap (λ b. cond b [] (first_pair (drop at block) ∷ before_last (pairs_up_to most (drop 16 (drop at block))))) f))

  pub zeros : Listed block reserves at → at + 16 ≤ length block → pair ≡ first_pair (drop at block) → is_last_pair pair ≡ true → (true ≡ list_any is_last_pair (pairs block)) × (reserves ≡ before_last (pairs block))
  zeros l w e z =
      let s = zeros_by l.most w l.enough e z in (sym (l.ends ∙ s.0), sym (l.listed ∙ (ap (λ z. reserves ++ z) s.1 ∙ append-nil reserves)))

  more_by : (most : ℕ) → at + 16 ≤ length block → length block ≤ at + most → pair ≡ first_pair (drop at block) → is_last_pair pair ≡ false → (k : ℕ) × (most ≡ suc k) × (list_any is_last_pair (pairs_up_to most (drop at block)) ≡ list_any is_last_pair (pairs_up_to k (drop (at + 16) block))) × (before_last (pairs_up_to most (drop at block)) ≡ pair ∷ before_last (pairs_up_to k (drop (at + 16) block)))
  more_by zero w h e z = absurd (omega arith)
  more_by (suc most) w h e z =
      let m = one_more most (drop at block) (omega (arith, length-drop at block)) in let f : is_last_pair (first_pair (drop at block)) ≡ false = ap is_last_pair (sym e) ∙ z in let d = ap (pairs_up_to most) (drop_next at block) in (most, refl, ap (list_any is_last_pair) m ∙ (ap (λ b. b || list_any is_last_pair (pairs_up_to most (drop 16 (drop at block)))) f ∙ ap (list_any is_last_pair) d), ap before_last m ∙ (before_last-cons (first_pair (drop at block)) (pairs_up_to most (drop 16 (drop at block))) ∙ (ap (λ b. cond b [] (first_pair (drop at block) ∷ before_last (pairs_up_to most (drop 16 (drop at block))))) f ∙ (ap (λ p. p ∷ before_last (pairs_up_to most (drop 16 (drop at block)))) (sym e) ∙ ap (λ ps. pair ∷ before_last ps) d))))

  -- Any other pair is listed.
  pub one_listed : (after : List Reserve) → Listed block reserves at → at + 16 ≤ length block → pair ≡ first_pair (drop at block) → is_last_pair pair ≡ false → after ≡ reserves ++ pair ∷ [] → Listed block after (at + 16)
  one_listed after l w e z a =
      let s = more_by l.most w l.enough e z in record {
        within = w;
        most = s.0;
        enough = omega (arith, l.enough, s.1);
        ends = l.ends ∙ s.2;
        listed = l.listed ∙ (ap (λ z. reserves ++ z) s.3 ∙ (sym (append_assoc reserves (pair ∷ []) (before_last (pairs_up_to s.0 (drop (at + 16) block)))) ∙ ap (λ z. z ++ before_last (pairs_up_to s.0 (drop (at + 16) block))) (sym a)));
      }

-- The pair that is read at an offset.
pub pair_read : (block : Bytes) (offset address size : ℕ) → address ≡ wide block offset → size ≡ wide block (offset + 8) → record { address = address; size = size } ≡ first_pair (drop offset block)
pair_read block offset address size e f =
    let g : size ≡ wide (drop offset block) 8 = f ∙ ap (λ z. from_be_bytes w64 (take 8 z)) (sym (drop-drop 8 offset block)) in let P : Reserve = record { address = address; size = size } in let h : P ≡ record { address = wide block offset; size = size } = ap (λ (z : ℕ). record { address = z; size = size }) e in h ∙ ap (λ (z : ℕ). record { address = wide block offset; size = z }) g

fault_if : (x y : Bool) → y ≡ false → (not x || not y) ≡ true
fault_if true y e = ap not e
fault_if false y e = refl

module _ (b : Bytes) (start total : ℕ) (s : start ≡ reservations_offset b) (t : total ≡ total_size b) where
  pub block_read : start ≤ total → slice_range b start total ≡ reservations_block b
  block_read h =
      let n : start + (total - start) ≡ total = omega arith in sym (drop-take start (total - start) b) ∙ (ap (λ z. drop start (take z b)) n ∙ (ap (λ z. drop z (take total b)) s ∙ ap (λ z. drop (reservations_offset b) (take z b)) t))

  pub unaligned : (start % 8 ≡ 0 → ⊥) → is_reservations_fault b ≡ true
  unaligned h =
      let e : (start % 8 == 0) ≡ false = ne_eqb (start % 8) 0 h in ap (λ z. not (z % 8 == 0) || not (reservations_end b)) (sym s) ∙ ap (λ z. not z || not (reservations_end b)) e

  pub outside : total < start → is_reservations_fault b ≡ true
  outside h =
      let e : reservations_block b ≡ [] = drop_all (reservations_offset b) (take (total_size b) b) (omega (arith, length-take (total_size b) b)) in fault_if (reservations_offset b % 8 == 0) (reservations_end b) (ap (λ z. list_any is_last_pair (pairs z)) e)

  pub without_end : start ≤ total → false ≡ list_any is_last_pair (pairs (slice_range b start total)) → is_reservations_fault b ≡ true
  without_end h e =
      fault_if (reservations_offset b % 8 == 0) (reservations_end b) (ap (λ z. list_any is_last_pair (pairs z)) (sym (block_read h)) ∙ sym e)

  pub aligned_end : start % 8 ≡ 0 → start ≤ total → true ≡ list_any is_last_pair (pairs (slice_range b start total)) → is_reservations_fault b ≡ false
  aligned_end a h e =
      let f : reservations_end b ≡ true = ap (λ z. list_any is_last_pair (pairs z)) (sym (block_read h)) ∙ sym e in let g : (reservations_offset b % 8 == 0) ≡ true = eq-eqb (reservations_offset b % 8) 0 (ap (λ z. z % 8) (sym s) ∙ a) in ap (λ z. not z || not (reservations_end b)) g ∙ ap not f

  pub all_read : (found : List Reserve) → start ≤ total → found ≡ before_last (pairs (slice_range b start total)) → found ≡ reservations b
  all_read found h e = e ∙ ap (λ z. before_last (pairs z)) (block_read h)
