-- The commands of a script, one after the other.
use Rattle.std.proofs.Common.{◌≡◌, ℕ, zero, suc, ◌+◌, ◌-◌, ◌<◌, ◌≤◌, ◌^◌, Bool, true, false, cond, List, [], ◌∷◌, ◌++◌, Option, Some, None, length, take, drop, get_or, slice_get, refl, sym, ap, ◌∙◌, subst, arith, append_assoc, append-nil, Ok, Err, length-drop}
use Rattle.std.specs.Prelude.{Result, is_some, nat_eq, if◌then◌else◌}
use Rattle.std.specs.List.{list_all}
use Rattle.std.specs.Option.{option_or, option_eq}
use Rattle.std.proofs.lemmas.Bool.{and_parts}
use Rattle.fdt_tree.specs.Tree.{Tree}
use Rattle.ib_script.specs.declared.command.Command.{Command}
use Rattle.ib_script.specs.declared.command.Command.TheVariants.{Load, Addr, Resize, Mknod, Set, SetEnv, Booti}
use Rattle.script_run.specs.State.{State}
use Rattle.script_run.specs.declared.machine.StepWhy.{StepWhy}
use Rattle.script_run.specs.declared.machine.StepFault.{StepFault}
use Rattle.script_run.specs.declared.machine.StepFault.TheVariants.{Step}
use Rattle.script_run.specs.declared.machine.Stop.{Stop}
use Rattle.script_run.specs.declared.machine.Stop.TheVariants.{Refused}
use Rattle.script_run.specs.declared.machine.Stop.TheVariants as stops
use Rattle.script_run.specs.Effect.{◌>>=◌, in_step, step, steps, tree_after, tree_effect, tree_load_of, tree_size, loads_from, loads_before, first_address, taken_address, is_load, load_count, loads_of, IsAfter, HasEffect, IsStopped}
use Rattle.script_run.specs.PrivateMoves.{left_behind, first_or_0, fault_of, IsMoved, IsAt}

pub size_end : (rest : List Command) (size : ℕ) → length rest ≡ 0 → size < 2 ^ 64 → tree_size rest size ≡ size
size_end [] size none fits = omega arith
size_end (c ∷ cs) size none fits = absurd (omega arith)

-- A list at an index.
pub all_at : {A : Type 0} (p : A → Bool) (xs : List A) (k : ℕ) (x : A) → list_all p xs ≡ true → slice_get xs k ≡ Some x → p x ≡ true
all_at p [] k x all there = absurd (cc)
all_at p (y ∷ ys) zero x all there = let same : y ≡ x = cc in ap p (sym same) ∙ (and_parts (p y) (list_all p ys) all).0
all_at p (y ∷ ys) (suc k) x all there = all_at p ys k x (and_parts (p y) (list_all p ys) all).1 there

there_at : {A : Type 0} (xs : List A) (k : ℕ) (d : A) → k < length xs → slice_get xs k ≡ Some (get_or xs k d)
there_at [] k d h = absurd (omega arith)
there_at (x ∷ xs) zero d h = refl
there_at (x ∷ xs) (suc k) d h = there_at xs k d (omega arith)

pub indexed : {A : Type 0} (xs lent : List A) (k : ℕ) (x : A) → lent ≡ xs → k < length lent → x ≡ get_or lent k x → slice_get xs k ≡ Some x
indexed xs lent k x e h is = ap (λ z. slice_get z k) (sym e) ∙ (there_at lent k x h ∙ ap (λ z. Some z) (sym is))

pub within_index : {A : Type 0} (xs : List A) (k : ℕ) (x : A) → slice_get xs k ≡ Some x → suc k ≤ length xs
within_index [] k x there = absurd (cc)
within_index (y ∷ ys) zero x there = omega arith
within_index (y ∷ ys) (suc k) x there = omega (arith, within_index ys k x there)

pub take_next : {A : Type 0} (xs : List A) (k : ℕ) (x : A) → slice_get xs k ≡ Some x → take (suc k) xs ≡ take k xs ++ x ∷ []
take_next [] k x there = absurd (cc)
take_next (y ∷ ys) zero x there = let same : y ≡ x = cc in ap (λ z. z ∷ []) same
take_next (y ∷ ys) (suc k) x there = ap (λ zs. y ∷ zs) (take_next ys k x there)

pub split_at_index : {A : Type 0} (xs : List A) (k : ℕ) (x : A) → slice_get xs k ≡ Some x → xs ≡ take k xs ++ x ∷ drop (suc k) xs
split_at_index [] k x there = absurd (cc)
split_at_index (y ∷ ys) zero x there = let same : y ≡ x = cc in ap (λ z. z ∷ ys) same
split_at_index (y ∷ ys) (suc k) x there = ap (λ zs. y ∷ zs) (split_at_index ys k x there)

pub length_taken : {A : Type 0} (xs : List A) (k : ℕ) → k ≤ length xs → length (take k xs) ≡ k
length_taken xs zero h = refl
length_taken [] (suc k) h = absurd (omega arith)
length_taken (x ∷ xs) (suc k) h = ap suc (length_taken xs k (omega arith))

pub take_all : {A : Type 0} (xs : List A) → take (length xs) xs ≡ xs
take_all [] = refl
take_all (x ∷ xs) = ap (λ ys. x ∷ ys) (take_all xs)

-- The effect of commands behind others.
same_before : (loaded : Bool) (before more cs : List Command) (x : Command) (r : Result Tree StepFault)
    → (r >>= λ u. steps loaded ((before ++ x ∷ []) ++ more) cs u) ≡ (r >>= λ u. steps loaded (before ++ x ∷ more) cs u)
same_before loaded before more cs x (Ok u) = ap (λ b. steps loaded b cs u) (append_assoc before (x ∷ []) more)
same_before loaded before more cs x (Err e) = refl

pub steps-append : (loaded : Bool) (before xs ys : List Command) (t : Tree) → steps loaded before (xs ++ ys) t ≡ (steps loaded before xs t >>= λ u. steps loaded (before ++ xs) ys u)
steps-append loaded before [] ys t = ap (λ b. steps loaded b ys t) (sym (append-nil before))
steps-append loaded before (x ∷ xs) ys t = by (in_step (length before + 1) (step loaded (first_address before) x t)) (λ u. steps-append loaded (before ++ x ∷ []) xs ys u)
  where
    by : (r : Result Tree StepFault) → ((u : Tree) → steps loaded (before ++ x ∷ []) (xs ++ ys) u ≡ (steps loaded (before ++ x ∷ []) xs u >>= λ v. steps loaded ((before ++ x ∷ []) ++ xs) ys v))
        → (r >>= λ u. steps loaded (before ++ x ∷ []) (xs ++ ys) u) ≡ ((r >>= λ u. steps loaded (before ++ x ∷ []) xs u) >>= λ u. steps loaded (before ++ x ∷ xs) ys u)
    by (Ok u) h = h u ∙ same_before loaded before xs ys x (steps loaded (before ++ x ∷ []) xs u)
    by (Err e) h = refl

pub tree_next : (script : List Command) (k : ℕ) (c : Command) (t u v : Tree) → slice_get script k ≡ Some c → tree_after k script t ≡ Ok u → step (is_some (tree_load_of script)) (first_address (take k script)) c u ≡ Ok v
    → tree_after (suc k) script t ≡ Ok v
tree_next script k c t u v there before here =
    let loaded : Bool = is_some (tree_load_of script) in
    ap (λ cs. steps loaded [] cs t) (take_next script k c there) ∙ (steps-append loaded [] (take k script) (c ∷ []) t ∙ rw (before, here) refl)

pub tree_refused : (script : List Command) (k : ℕ) (c : Command) (t u : Tree) (why : StepWhy) → slice_get script k ≡ Some c → k ≤ length script → tree_after k script t ≡ Ok u
    → step (is_some (tree_load_of script)) (first_address (take k script)) c u ≡ Err why → tree_effect script t ≡ Err (Step (k + 1) why)
unfolding tree_effect
tree_refused script k c t u why there within before here =
    let loaded : Bool = is_some (tree_load_of script) in
    ap (λ cs. steps loaded [] cs t) (split_at_index script k c there)
    ∙ (steps-append loaded [] (take k script) (c ∷ drop (suc k) script) t ∙ rw (before, here) (ap (λ n. Err (Step (n + 1) why)) (length_taken script k within)))

-- The loads of commands behind others.
count_append : (xs ys : List Command) → load_count (xs ++ ys) ≡ load_count xs + load_count ys
count_append [] ys = omega arith
count_append (x ∷ xs) ys = by (is_load x) (count_append xs ys)
  where
    by : (b : Bool) → load_count (xs ++ ys) ≡ load_count xs + load_count ys → cond b (suc (load_count (xs ++ ys))) (load_count (xs ++ ys)) ≡ cond b (suc (load_count xs)) (load_count xs) + load_count ys
    by true h = omega (arith, h)
    by false h = h

at_index : (tree : Option ℕ) (size i : ℕ) (xs : List Command) (c : Command) (sizes : List ℕ) → loads_from tree size (suc i + length xs) (c ∷ []) sizes ≡ loads_from tree size (i + suc (length xs)) (c ∷ []) sizes
at_index tree size i xs c sizes = let e : suc i + length xs ≡ i + suc (length xs) = omega arith in ap (λ j. loads_from tree size j (c ∷ []) sizes) e

pub loads_next : (tree : Option ℕ) (size i : ℕ) (xs : List Command) (c : Command) (sizes : List ℕ) → load_count xs ≤ length sizes
    → loads_from tree size i (xs ++ c ∷ []) sizes ≡ loads_from tree size i xs sizes ++ loads_from tree size (i + length xs) (c ∷ []) (drop (load_count xs) sizes)
loads_next tree size i [] c sizes fits = let e : i + 0 ≡ i = omega arith in ap (λ j. loads_from tree size j (c ∷ []) sizes) (sym e)
loads_next tree size i (Load how address name ∷ xs) c [] fits = absurd (omega (arith, fits))
loads_next tree size i (Load how address name ∷ xs) c (s ∷ sizes) fits =
    ap (λ ls. record { name = name; address = address; size = if option_eq nat_eq tree (Some i) then size else s } ∷ ls) (loads_next tree size (suc i) xs c sizes (omega (arith, fits)) ∙ ap (λ ls. loads_from tree size (suc i) xs sizes ++ ls) (at_index tree size i xs c (drop (load_count xs) sizes)))
loads_next tree size i (Addr a ∷ xs) c sizes fits = loads_next tree size (suc i) xs c sizes fits ∙ ap (λ ls. loads_from tree size (suc i) xs sizes ++ ls) (at_index tree size i xs c (drop (load_count xs) sizes))
loads_next tree size i (Resize a ∷ xs) c sizes fits = loads_next tree size (suc i) xs c sizes fits ∙ ap (λ ls. loads_from tree size (suc i) xs sizes ++ ls) (at_index tree size i xs c (drop (load_count xs) sizes))
loads_next tree size i (Mknod a b ∷ xs) c sizes fits = loads_next tree size (suc i) xs c sizes fits ∙ ap (λ ls. loads_from tree size (suc i) xs sizes ++ ls) (at_index tree size i xs c (drop (load_count xs) sizes))
loads_next tree size i (Set a b d ∷ xs) c sizes fits = loads_next tree size (suc i) xs c sizes fits ∙ ap (λ ls. loads_from tree size (suc i) xs sizes ++ ls) (at_index tree size i xs c (drop (load_count xs) sizes))
loads_next tree size i (SetEnv a b ∷ xs) c sizes fits = loads_next tree size (suc i) xs c sizes fits ∙ ap (λ ls. loads_from tree size (suc i) xs sizes ++ ls) (at_index tree size i xs c (drop (load_count xs) sizes))
loads_next tree size i (Booti a b ∷ xs) c sizes fits = loads_next tree size (suc i) xs c sizes fits ∙ ap (λ ls. loads_from tree size (suc i) xs sizes ++ ls) (at_index tree size i xs c (drop (load_count xs) sizes))

-- there is a size for the next load
enough : (script : List Command) (sizes left : List ℕ) (k : ℕ) (c : Command) → slice_get script k ≡ Some c → length sizes ≡ load_count script → drop (load_count (take k script)) sizes ≡ left
    → (load_count (take k script) ≤ length sizes) × (is_load c ≡ true → 0 < length left)
enough script sizes left k c there sized is =
    let parts : load_count script ≡ load_count (take k script) + load_count (c ∷ drop (suc k) script) =
    ap load_count (split_at_index script k c there) ∙ count_append (take k script) (c ∷ drop (suc k) script) in
    let long : length (drop (load_count (take k script)) sizes) ≡ length sizes - load_count (take k script) = length-drop (load_count (take k script)) sizes in
    let left_long : length left ≡ length sizes - load_count (take k script) = ap length (sym is) ∙ long in
    (omega (arith, parts, sized), λ load. let one : load_count (c ∷ drop (suc k) script) ≡ suc (load_count (drop (suc k) script)) = rw load refl in omega (arith, parts, sized, one, left_long))

-- a load takes the first of the sizes that are left
own : (tree : Option ℕ) (size i : ℕ) (c : Command) (left : List ℕ) → (is_load c ≡ true → 0 < length left) → loads_from tree size i (c ∷ []) left ≡ loads_from tree size i (c ∷ []) (first_or_0 left ∷ [])
own tree size i (Load how address name) [] some = absurd (let h = some refl in omega (arith, h))
own tree size i (Load how address name) (s ∷ left) some = refl
own tree size i (Addr a) left some = refl
own tree size i (Resize a) left some = refl
own tree size i (Mknod a b) left some = refl
own tree size i (Set a b d) left some = refl
own tree size i (SetEnv a b) left some = refl
own tree size i (Booti a b) left some = refl

pub first_next : (xs : List Command) (c : Command) → first_address (xs ++ c ∷ []) ≡ option_or (first_address xs) (taken_address c)
first_next [] c = by (taken_address c)
  where
    by : (o : Option ℕ) → option_or o None ≡ o
    by None = refl
    by (Some a) = refl
first_next (x ∷ xs) c = by (taken_address x) (first_next xs c)
  where
    by : (o : Option ℕ) → first_address (xs ++ c ∷ []) ≡ option_or (first_address xs) (taken_address c) → option_or o (first_address (xs ++ c ∷ [])) ≡ option_or (option_or o (first_address xs)) (taken_address c)
    by None h = h
    by (Some a) h = refl

drop_one : {A : Type 0} (n : ℕ) (xs : List A) → drop (suc n) xs ≡ drop 1 (drop n xs)
drop_one zero xs = refl
drop_one (suc n) [] = refl
drop_one (suc n) (x ∷ xs) = drop_one n xs

left_next : (xs : List Command) (c : Command) (sizes : List ℕ) → drop (load_count (xs ++ c ∷ [])) sizes ≡ left_behind c (drop (load_count xs) sizes)
left_next xs c sizes = ap (λ n. drop n sizes) (count_append xs (c ∷ [])) ∙ by (is_load c)
  where
    by : (b : Bool) → drop (load_count xs + cond b (suc (load_count [])) (load_count [])) sizes ≡ cond b (drop 1 (drop (load_count xs) sizes)) (drop (load_count xs) sizes)
    by true = let e : load_count xs + 1 ≡ suc (load_count xs) = omega arith in ap (λ n. drop n sizes) e ∙ drop_one (load_count xs) sizes
    by false = let e : load_count xs + 0 ≡ load_count xs = omega arith in ap (λ n. drop n sizes) e

-- one command more
pub IsAt-next : (script : List Command) (sizes : List ℕ) (old m new : State) (k : ℕ) (c : Command) (left left' : List ℕ) (first first' load : Option ℕ) (size : ℕ) (u : Unit {0}) → IsAt k script sizes old m left first
    → length sizes ≡ load_count script → slice_get script k ≡ Some c → load ≡ tree_load_of script → size ≡ tree_size script old.tree_length → IsMoved load size k first c (first_or_0 left) m (Ok u) new
    → left' ≡ left_behind c left → first' ≡ option_or first (taken_address c) → IsAt (suc k) script sizes old new left' first'
IsAt-next script sizes old m new k c left left' first first' load size u at sized there l s moved f g =
    let more = enough script sizes left k c there sized at.left_is in
    let taken = take_next script k c there in
    let T : Option ℕ = tree_load_of script in
    let S : ℕ = tree_size script old.tree_length in
    let here : loads_from load size k (c ∷ []) left ≡ loads_from T S (length (take k script)) (c ∷ []) (drop (load_count (take k script)) sizes) =
    ap (λ z. loads_from z size k (c ∷ []) left) l ∙ (ap (λ z. loads_from T z k (c ∷ []) left) s ∙ (ap (λ z. loads_from T S z (c ∷ []) left) (sym (length_taken script k at.within)) ∙ ap (λ z. loads_from T S (length (take k script)) (c ∷ []) z) (sym at.left_is))) in
    let loads : loads_before k script sizes old.tree_length ++ loads_from T S (length (take k script)) (c ∷ []) (drop (load_count (take k script)) sizes) ≡ loads_before (suc k) script sizes old.tree_length =
    let zero_more : 0 + length (take k script) ≡ length (take k script) = omega arith in
    sym (loads_next T S 0 (take k script) c sizes more.0 ∙ ap (λ j. loads_before k script sizes old.tree_length ++ loads_from T S j (c ∷ []) (drop (load_count (take k script)) sizes)) zero_more) ∙ ap (λ cs. loads_from T S 0 cs sizes) (sym taken) in
    record {
      after = record {
        tree = tree_next script k c old.tree.tree m.tree.tree new.tree.tree there at.after.tree (rw (sym l, at.first_is) moved.0);
        loads = moved.1 ∙ (ap (λ ls. ls ++ loads_from load size k (c ∷ []) (first_or_0 left ∷ [])) at.after.loads ∙ (ap (λ ls. loads_before k script sizes old.tree_length ++ ls) (sym (own load size k c left more.1) ∙ here) ∙ loads));
        same_length = moved.2 ∙ at.after.same_length;
      };
      within = within_index script k c there;
      left_is = ap (λ cs. drop (load_count cs) sizes) taken ∙ (left_next (take k script) c sizes ∙ (ap (left_behind c) at.left_is ∙ sym f));
      first_is = ap first_address taken ∙ (first_next (take k script) c ∙ (ap (λ o. option_or o (taken_address c)) at.first_is ∙ sym g));
    }

-- a command that was not run
pub ended : (script : List Command) (sizes : List ℕ) (old m new : State) (k : ℕ) (c : Command) (left : List ℕ) (first load : Option ℕ) (size : ℕ) (stop : Stop) (fault : StepFault) → IsAt k script sizes old m left first
    → slice_get script k ≡ Some c → load ≡ tree_load_of script → IsMoved load size k first c (first_or_0 left) m (Err stop) new → fault ≡ fault_of (k + 1) stop → IsStopped script sizes old new fault
ended script sizes old m new k c left first load size (Refused why) fault at there l moved f =
    let same : k + 1 - 1 ≡ k = omega arith in
    let after : IsAfter k script sizes old new = subst (λ (z : State). IsAfter k script sizes old z) (sym moved.1) at.after in
    let refused = tree_refused script k c old.tree.tree m.tree.tree why there at.within at.after.tree (rw (sym l, at.first_is) moved.0) in
    subst (IsStopped script sizes old new) (sym f) (
      ap (λ r. r >>= λ u. Ok (loads_of script sizes old.tree_length, u)) refused,
      subst (λ j. IsAfter j script sizes old new) (sym same) after,
    )
ended script sizes old m new k c left first load size stops.Memory fault at there l moved f =
    let after : IsAfter k script sizes old new = subst (λ (z : State). IsAfter k script sizes old z) (sym moved) at.after in
    subst (IsStopped script sizes old new) (sym f) (k, at.within, after)

-- before the first command
pub IsAt-first : (script : List Command) (sizes : List ℕ) (old : State) → old.loads ≡ [] → IsAt 0 script sizes old old sizes None
IsAt-first script sizes old fresh = record {
  after = record { tree = refl; loads = fresh; same_length = refl };
  within = omega arith;
  left_is = refl;
  first_is = refl;
}

-- behind the last
pub IsAt-last : (script : List Command) (sizes : List ℕ) (old m : State) (k : ℕ) (left : List ℕ) (first : Option ℕ) → IsAt k script sizes old m left first → k ≡ length script → HasEffect script sizes old m
unfolding tree_effect
IsAt-last script sizes old m k left first at e =
    let after : IsAfter (length script) script sizes old m = subst (λ j. IsAfter j script sizes old m) e at.after in
    let all : take (length script) script ≡ script = take_all script in
    let tree : steps (is_some (tree_load_of script)) [] script old.tree.tree ≡ Ok m.tree.tree = subst (λ cs. steps (is_some (tree_load_of script)) [] cs old.tree.tree ≡ Ok m.tree.tree) all after.tree in
    let loads : m.loads ≡ loads_of script sizes old.tree_length = subst (λ cs. m.loads ≡ loads_from (tree_load_of script) (tree_size script old.tree_length) 0 cs sizes) all after.loads in
    (ap (λ r. r >>= λ u. Ok (loads_of script sizes old.tree_length, u)) tree ∙ ap (λ ls. Ok (ls, m.tree.tree)) (sym loads), after.same_length)
