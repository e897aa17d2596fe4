-- Where `chosen` has a child that is to be added, the script stops at the command that adds it.
use Rattle.std.proofs.Common.{◌≡◌, ℕ, suc, ◌+◌, ◌<◌, Bool, true, false, cond, not, List, [], ◌∷◌, ◌++◌, Option, Some, None, Ok, Err, option_map, option_and_then, length, refl, sym, ap, subst, ◌∙◌, arith, length-append}
use Rattle.std.specs.Prelude.{codes, bytes_eq, is_some, ok_or}
use Rattle.std.specs.Option.{option_map_or}
use Rattle.std.specs.Result.{result_map_both}
use Rattle.std.specs.List.{list_all, position_or_len}
use Rattle.std.proofs.lemmas.Bool.{and_parts}
use Rattle.fdt_tree.specs.Tree.{Bytes, Trees, none, tree, Tree, Place, at_in, edit, add_child, first_named, find_place}
use Rattle.fdt_tree.specs.PathEdits.{has_named, mknod, with_room, trees_at}
use Rattle.fdt_tree.specs.declared.edit_fault.EditFault.TheVariants.{NoNode}
use Rattle.fdt_tree.specs.declared.edit_fault.EditFault.TheVariants as edits
use Rattle.ib_script.specs.declared.command.Command.{Command}
use Rattle.ib_script.specs.declared.command.Command.TheVariants.{Mknod}
use Rattle.script_run.specs.declared.machine.StepWhy.TheVariants.{Exists}
use Rattle.script_run.specs.declared.machine.StepFault.TheVariants.{Step}
use Rattle.script_run.specs.Effect.{◌>>=◌, steps, first_address}
use Rattle.script_run.specs.Edited.{at_first}
use Rattle.script_run.specs.Laws.{chosen_has, adds_to_chosen as adds}
use Rattle.script_run.proofs.MachineLemmas.{steps-append}
use Rattle.script_run.proofs.GuestEdits.{chosen}
use Rattle.script_run.proofs.NodeEdits.{Keeps, first_of}

-- what the first of a name has, at its number
first-at : (name : Bytes) (ts : Trees) (h : ℕ × Trees) → first_named name ts ≡ Some h → option_map_or (λ (u : Tree). u.children) (at_in ts h.0 []) none ≡ h.1
first-at name none h e = cc
first-at name (tree n ps cs rest) h e = by (bytes_eq n name) (first_named name rest) e (λ r f. first-at name rest r f) refl
  where
    by : (b : Bool) (o : Option (ℕ × Trees)) → first_of b cs o ≡ Some h → ((r : ℕ × Trees) → first_named name rest ≡ Some r → option_map_or (λ (u : Tree). u.children) (at_in rest r.0 []) none ≡ r.1) → first_named name rest ≡ o
        → option_map_or (λ (u : Tree). u.children) (at_in (tree n ps cs rest) h.0 []) none ≡ h.1
    by true o e g f = let is : (0, cs) ≡ h = cc in subst (λ (z : ℕ × Trees). option_map_or (λ (u : Tree). u.children) (at_in (tree n ps cs rest) z.0 []) none ≡ z.1) is refl
    by false None e g f = cc
    by false (Some r) e g f = let is : (suc r.0, r.1) ≡ h = cc in subst (λ (z : ℕ × Trees). option_map_or (λ (u : Tree). u.children) (at_in (tree n ps cs rest) z.0 []) none ≡ z.1) is (g r f)

chosen_has-is : (ts : Trees) (name : Bytes) → chosen_has ts name ≡ option_map_or (λ (h : ℕ × Trees). has_named name h.1) (first_named chosen ts) false
chosen_has-is none name = refl
chosen_has-is (tree n ps cs rest) name = by (bytes_eq n chosen) (first_named chosen rest) (chosen_has-is rest name)
  where
    by : (b : Bool) (o : Option (ℕ × Trees)) → chosen_has rest name ≡ option_map_or (λ (h : ℕ × Trees). has_named name h.1) o false → cond b (has_named name cs) (chosen_has rest name) ≡ option_map_or (λ (h : ℕ × Trees). has_named name h.1) (first_of b cs o) false
    by true o h = refl
    by false None h = h
    by false (Some r) h = h

-- adding a child that the first `chosen` has
pub mknod-exists : (t : Tree) (name : Bytes) → chosen_has t.children name ≡ true → mknod t (codes "/chosen") name ≡ Err edits.Exists
mknod-exists t name e = by (first_named chosen t.children) refl (sym (chosen_has-is t.children name) ∙ e)
  where
    by : (o : Option (ℕ × Trees)) → first_named chosen t.children ≡ o → option_map_or (λ (h : ℕ × Trees). has_named name h.1) o false ≡ true → mknod t (codes "/chosen") name ≡ Err edits.Exists
    by None f e = cc
    by (Some h) f e =
        let find : find_place t (codes "/chosen") ≡ Some (h.0 ∷ []) = ap (option_and_then (λ (z : ℕ × Trees). option_map (λ (p : Place). z.0 ∷ p) (Some []))) f in
        let held : has_named name (trees_at t (h.0 ∷ [])) ≡ true = ap (has_named name) (first-at chosen t.children h f) ∙ e in
        let refused : with_room t name (h.0 ∷ []) ≡ Err edits.Exists = rw held refl in
        ap (λ (o : Option Place). result_map_both (λ place. edit (add_child name []) t place) (λ fault. fault) (elim (ok_or o NoNode) [ Ok place ↦ with_room t name place | Err fault ↦ Err fault ])) find
        ∙ ap (result_map_both (λ place. edit (add_child name []) t place) (λ fault. fault)) refused

-- a change of the first `chosen` that keeps whether it has a name
pub has-changed : (f : Tree → Option Tree) (name : Bytes) → Keeps f → ((u v : Tree) → f u ≡ Some v → has_named name v.children ≡ has_named name u.children) → (ts us : Trees) → at_first f chosen ts ≡ Some us → chosen_has us name ≡ chosen_has ts name
has-changed f name keeps same none us e = cc
has-changed f name keeps same (tree n ps cs rest) us e =
    by (bytes_eq n chosen) refl (f (record { name = n; properties = ps; children = cs })) refl (at_first f chosen rest) (has-changed f name keeps same rest) refl e
  where
    by : (b : Bool) → bytes_eq n chosen ≡ b → (o : Option Tree) → f (record { name = n; properties = ps; children = cs }) ≡ o → (r : Option Trees) → ((vs : Trees) → at_first f chosen rest ≡ Some vs → chosen_has vs name ≡ chosen_has rest name) → at_first f chosen rest ≡ r
        → cond b (option_map (λ (t : Tree). tree t.name t.properties t.children rest) o) (option_map (tree n ps cs) r) ≡ Some us → chosen_has us name ≡ cond b (has_named name cs) (chosen_has rest name)
    by true b None g r h k e = cc
    by true b (Some v) g r h k e =
        let is : tree v.name v.properties v.children rest ≡ us = cc in
        let there : bytes_eq v.name chosen ≡ true = ap (λ z. bytes_eq z chosen) (keeps (record { name = n; properties = ps; children = cs }) v g) ∙ b in
        ap (λ z. chosen_has z name) (sym is) ∙ (ap (λ z. cond z (has_named name v.children) (chosen_has rest name)) there ∙ same (record { name = n; properties = ps; children = cs }) v g)
    by false b o g None h k e = cc
    by false b o g (Some vs) h k e =
        let is : tree n ps cs vs ≡ us = cc in
        ap (λ z. chosen_has z name) (sym is) ∙ (ap (λ z. cond z (has_named name cs) (chosen_has vs name)) b ∙ h vs k)

-- Commands that stop at the first that adds a name which was there.
unfoldable pub Stops : (Bytes → Bool) → Bool → List Command → List Command → Tree → Type 0
Stops has loaded before cs t = (position_or_len (adds has) cs < length cs) × (steps loaded before cs t ≡ Err (Step (length before + position_or_len (adds has) cs + 1) Exists))

position-here : {A : Type 0} (p : A → Bool) (xs ys : List A) → position_or_len p xs < length xs → position_or_len p (xs ++ ys) ≡ position_or_len p xs
position-here p [] ys h = absurd (omega arith)
position-here p (x ∷ xs) ys h = by (p x) refl (position-here p xs ys)
  where
    by : (b : Bool) → p x ≡ b → (position_or_len p xs < length xs → position_or_len p (xs ++ ys) ≡ position_or_len p xs) → position_or_len p (x ∷ xs ++ ys) ≡ position_or_len p (x ∷ xs)
    by true e g = rw e refl
    by false e g = let one : position_or_len p (x ∷ xs) ≡ 1 + position_or_len p xs = rw e refl in rw e (ap (λ n. 1 + n) (g (omega (arith, one))))

position-past : {A : Type 0} (p : A → Bool) (xs ys : List A) → list_all (λ x. not (p x)) xs ≡ true → position_or_len p (xs ++ ys) ≡ length xs + position_or_len p ys
position-past p [] ys h = omega arith
position-past p (x ∷ xs) ys h =
    let k = and_parts (not (p x)) (list_all (λ x. not (p x)) xs) h in
    let off : p x ≡ false = by (p x) k.0 in
    rw off (let rest = position-past p xs ys k.1 in omega (arith, rest))
  where
    by : (b : Bool) → not b ≡ true → b ≡ false
    by true e = cc
    by false e = refl

-- they stop there whatever follows
pub Stops-here : (has : Bytes → Bool) (loaded : Bool) (before cs ds : List Command) (t : Tree) → Stops has loaded before cs t → Stops has loaded before (cs ++ ds) t
unfolding Stops
Stops-here has loaded before cs ds t (within, stopped) =
    let same = position-here (adds has) cs ds within in (
      let long = length-append cs ds in omega (arith, same, long, within),
      steps-append loaded before cs ds t ∙ (ap (λ r. r >>= λ u. steps loaded (before ++ cs) ds u) stopped ∙ ap (λ n. Err (Step (length before + n + 1) Exists)) (sym same)),
    )

-- and behind commands that ran and add no such name
pub Stops-past : (has : Bytes → Bool) (loaded : Bool) (before cs ds : List Command) (t u : Tree) → steps loaded before cs t ≡ Ok u → list_all (λ c. not (adds has c)) cs ≡ true → Stops has loaded (before ++ cs) ds u → Stops has loaded before (cs ++ ds) t
unfolding Stops
Stops-past has loaded before cs ds t u ran quiet (within, stopped) =
    let past = position-past (adds has) cs ds quiet in (
      let long = length-append cs ds in omega (arith, past, long, within),
      steps-append loaded before cs ds t ∙ (ap (λ r. r >>= λ v. steps loaded (before ++ cs) ds v) ran ∙ (stopped ∙ (let number : length (before ++ cs) + position_or_len (adds has) ds + 1 ≡ length before + position_or_len (adds has) (cs ++ ds) + 1 = (let long = length-append before cs in omega (arith, long, past)) in
          ap (λ n. Err (Step n Exists)) number))),
    )

-- a first command that adds a name which is there
pub Stops-first : (has : Bytes → Bool) (loaded : Bool) (before cs : List Command) (t : Tree) (name : Bytes) → is_some (first_address before) ≡ true → has name ≡ true → chosen_has t.children name ≡ true → Stops has loaded before (Mknod (codes "/chosen") name ∷ cs) t
unfolding Stops
Stops-first has loaded before cs t name taken added there =
    let first : position_or_len (adds has) (Mknod (codes "/chosen") name ∷ cs) ≡ 0 = rw added refl in
    (omega (arith, first), rw (taken, mknod-exists t name there, first) (let n : length before + 1 ≡ length before + 0 + 1 = omega arith in ap (λ n. Err (Step n Exists)) n))
