-- Commands that extend the first `chosen`, or stop at the first command that adds a name which was there.
use Rattle.std.proofs.Common.{◌≡◌, ℕ, Bool, true, false, cond, not, ◌&&◌, ◌||◌, List, [], ◌∷◌, ◌++◌, Option, Some, None, option_map, option_and_then, Ok, refl, sym, ap, ◌∙◌}
use Rattle.std.specs.Prelude.{codes, bytes_eq, is_some}
use Rattle.std.specs.Option.{option_or}
use Rattle.std.specs.List.{list_all, list_any}
use Rattle.std.proofs.lemmas.Bool.{and_parts}
use Rattle.std.proofs.lemmas.Slice.Eq.{bytes_eq-Decides}
use Rattle.fdt_tree.specs.Tree.{Bytes, Property, Trees, none, tree, Tree, first_named, components}
use Rattle.fdt_tree.specs.PathEdits.{has_named}
use Rattle.ib_script.specs.declared.command.Command.{Command}
use Rattle.ib_script.specs.declared.command.Command.TheVariants.{Load, Addr, Resize, Mknod, Set, SetEnv, Booti}
use Rattle.script_run.specs.Effect.{◌>>=◌, steps, first_address, taken_address}
use Rattle.script_run.specs.Edited.{at_first, extended, with_properties, with_trees}
use Rattle.script_run.specs.Laws.{chosen_has, adds_to_chosen as adds}
use Rattle.script_run.proofs.MachineLemmas.{steps-append}
use Rattle.script_run.proofs.NodeEdits.{Edit, Add, Put, Keeps, all_under, puts, in_child, below_all, at_first-same, at_first-twice, still_named, first_of}
use Rattle.script_run.proofs.EditSteps.{Says, AllSay, says-steps}
use Rattle.script_run.proofs.GuestEdits.{chosen}
use Rattle.script_run.proofs.ChosenEdits.{Extend, Extend-puts, extended-append, side_by_side, named-with}
use Rattle.script_run.proofs.Refused.{Stops, Stops-here, Stops-past, Stops-first, has-changed}

-- whether one of the trees has a name that was there
abbrev pub any_there : (Bytes → Bool) → List Tree → Bool
any_there has ts = list_any (λ (t : Tree). has t.name) ts

-- the first `chosen` of the trees has the names of these that were there, and no other of them
abbrev pub Agrees : (Bytes → Bool) → List Tree → Trees → Type 0
Agrees has [] trees = Unit {0}
Agrees has (t ∷ ts) trees = (chosen_has trees t.name ≡ has t.name) × Agrees has ts trees

-- Commands behind an Addr that give the first `chosen` these properties and last trees, or stop at the first that adds a name which was there.
pub record Extends (has : Bytes → Bool) (cs : List Command) (ps : List Property) (ts : List Tree) : Type 0 where
  pub runs : (loaded : Bool) (before : List Command) (t u : Tree) → is_some (first_address before) ≡ true → has_named chosen t.children ≡ true
      → in_child (extended ps ts) chosen t ≡ Some u → steps loaded before cs t ≡ Ok u
  pub quiet : any_there has ts ≡ false → list_all (λ c. not (adds has c)) cs ≡ true
  pub stops : (loaded : Bool) (before : List Command) (t : Tree) → is_some (first_address before) ≡ true → has_named chosen t.children ≡ true
      → Agrees has ts t.children → any_there has ts ≡ true → Stops has loaded before cs t

-- Lists.
any-append : {A : Type 0} (p : A → Bool) (xs ys : List A) → list_any p (xs ++ ys) ≡ (list_any p xs || list_any p ys)
any-append p [] ys = refl
any-append p (x ∷ xs) ys = by (p x) (any-append p xs ys)
  where
    by : (b : Bool) → list_any p (xs ++ ys) ≡ (list_any p xs || list_any p ys) → (b || list_any p (xs ++ ys)) ≡ ((b || list_any p xs) || list_any p ys)
    by true h = refl
    by false h = h

pub all_both : {A : Type 0} (p : A → Bool) (xs ys : List A) → list_all p xs ≡ true → list_all p ys ≡ true → list_all p (xs ++ ys) ≡ true
all_both p [] ys a b = b
all_both p (x ∷ xs) ys a b = let k = and_parts (p x) (list_all p xs) a in rw (k.0, all_both p xs ys k.1 b) refl

or_parts : (a b : Bool) → (a || b) ≡ false → (a ≡ false) × (b ≡ false)
or_parts true b h = cc
or_parts false b h = (refl, h)

Agrees-parts : (has : Bytes → Bool) (ts us : List Tree) (trees : Trees) → Agrees has (ts ++ us) trees → Agrees has ts trees × Agrees has us trees
Agrees-parts has [] us trees a = (tt, a)
Agrees-parts has (t ∷ ts) us trees a = let k = Agrees-parts has ts us trees a.1 in ((a.0, k.0), k.1)

pub Agrees-all : (has : Bytes → Bool) (ts : List Tree) (trees : Trees) → ((name : Bytes) → chosen_has trees name ≡ has name) → Agrees has ts trees
Agrees-all has [] trees each = tt
Agrees-all has (t ∷ ts) trees each = (each t.name, Agrees-all has ts trees each)

pub any_there-agrees : (has : Bytes → Bool) (ts : List Tree) (trees : Trees) → Agrees has ts trees → any_there (chosen_has trees) ts ≡ any_there has ts
any_there-agrees has [] trees a = refl
any_there-agrees has (t ∷ ts) trees a = rw (a.0, any_there-agrees has ts trees a.1) refl

-- An extension keeps the node's name.
extended_keeps : (ps : List Property) (ts : List Tree) → Keeps (extended ps ts)
extended_keeps ps ts u v e = by (list_any (λ (new : Tree). has_named new.name u.children) ts) e
  where
    by : (b : Bool) → cond b None (Some (record { name = u.name; properties = with_properties ps u.properties; children = with_trees ts u.children })) ≡ Some v → v.name ≡ u.name
    by true e = cc
    by false e = let h : record { name = u.name; properties = with_properties ps u.properties; children = with_trees ts u.children } ≡ v = cc in sym (ap (λ (w : Tree). w.name) h)

-- It is defined exactly where the first `chosen` has none of the names.
pub extended_defined : (ps : List Property) (ts : List Tree) (trees : Trees) → has_named chosen trees ≡ true → is_some (at_first (extended ps ts) chosen trees) ≡ not (any_there (chosen_has trees) ts)
extended_defined ps ts none e = cc
extended_defined ps ts (tree n qs cs rest) e = by (bytes_eq n chosen) refl (extended_defined ps ts rest)
  where
    made : (b : Bool) → is_some (option_map (λ (t : Tree). tree t.name t.properties t.children rest) (cond b None (Some (record { name = n; properties = with_properties ps qs; children = with_trees ts cs })))) ≡ not b
    made true = refl
    made false = refl

    kept : (o : Option Trees) → is_some (option_map (tree n qs cs) o) ≡ is_some o
    kept None = refl
    kept (Some us) = refl

    later : (b : Bool) (o : Option (ℕ × Trees)) → b ≡ false → is_some (first_of b cs o) ≡ true → is_some o ≡ true
    later true o f h = cc
    later false None f h = cc
    later false (Some x) f h = refl

    by : (b : Bool) → bytes_eq n chosen ≡ b → (has_named chosen rest ≡ true → is_some (at_first (extended ps ts) chosen rest) ≡ not (any_there (chosen_has rest) ts))
        → is_some (at_first (extended ps ts) chosen (tree n qs cs rest)) ≡ not (any_there (chosen_has (tree n qs cs rest)) ts)
    by true f h = rw f (made (list_any (λ (new : Tree). has_named new.name cs) ts))
    by false f h = rw f (kept (at_first (extended ps ts) chosen rest) ∙ h (later (bytes_eq n chosen) (first_named chosen rest) f e))

-- Two extensions of the first `chosen`, one after the other.
record Halves (ps qs : List Property) (ts us : List Tree) (t u : Tree) : Type 0 where
  mid : Tree
  first : in_child (extended ps ts) chosen t ≡ Some mid
  second : in_child (extended qs us) chosen mid ≡ Some u
  there : has_named chosen mid.children ≡ true

halves : (ps qs : List Property) (ts us : List Tree) (t u : Tree) → side_by_side ts us ≡ true → in_child (extended (ps ++ qs) (ts ++ us)) chosen t ≡ Some u → Halves ps qs ts us t u
halves ps qs ts us t u apart made =
    by (at_first (extended ps ts) chosen t.children) refl
    (ap (option_map (λ cs. record t { children = cs })) (at_first-twice (extended ps ts) (extended qs us) chosen (extended_keeps ps ts) t.children
    ∙ ap (λ (f : Tree → Option Tree). at_first f chosen t.children) (λ j. λ v. extended-append ps qs ts us v apart j)) ∙ made)
  where
    by : (o : Option Trees) → at_first (extended ps ts) chosen t.children ≡ o → option_map (λ cs. record t { children = cs }) (option_and_then (at_first (extended qs us) chosen) o) ≡ Some u → Halves ps qs ts us t u
    by None e h = cc
    by (Some ms) e h = record {
      mid = record t { children = ms };
      first = ap (option_map (λ cs. record t { children = cs })) e;
      second = h;
      there = still_named (extended ps ts) chosen (extended_keeps ps ts) t.children ms e;
    }

-- what was taken stays taken
taken_on : (before cs : List Command) → is_some (first_address before) ≡ true → is_some (first_address (before ++ cs)) ≡ true
taken_on [] cs e = cc
taken_on (b ∷ bs) cs e = by (taken_address b) e (taken_on bs cs)
  where
    by : (o : Option ℕ) → is_some (option_or o (first_address bs)) ≡ true → (is_some (first_address bs) ≡ true → is_some (first_address (bs ++ cs)) ≡ true) → is_some (option_or o (first_address (bs ++ cs))) ≡ true
    by None e h = h e
    by (Some a) e h = refl

-- Where none of the names was there, the extension is made, and the names that follow are as before.
record Made (has : Bytes → Bool) (ps : List Property) (ts us : List Tree) (t : Tree) : Type 0 where
  after : Tree
  is : in_child (extended ps ts) chosen t ≡ Some after
  there : has_named chosen after.children ≡ true
  agrees : Agrees has us after.children

same_names : (ps : List Property) (ts : List Tree) (name : Bytes) → list_all (λ (t : Tree). not (bytes_eq t.name name)) ts ≡ true → (u v : Tree) → extended ps ts u ≡ Some v → has_named name v.children ≡ has_named name u.children
same_names ps ts name apart u v e = by (list_any (λ (new : Tree). has_named new.name u.children) ts) e
  where
    by : (b : Bool) → cond b None (Some (record { name = u.name; properties = with_properties ps u.properties; children = with_trees ts u.children })) ≡ Some v → has_named name v.children ≡ has_named name u.children
    by true e = cc
    by false e = let h : record { name = u.name; properties = with_properties ps u.properties; children = with_trees ts u.children } ≡ v = cc in
        sym (ap (λ (w : Tree). has_named name w.children) h) ∙ named-with name ts u.children apart

agrees_after : (has : Bytes → Bool) (ps : List Property) (ts us : List Tree) (trees ms : Trees) → at_first (extended ps ts) chosen trees ≡ Some ms → side_by_side ts us ≡ true → Agrees has us trees → Agrees has us ms
agrees_after has ps ts [] trees ms e apart a = tt
agrees_after has ps ts (u ∷ us) trees ms e apart a =
    let k = and_parts (list_all (λ (t : Tree). not (bytes_eq t.name u.name)) ts) (side_by_side ts us) apart in
    (has-changed (extended ps ts) u.name (extended_keeps ps ts) (same_names ps ts u.name k.0) trees ms e ∙ a.0, agrees_after has ps ts us trees ms e k.1 a.1)

made_first : (has : Bytes → Bool) (ps : List Property) (ts us : List Tree) (t : Tree) → has_named chosen t.children ≡ true → side_by_side ts us ≡ true → Agrees has ts t.children → Agrees has us t.children
    → any_there has ts ≡ false → Made has ps ts us t
made_first has ps ts us t there apart a b new =
    by (at_first (extended ps ts) chosen t.children) refl (extended_defined ps ts t.children there ∙ ap not (any_there-agrees has ts t.children a ∙ new))
  where
    by : (o : Option Trees) → at_first (extended ps ts) chosen t.children ≡ o → is_some o ≡ true → Made has ps ts us t
    by None e h = cc
    by (Some ms) e h = record {
      after = record t { children = ms };
      is = ap (option_map (λ cs. record t { children = cs })) e;
      there = still_named (extended ps ts) chosen (extended_keeps ps ts) t.children ms e;
      agrees = agrees_after has ps ts us t.children ms e apart b;
    }

-- Two extensions of names of their own, one after the other.
pub Extends-append : (has : Bytes → Bool) (cs ds : List Command) (ps qs : List Property) (ts us : List Tree) → Extends has cs ps ts → Extends has ds qs us → side_by_side ts us ≡ true
    → Extends has (cs ++ ds) (ps ++ qs) (ts ++ us)
Extends-append has cs ds ps qs ts us first second apart = record {
  runs = λ loaded before t u taken there made.
      let h = halves ps qs ts us t u apart made in
      steps-append loaded before cs ds t ∙ (ap (λ r. r >>= λ v. steps loaded (before ++ cs) ds v) (first.runs loaded before t h.mid taken there h.first)
      ∙ second.runs loaded (before ++ cs) h.mid u (taken_on before cs taken) h.there h.second);
  quiet = λ none_there.
      let k = or_parts (any_there has ts) (any_there has us) (sym (any-append (λ (t : Tree). has t.name) ts us) ∙ none_there) in
      all_both (λ c. not (adds has c)) cs ds (first.quiet k.0) (second.quiet k.1);
  stops = λ loaded before t taken there agrees found.
      let k = Agrees-parts has ts us t.children agrees in
      stop loaded before t taken there k.0 k.1 (any_there has ts) refl (sym (any-append (λ (t : Tree). has t.name) ts us) ∙ found);
}
  where
    stop : (loaded : Bool) (before : List Command) (t : Tree) → is_some (first_address before) ≡ true → has_named chosen t.children ≡ true → Agrees has ts t.children → Agrees has us t.children
        → (b : Bool) → any_there has ts ≡ b → (any_there has ts || any_there has us) ≡ true → Stops has loaded before (cs ++ ds) t
    stop loaded before t taken there a b true e found = Stops-here has loaded before cs ds t (first.stops loaded before t taken there a e)
    stop loaded before t taken there a b false e found =
        let m = made_first has ps ts us t there apart a b e in
        let later : any_there has us ≡ true = rw e at found in
        Stops-past has loaded before cs ds t m.after (first.runs loaded before t m.after taken there m.is) (first.quiet e)
        (second.stops loaded (before ++ cs) m.after (taken_on before cs taken) m.there m.agrees later)

-- No commands extend by nothing.
pub Extends-none : (has : Bytes → Bool) → Extends has [] [] []
Extends-none has = record {
  runs = λ loaded before t u taken there made.
      let same : Some t ≡ Some u = sym (ap (option_map (λ cs. record t { children = cs })) (at_first-same chosen t.children there)) ∙ made in
      let is : t ≡ u = cc in ap (λ z. Ok z) is;
  quiet = λ none_there. refl;
  stops = λ loaded before t taken there agrees found. cc;
}

-- Commands that say edits of the first `chosen` make them.
pub runs_edits : (cs : List Command) (es : List Edit) (ps : List Property) (ts : List Tree) → AllSay cs (all_under chosen es) → Extend es ps ts
    → (loaded : Bool) (before : List Command) (t u : Tree) → is_some (first_address before) ≡ true → has_named chosen t.children ≡ true → in_child (extended ps ts) chosen t ≡ Some u → steps loaded before cs t ≡ Ok u
runs_edits cs es ps ts says extend loaded before t u taken there made =
    says-steps loaded before cs (all_under chosen es) t u taken says
    (below_all chosen es t refl there ∙ (ap (λ (f : Tree → Option Tree). in_child f chosen t) (λ j. λ v. extend v j) ∙ made))

-- edits that add no child of `chosen`
abbrev pub spares_chosen : Edit → Bool
spares_chosen (Add (one ∷ two ∷ names) name) = true
spares_chosen (Add names name) = false
spares_chosen (Put names name bytes) = true

same_bytes : (xs ys : Bytes) → bytes_eq xs ys ≡ true → components ys ≡ components xs
same_bytes xs ys e = ap components (sym ((bytes_eq-Decides xs ys).0 e))

quiet_says : (has : Bytes → Bool) (c : Command) (e : Edit) → Says c e → spares_chosen e ≡ true → adds has c ≡ false
quiet_says has (Mknod path name) (Add (one ∷ two ∷ names) new) s h = by (bytes_eq path (codes "/chosen")) refl
  where
    by : (b : Bool) → bytes_eq path (codes "/chosen") ≡ b → (b && has name) ≡ false
    by true e = let other : components (codes "/chosen") ≡ Some (one ∷ two ∷ names) = same_bytes path (codes "/chosen") e ∙ s.0 in cc
    by false e = refl
quiet_says has (Mknod path name) (Add [] new) s h = cc
quiet_says has (Mknod path name) (Add (one ∷ []) new) s h = cc
quiet_says has (Mknod path name) (Put names prop bytes) s h = absurd s
quiet_says has (Set path prop value) e s h = refl
quiet_says has (Load how address name) e s h = refl
quiet_says has (Addr address) e s h = refl
quiet_says has (Resize bytes) e s h = refl
quiet_says has (SetEnv name value) e s h = refl
quiet_says has (Booti kernel address) e s h = refl

all_quiet : (has : Bytes → Bool) (cs : List Command) (es : List Edit) → AllSay cs es → list_all spares_chosen es ≡ true → list_all (λ c. not (adds has c)) cs ≡ true
all_quiet has [] [] s h = refl
all_quiet has [] (e ∷ es) s h = refl
all_quiet has (c ∷ cs) [] s h = absurd s
all_quiet has (c ∷ cs) (e ∷ es) s h =
    let k = and_parts (spares_chosen e) (list_all spares_chosen es) h in
    rw (quiet_says has c e s.0 k.0, all_quiet has cs es s.1 k.1) refl

puts_spare : (ps : List Property) → list_all spares_chosen (all_under chosen (puts ps)) ≡ true
puts_spare [] = refl
puts_spare (p ∷ ps) = puts_spare ps

-- Commands that set properties of `chosen`.
pub Extends-puts : (has : Bytes → Bool) (cs : List Command) (ps : List Property) → AllSay cs (all_under chosen (puts ps)) → Extends has cs ps []
Extends-puts has cs ps says = record {
  runs = runs_edits cs (puts ps) ps [] says (Extend-puts ps);
  quiet = λ none_there. all_quiet has cs (all_under chosen (puts ps)) says (puts_spare ps);
  stops = λ loaded before t taken there agrees found. cc;
}

or_false : (b : Bool) → (b || false) ≡ b
or_false true = refl
or_false false = refl

-- Commands that add one tree to `chosen`: the first adds its node.
pub Extends-one : (has : Bytes → Bool) (rest : List Command) (fs : List Edit) (w : Tree)
    → ((loaded : Bool) (before : List Command) (t u : Tree) → is_some (first_address before) ≡ true → has_named chosen t.children ≡ true → in_child (extended [] (w ∷ [])) chosen t ≡ Some u → steps loaded before (Mknod (codes "/chosen") w.name ∷ rest) t ≡ Ok u)
    → AllSay rest fs → list_all spares_chosen fs ≡ true → Extends has (Mknod (codes "/chosen") w.name ∷ rest) [] (w ∷ [])
Extends-one has rest fs w runs says spare = record {
  runs = runs;
  quiet = λ none_there. let off : has w.name ≡ false = sym (or_false (has w.name)) ∙ none_there in rw (off, all_quiet has rest fs says spare) refl;
  stops = λ loaded before t taken there agrees found.
      let on : has w.name ≡ true = sym (or_false (has w.name)) ∙ found in
      Stops-first has loaded before rest t w.name taken on (agrees.0 ∙ on);
}
