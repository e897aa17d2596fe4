-- The script of a configuration whose files are placed can be spoken, and its guests share few regions.
use Rattle.std.proofs.Common.{◌≡◌, ℕ, ◌+◌, ◌^◌, ◌<◌, ◌≤◌, Bool, true, false, cond, not, List, [], ◌∷◌, ◌++◌, map, ◌==◌, Option, Some, None, Ok, Err, length, refl, sym, ap, subst, ◌∙◌, arith, append_assoc}
use Rattle.std.specs.Prelude.{slice_get, flat_map, nat_le, IfSome}
use Rattle.std.specs.List.{list_all, enumerate_from}
use Rattle.std.proofs.lemmas.Bool.{and_parts}
use Rattle.std.proofs.lemmas.Bool.Decides.{nat_tests}
use Rattle.std.proofs.lemmas.List.Sums.{prefix_len-le-length}
use Rattle.ib_config.specs.declared.guests.Guest.{Guest}
use Rattle.ib_config.specs.declared.groups.PortGroup.{PortGroup}
use Rattle.ib_config.specs.declared.settings.Settings.{Settings}
use Rattle.ib_placement.specs.declared.places.FilePlace.{FilePlace}
use Rattle.ib_placement.specs.Placement.{dom0_files, guest_files, files_of, is_wide}
use Rattle.ib_script.specs.Phandles.{groups_before, has_phandles, first_phandle, group_of, peer_phandle}
use Rattle.ib_script.specs.Script.{made_of, script_of}
use Rattle.ib_script.specs.declared.command.Command.{Command}
use Rattle.ib_script.specs.declared.make.HostFacts.{HostFacts}
use Rattle.ib_script.specs.declared.make.LoadKind.{LoadKind}
use Rattle.ib_script.specs.declared.make.MakeFault.TheVariants.{NoPhandle}
use Rattle.ib_script.proofs.PhandleLemmas.{before_all, room_for}
use Rattle.script_run.specs.Laws.{IsScript}
use Rattle.script_run.proofs.CommandLemmas.{wordable, is_cell}
use Rattle.script_run.proofs.GoodPaths.{wide}
use Rattle.script_run.proofs.GoodGuests.{good_place, good_port, good_guests}
use Rattle.script_run.proofs.GoodScript.{IsSpoken}
use Rattle.script_run.proofs.Extensions.{all_both}
use Rattle.script_run.proofs.ChosenSteps.{has_few}
use Rattle.script_run.proofs.SpokenValues.{has_cell}
use Rattle.script_run.proofs.SpokenSettings.{AreSpoken, AreSpokenSettings, config_spoken}

-- The files of spoken settings.
guests_files : (limit : ℕ) (gs : List Guest) → AreSpoken limit gs → list_all wordable (flat_map guest_files gs) ≡ true
guests_files limit [] h = refl
guests_files limit (g ∷ gs) h = all_both wordable (guest_files g) (flat_map guest_files gs) h.0.files (guests_files limit gs h.1)

all_files : (limit : ℕ) (s : Settings) → AreSpokenSettings limit s → list_all wordable (files_of s) ≡ true
unfolding files_of
all_files limit s h =
    all_both wordable ((s.xen ∷ dom0_files s) ++ flat_map guest_files s.guests) (s.device_tree ∷ [])
    (all_both wordable (s.xen ∷ dom0_files s) (flat_map guest_files s.guests) (rw h.xen h.dom0) (guests_files limit s.guests h.guests)) (rw h.device_tree refl)

all_places : (places : List FilePlace) (names : List (List ℕ)) → map (λ (p : FilePlace). p.name) places ≡ names → list_all wordable names ≡ true → list_all is_wide places ≡ true → list_all good_place places ≡ true
unfolding wide
all_places places names same good fits = by places (subst (λ ns. list_all wordable ns ≡ true) (sym same) good) fits
  where
    by : (ps : List FilePlace) → list_all wordable (map (λ (p : FilePlace). p.name) ps) ≡ true → list_all is_wide ps ≡ true → list_all good_place ps ≡ true
    by [] g w = refl
    by (p ∷ ps) g w =
        let a = and_parts (wordable p.name) (list_all wordable (map (λ (p : FilePlace). p.name) ps)) g in
        let b = and_parts (is_wide p) (list_all is_wide ps) w in
        rw (a.0, b.0, by ps a.1 b.1) refl

-- there is a place, since there is a file
pub one_place : (s : Settings) (places : List FilePlace) → map (λ (p : FilePlace). p.name) places ≡ files_of s → 0 < length places
unfolding files_of
one_place s [] same = cc
one_place s (p ∷ ps) same = omega arith

-- Phandles fit in a cell.
fit : (guests : List Guest) (highest : ℕ) → has_phandles guests highest ≡ true → highest + groups_before guests (length guests) ≤ 0xfffffffe
fit guests highest h = grind (arith, nat_tests)

cell_of : (n : ℕ) → n ≤ 0xffffffff → is_cell n ≡ true
cell_of n h = grind (arith, nat_tests)

peer_cell : (guests : List Guest) (highest : ℕ) (group : PortGroup) → highest + groups_before guests (length guests) ≤ 0xfffffffe → is_cell (peer_phandle guests highest group) ≡ true
unfolding peer_phandle first_phandle
peer_cell guests highest group fits =
    cell_of (highest + 1 + groups_before guests group.peer + group_of group.peer_port (slice_get guests group.peer)) (by (slice_get guests group.peer) refl)
  where
    by : (o : Option Guest) → slice_get guests group.peer ≡ o → highest + 1 + groups_before guests group.peer + group_of group.peer_port o ≤ 0xffffffff
    by None e = omega (arith, before_all guests group.peer)
    by (Some g) e =
        let room : highest + 1 + groups_before guests group.peer + length g.evtchns ≤ 0xffffffff = subst (λ (o : Option Guest). IfSome o (λ (g : Guest). highest + 1 + groups_before guests group.peer + length g.evtchns ≤ 0xffffffff)) e (room_for guests highest group.peer (highest + 1 + groups_before guests group.peer) fits refl) in
        omega (arith, room, prefix_len-le-length (λ (p : PortGroup). not (p.port == group.peer_port)) g.evtchns)

ports_fit : (guests : List Guest) (highest first k : ℕ) (groups : List PortGroup) → highest + groups_before guests (length guests) ≤ 0xfffffffe → first + k + length groups ≤ 0xffffffff → list_all has_cell groups ≡ true
    → list_all (good_port guests highest first) (enumerate_from k groups) ≡ true
ports_fit guests highest first k [] fits room cells = refl
ports_fit guests highest first k (p ∷ ps) fits room cells =
    let c = and_parts (has_cell p) (list_all has_cell ps) cells in
    rw (cell_of (first + k) (omega arith), c.0, peer_cell guests highest p fits, ports_fit guests highest first (k + 1) ps fits (omega arith) c.1) refl

-- Guests, of which the first of a list follow others.
at_front : (front : List Guest) (g : Guest) (gs : List Guest) → slice_get (front ++ g ∷ gs) (length front) ≡ Some g
at_front [] g gs = refl
at_front (f ∷ fs) g gs = at_front fs g gs

guests_good : (limit : ℕ) (guests front gs : List Guest) (highest : ℕ) → guests ≡ front ++ gs → highest + groups_before guests (length guests) ≤ 0xfffffffe → AreSpoken limit gs → good_guests guests highest (length front) gs ≡ true
unfolding first_phandle
guests_good limit guests front [] highest is fits h = refl
guests_good limit guests front (g ∷ gs) highest is fits h =
    let here : slice_get guests (length front) ≡ Some g = ap (λ xs. slice_get xs (length front)) is ∙ at_front front g gs in
    let first : ℕ = first_phandle guests highest (length front) in
    let room : first + length g.evtchns ≤ 0xffffffff = subst (λ (o : Option Guest). IfSome o (λ (g : Guest). first_phandle guests highest (length front) + length g.evtchns ≤ 0xffffffff)) here (room_for guests highest (length front) first fits (first_is (length front))) in
    let ports : list_all (good_port guests highest first) (enumerate_from 0 g.evtchns) ≡ true = ports_fit guests highest first 0 g.evtchns fits (omega arith) h.0.ports in
    let next : length (front ++ g ∷ []) ≡ length front + 1 = one_more front in
    let others : good_guests guests highest (length (front ++ g ∷ [])) gs ≡ true = guests_good limit guests (front ++ g ∷ []) gs highest (is ∙ sym (append_assoc front (g ∷ []) gs)) fits h.1 in
    let rest : good_guests guests highest (length front + 1) gs ≡ true = subst (λ n. good_guests guests highest n gs ≡ true) next others in
    rw (h.0.cmd, h.0.mem, h.0.vcpus, h.0.static, h.0.shared, ports, rest) refl
  where
    first_is : (n : ℕ) → first_phandle guests highest n ≡ highest + 1 + groups_before guests n
    first_is n = refl

    one_more : (fs : List Guest) → length (fs ++ g ∷ []) ≡ length fs + 1
    one_more [] = refl
    one_more (x ∷ xs) = omega (arith, one_more xs)

-- few regions and channels
guests_few : (limit : ℕ) (gs : List Guest) → limit < 2 ^ 64 → AreSpoken limit gs → list_all (λ (g : Guest). nat_le (length g.evtchns) (2 ^ 64)) gs ≡ true → list_all has_few gs ≡ true
guests_few limit [] low h few = refl
guests_few limit (g ∷ gs) low h few =
    let c = and_parts (nat_le (length g.evtchns) (2 ^ 64)) (list_all (λ (g : Guest). nat_le (length g.evtchns) (2 ^ 64)) gs) few in
    let shared : nat_le (length g.shared_mem) (2 ^ 64) ≡ true = shared_few (length g.shared_mem) h.0.few in
    rw (shared, c.0, guests_few limit gs low h.1 c.1) refl
  where
    shared_few : (n : ℕ) → n ≤ limit + 1 → nat_le n (2 ^ 64) ≡ true
    shared_few n less = grind (arith, nat_tests)

channels_few : (guests front gs : List Guest) (highest : ℕ) → guests ≡ front ++ gs → highest + groups_before guests (length guests) ≤ 0xfffffffe → list_all (λ (g : Guest). nat_le (length g.evtchns) (2 ^ 64)) gs ≡ true
channels_few guests front [] highest is fits = refl
channels_few guests front (g ∷ gs) highest is fits =
    let here : slice_get guests (length front) ≡ Some g = ap (λ xs. slice_get xs (length front)) is ∙ at_front front g gs in
    let first : ℕ = highest + 1 + groups_before guests (length front) in
    let room : first + length g.evtchns ≤ 0xffffffff = subst (λ (o : Option Guest). IfSome o (λ (g : Guest). first + length g.evtchns ≤ 0xffffffff)) here (room_for guests highest (length front) first fits refl) in
    let own : nat_le (length g.evtchns) (2 ^ 64) ≡ true = low (length g.evtchns) (omega (arith, room)) in
    rw (own, channels_few guests (front ++ g ∷ []) gs highest (is ∙ sym (append_assoc front (g ∷ []) gs)) fits) refl
  where
    low : (n : ℕ) → n ≤ 0xffffffff → nat_le n (2 ^ 64) ≡ true
    low n h = grind (arith, nat_tests)

-- What the script of a configuration whose files are placed has.
pub record HasLaws (script : List Command) (s : Settings) (places : List FilePlace) (facts : HostFacts) (kind : LoadKind) : Type 0 where
  pub is : script_of s places facts kind ≡ script
  pub spoken : IsSpoken s places facts
  pub some : 0 < length places
  pub wide : length s.guests ≤ 2 ^ 64
  pub few : list_all has_few s.guests ≡ true

pub script_laws : (script : List Command) (s : Settings) (places : List FilePlace) (facts : HostFacts) (kind : LoadKind) → IsScript script s places facts kind → HasLaws script s places facts kind
unfolding made_of
script_laws script s places facts kind h = by (has_phandles s.guests facts.highest) refl h.made (config_spoken s h.settings)
  where
    by : (b : Bool) → has_phandles s.guests facts.highest ≡ b → cond b (Ok (script_of s places facts kind)) (Err (NoPhandle facts.highest)) ≡ Ok script
        → (limit : ℕ) × (limit < 2 ^ 64) × AreSpokenSettings limit s → HasLaws script s places facts kind
    by false e made spoken = cc
    by true e made (limit, low, spoken) =
        let fits = fit s.guests facts.highest e in
        record {
          is = cc;
          spoken = record {
            places_good = all_places places (files_of s) h.placed (all_files limit s spoken) h.wide;
            xen_cmd = spoken.xen_cmd;
            dom0_cmd = spoken.dom0_cmd;
            guests = guests_good limit s.guests [] s.guests facts.highest refl fits spoken.guests;
          };
          some = one_place s places h.placed;
          wide = omega (arith, spoken.number);
          few = guests_few limit s.guests low spoken.guests (channels_few s.guests [] s.guests facts.highest refl fits);
        }
