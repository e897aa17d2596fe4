-- Where nothing is refused: which node and which frames the plan of a guest comes from, and that its items have no reason.
use Rattle.std.proofs.Common.{◌≡◌, ◌∙◌, ap, ap₂, sym, subst, refl, ℕ, zero, suc, ◌+◌, ◌<◌, ◌≤◌, Bool, true, false, List, [], ◌∷◌, ◌++◌, length, map, Option, Some, None, Result, Ok, Err, arith}
use Rattle.std.specs.Prelude.{◌&&◌, is_none, nat_le, slice_get, if◌then◌else◌}
use Rattle.std.proofs.lemmas.Bool.Decides.{nat_tests}
use Rattle.std.proofs.lemmas.Option.{same_Some, none-some}
use Rattle.described.specs.declared.item.Part.TheVariants as parts
use Rattle.texts.specs.declared.ranges.FrameRange.{FrameRange}
use Rattle.described.specs.declared.why.Why.{Why}
use Rattle.fdt_tree.specs.Tree.{Tree}
use Rattle.fdt_nodes.specs.Nodes.{Node}
use Rattle.fdt_nodes.specs.NodeItems.{item_of}
use Rattle.domain_bindings.specs.Domains.{guest_nodes}
use Rattle.domain_bindings.specs.Heads.{head_item, head_reason, head_what, is_past_limit}
use Rattle.domain_bindings.proofs.Sound.{own-described}
use Rattle.domain_bindings.specs.declared.host.Host.{Host}
use Rattle.item_checks.specs.declared.guests.Guest.{Guest}
use Rattle.domain_plan.specs.declared.planned.GuestPlan.{GuestPlan}
use Rattle.domain_plan.specs.Arguments.{has_no_fault}
use Rattle.item_checks.specs.Entries.{Entry, joined, of_host, load_item, guest_entries}
use Rattle.domain_plan.specs.Plans.{Draws, outcome}
use Rattle.item_checks.specs.Refusals.{Refusal}
use Rattle.item_checks.specs.Taken.{Passed}
use Rattle.domain_plan.proofs.ApartLemmas.{outcome_tells}
use Rattle.domain_plan.proofs.HeadLemmas.{no_own}
use Rattle.domain_plan.proofs.OwnItems.{own_entries}
use Rattle.domain_plan.specs.Descriptions.{Description, host_of, guest_of, guests_of, guests_from, partial_at}
use Rattle.domain_plan.specs.TreePlans.{TreePlan, guest_plan, guest_plans, items_in, plan_from, plan_of}
use Rattle.domain_plan.proofs.Sound.{full, bare}
use Rattle.guest_fdt.proofs.GuestFits.{head_is_within}

-- ---- what the plan of a guest comes from

-- the guest and the frames that a plan comes from
pub record PlanAt (host : Host) (passed : List Passed) (guests : List Guest) (drawn : List (List FrameRange)) (index number : ℕ) (plan : GuestPlan) : Type 0 where
  pub guest : Guest
  pub frames : List FrameRange
  pub guest_there : slice_get guests index ≡ Some guest
  pub frames_there : slice_get drawn index ≡ Some frames
  pub is : guest_plan host passed number guest frames ≡ plan

pub plan_at : (host : Host) (passed : List Passed) (first index number : ℕ) (guests : List Guest) (drawn : List (List FrameRange)) (plan : GuestPlan) → first + index ≡ number → slice_get (guest_plans host passed first guests drawn) index ≡ Some plan
    → PlanAt host passed guests drawn index number plan
plan_at host passed first index number [] [] plan sum there = absurd (none-some plan there)
plan_at host passed first index number [] (frames ∷ drawn) plan sum there = absurd (none-some plan there)
plan_at host passed first index number (guest ∷ guests) [] plan sum there = absurd (none-some plan there)
plan_at host passed first zero number (guest ∷ guests) (frames ∷ drawn) plan sum there =
    let same : number ≡ first = omega arith in
    record { guest = guest; frames = frames; guest_there = refl; frames_there = refl; is = ap (λ n. guest_plan host passed n guest frames) same ∙ same_Some (guest_plan host passed first guest frames) plan there }
plan_at host passed first (suc index) number (guest ∷ guests) (frames ∷ drawn) plan sum there =
    let later = plan_at host passed (first + 1) index number guests drawn plan (omega arith) there in
    record { guest = later.guest; frames = later.frames; guest_there = later.guest_there; frames_there = later.frames_there; is = later.is }

-- the node of a guest
pub guest_at : (root : Tree) (partials : List (Option Tree)) (first index number : ℕ) (nodes : List Node) (guest : Guest) → first + index ≡ number → slice_get (guests_from root partials first nodes) index ≡ Some guest
    → (node : Node) × (guest_of root number node (partial_at partials number) ≡ guest)
guest_at root partials first index number [] guest sum there = absurd (none-some guest there)
guest_at root partials first zero number (node ∷ nodes) guest sum there =
    let same : number ≡ first = omega arith in
    (node, ap (λ n. guest_of root n node (partial_at partials n)) same ∙ same_Some (guest_of root first node (partial_at partials first)) guest there)
guest_at root partials first (suc index) number (node ∷ nodes) guest sum there = guest_at root partials (first + 1) index number nodes guest (omega arith) there

-- ---- no item has a reason

both_true : (a b : Bool) → (a && b) ≡ true → (a ≡ true) × (b ≡ true)
both_true true b is = (refl, is)
both_true false b is = absurd (cc)

pub clear_later : (one other : List Entry) → has_no_fault (one ++ other) ≡ true → has_no_fault other ≡ true
clear_later [] other clear = clear
clear_later (entry ∷ one) other clear = clear_later one other (both_true (is_none entry.described.own) (has_no_fault (one ++ other)) clear).1

pub clear_before : (one other : List Entry) → has_no_fault (one ++ other) ≡ true → has_no_fault one ≡ true
clear_before [] other clear = refl
clear_before (entry ∷ one) other clear =
    let both = both_true (is_none entry.described.own) (has_no_fault (one ++ other)) clear in
    ap₂ (λ (a b : Bool). a && b) both.0 (clear_before one other both.1)

clear_among : (first index number : ℕ) (guests : List Guest) (guest : Guest) → first + index ≡ number → slice_get guests index ≡ Some guest → has_no_fault (guest_entries first guests) ≡ true → has_no_fault (own_entries number guest) ≡ true
clear_among first index number [] guest sum there clear = absurd (none-some guest there)
clear_among first zero number (one ∷ guests) guest sum there clear =
    let same : first ≡ number = omega arith in
    subst (λ n. has_no_fault (own_entries n guest) ≡ true) same
    (subst (λ (g : Guest). has_no_fault (own_entries first g) ≡ true) (same_Some one guest there) (clear_before (own_entries first one) (guest_entries (first + 1) guests) clear))
clear_among first (suc index) number (one ∷ guests) guest sum there clear =
    clear_among (first + 1) index number guests guest (omega arith) there (clear_later (own_entries first one) (guest_entries (first + 1) guests) clear)

no_reason : (own : Option Why) → is_none own ≡ true → own ≡ None
no_reason None is = refl
no_reason (Some why) is = absurd (cc)

-- the head of a guest without a reason
pub head_is_free : (root : Tree) (number : ℕ) (node : Node) (partial : Option Tree) → has_no_fault (own_entries number (guest_of root number node partial)) ≡ true → head_reason number node ≡ None
head_is_free root number node partial clear = by (is_past_limit number) clear
  where
    free : (rest : Bool) → (is_none (head_item number node).own && rest) ≡ true → head_reason number node ≡ None
    free rest is =
        sym (own-described (item_of parts.Head node 0) (head_reason number node) (head_what node)) ∙ no_reason (head_item number node).own (both_true (is_none (head_item number node).own) rest is).0

    by : (past : Bool) → has_no_fault (own_entries number (if past then bare number node else full root number node partial)) ≡ true → head_reason number node ≡ None
    by true is = free _ is
    by false is = free _ is

-- a guest that is not past the sixteenth
pub within : (root : Tree) (number : ℕ) (node : Node) (partial : Option Tree) → is_past_limit number ≡ false → guest_of root number node partial ≡ full root number node partial
within root number node partial not_past = ap (λ (past : Bool). if past then bare number node else full root number node partial) not_past

-- there are at most sixteen guests
few_nodes : (root : Tree) (partials : List (Option Tree)) (number : ℕ) (nodes : List Node) → number ≤ 16
    → has_no_fault (guest_entries number (guests_from root partials number nodes)) ≡ true → number + length nodes ≤ 16
few_nodes root partials number [] few clear = omega arith
few_nodes root partials number (node ∷ nodes) few clear =
    let guest : Guest = guest_of root number node (partial_at partials number) in
    let own : List Entry = own_entries number guest in
    let others : List Entry = guest_entries (number + 1) (guests_from root partials (number + 1) nodes) in
    let under : nat_le 16 number ≡ false = head_is_within number node (head_is_free root number node (partial_at partials number) (clear_before own others clear)) in
    let low : number < 16 = below number under in
    let later : number + 1 + length nodes ≤ 16 = few_nodes root partials (number + 1) nodes (omega arith) (clear_later own others clear) in
    omega arith
  where
    below : (n : ℕ) → nat_le 16 n ≡ false → n < 16
    below n h = grind (arith, nat_tests)

abbrev front_of : Description → List Entry
front_of description = (of_host (host_of description).items ++ of_host (map load_item description.loads)) ++ of_host (host_of description).modules

-- what a plan without a refusal tells of a description
pub record IsPlanned (description : Description) (plan : TreePlan) : Type 0 where
  pub draws : Draws
  pub drew : outcome (host_of description) description.loads (guests_of description) ≡ Ok draws
  pub guests : guest_plans (host_of description) (items_in description) 0 (guests_of description) draws.heaps.drawn ≡ plan.guests
  pub clear : has_no_fault (joined (host_of description) description.loads (guests_of description)) ≡ true

pub is_planned : (description : Description) (plan : TreePlan) → plan_of description ≡ Ok plan → IsPlanned description plan
unfolding plan_of
is_planned description plan is = by (outcome (host_of description) description.loads (guests_of description)) refl is
  where
    by : (o : Result Draws Refusal) → outcome (host_of description) description.loads (guests_of description) ≡ o → plan_from description o ≡ Ok plan → IsPlanned description plan
    by (Err refusal) drew same = absurd (cc)
    by (Ok draws) drew same =
        let given : TreePlan = record { guests = guest_plans (host_of description) (items_in description) 0 (guests_of description) draws.heaps.drawn; free = draws.heaps.left } in
        let one : given ≡ plan = cc in
        record {
          draws = draws;
          drew = drew;
          guests = ap (λ (p : TreePlan). p.guests) one;
          clear = no_own (host_of description) [] (joined (host_of description) description.loads (guests_of description)) (outcome_tells (host_of description) description.loads (guests_of description) draws drew).none;
        }

module _ (description : Description) (clear : has_no_fault (joined (host_of description) description.loads (guests_of description)) ≡ true) where
  guests_clear : has_no_fault (guest_entries 0 (guests_of description)) ≡ true
  guests_clear = clear_later (front_of description) (guest_entries 0 (guests_of description)) clear

  pub few_guests : length (guest_nodes description.root) ≤ 16
  unfolding guests_of
  few_guests = let low = few_nodes description.root description.partials 0 (guest_nodes description.root) (omega arith) guests_clear in omega arith

  pub own_clear : (number : ℕ) (guest : Guest) → slice_get (guests_of description) number ≡ Some guest → has_no_fault (own_entries number guest) ≡ true
  own_clear number guest there = clear_among 0 number number (guests_of description) guest (omega arith) there guests_clear

  -- a guest is read whole from a node, whose head has no reason
  pub from_node : (number : ℕ) (guest : Guest) → slice_get (guests_of description) number ≡ Some guest
      → (node : Node) × (full description.root number node (partial_at description.partials number) ≡ guest) × (head_reason number node ≡ None)
  unfolding guests_of
  from_node number guest there =
      let partial : Option Tree = partial_at description.partials number in
      let found = guest_at description.root description.partials 0 number number (guest_nodes description.root) guest (omega arith) there in
      let free = head_is_free description.root number found.0 partial (subst (λ (g : Guest). has_no_fault (own_entries number g) ≡ true) (sym found.1) (own_clear number guest there)) in
      (found.0, sym (within description.root number found.0 partial (head_is_within number found.0 free)) ∙ found.1, free)

-- ---- how many guests are planned

few_plans : (host : Host) (passed : List Passed) (number : ℕ) (guests : List Guest) (drawn : List (List FrameRange)) → length (guest_plans host passed number guests drawn) ≤ length guests
few_plans host passed number [] [] = omega arith
few_plans host passed number [] (frames ∷ drawn) = omega arith
few_plans host passed number (guest ∷ guests) [] = omega arith
few_plans host passed number (guest ∷ guests) (frames ∷ drawn) = let later = few_plans host passed (number + 1) guests drawn in omega arith

as_many_nodes : (root : Tree) (partials : List (Option Tree)) (number : ℕ) (nodes : List Node) → length (guests_from root partials number nodes) ≡ length nodes
as_many_nodes root partials number [] = refl
as_many_nodes root partials number (node ∷ nodes) = ap suc (as_many_nodes root partials (number + 1) nodes)

-- at most sixteen
pub few_planned : (description : Description) (plan : TreePlan) → plan_of description ≡ Ok plan → length plan.guests ≤ 16
unfolding guests_of
few_planned description plan is =
    let planned = is_planned description plan is in
    let few = few_guests description planned.clear in
    let as_many = as_many_nodes description.root description.partials 0 (guest_nodes description.root) in
    let plans = few_plans (host_of description) (items_in description) 0 (guests_of description) planned.draws.heaps.drawn in
    let same = ap (λ (guests : List GuestPlan). length guests) planned.guests in
    omega arith
