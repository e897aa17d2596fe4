-- Where no item of a description is refused, the plan of each guest is as the law of its tree asks.
use Rattle.std.proofs.Common.{◌≡◌, ◌∙◌, ap, sym, subst, refl, ℕ, suc, ◌^◌, ◌<◌, true, List, [], ◌∷◌, ◌++◌, map, All, Option, Some, Result, Ok, arith}
use Rattle.std.specs.Prelude.{slice_get, flat_map}
use Rattle.std.proofs.lemmas.List.Elements.{All-cons, All-map, All-nil, All-weaker}
use Rattle.described.specs.declared.item.Described.{Described}
use Rattle.described.specs.declared.item.What.{What}
use Rattle.described.specs.declared.item.What.TheVariants as whats
use Rattle.texts.specs.declared.ranges.FrameRange.{FrameRange}
use Rattle.fdt_tree.specs.Tree.{Tree}
use Rattle.fdt_nodes.specs.Nodes.{Node}
use Rattle.domain_bindings.specs.Heads.{head_item}
use Rattle.domain_bindings.specs.declared.host.Host.{Host}
use Rattle.static_links.specs.Channels.{event_channels}
use Rattle.item_checks.specs.declared.guests.Guest.{Guest}
use Rattle.domain_plan.specs.declared.planned.GuestPlan.{GuestPlan}
use Rattle.domain_plan.specs.Arguments.{AreRead, IsSoundGuest, has_no_fault}
use Rattle.item_checks.specs.Entries.{items_of, joined}
use Rattle.domain_plan.specs.PrivateGiving.{IsReady, irq_of}
use Rattle.domain_plan.specs.GuestMaps.{guest_ranges}
use Rattle.domain_plan.specs.PrivateLaying.{AreApart, AreLowRanges}
use Rattle.domain_plan.specs.Memories.{is_listed, is_ram, is_ram_target}
use Rattle.domain_plan.specs.Plans.{Draws, memories_of, placed_of, said_by}
use Rattle.item_checks.specs.Refusals.{Refusal}
use Rattle.domain_plan.specs.Regions.{placed_item, placed_what}
use Rattle.domain_plan.specs.declared.runs.Run.{Run}
use Rattle.item_checks.specs.Taken.{Passed}
use Rattle.domain_plan.proofs.ApartLemmas.{outcome_tells}
use Rattle.domain_plan.proofs.GuestsLaw.{sound_guest}
use Rattle.domain_plan.proofs.MapResult.{map_result}
use Rattle.domain_plan.proofs.MemoryLemmas.{whats_in}
use Rattle.domain_plan.proofs.OwnItems.{own_entries, own_of, own_passed, same_ranges}
use Rattle.domain_plan.proofs.PlacedGuests.{placed_guest, items_placed, whats_of_placed, guest_sound}
use Rattle.domain_plan.proofs.PlacedLaws.{memory_is_mapped, ready_guest, own_guest}
use Rattle.domain_plan.proofs.Placing.{kept_what}
use Rattle.domain_plan.specs.Descriptions.{Description, host_of, guests_of, partial_at}
use Rattle.domain_plan.specs.TreePlans.{TreePlan, guest_plan, runs_in, items_in, plan_of}
use Rattle.domain_plan.proofs.Determined.{description_read}
use Rattle.domain_plan.proofs.Sound.{full}
use Rattle.guest_fdt.specs.Bounds.{IsBounded}
use Rattle.guest_fdt.specs.Laws.{IsDescription}
use Rattle.guest_fdt.specs.PlannedTrees.{AllGuestsAreListed}
use Rattle.guest_fdt.proofs.GuestBounds.{PortLow, memories_low, ports_low, regions_low, regions_text, said_own}
use Rattle.guest_fdt.proofs.GuestFits.{Fits, IsLow, channels_are_low, head_fits, rest_fits, said_few}
use Rattle.guest_fdt.proofs.GuestInterrupts.{guest_copies, guest_interrupts, read_sound}
use Rattle.guest_fdt.proofs.GuestItems.{rest_items}
use Rattle.guest_fdt.proofs.GuestMemory.{one_kind}
use Rattle.guest_fdt.proofs.PlannedGuests.{few_guests, from_node, is_planned, own_clear, plan_at}
use Rattle.guest_fdt.proofs.RamRanges.{described_ram}
use Rattle.guest_fdt.proofs.TreeLaw.{tree_lists_the_guest}

-- ---- a guest whose items have no reason

fits_placed : (runs : List Run) (what : What) → Fits what → Fits (placed_what runs what)
fits_placed runs (whats.Shared id host guest size owner) fits = fits
fits_placed runs _ fits = fits

irqs_placed : (runs : List Run) (ws : List What) → flat_map irq_of (map (placed_what runs) ws) ≡ flat_map irq_of ws
irqs_placed runs [] = refl
irqs_placed runs (w ∷ ws) =
    ap (λ (irqs : List ℕ). irqs ++ flat_map irq_of (map (placed_what runs) ws)) (kept_what irq_of runs (λ id one other page many owns. refl) w)
    ∙ ap (λ (irqs : List ℕ). irq_of w ++ irqs) (irqs_placed runs ws)

module _ (root : Tree) (number : ℕ) (node : Node) (partial : Option Tree) (passed : List Passed) (frames : List FrameRange) where
  abbrev guest : Guest
  guest = full root number node partial

  -- what is known of the guest, and of it with each region at its host address
  pub record IsKnown : Type 0 where
    pub runs : List Run
    pub same : own_of number passed ≡ own_of number (own_passed number (placed_guest runs guest))
    pub own : IsSoundGuest (placed_guest runs guest)
    pub made : IsReady number (placed_guest runs guest) (items_of (placed_guest runs guest)) frames
    pub clear : has_no_fault (own_entries number guest) ≡ true
    pub low : All IsLow (event_channels root)
    pub mapped : (page : ℕ) → is_listed (memories_of passed number guest) page ≡ is_ram (guest_ranges passed number frames) page

  module _ (host : Host) (known : IsKnown) where
    fits : All (λ (item : Described). Fits item.what) (items_of guest)
    fits = All-cons (λ (item : Described). Fits item.what) (head_item number node) (rest_items root number node partial) (head_fits number node) (rest_fits root known.low number node partial)

    abbrev there : Guest
    there = placed_guest known.runs guest

    placed_fits : All (λ (item : Described). Fits item.what) (items_of (placed_guest known.runs guest))
    placed_fits =
        subst (All (λ (item : Described). Fits item.what)) (items_placed known.runs guest)
        (All-map (λ (item : Described). Fits item.what) (placed_item known.runs) (items_of guest)
        (All-weaker (λ (item : Described). Fits item.what) (λ (item : Described). Fits (placed_what known.runs item.what)) (λ item says. fits_placed known.runs item.what says) (items_of guest) fits))

    -- no region is an interrupt
    irqs_there : said_by passed number irq_of ≡ flat_map irq_of (whats_in (items_of guest))
    irqs_there =
        said_own irq_of number (placed_guest known.runs guest) passed known.same
        ∙ ap (flat_map irq_of) (whats_of_placed known.runs guest) ∙ irqs_placed known.runs (whats_in (items_of guest))

    pub plan_is_bounded : IsBounded (guest_plan host passed number guest frames)
    plan_is_bounded = record {
      cpus = said_few (head_item number node).what (head_fits number node);
      memories = memories_low number there passed known.same known.own known.made.few known.made.sound;
      shared = regions_low number there passed known.same known.made.sound;
      peers = All-weaker PortLow (λ (port : ℕ × ℕ × ℕ). port.1 < 2 ^ 32) (λ port low. low.1) _ (ports_low number there passed known.same placed_fits);
    }

    ranges_apart : AreApart (guest_ranges passed number frames)
    ranges_apart = subst AreApart (sym (same_ranges number passed (own_passed number there) frames known.same)) known.made.apart

    ranges_low : AreLowRanges (guest_ranges passed number frames)
    ranges_low = subst AreLowRanges (sym (same_ranges number passed (own_passed number there) frames known.same)) known.made.low_ranges

    pub plan_is_description : IsDescription (guest_plan host passed number guest frames) partial
    plan_is_description = record {
      bounded = plan_is_bounded;
      ports = All-weaker PortLow (λ (port : ℕ × ℕ × ℕ). (port.0 < 2 ^ 32) × (port.2 < 2 ^ 32)) (λ port low. (low.0, low.2)) _ (ports_low number there passed known.same placed_fits);
      ids = regions_text number there passed known.same placed_fits;
      interrupts = guest_interrupts root number node partial passed irqs_there known.clear;
      no_memory = guest_copies root number partial (read_sound root number node partial known.clear);
      mapped = λ page. known.mapped page ∙ ap is_ram_target (sym ((map_result (guest_ranges passed number frames) ranges_apart ranges_low).mapped page));
    }

-- ---- the guests of a plan

module _ (description : Description) (plan : TreePlan) (is : plan_of description ≡ Ok plan) where
  abbrev host : Host
  host = host_of description

  read : AreRead host description.loads (guests_of description)
  read = description_read description (described_ram description)

  channels : has_no_fault (joined host description.loads (guests_of description)) ≡ true → All IsLow (event_channels description.root)
  channels clear = channels_are_low description.root (let few = few_guests description clear in omega arith)

  -- a guest of the plan comes from a node and frames
  record ComesFrom (number : ℕ) (guest : GuestPlan) : Type 0 where
    pub node : Node
    pub frames : List FrameRange
    pub known : IsKnown description.root number node (partial_at description.partials number) (items_in description) frames
    pub planned : guest_plan (host_of description) (items_in description) number (full description.root number node (partial_at description.partials number)) frames ≡ guest

  comes_from : (number : ℕ) (guest : GuestPlan) → slice_get plan.guests number ≡ Some guest → ComesFrom number guest
  unfolding items_in
  comes_from number guest there =
      let planned = is_planned description plan is in
      let partial : Option Tree = partial_at description.partials number in
      let at = plan_at (host_of description) (items_in description) 0 number number (guests_of description) planned.draws.heaps.drawn guest (omega arith) (ap (λ (guests : List GuestPlan). slice_get guests number) planned.guests ∙ there) in
      let found = from_node description planned.clear number at.guest at.guest_there in
      let whole : Guest = full description.root number found.0 partial in
      let whole_there : slice_get (guests_of description) number ≡ Some whole = at.guest_there ∙ sym (ap Some found.1) in
      let tells = outcome_tells host description.loads (guests_of description) planned.draws planned.drew in
      let runs : List Run = planned.draws.runs in
      let same : placed_of planned.draws.runs host description.loads (guests_of description) ≡ items_in description =
      ap (λ (o : Result Draws Refusal). placed_of (runs_in o) host description.loads (guests_of description)) (sym planned.drew) in
      record {
        node = found.0;
        frames = at.frames;
        known = subst (λ (passed : List Passed). IsKnown description.root number found.0 (partial_at description.partials number) passed at.frames) same (record {
          runs = planned.draws.runs;
          same = own_guest runs host description.loads (guests_of description) number whole whole_there;
          own = guest_sound runs whole (sound_guest host description.loads (guests_of description) read tells.none number whole whole_there);
          made = ready_guest host description.loads (guests_of description) planned.draws read tells number whole at.frames whole_there at.frames_there;
          clear = own_clear description planned.clear number whole whole_there;
          low = channels planned.clear;
          mapped =
              memory_is_mapped host description.loads (guests_of description) read planned.draws number whole at.frames planned.drew whole_there at.frames_there
              (one_kind description.root number found.0 partial found.2);
        });
        planned = ap (λ (one : Guest). guest_plan (host_of description) (items_in description) number one at.frames) found.1 ∙ at.is;
      }

  guest_is_bounded : (number : ℕ) (guest : GuestPlan) → slice_get plan.guests number ≡ Some guest → IsBounded guest
  guest_is_bounded number guest there =
      let from = comes_from number guest there in
      subst IsBounded from.planned (plan_is_bounded description.root number from.node (partial_at description.partials number) (items_in description) from.frames host from.known)

  guest_is_description : (number : ℕ) (guest : GuestPlan) → slice_get plan.guests number ≡ Some guest → IsDescription guest (partial_at description.partials number)
  guest_is_description number guest there =
      let from = comes_from number guest there in
      let partial : Option Tree = partial_at description.partials number in
      subst (λ (one : GuestPlan). IsDescription one partial) from.planned (plan_is_description description.root number from.node partial (items_in description) from.frames host from.known)

  each_in : (P : GuestPlan → Type 0) (guests : List GuestPlan) → ((number : ℕ) (guest : GuestPlan) → slice_get guests number ≡ Some guest → P guest) → All P guests
  each_in P [] each = All-nil P
  each_in P (guest ∷ guests) each = All-cons P guest guests (each 0 guest refl) (each_in P guests (λ number one there. each (suc number) one there))

  pub guests_are_bounded : All IsBounded plan.guests
  guests_are_bounded = each_in IsBounded plan.guests guest_is_bounded

  pub guests_are_listed : AllGuestsAreListed description plan
  guests_are_listed number guest there = tree_lists_the_guest guest (partial_at description.partials number) (guest_is_description number guest there)
