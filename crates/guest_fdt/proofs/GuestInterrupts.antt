-- The interrupts that the plan of a guest lists are those of the devices of its partial tree.
use Rattle.std.proofs.Common.{◌≡◌, ◌∙◌, ap, sym, refl, ℕ, Bool, true, List, [], ◌∷◌, ◌++◌, filter, All, Option, Some, None, append-nil}
use Rattle.std.specs.Prelude.{IsTrue, ◌==◌, ◌&&◌, is_none, flat_map}
use Rattle.std.specs.List.{list_all, list_any}
use Rattle.std.proofs.lemmas.Grind.{flat_map-append}
use Rattle.std.proofs.lemmas.List.Elements.{All-head, All-tail}
use Rattle.texts.specs.Consecutive.{numbers}
use Rattle.described.specs.declared.item.Described.{Described}
use Rattle.described.specs.declared.item.What.{What}
use Rattle.fdt_tree.specs.Tree.{Tree}
use Rattle.fdt_nodes.specs.Nodes.{Node}
use Rattle.domain_bindings.specs.Heads.{head_item}
use Rattle.domain_plan.specs.Arguments.{has_no_fault}
use Rattle.item_checks.specs.Entries.{items_of, is_read, of_guest, partial_items}
use Rattle.domain_plan.specs.PrivateGiving.{irq_of}
use Rattle.domain_plan.specs.Plans.{spis_of, said_by}
use Rattle.item_checks.specs.Reasons.{is_irq}
use Rattle.item_checks.specs.Taken.{Passed, belongs_to, what_of}
use Rattle.domain_plan.proofs.MemoryLemmas.{whats_in}
use Rattle.domain_plan.proofs.OwnItems.{own_entries}
use Rattle.domain_plan.proofs.SpiLemmas.{filter_same, irqs_tell}
use Rattle.static_links.specs.Ports.{port_items}
use Rattle.static_links.specs.Shared.{shared_items}
use Rattle.domain_plan.specs.Descriptions.{partial_state}
use Rattle.domain_plan.proofs.Sound.{full}
use Rattle.guest_fdt.specs.Copies.{copied_paths, found_in}
use Rattle.guest_fdt.specs.Described.{partial_devices}
use Rattle.guest_fdt.specs.Laws.{is_no_memory}
use Rattle.guest_fdt.specs.Listed.{interrupts_in}
use Rattle.guest_fdt.proofs.GuestItems.{own_rest}
use Rattle.guest_fdt.proofs.GuestMemory.{own_says, ports_say, shared_says, described_head}
use Rattle.guest_fdt.proofs.InterruptLemmas.{are_sound, interrupts-of-items, irq_numbers, sound-parts, whole-sound}
use Rattle.guest_fdt.proofs.PartialLemmas.{no-memory}

irqs_append : (xs ys : List Described) → irq_numbers (xs ++ ys) ≡ irq_numbers xs ++ irq_numbers ys
irqs_append xs ys = flat_map-append (λ (item : Described). irq_of item.what) xs ys

irqs_said : (items : List Described) → flat_map irq_of (whats_in items) ≡ irq_numbers items
irqs_said [] = refl
irqs_said (item ∷ items) = ap (λ (later : List ℕ). irq_of item.what ++ later) (irqs_said items)

-- what describes no interrupt
abbrev IsNone : What → Type 0
IsNone what = irq_of what ≡ []

no_irqs : (items : List Described) → All (λ (item : Described). IsNone item.what) items → irq_numbers items ≡ []
no_irqs [] all = refl
no_irqs (item ∷ items) all =
    ap (λ (first : List ℕ). first ++ irq_numbers items) (All-head (λ (one : Described). IsNone one.what) item items all) ∙ no_irqs items (All-tail (λ (one : Described). IsNone one.what) item items all)

filter_none : (xs : List ℕ) → filter (λ (number : ℕ). list_any (λ (other : ℕ). other == number) []) xs ≡ []
filter_none [] = refl
filter_none (x ∷ xs) = filter_none xs

module _ (root : Tree) (number : ℕ) (node : Node) (partial : Option Tree) where
  abbrev read : List Described
  read = partial_items (partial_state root number partial)

  abbrev own : List Described
  own = head_item number node ∷ own_rest node

  own_none : irq_numbers own ≡ []
  own_none =
      ap (λ (first : List ℕ). first ++ irq_numbers (own_rest node)) (described_head IsNone refl (λ cpus pages spis direct console. refl) number node)
      ∙ no_irqs (own_rest node) (own_says IsNone refl node (λ is list. refl) (λ is at. refl) (λ kind at. refl))

  -- all interrupts of a guest are those of its partial tree
  irqs_read : irq_numbers (((own ++ read) ++ shared_items node) ++ port_items root node) ≡ irq_numbers read
  irqs_read =
      irqs_append ((own ++ read) ++ shared_items node) (port_items root node)
      ∙ ap (λ (later : List ℕ). irq_numbers ((own ++ read) ++ shared_items node) ++ later) (no_irqs (port_items root node) (ports_say IsNone refl root node (λ port peer peer_port. refl)))
      ∙ append-nil (irq_numbers ((own ++ read) ++ shared_items node)) ∙ irqs_append (own ++ read) (shared_items node)
      ∙ ap (λ (later : List ℕ). irq_numbers (own ++ read) ++ later) (no_irqs (shared_items node) (shared_says IsNone refl node (λ id host guest size owner. refl))) ∙ append-nil (irq_numbers (own ++ read)) ∙ irqs_append own read
      ∙ ap (λ (first : List ℕ). first ++ irq_numbers read) own_none

  -- none of the items of the guest has a reason, so none of those of its partial tree has
  same_fault : (here : Bool) (items : List Described) → has_no_fault (of_guest number here items) ≡ are_sound items
  same_fault here [] = refl
  same_fault here (item ∷ items) = ap (λ (b : Bool). is_none item.own && b) (same_fault here items)

  pub read_sound : has_no_fault (own_entries number (full root number node partial)) ≡ true → are_sound read ≡ true
  read_sound clear =
      let all : are_sound (((own ++ read) ++ shared_items node) ++ port_items root node) ≡ true = sym (same_fault (is_read (full root number node partial).partial) (items_of (full root number node partial))) ∙ clear in
      let first = sound-parts ((own ++ read) ++ shared_items node) (port_items root node) all in
      let second = sound-parts (own ++ read) (shared_items node) first.0 in
      (sound-parts own read second.0).1

-- the number is one of the interrupts
abbrev is_of : List ℕ → ℕ → Bool
is_of irqs spi = list_any (λ (irq : ℕ). irq == spi) irqs

none_read : (numbers : List ℕ) → filter (is_of (irq_numbers [])) numbers ≡ interrupts_in (partial_devices None)
unfolding interrupts_in
none_read numbers = filter_none numbers

pub guest_interrupts : (root : Tree) (number : ℕ) (node : Node) (partial : Option Tree) (passed : List Passed) → said_by passed number irq_of ≡ flat_map irq_of (whats_in (items_of (full root number node partial)))
    → has_no_fault (own_entries number (full root number node partial)) ≡ true → spis_of passed number ≡ interrupts_in (partial_devices partial)
guest_interrupts root number node partial passed given clear = to_read ∙ by partial (read_sound root number node partial clear)
  where
    said : said_by passed number irq_of ≡ irq_numbers (partial_items (partial_state root number partial))
    said = given ∙ irqs_said (items_of (full root number node partial)) ∙ irqs_read root number node partial

    to_read : spis_of passed number ≡ filter (is_of (irq_numbers (partial_items (partial_state root number partial)))) (numbers 0 988)
    to_read =
        filter_same (λ (spi : ℕ). list_any (λ (one : Passed). belongs_to (Some number) one && is_irq spi (what_of one)) passed) (is_of (irq_numbers (partial_items (partial_state root number partial)))) (numbers 0 988)
        (λ spi. sym (irqs_tell number spi passed) ∙ ap (λ (irqs : List ℕ). is_of irqs spi) said)

    by : (partial : Option Tree) → are_sound (partial_items (partial_state root number partial)) ≡ true → filter (is_of (irq_numbers (partial_items (partial_state root number partial)))) (numbers 0 988) ≡ interrupts_in (partial_devices partial)
    by None sound = none_read (numbers 0 988)
    by (Some tree) sound = interrupts-of-items tree root number sound

-- nothing that is copied is a memory node
pub guest_copies : (root : Tree) (number : ℕ) (partial : Option Tree) → are_sound (partial_items (partial_state root number partial)) ≡ true → IsTrue (list_all (λ path. is_no_memory (found_in partial path)) copied_paths)
guest_copies root number None sound = refl
guest_copies root number (Some tree) sound = no-memory tree (whole-sound tree root number sound)
