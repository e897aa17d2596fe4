-- Interrupts that are read one by one.
use Rattle.std.proofs.Common.{◌≡◌, ◌∙◌, ap, sym, subst, ℕ, ◌+◌, ◌≤◌, List, [], ◌∷◌, ◌++◌, length, drop, take, map, false, Bool, append_assoc, replicate}
use Rattle.std.specs.Prelude.{◌||◌, slice_index_or}
use Rattle.std.proofs.lemmas.List.{get_or-replicate}
use Rattle.described.specs.declared.item.Described.{Described}
use Rattle.described.specs.declared.item.Part.TheVariants as parts
use Rattle.described.specs.declared.item.What.TheVariants as whats
use Rattle.fdt_tree.specs.Tree.{Bytes}
use Rattle.fdt_nodes.specs.Entries.{split_entries}
use Rattle.passthrough_dtb.specs.declared.interrupts.Interrupt.{Interrupt}
use Rattle.described.specs.Reasons.{described}
use Rattle.passthrough_dtb.specs.Whole.{item_in}
use Rattle.passthrough_dtb.specs.Interrupts.{interrupt_in, interrupt_reason, interrupts_from}
use Rattle.passthrough_dtb.specs.PrivateTables.{Tells, is_held}
use Rattle.passthrough_dtb.proofs.Lists.{next_entry}

-- the interrupts of some bytes
abbrev all_in : Bytes → List Interrupt
all_in bytes = map interrupt_in (split_entries 3 bytes)

first_in : (rest entry more : Bytes) (interrupt : Interrupt) → 12 ≤ length rest → entry ≡ take 12 rest → more ≡ drop 12 rest → interrupt ≡ interrupt_in entry → all_in rest ≡ interrupt ∷ all_in more
first_in rest entry more interrupt there front back is =
    ap (map interrupt_in) (next_entry rest there) ∙ ap (λ i. i ∷ all_in (drop 12 rest)) (ap interrupt_in (sym front) ∙ sym is) ∙ ap (λ b. interrupt ∷ all_in b) (sym back)

-- one more is noted
pub one_noted : (table noted : List Bool) (rest entry more : Bytes) (interrupt : Interrupt) (all : List Interrupt) → 12 ≤ length rest → entry ≡ take 12 rest → more ≡ drop 12 rest → interrupt ≡ interrupt_in entry
    → (Tells table (interrupt ∷ all_in more) all → Tells noted (all_in more) all) → Tells table (all_in rest) all → Tells noted (all_in more) all
one_noted table noted rest entry more interrupt all there front back is step told =
    step (subst (λ (left : List Interrupt). Tells table left all) (first_in rest entry more interrupt there front back is) told)

-- one more is described
pub one_described : (guest : ℕ) (path : Bytes) (held : List Interrupt) (number : ℕ) (done new total : List Described) (made : Described) (rest entry more : Bytes) (interrupt : Interrupt)
    → 12 ≤ length rest → entry ≡ take 12 rest → more ≡ drop 12 rest → interrupt ≡ interrupt_in entry
    → made ≡ described (item_in parts.Irq guest path number) (interrupt_reason held interrupt) (whats.Irq interrupt.number) → new ≡ done ++ made ∷ []
    → done ++ interrupts_from guest path held number (all_in rest) ≡ total → new ++ interrupts_from guest path held (number + 1) (all_in more) ≡ total
one_described guest path held number done new total made rest entry more interrupt there front back is made_is added so_far =
    ap (λ n. n ++ interrupts_from guest path held (number + 1) (all_in more)) added
    ∙ append_assoc done (made ∷ []) (interrupts_from guest path held (number + 1) (all_in more))
    ∙ ap (λ m. done ++ m ∷ interrupts_from guest path held (number + 1) (all_in more)) made_is
    ∙ ap (λ (l : List Interrupt). done ++ interrupts_from guest path held number l) (sym (first_in rest entry more interrupt there front back is))
    ∙ so_far

-- an empty table tells nothing yet
pub none_noted : (table : List Bool) (held : List Interrupt) → table ≡ replicate 988 false → Tells table held held
none_noted table held is = λ number low. ap (λ (b : Bool). b || is_held held number) (ap (λ (t : List Bool). slice_index_or t number false) is ∙ get_or-replicate 988 number false false low)
