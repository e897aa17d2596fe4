-- What a run is called to do by its words and by the files.
use Rattle.std.specs.Prelude.{◌≡◌, ◌≤◌, ◌<◌, ℕ, ◌⊎◌, List, [], ◌∷◌, length, Option, Some, None, IsNone}
use Rattle.outside.specs.Outside.{File}
use Rattle.outside.specs.declared.status.Status.TheVariants as statuses
use Rattle.fdt_write.specs.Flattened.{flattened, length_limit}
use Rattle.run_steps.specs.Endings.{Outcome}
use Rattle.run_steps.specs.Steps.{IsRefusal, IsWriting}
use Rattle.tree_files.specs.Lengths.{IsLengthRefusal}
use Rattle.guest_load.specs.declared.places.Place.{Place}
use Rattle.guest_load.specs.declared.places.LoadPlan.{LoadPlan}
use Rattle.guest_load.specs.declared.places.LoadPart.{LoadPart}
use Rattle.guest_load.specs.LoadPlaces.{kernel_place, ramdisk_place, load_places, first_past}
use Rattle.guest_load.specs.Started.{started}
use Rattle.program.specs.Programs.{usage_line}
use Rattle.guest_load.specs.Lines.{program_name, no_room_message, report}
use Rattle.guest_load.specs.Words.{Asked, asked}
use Rattle.guest_load.specs.Parts.{Parts, AfterParts}

-- where the ramdisk lies, if there is one: its place does not depend on the tree
abbrev pub ramdisk_of : Parts → Option Place
ramdisk_of parts = ramdisk_place (kernel_place parts.bank parts.head parts.kernel) parts.ramdisk

-- the tree that the guest is started with, as it is written
abbrev pub tree_of : Parts → List ℕ
tree_of parts = flattened parts.tree.reserves parts.tree.boot (started parts.tree.root (ramdisk_of parts))

-- where the parts lie, with the tree as it is written
abbrev pub plan_of : Parts → LoadPlan
plan_of parts = load_places parts.bank parts.head parts.kernel parts.ramdisk (length (tree_of parts))

-- the first part that has no room is refused; else the tree is written, and the report says where the parts lie
abbrev pub OnRoom : List ℕ → Parts → Option LoadPart → Outcome → Type 0
OnRoom out parts (Some part) outcome = IsRefusal statuses.Refused (no_room_message part) outcome
OnRoom out parts None outcome = IsWriting ((out, tree_of parts) ∷ []) (report (plan_of parts)) outcome

-- what the parts call for: the tree's length is tested first, and then the room of each part
abbrev pub IsLoading : List ℕ → Parts → Outcome → Type 0
IsLoading out parts outcome =
    IsLengthRefusal out (length (tree_of parts)) outcome ⊎ ((length (tree_of parts) ≤ length_limit) × OnRoom out parts (first_past parts.bank (plan_of parts)) outcome)

-- what is asked for: the parts are read, and loaded
abbrev pub IsAskedJob : Option (List File) → Asked → Outcome → Type 0
IsAskedJob told asked outcome = AfterParts told asked (IsLoading asked.out) outcome

-- the words ask for nothing, and the line of usage is said
abbrev pub AreRefused : List (List ℕ) → List ℕ → Type 0
AreRefused words text = IsNone (asked words) × (text ≡ usage_line program_name)

-- what is asked for is done; other words call for nothing
abbrev pub IsWordsJob : Option (List File) → Option Asked → Outcome → Type 0
IsWordsJob told None outcome = ⊥
IsWordsJob told (Some asked) outcome = IsAskedJob told asked outcome

-- the words and the files call for this outcome, by what the files hold where that is told, and else by some answers of theirs
abbrev pub CallsFor : List (List ℕ) → Option (List File) → Outcome → Type 0
CallsFor words told outcome = IsWordsJob told (asked words) outcome
