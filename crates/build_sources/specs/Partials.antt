-- The guests' partial trees are read, guest by guest.
use Rattle.std.specs.Prelude.{ℕ, ◌==◌, List, take, reverse, find, map, Option, Some, None}
use Rattle.outside.specs.Outside.{File}
use Rattle.described.specs.declared.loaded.Loaded.{Loaded}
use Rattle.fdt_tree.specs.Tree.{Tree}
use Rattle.domain_bindings.specs.Domains.{guest_nodes, partial_of}
use Rattle.domain_bindings.specs.Descriptions.{Description}
use Rattle.dom0less_words.specs.Words.{Word}
use Rattle.run_steps.specs.Endings.{Outcome}
use Rattle.run_steps.specs.Names.{joined}
use Rattle.run_steps.specs.Steps.{AfterEach}
use Rattle.tree_files.specs.Trees.{AfterTreeFile}
use Rattle.build_sources.specs.Handed.{HandsOn}
use Rattle.build_sources.specs.Sources.{Stand}

-- the last file that was loaded to an address
abbrev pub load_at : List Loaded → ℕ → Option Loaded
load_at loads address = find (λ (load : Loaded). load.address == address) (reverse loads)

-- a loaded file, in a folder where one is given, is read as a tree; where there is none, no tree was read
abbrev pub AfterLoaded : Option (List File) → Option Word → Option Loaded → (Option Tree → Outcome → Type 0) → Outcome → Type 0
AfterLoaded told folder None next outcome = next None outcome
AfterLoaded told folder (Some load) next outcome = AfterTreeFile told (joined folder load.name) (λ file. next (Some file.root)) outcome

-- the partial tree of a guest that names this address, or none
abbrev pub AfterPartial : Option (List File) → Option Word → List Loaded → Option ℕ → (Option Tree → Outcome → Type 0) → Outcome → Type 0
AfterPartial told folder loads None next outcome = next None outcome
AfterPartial told folder loads (Some address) next outcome = AfterLoaded told folder (load_at loads address) next outcome

-- the partial trees of so many guests are read
abbrev pub guest_limit : ℕ
guest_limit = 16

-- the addresses of their partial trees, in document order
abbrev pub partial_addresses : Tree → List (Option ℕ)
partial_addresses root = map partial_of (take guest_limit (guest_nodes root))

-- what is described by a stand, with these partial trees
abbrev pub described_by : Stand → List (Option Tree) → Description
described_by stand partials = record { root = stand.root; reserves = stand.reserves; loads = stand.loads; partials = partials }

-- the partial trees are read from files in a folder, where one is given, and what is described is handed on
abbrev pub AfterPartials : Option (List File) → Option Word → Stand → (Description → Outcome → Type 0) → Outcome → Type 0
AfterPartials told folder stand next outcome =
    AfterEach (AfterPartial told folder stand.loads) (partial_addresses stand.root) (λ partials. next (described_by stand partials)) outcome

-- the partial trees are read, nothing is refused, and this is described
abbrev pub Describes : Option (List File) → Option Word → Stand → Description → Type 0
Describes told folder stand description = HandsOn (AfterPartials told folder stand) description
