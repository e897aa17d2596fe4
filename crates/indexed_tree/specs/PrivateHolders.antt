-- Only private contracts and proofs use this file: nodes by their phandles and places.
use Rattle.std.specs.Prelude.{◌≡◌, ◌<◌, ℕ, ◌==◌, ◌&&◌, List, [], ◌∷◌, Bool, false, Option, Some, None, option_and_then, if◌then◌else◌, bytes_eq, length}
use Rattle.std.specs.Ordering.{nat_cmp}
use Rattle.std.specs.BTreeMap.{BTreeMap, get}
use Rattle.fdt_tree.specs.Tree.{Place}
use Rattle.fdt_tree.specs.Document.{Document, place_of, properties_of}
use Rattle.fdt_tree.specs.Phandles.{phandle_of}
use Rattle.fdt_nodes.specs.ChildMaps.{Named, named}
use Rattle.indexed_tree.specs.PrivateArena.{held, IsHeld}
use Rattle.indexed_tree.specs.declared.entry.Entry.{Entry}

-- for each phandle the nodes that have it, by their places
abbrev pub Holders : Type 0
Holders = BTreeMap ℕ Named

-- the node of a phandle and a place
abbrev pub holder_at : Holders → ℕ → Place → Option ℕ
holder_at holders phandle place = option_and_then (λ nodes. named nodes place) (get nat_cmp holders phandle)

-- whether it is this phandle
abbrev pub is_own : Option ℕ → ℕ → Bool
is_own None phandle = false
is_own (Some own) phandle = own == phandle

-- what is there, where it is changed at a phandle, if there is one, and a place
abbrev pub changed_at : Option ℕ → Place → Option ℕ → Holders → ℕ → Place → Option ℕ
changed_at own place number holders phandle there =
    if is_own own phandle && bytes_eq place there then number else holder_at holders phandle there

-- the nodes of a tree that have a phandle are there, and no others
pub record IsHolding (document : Document) (holders : Holders) : Type 0 where
  pub there : (number phandle : ℕ) → number < length document.places → phandle_of (properties_of document number) ≡ phandle ∷ [] → holder_at holders phandle (place_of document number) ≡ Some number
  pub within : (number phandle : ℕ) (place : Place) → holder_at holders phandle place ≡ Some number → (number < length document.places) × (place_of document number ≡ place) × (phandle_of (properties_of document number) ≡ phandle ∷ [])

-- entries, and the nodes among them that have a phandle
pub record IsWhole (entries : List Entry) (holders : Holders) : Type 0 where
  pub is_held : IsHeld (held entries) entries
  pub holding : IsHolding (held entries) holders
