-- Only private contracts and proofs use this file: a tree as it is held, a list of entries by number.
use Rattle.std.specs.Prelude.{◌≡◌, ◌≢◌, ℕ, ◌+◌, ◌<◌, List, [], ◌∷◌, ◌++◌, Option, Some, None, option_map, length, map, slice_get}
use Rattle.fdt_tree.specs.Tree.{Bytes}
use Rattle.fdt_tree.specs.Document.{Document, place_of, node_at, children_at, IsNumbering, IsNamed}
use Rattle.fdt_tree.specs.Assembled.{Added, assembled, face}
use Rattle.fdt_tree.specs.PrivateLinks.{modified}
use Rattle.fdt_nodes.specs.ChildMaps.{named, IsChildMap}
use Rattle.indexed_tree.specs.PrivateIndex.{entered}
use Rattle.indexed_tree.specs.declared.entry.Entry.{Entry}

-- an entry as the node that it adds
abbrev pub row : Entry → Added
row entry = record { parent = entry.parent; name = entry.name; properties = entry.properties }

-- the tree that entries add up to, one after the other
abbrev pub held : List Entry → Document
held entries = assembled (map row entries)

-- what an entry says is so of the node of its number
pub record IsEntryOf (document : Document) (number : ℕ) (entry : Entry) : Type 0 where
  pub says : option_map face (node_at document number) ≡ Some (entry.name, entry.properties)
  pub stands : entry.place.items ≡ place_of document number
  pub counted : entry.count ≡ children_at document.tree (place_of document number)
  pub earlier : number ≢ 0 → entry.parent < number
  pub children : IsChildMap document number entry.children

-- there is an entry for each node of a tree
pub record IsHeld (document : Document) (entries : List Entry) : Type 0 where
  pub some : 0 < length entries
  pub root : place_of document 0 ≡ []
  pub unnamed : document.tree.name ≡ []
  pub numbered : length document.places ≡ length entries
  pub numbering : IsNumbering document
  pub kept : IsNamed document
  pub few : (number : ℕ) (entry : Entry) → slice_get entries number ≡ Some entry → entry.count < length entries
  pub entries_of : (number : ℕ) (entry : Entry) → slice_get entries number ≡ Some entry → IsEntryOf document number entry

-- the entry of a root alone
pub record IsRoot (entry : Entry) : Type 0 where
  pub top : entry.place.items ≡ []
  pub name_is : entry.name ≡ []
  pub properties : entry.properties ≡ []
  pub alone : entry.count ≡ 0
  pub childless : (other : Bytes) → named entry.children other ≡ None

-- an entry for a new last child of another
pub record IsFresh (entries : List Entry) (parent : ℕ) (name : Bytes) (entry : Entry) : Type 0 where
  pub above : Entry
  pub here : slice_get entries parent ≡ Some above
  pub below : entry.parent ≡ parent
  pub place : entry.place.items ≡ above.place.items ++ above.count ∷ []
  pub name_is : entry.name ≡ name
  pub properties : entry.properties ≡ []
  pub alone : entry.count ≡ 0
  pub childless : (other : Bytes) → named entry.children other ≡ None

-- an entry with one child more, of this name and number
pub record IsMother (name : Bytes) (number : ℕ) (old new : Entry) : Type 0 where
  pub entry : new ≡ record old { count = old.count + 1; children = new.children }
  pub children : (other : Bytes) → named new.children other ≡ entered name number other (named old.children other)

-- an entry with the same children, however they are held
pub record IsSame (old new : Entry) : Type 0 where
  pub entry : new ≡ record old { children = new.children }
  pub children : (other : Bytes) → named new.children other ≡ named old.children other

-- entries with one more, a last child of one of them
pub record IsAdded (old new : List Entry) (parent : ℕ) (name : Bytes) (entry : Entry) : Type 0 where
  pub above : Entry
  pub here : slice_get old parent ≡ Some above
  pub mother : Entry
  pub is_mother : IsMother name (length old) above mother
  pub entries : new ≡ modified (λ _. mother) parent old ++ entry ∷ []

-- entries, of which the children of one may be held in another way
pub record IsKept (old new : List Entry) (parent : ℕ) : Type 0 where
  pub above : Entry
  pub here : slice_get old parent ≡ Some above
  pub same : Entry
  pub is_same : IsSame above same
  pub entries : new ≡ modified (λ _. same) parent old
