-- For proofs and private contracts alone: what is read, byte by byte.
use Rattle.std.specs.Prelude.{◌≡◌, ℕ, suc, ◌<◌, ◌==◌, ◌&&◌, List, [], ◌∷◌, ◌++◌, if◌then◌else◌, length, Option, Some, option_and_then}
use Rattle.std.specs.Int.{w32, to_be_bytes}
use Rattle.fdt_tree.specs.Tree.{Bytes, Tree, Place, at}
use Rattle.fdt_tree.specs.Document.{place_of, children_at}
use Rattle.fdt_tree.specs.declared.reserve.Reserve.{Reserve}
use Rattle.fdt_read.specs.Tokens.{Token, begin_node, end_node, property}
use Rattle.fdt_read.specs.Built.{opened}
use Rattle.source_text.specs.declared.state.Comment.{Comment}
use Rattle.source_text.specs.declared.state.Comment.TheVariants.{Outside}
use Rattle.source_text.specs.declared.state.Next.{Next}
use Rattle.source_text.specs.declared.state.Next.TheVariants.{Start}
use Rattle.source_text.specs.declared.state.Action.{Action}
use Rattle.source_text.specs.declared.state.Action.TheVariants.{Pass, StartName, PushName, SetAddress, AddReserve, StartValue, PushByte, PushWord, Give, GiveEmpty, Open, Close}
use Rattle.source_text.specs.declared.growing.Growing.{Growing}
use Rattle.source_text.specs.declared.reading.Reading.{Reading}
use Rattle.source_text.specs.PrivateTurns.{turn, depth_behind}

-- What was read: a name, a value, the address of a reservation, the reservations, and the tokens of the tree.
pub record Built : Type 0 where
  pub name : Bytes
  pub value : Bytes
  pub address : ℕ
  pub reserves : List Reserve
  pub tokens : List Token

-- Before the first byte: the root is begun.
abbrev pub unread : Built
unread = record { name = []; value = []; address = 0; reserves = []; tokens = begin_node [] ∷ [] }

-- With one more reservation, but for a pair of two zeros.
abbrev pub with_reserve : List Reserve → ℕ → ℕ → List Reserve
with_reserve reserves address size =
    if address == 0 && size == 0 then reserves else reserves ++ record { address = address; size = size } ∷ []

-- What a byte adds.
abbrev pub act : Action → ℕ → Built → Built
act Pass c b = b
act StartName c b = record b { name = c ∷ [] }
act PushName c b = record b { name = b.name ++ c ∷ [] }
act (SetAddress n) c b = record b { address = n }
act (AddReserve n) c b = record b { reserves = with_reserve b.reserves b.address n }
act StartValue c b = record b { value = [] }
act (PushByte k) c b = record b { value = b.value ++ k ∷ [] }
act (PushWord n) c b = record b { value = b.value ++ to_be_bytes w32 n }
act Give c b = record b { tokens = b.tokens ++ property (Some b.name) b.value ∷ [] }
act GiveEmpty c b = record b { tokens = b.tokens ++ property (Some b.name) [] ∷ [] }
act Open c b = record b { tokens = b.tokens ++ begin_node b.name ∷ [] }
act Close c b = record b { tokens = b.tokens ++ end_node ∷ [] }

-- Where bytes lead, and what they add.
abbrev pub Stand : Type 0
Stand = Comment × Next × ℕ × Built

abbrev pub runs : Comment → Next → ℕ → Built → Bytes → Option Stand
runs comment next depth b [] = Some (comment, next, depth, b)
runs comment next depth b (c ∷ text) =
    option_and_then (λ t. runs t.0 t.1 (depth_behind t.2 depth) (act t.2 c b) text) (turn comment next depth c)

-- The same from the beginning.
abbrev pub reached : Bytes → Option Stand
reached text = runs Outside Start 0 unread text

-- The tree has these tokens up to the inside of the node at a place.
pub record InTree (tokens : List Token) (t : Tree) (p : Place) : Type 0 where
  pub read : tokens ≡ opened t p
  pub here : (u : Tree) × (at t p ≡ Some u)
  pub last : (q : Place) (k : ℕ) (r : Place) → p ≡ q ++ k ∷ r → children_at t q ≡ suc k

-- The tree that is read has these tokens so far, up to the inside of its open node, above which so many are open.
pub record IsGrown (tokens : List Token) (depth : ℕ) (g : Growing) : Type 0 where
  pub live : g.current < length g.tree.places
  pub inside : InTree tokens g.tree.tree (place_of g.tree g.current)
  pub level : length (place_of g.tree g.current) ≡ depth

-- What is kept in memory is what was read.
pub record IsRead (b : Built) (depth : ℕ) (r : Reading) : Type 0 where
  pub name : r.name.items ≡ b.name
  pub value : r.value.items ≡ b.value
  pub address : r.address ≡ b.address
  pub reserves : r.reserves ≡ b.reserves
  pub grown : IsGrown b.tokens depth r.growing
