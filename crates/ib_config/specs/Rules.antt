-- What a text has to be to be a value, and which value it is.
use Rattle.std.specs.Prelude.{ℕ, ◌^◌, Bool, not, ◌&&◌, ◌||◌, List, [], ◌∷◌, length, Option, Some, None, unwrap_or, option_and_then, ◌-◌, nat_le, nat_lt, ◌==◌, if◌then◌else◌, codes, filter}
use Rattle.std.specs.List.{list_all, list_any, slice_split}
use Rattle.std.specs.Result.{result_ok}
use Rattle.texts.specs.declared.ranges.BaseSize.{BaseSize}
use Rattle.texts.specs.NumberTexts.{number_of}
use Rattle.ib_config.specs.Runs.{is_empty}
use Rattle.ib_config.specs.Line.{is_letter, is_digit}
use Rattle.ib_config.specs.declared.groups.ShmGroup.{ShmGroup}
use Rattle.ib_config.specs.declared.groups.PortGroup.{PortGroup}

-- then and else of what may be no value
infixl 10 ◌>>=◌
abbrev pub ◌>>=◌ : {A B : Type 0} → Option A → (A → Option B) → Option B
None >>= f = None
(Some x) >>= f = f x

-- x, where the test holds
abbrev pub where_true : {A : Type 0} → Bool → A → Option A
where_true b x = if b then Some x else None

-- the words of a text: its parts between spaces that are not empty
abbrev pub words_of : List ℕ → List (List ℕ)
words_of text = filter (λ w. not (is_empty w)) (slice_split (λ c. c == 32) text)

-- a number below 2^64
abbrev pub number : List ℕ → Option ℕ
number text = result_ok (number_of text)

-- a number from low to high
abbrev pub number_between : ℕ → ℕ → List ℕ → Option ℕ
number_between low high text = do
  n ← number text
  where_true (nat_le low n && nat_le n high) n

-- 0 or 1
abbrev pub flag : List ℕ → Option Bool
flag text = do
  n ← number_between 0 1 text
  Some (n == 1)

-- 1 to 255 letters, digits and characters of `._-/+,@:`
abbrev pub is_file_byte : ℕ → Bool
is_file_byte c = is_letter c || is_digit c || list_any (λ d. c == d) (codes "._-/+,@:")

-- such a name of a file
abbrev pub file_name : List ℕ → Option (List ℕ)
file_name text = where_true (nat_le 1 (length text) && nat_le (length text) 255 && list_all is_file_byte text) text

-- 1 to 15 letters, digits, `_` and `-`
abbrev pub is_id_byte : ℕ → Bool
is_id_byte c = is_letter c || is_digit c || (c == 95) || (c == 45)

-- whether a text is such an id
abbrev pub is_shm_id : List ℕ → Bool
is_shm_id text = nat_le 1 (length text) && nat_le (length text) 15 && list_all is_id_byte text

-- such an id
abbrev pub shm_id : List ℕ → Option (List ℕ)
shm_id text = where_true (is_shm_id text) text

-- BASE SIZE
abbrev pub range_of : List ℕ → List ℕ → Option BaseSize
range_of base size = do
  b ← number base
  s ← number size
  Some (record { base = b; size = s })

-- words in twos
abbrev pub pairs : List (List ℕ) → Option (List BaseSize)
pairs [] = Some []
pairs (one ∷ []) = None
pairs (base ∷ size ∷ rest) = do
  range ← range_of base size
  more ← pairs rest
  Some (range ∷ more)

-- ID HOST GUEST SIZE
abbrev pub region_of : List ℕ → List ℕ → List ℕ → List ℕ → Option ShmGroup
region_of id host guest size = do
  i ← shm_id id
  h ← number host
  g ← number guest
  s ← number size
  Some (record { id = i; host = h; guest = g; size = s })

-- words in fours
abbrev pub shm_groups : List (List ℕ) → Option (List ShmGroup)
shm_groups [] = Some []
shm_groups (a ∷ []) = None
shm_groups (a ∷ b ∷ []) = None
shm_groups (a ∷ b ∷ c ∷ []) = None
shm_groups (id ∷ host ∷ guest ∷ size ∷ rest) = do
  region ← region_of id host guest size
  more ← shm_groups rest
  Some (region ∷ more)

-- PORT PEER PEERPORT, each below 2^32
abbrev pub port_of : List ℕ → List ℕ → List ℕ → Option PortGroup
port_of port peer peer_port = do
  p ← number_between 0 (2 ^ 32 - 1) port
  q ← number_between 0 (2 ^ 32 - 1) peer
  r ← number_between 0 (2 ^ 32 - 1) peer_port
  Some (record { port = p; peer = q; peer_port = r })

-- words in threes
abbrev pub port_groups : List (List ℕ) → Option (List PortGroup)
port_groups [] = Some []
port_groups (a ∷ []) = None
port_groups (a ∷ b ∷ []) = None
port_groups (port ∷ peer ∷ peer_port ∷ rest) = do
  group ← port_of port peer peer_port
  more ← port_groups rest
  Some (group ∷ more)

-- a list that has a member
abbrev pub not_empty : {A : Type 0} → List A → Option (List A)
not_empty xs = where_true (not (is_empty xs)) xs

-- the ranges of static memory, at least one
abbrev pub static_ranges : List ℕ → Option (List BaseSize)
static_ranges text = do
  ranges ← pairs (words_of text)
  not_empty ranges

-- the regions that are shared, at least one
abbrev pub shared_regions : List ℕ → Option (List ShmGroup)
shared_regions text = do
  groups ← shm_groups (words_of text)
  not_empty groups

-- the port groups of a text; none where its words are not whole groups
abbrev pub ports_of : Option (List ℕ) → List PortGroup
ports_of text = unwrap_or (option_and_then (λ t. port_groups (words_of t)) text) []

-- a peer below the number of guests, that has a group whose port is the peer port
abbrev pub is_linked : (ℕ → List PortGroup) → ℕ → PortGroup → Bool
is_linked ports guests g = nat_lt g.peer guests && list_any (λ (h : PortGroup). h.port == g.peer_port) (ports g.peer)

-- the event channels, at least one, each linked to a group of its peer
abbrev pub event_channels : (ℕ → List PortGroup) → ℕ → List ℕ → Option (List PortGroup)
event_channels ports guests text = do
  groups ← port_groups (words_of text)
  some ← not_empty groups
  where_true (list_all (is_linked ports guests) some) some
