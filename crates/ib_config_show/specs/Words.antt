-- Numbers and groups of numbers as words.
use Rattle.std.specs.Prelude.{ℕ, false, List, [], ◌∷◌, ◌++◌, codes, decimal}
use Rattle.std.specs.List.{flat_map}
use Rattle.std.specs.Fmt.{digits}
use Rattle.texts.specs.declared.ranges.BaseSize.{BaseSize}
use Rattle.ib_config.specs.declared.groups.PortGroup.{PortGroup}
use Rattle.ib_config.specs.declared.groups.ShmGroup.{ShmGroup}

-- words, each behind a space
abbrev pub spaced : List (List ℕ) → List ℕ
spaced words = flat_map (λ word. 32 ∷ word) words

-- words, with a space between each two
abbrev pub joined : List (List ℕ) → List ℕ
joined [] = []
joined (word ∷ words) = word ++ spaced words

-- `0x` and lower-case hexadecimal digits without leading zeros
abbrev pub hex : ℕ → List ℕ
hex n = codes "0x" ++ digits 16 false n

-- BASE SIZE
abbrev pub range_words : BaseSize → List ℕ
range_words range = joined (hex range.base ∷ hex range.size ∷ [])

-- ID HOST GUEST SIZE
abbrev pub shm_words : ShmGroup → List ℕ
shm_words group = joined (group.id ∷ hex group.host ∷ hex group.guest ∷ hex group.size ∷ [])

-- PORT PEER PEERPORT
abbrev pub port_words : PortGroup → List ℕ
port_words group = joined (decimal group.port ∷ decimal group.peer ∷ decimal group.peer_port ∷ [])
