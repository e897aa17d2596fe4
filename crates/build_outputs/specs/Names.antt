-- The names of the files that a build writes.
use Rattle.std.specs.Prelude.{ℕ, List, codes}
use Rattle.guest_images.specs.Names.{guest_name}

-- the host's tree
abbrev pub host_name : List ℕ
host_name = codes "host.dtb"

-- the tree of the guest with this number
abbrev pub tree_name : ℕ → List ℕ
tree_name number = guest_name number (codes ".dtb")
