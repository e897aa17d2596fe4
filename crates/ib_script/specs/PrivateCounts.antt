-- How many files there are of each part, for private contracts alone.
use Rattle.std.specs.Prelude.{ℕ, ◌+◌, Bool}
use Rattle.ib_script.specs.Properties.{one_if}

-- how many files a guest has: its kernel, and its ramdisk and partial tree as far as they are set
abbrev pub file_count : Bool → Bool → ℕ
file_count ramdisk partial = 1 + one_if ramdisk + one_if partial

-- how many files dom0 has
abbrev pub dom0_count : Bool → Bool → ℕ
dom0_count kernel ramdisk = one_if kernel + one_if ramdisk
