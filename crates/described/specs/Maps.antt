-- Guest maps: to which host frame, and as which kind of memory, a guest page goes.
use Rattle.std.specs.Prelude.{◌≡◌, ℕ, ◌+◌, ◌-◌, ◌^◌, ◌<◌, ◌≤◌, ◌&&◌, Bool, nat_lt, nat_le, if◌then◌else◌, List, [], ◌∷◌, Option, Some, None}
use Rattle.described.specs.declared.map_range.Kind.{Kind}
use Rattle.described.specs.declared.map_range.Kind.TheVariants.{Ram, Device, Shared}
use Rattle.described.specs.declared.map_range.MapRange.{MapRange}

-- where a guest page goes
pub record Target : Type 0 where
  pub frame : ℕ
  pub kind : Kind

-- the attribute bits of a leaf word of each kind (Arm ARM, VMSAv8-64 stage 2 descriptors: MemAttr 5:2, S2AP 7:6, SH 9:8, AF 10, XN 54)
abbrev pub attributes : Kind → ℕ
attributes Ram = 0x7fc
attributes Device = 0x00400000000006c4
attributes Shared = 0x00400000000007fc

-- whether a range holds a guest page
abbrev pub holds_page : MapRange → ℕ → Bool
holds_page range page = nat_le range.page page && nat_lt page (range.page + range.count)

-- where a list of ranges maps a guest page, if anywhere
abbrev pub target_of : List MapRange → ℕ → Option Target
target_of [] page = None
target_of (range ∷ ranges) page =
    if holds_page range page
    then Some (record { frame = range.first + (page - range.page); kind = range.kind })
    else target_of ranges page

-- the ranges begin at or above a page, are sorted and apart, none is empty, and all pages and frames are below 2^28
abbrev pub AreSortedFrom : ℕ → List MapRange → Type 0
AreSortedFrom start [] = Unit {0}
AreSortedFrom start (range ∷ ranges) =
    (start ≤ range.page) × (0 < range.count) × (range.page + range.count ≤ 2 ^ 28) ×
    (range.first + range.count ≤ 2 ^ 28) × AreSortedFrom (range.page + range.count) ranges

-- a map in ranges: sorted by page, apart, not empty, pages and frames below 2^28
abbrev pub AreMapRanges : List MapRange → Type 0
AreMapRanges ranges = AreSortedFrom 0 ranges

-- the second range runs on where the first ends: in page, frame and kind
pub record RunsOn (first second : MapRange) : Type 0 where
  pub page : second.page ≡ first.page + first.count
  pub frame : second.first ≡ first.first + first.count
  pub kind : second.kind ≡ first.kind

-- no range runs on from the one before it
abbrev pub AreMergedAfter : MapRange → List MapRange → Type 0
AreMergedAfter before [] = Unit {0}
AreMergedAfter before (range ∷ ranges) = ¬ (RunsOn before range) × AreMergedAfter range ranges

-- no range of the list runs on from the one before it
abbrev pub AreMerged : List MapRange → Type 0
AreMerged [] = Unit {0}
AreMerged (range ∷ ranges) = AreMergedAfter range ranges
