-- Which frames are free, and what the guests without static memory draw from them.
use Rattle.std.specs.Prelude.{ℕ, zero, suc, ◌/◌, ◌%◌, Bool, not, List, [], ◌∷◌, ◌++◌, filter, length, Option, Some, None, Result, Ok, Err}
use Rattle.std.specs.List.{list_any}
use Rattle.texts.specs.declared.ranges.FrameRange.{FrameRange}
use Rattle.described.specs.declared.item.Item.{Item}
use Rattle.described.specs.declared.item.Part.TheVariants as parts
use Rattle.described.specs.declared.why.Why.TheVariants.{NoRam}
use Rattle.frame_alloc.specs.Frames.{frames_in, without, lowest_frame, lowest_chunk}
use Rattle.item_checks.specs.declared.guests.Guest.{Guest}
use Rattle.frame_alloc.specs.Ranges.{holds}
use Rattle.item_checks.specs.Taken.{Passed}
use Rattle.item_checks.specs.Refusals.{Refusal}

-- an item claims the frame
abbrev pub is_claimed : List Passed → ℕ → Bool
is_claimed passed frame = list_any (λ (one : Passed). holds one.claims frame) passed

-- the frames of the host's memory that no item claims
unfoldable pub free_frames : List FrameRange → List Passed → List ℕ
free_frames ram passed = filter (λ frame. not (is_claimed passed frame)) (frames_in ram)

-- frames that were drawn, in their order, and those that are left
pub record Drawn : Type 0 where
  pub frames : List FrameRange
  pub left : List ℕ

-- one step and then the next, which takes what the first gives: how the lines of `do` below go on
infixl 10 ◌>>=◌
abbrev pub ◌>>=◌ : {A B : Type 0} → Option A → (A → Option B) → Option B
None >>= f = None
(Some x) >>= f = f x

-- count groups of a size, each the lowest of what is left
unfoldable pub groups_drawn : (List ℕ → Option ℕ) → ℕ → ℕ → List ℕ → Option Drawn
groups_drawn lowest size zero free = Some (record { frames = []; left = free })
groups_drawn lowest size (suc count) free = do
  first ← lowest free
  rest ← groups_drawn lowest size count (without first size free)
  Some (record { frames = record { first = first; count = size } ∷ rest.frames; left = rest.left })

-- count frames: as many of the lowest chunks as fit, and then the lowest frames
unfoldable pub drawn : ℕ → List ℕ → Option Drawn
drawn count free = do
  chunks ← groups_drawn lowest_chunk 512 (count / 512) free
  singles ← groups_drawn lowest_frame 1 (count % 512) chunks.left
  Some (record { frames = chunks.frames ++ singles.frames; left = singles.left })

-- the request of a guest for its memory, as an item
abbrev pub heap_item : Guest → Item
heap_item guest = record { part = parts.Heap; path = guest.domain.path; index = 0 }

-- what each guest drew, and the frames that are left
pub record Heaps : Type 0 where
  pub drawn : List (List FrameRange)
  pub left : List ℕ

-- what the first guest drew, before the others
abbrev pub and_drawn : List FrameRange → Result Heaps Refusal → Result Heaps Refusal
and_drawn frames (Err refusal) = Err refusal
and_drawn frames (Ok heaps) = Ok (record { drawn = frames ∷ heaps.drawn; left = heaps.left })

-- the guests draw their memory one after the other; the first that cannot is refused
unfoldable pub heaps : List Guest → List ℕ → Result Heaps Refusal
heaps [] free = Ok (record { drawn = []; left = free })
heaps (guest ∷ guests) free = elim (drawn guest.domain.pages free) as (λ _. Result Heaps Refusal) [
  | None ↦ Err (heap_item guest, NoRam guest.domain.pages (length free))
  | Some one ↦ and_drawn one.frames (heaps guests one.left)
]
