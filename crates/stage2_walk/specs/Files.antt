-- The file of an image.
use Rattle.std.specs.Prelude.{ℕ, ◌+◌, ◌*◌, ◌^◌, ◌%◌, ◌==◌, ◌&&◌, not, nat_lt, nat_le, if◌then◌else◌, Bool, List, ◌++◌, length, take, find, position, flat_map, slice_index, codes, Option, Some, None, Result, Ok, Err}
use Rattle.std.specs.List.{starts_with}
use Rattle.byteorder.specs.Endian.{little_bytes}
use Rattle.texts.specs.Consecutive.{numbers, is_in}
use Rattle.stage2_walk.specs.Pages.{Page, frames_of, number_at, pages_at}
use Rattle.stage2_walk.specs.declared.image_fault.ImageFault.{ImageFault}
use Rattle.stage2_walk.specs.declared.image_fault.ImageFault.TheVariants.{Magic, Length, TooHigh, FrameTwice, Root}

-- the eight bytes that a file begins with
abbrev pub magic : List ℕ
magic = codes "S2IMAGE1"

-- a page in a file: its frame, and then its words
unfoldable pub spelled_page : Page → List ℕ
spelled_page page = little_bytes 8 page.frame ++ flat_map (little_bytes 8) page.words

-- the file of an image: eight bytes, the root and the page count, and then the pages in order
unfoldable pub file_of : ℕ → List Page → List ℕ
file_of root pages = magic ++ little_bytes 8 root ++ little_bytes 8 (length pages) ++ flat_map spelled_page pages

-- the first page whose frame is 2^28 or more
abbrev pub first_high : List ℕ → Option ℕ
first_high frames = position (λ frame. nat_le (2 ^ 28) frame) frames

-- the first page whose frame stands earlier
abbrev pub first_repeat : List ℕ → Option ℕ
first_repeat frames = find (λ k. is_in (take k frames) (slice_index frames k)) (numbers 0 (length frames))

-- the root pages are an even frame and the next one, and both are in the image
abbrev pub has_root : ℕ → List ℕ → Bool
has_root root frames = (root % 2 == 0) && is_in frames root && is_in frames (root + 1)

-- the root and the pages, if both root pages are there
abbrev pub checked_root : ℕ → List Page → Result (ℕ × List Page) ImageFault
checked_root root pages = if has_root root (frames_of pages) then Ok (root, pages) else Err Root

-- the same, if no page's frame stands earlier
abbrev pub checked_repeat : ℕ → List Page → Option ℕ → Result (ℕ × List Page) ImageFault
checked_repeat root pages None = checked_root root pages
checked_repeat root pages (Some k) = Err (FrameTwice k)

-- the same, if no page's frame is 2^28 or more
abbrev pub checked_pages : ℕ → List Page → Option ℕ → Result (ℕ × List Page) ImageFault
checked_pages root pages None = checked_repeat root pages (first_repeat (frames_of pages))
checked_pages root pages (Some k) = Err (TooHigh k)

-- the root and the pages, or the first refusal: of height, of a frame that comes twice, and of the root
abbrev pub checked : ℕ → List Page → Result (ℕ × List Page) ImageFault
checked root pages = checked_pages root pages (first_high (frames_of pages))

-- the image that a file holds: its root and its pages, or the first refusal
unfoldable pub image_of : List ℕ → Result (ℕ × List Page) ImageFault
image_of file =
    if nat_lt (length file) 24 then Err Magic
    else if not (starts_with (λ a b. a == b) file magic) then Err Magic
    else if not (length file == 24 + 4104 * number_at file 16) then Err Length
    else checked (number_at file 8) (pages_at file 24 (number_at file 16))
