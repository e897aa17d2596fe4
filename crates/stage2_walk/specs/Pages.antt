-- The pages of a table image: each is a host frame with its 512 words (Arm ARM, VMSAv8-64, 4 KB granule).
use Rattle.std.specs.Prelude.{ℕ, ◌+◌, ◌*◌, ◌==◌, if◌then◌else◌, List, map, find, replicate, slice_get, slice_set, Option, option_and_then}
use Rattle.byteorder.specs.Endian.{little_from}
use Rattle.texts.specs.Consecutive.{numbers}

-- a host frame and its words, 512 of them in an image
pub record Page : Type 0 where
  pub frame : ℕ
  pub words : List ℕ

-- the frames of the pages, in order
abbrev pub frames_of : List Page → List ℕ
frames_of pages = map (λ (page : Page). page.frame) pages

-- the page of a frame
abbrev pub page_of : List Page → ℕ → Option Page
page_of pages frame = find (λ (page : Page). page.frame == frame) pages

-- the word of a frame at an index, if the frame has a page and the index is below 512
unfoldable pub word_in : List Page → ℕ → ℕ → Option ℕ
word_in pages frame index = option_and_then (λ (page : Page). slice_get page.words index) (page_of pages frame)

-- a page of zeros
unfoldable pub blank_page : ℕ → Page
blank_page frame = record { frame = frame; words = replicate 512 0 }

-- a page with one word changed, if it is the page of this frame
abbrev pub page_with_word : ℕ → ℕ → ℕ → Page → Page
page_with_word frame index word page =
    if page.frame == frame then record { frame = page.frame; words = slice_set page.words index word } else page

-- the pages with one word of one frame changed
unfoldable pub with_word : List Page → ℕ → ℕ → ℕ → List Page
with_word pages frame index word = map (page_with_word frame index word) pages

-- the little-endian number of the eight bytes from a place on
unfoldable pub number_at : List ℕ → ℕ → ℕ
number_at bytes place = little_from place 8 bytes

-- the page that is spelled from a place on: its frame, and then its words
unfoldable pub page_at : List ℕ → ℕ → Page
page_at bytes place = record {
  frame = number_at bytes place;
  words = map (λ (index : ℕ). number_at bytes (place + 8 + 8 * index)) (numbers 0 512);
}

-- count pages, spelled one after the other from a place on
unfoldable pub pages_at : List ℕ → ℕ → ℕ → List Page
pages_at bytes place count = map (λ (k : ℕ). page_at bytes (place + 4104 * k)) (numbers 0 count)
