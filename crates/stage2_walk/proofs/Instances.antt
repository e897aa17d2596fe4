-- The definitions on small images.
use Rattle.std.proofs.Common.{◌≡◌, ◌+◌, ◌*◌, List, [], ◌∷◌, ◌++◌, length, take, Some, None, Ok, Err, refl}
use Rattle.std.specs.Prelude.{codes}
use Rattle.texts.specs.Consecutive.{numbers, is_in}
use Rattle.stage2_walk.specs.Pages.{Page, word_in, blank_page, with_word, number_at, pages_at}
use Rattle.stage2_walk.specs.Descriptors.{meaning}
use Rattle.stage2_walk.specs.Walks.{walk, walk_root, walk_middle, walk_page}
use Rattle.stage2_walk.specs.Files.{file_of, image_of, spelled_page, checked}
use Rattle.stage2_walk.specs.declared.descriptor.Meaning.TheVariants.{Invalid, Reserved, Table, Leaf}
use Rattle.stage2_walk.specs.declared.walk.Step.TheVariants.{Mapped, Fault, NoPage}
use Rattle.stage2_walk.specs.declared.image_fault.ImageFault.TheVariants.{Magic, Length, TooHigh, FrameTwice, Root}

meaning-page : meaning 3 0x400007ff ≡ Leaf 0x40000 0x7fc
unfolding meaning
meaning-page = refl

meaning-block : meaning 1 0x7fd ≡ Leaf 0 0x7fc
unfolding meaning
meaning-block = refl

-- a block drops the low bits of its frame
meaning-block_unaligned : meaning 2 0x402017fd ≡ Leaf 0x40200 0x7fc
unfolding meaning
meaning-block_unaligned = refl

meaning-device : meaning 3 0x00400000ff0106c7 ≡ Leaf 0xff010 0x00400000000006c4
unfolding meaning
meaning-device = refl

meaning-shared : meaning 2 0x00400000600007fd ≡ Leaf 0x60000 0x00400000000007fc
unfolding meaning
meaning-shared = refl

meaning-table : meaning 1 0x2003 ≡ Table 2
unfolding meaning
meaning-table = refl

meaning-reserved : meaning 3 0x401 ≡ Reserved
unfolding meaning
meaning-reserved = refl

meaning-invalid : meaning 2 0x400007fe ≡ Invalid
unfolding meaning
meaning-invalid = refl

-- one device page at guest address 0x40000000, over frames 2, 3, 1 and 4
abbrev four_pages : List Page
four_pages =
    with_word (with_word (with_word (blank_page 2 ∷ blank_page 3 ∷ blank_page 1 ∷ blank_page 4 ∷ []) 2 1 0x1003) 1 0 0x4003) 4 0 0x00400000000106c7

word-four_pages : word_in four_pages 2 1 ≡ Some 0x1003
unfolding word_in with_word blank_page
word-four_pages = refl

word-four_pages-none : word_in four_pages 5 1 ≡ None
unfolding word_in with_word blank_page
word-four_pages-none = refl

walk-four_pages : walk four_pages 2 0x40000abc ≡ Mapped 0x10abc 0x00400000000006c4
unfolding walk walk_root walk_middle walk_page word_in with_word blank_page meaning
walk-four_pages = refl

walk-four_pages-next : walk four_pages 2 0x40001000 ≡ Fault 3
unfolding walk walk_root walk_middle walk_page word_in with_word blank_page meaning
walk-four_pages-next = refl

walk-four_pages-low : walk four_pages 2 0x3fffffff ≡ Fault 1
unfolding walk walk_root walk_middle walk_page word_in with_word blank_page meaning
walk-four_pages-low = refl

-- the second root page by bit 39
walk-four_pages-high : walk four_pages 2 0x8000000000 ≡ Fault 1
unfolding walk walk_root walk_middle walk_page word_in with_word blank_page meaning
walk-four_pages-high = refl

length-file : length (file_of 2 four_pages) ≡ 24 + 4104 * 4
unfolding file_of spelled_page with_word blank_page
length-file = refl

no_magic : image_of [] ≡ Err Magic
unfolding image_of
no_magic = refl

-- a file of 24 bytes with no pages has no root pages, and one byte more has no length
no_root : image_of (file_of 0 []) ≡ Err Root
unfolding image_of file_of number_at pages_at numbers is_in
no_root = refl

too_long : image_of (file_of 0 [] ++ 0 ∷ []) ≡ Err Length
unfolding image_of file_of number_at pages_at numbers is_in
too_long = refl

-- the second root page has the addresses from 2^39 on
abbrev second_root : List Page
second_root = with_word four_pages 3 0 0x7fd

walk-second_root : walk second_root 2 0x8000000abc ≡ Mapped 0xabc 0x7fc
unfolding walk walk_root walk_middle walk_page word_in with_word blank_page meaning
walk-second_root = refl

-- a table word to a frame that the image lacks
abbrev missing_table : List Page
missing_table = with_word four_pages 2 2 0x9003

walk-missing_table : walk missing_table 2 0x80000000 ≡ NoPage 2 9
unfolding walk walk_root walk_middle walk_page word_in with_word blank_page meaning
walk-missing_table = refl

-- the refusals of pages, in their order
checked-twice : checked 2 (blank_page 2 ∷ blank_page 3 ∷ blank_page 2 ∷ []) ≡ Err (FrameTwice 2)
unfolding blank_page numbers is_in
checked-twice = refl

checked-high : checked 2 (blank_page 2 ∷ blank_page 2 ∷ blank_page 0x10000000 ∷ []) ≡ Err (TooHigh 2)
unfolding blank_page numbers is_in
checked-high = refl

checked-odd : checked 3 (blank_page 3 ∷ blank_page 4 ∷ []) ≡ Err Root
unfolding blank_page numbers is_in
checked-odd = refl

checked-fine : checked 2 (blank_page 3 ∷ blank_page 2 ∷ []) ≡ Ok (2, blank_page 3 ∷ blank_page 2 ∷ [])
unfolding blank_page numbers is_in
checked-fine = refl

begins-file : take 32 (file_of 2 four_pages) ≡ codes "S2IMAGE1" ++ 2 ∷ 0 ∷ 0 ∷ 0 ∷ 0 ∷ 0 ∷ 0 ∷ 0 ∷ 4 ∷ 0 ∷ 0 ∷ 0 ∷ 0 ∷ 0 ∷ 0 ∷ 0 ∷ 2 ∷ 0 ∷ 0 ∷ 0 ∷ 0 ∷ 0 ∷ 0 ∷ 0 ∷ []
unfolding file_of spelled_page with_word blank_page
begins-file = refl
