-- For private contracts and proofs: how the fields of an image stand for its pages.
use Rattle.std.specs.Prelude.{◌≡◌, ℕ, ◌-◌, ◌*◌, ◌/◌, ◌%◌, ◌^◌, ◌<◌, min, List, length, vec_len, vec_capacity, Some}
use Rattle.stage2_walk.specs.Pages.{number_at, pages_at}
use Rattle.stage2_walk.specs.Places.{place_in, AreAscending}
use Rattle.stage2_walk.specs.TableImages.{TableImage}
use Rattle.stage2_walk.specs.declared.places.Place.{Place}
use Rattle.stage2_walk.specs.declared.image.Image.TheInside.{Inside}

-- the bytes are the pages as in a file; room is what both vectors have
abbrev pub image_view : Inside → TableImage
image_view image = record {
  root = image.root;
  pages = pages_at image.bytes.items 0 (length image.index.items);
  spare = min ((vec_capacity image.bytes - vec_len image.bytes) / 4104) (vec_capacity image.index - vec_len image.index);
}

-- the index and the frames of the pages are inverse to each other, the index ascends, and all frames are below 2^28
pub record IsIndex (bytes : List ℕ) (index : List Place) : Type 0 where
  pub bytes_whole : length bytes ≡ 4104 * length index
  pub found : (k : ℕ) → k < length index → place_in index (number_at bytes (4104 * k)) ≡ Some k
  pub within : (frame k : ℕ) → place_in index frame ≡ Some k → k < length index
  pub right : (frame k : ℕ) → place_in index frame ≡ Some k → number_at bytes (4104 * k) ≡ frame
  pub ascending : AreAscending index
  pub low : (k : ℕ) → k < length index → number_at bytes (4104 * k) < 2 ^ 28

-- the root frame is even and below 2^28, and the index fits the bytes
pub record IsImage (image : Inside) : Type 0 where
  pub even : image.root % 2 ≡ 0
  pub low : image.root < 2 ^ 28
  pub indexed : IsIndex image.bytes.items image.index.items
