use Rattle.std.proofs.Common.{◌≡◌, ℕ, ◌<◌, true, List, length, Ok, sym, ap, subst, ◌∙◌, arith, ◌++◌, ◌^◌}
use Rattle.std.specs.Bool.{IsTrue}
use Rattle.std.proofs.lemmas.Result.{IfOk-weaker}
use Rattle.byteorder.specs.Endian.{little_bytes}
use Rattle.stage2_walk.specs.Pages.{pages_at, frames_of}
use Rattle.stage2_walk.specs.Files.{image_of, has_root, magic}
use Rattle.stage2_walk.specs.TableImages.{TableImage}
use Rattle.stage2_walk.proofs.FileLemmas.{file_with, image_of-written}
use Rattle.stage2_walk.proofs.image.Image.bytes.Goals as goal

pub returns-clause-image : goal.returns-clause-image
unfolding file_with
returns-clause-image c = IfOk-weaker c.file_bytes.result
    (λ file. file.items ≡ magic ++ little_bytes 8 c.self.inside.root ++ little_bytes 8 c.len.result ++ c.deref.result.now)
    (λ file. IsTrue (has_root c.args.self.now.root (frames_of c.args.self.now.pages)) → image_of file.items ≡ Ok (c.args.self.now.root, c.args.self.now.pages))
    (λ file parts held. read_back file.items parts held)
    c.file_bytes.ensures.parts
  where
    small_root : c.self.inside.root < 2 ^ 64
    small_root = let low = c.self.invariant.low in omega arith

    count : c.len.result ≡ length c.self.inside.index.items
    count = c.len.ensures ∙ c.self.inside.index.ok.0

    few : length c.self.inside.index.items < 2 ^ 64
    few = omega (arith, count)

    file_is : (file : List ℕ) → file ≡ magic ++ little_bytes 8 c.self.inside.root ++ little_bytes 8 c.len.result ++ c.deref.result.now → file ≡ file_with c.self.inside.root (length c.self.inside.index.items) c.self.inside.bytes.items
    file_is file parts = parts
        ∙ ap (λ (n : ℕ). magic ++ little_bytes 8 c.self.inside.root ++ little_bytes 8 n ++ c.deref.result.now) count
        ∙ ap (λ (bytes : List ℕ). magic ++ little_bytes 8 c.self.inside.root ++ little_bytes 8 (length c.self.inside.index.items) ++ bytes) c.deref.ensures.value

    read_back : (file : List ℕ) → file ≡ magic ++ little_bytes 8 c.self.inside.root ++ little_bytes 8 c.len.result ++ c.deref.result.now → IsTrue (has_root c.args.self.now.root (frames_of c.args.self.now.pages)) → image_of file ≡ Ok (c.args.self.now.root, c.args.self.now.pages)
    read_back file parts held =
        let i = c.self.inside in
        let here : has_root i.root (frames_of (pages_at i.bytes.items 0 (length i.index.items))) ≡ true = subst (λ (image : TableImage). has_root image.root (frames_of image.pages) ≡ true) (sym c.self.view_is) held in
        ap image_of (file_is file parts) ∙ image_of-written i.root i.bytes.items i.index.items c.self.invariant.indexed small_root few here
        ∙ ap (λ (image : TableImage). Ok (image.root, image.pages)) c.self.view_is
