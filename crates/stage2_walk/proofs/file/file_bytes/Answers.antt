use Rattle.std.proofs.Common.{◌≡◌, ℕ, ◌<◌, List, [], ◌++◌, ap, ◌∙◌, Fits, w8, arith}
use Rattle.byteorder.specs.Endian.{little_bytes}
use Rattle.stage2_walk.specs.Files.{magic}
use Rattle.stage2_walk.proofs.FileLemmas.{file_with, file_of-written}
use Rattle.stage2_walk.proofs.file.file_bytes.Goals as goal

-- parts that were added one after the other
in_turn : (start a b c d w x y z : List ℕ) → start ≡ [] → w ≡ start ++ a → x ≡ w ++ b → y ≡ x ++ c → z ≡ y ++ d → z ≡ a ++ b ++ c ++ d
in_turn start a b c d w x y z none first second third fourth =
    let w_is : w ≡ a = first ∙ ap (λ (ys : List ℕ). ys ++ a) none in
    let x_is : x ≡ a ++ b = second ∙ ap (λ (ys : List ℕ). ys ++ b) w_is in
    let y_is : y ≡ a ++ b ++ c = third ∙ ap (λ (ys : List ℕ). ys ++ c) x_is in
    fourth ∙ ap (λ (ys : List ℕ). ys ++ d) y_is

small : (n : ℕ) → Fits w8 n → n < 256
small n fits = omega (arith, fits.fits)

parts : (c : goal.In_ok-extend_from_slice-2) → c.extend_from_slice-2.new.self.items ≡ file_with c.args.root c.args.count c.args.pages.now
unfolding file_with
parts c = in_turn c.new-file.result.items magic (little_bytes 8 c.args.root) (little_bytes 8 c.args.count) c.args.pages.now
    c.extend_from_slice.new.self.items c.push_number.new.bytes.items c.push_number-2.new.bytes.items c.extend_from_slice-2.new.self.items
    c.new-file.ensures.items
    (c.in_ok-extend_from_slice.ensures.items ∙ ap (λ (ys : List ℕ). ys ++ magic) c.in_ok-reserve.ensures.items)
    c.in_ok-push_number.ensures c.in_ok-push_number-2.ensures c.in_ok-extend_from_slice-2.ensures.items

pub returns-clause-parts : goal.returns-clause-parts
unfolding file_with
returns-clause-parts c = parts c

pub returns-clause-file : goal.returns-clause-file
returns-clause-file c = parts c ∙ file_of-written c.args.root c.args.pages.now c.args.count (λ m. small _ (c.type_inv.pages m)) c.requires
