use Rattle.std.proofs.Common.{◌≡◌, ◌+◌, ◌-◌, ◌≤◌, length, drop, ap, ◌∙◌, arith}
use Rattle.std.proofs.lemmas.List.{length-take-le, length-drop}
use borrow.Rule.Slice.PartMut.{put_mid, mid_of}
use Rattle.stage2_walk.specs.Pages.{number_at}
use Rattle.stage2_walk.proofs.Numbers.{number_at-written, number_at-below, number_at-above}
use Rattle.stage2_walk.proofs.bytes.write_number.Goals as goal

pub returns-clause-written : goal.returns-clause-written
returns-clause-written c =
    let xs = c.args.bytes.now in
    let p = c.args.place in
    let k = (p + 8) - p in
    ap (λ part. number_at (put_mid p k xs part) p) c.write_u64.ensures
    ∙ number_at-written p c.args.number xs (drop 8 (mid_of p k xs)) (drop k (drop p xs)) (omega arith) (omega arith)

pub returns-clause-before : goal.returns-clause-before
returns-clause-before c o low = number_at-below c.args.place o c.args.bytes.now _ low (omega arith)

pub returns-clause-after : goal.returns-clause-after
returns-clause-after c o high =
    let p = c.args.place in
    let k = (p + 8) - p in
    let xs = c.args.bytes.now in
    let rest : k ≤ length (drop p xs) = omega (arith, length-drop p xs) in
    let whole : length c.write_u64.new.buf ≡ 8 = omega (arith, c.write_u64.auto.buf, length-take-le k (drop p xs) rest) in
    number_at-above p k 8 o xs c.write_u64.new.buf whole (omega arith) high (omega arith)
