use Rattle.std.proofs.Common.{◌≡◌, false, List, [], ◌++◌, map, None, Err, rules, refl, sym, subst, ◌∙◌, append_assoc}
use Rattle.texts.specs.declared.ranges.FrameRange.{FrameRange}
use Rattle.item_checks.specs.declared.state.Owner.{Owner}
use Rattle.item_checks.specs.Entries.{Entry, of_host, load_item}
use Rattle.item_checks.specs.Taken.{all_passed}
use Rattle.item_checks.specs.Standing.{Stands, entry_of}
use Rattle.item_checks.specs.PrivateStanding.{Checked}
use Rattle.item_checks.proofs.CheckedLemmas.{checked_from, then_checked, stopped}
use Rattle.item_checks.proofs.checking.check_host.Goals as goal

host_owner : Owner
host_owner = record { guest = None; partial_read = false }

pub returns-in_err-check_items : goal.returns-in_err-check_items
returns-in_err-check_items c =
    let handed : c.from_residual-in_err-check_items.result ≡ Err (c.in_err-check_items.field-0.0) = search rules in
    let owner : Owner = record { guest = None; partial_read = false } in
    let a : List Entry = map (entry_of owner) c.as_slice-2.result.now in
    let s0 : Stands None [] c.args.state.now = c.requires.new in
    let entries : map (entry_of owner) c.as_slice-2.result.now ++ (map (entry_of owner) (map load_item c.args.loads.now) ++ map (entry_of owner) c.args.host.now.modules) ≡ of_host c.args.host.now.items ++ of_host (map load_item c.args.loads.now) ++ of_host c.args.host.now.modules =
    sym (append_assoc (map (entry_of owner) c.as_slice-2.result.now) (map (entry_of owner) (map load_item c.args.loads.now)) (map (entry_of owner) c.args.host.now.modules)) ∙ rw (c.as_slice-2.ensures) refl in
    rw handed (subst (λ (es : List Entry). Checked {A = Unit {0}} c.args.host.now None [] es (Err (c.in_err-check_items.field-0.0)) c.check_items.new.state) entries
    (stopped c.args.host.now None [] a _ (c.in_err-check_items.field-0.0) c.check_items.new.state c.check_items.new.state (λ item reason is. c.in_err-check_items.ensures.refused [] s0 item reason is)))

pub returns-in_err-check_items-2 : goal.returns-in_err-check_items-2
returns-in_err-check_items-2 c =
    let handed : c.from_residual-in_err-check_items-2.result ≡ Err (c.in_err-check_items-2.field-0.0) = search rules in
    let owner : Owner = record { guest = None; partial_read = false } in
    let a : List Entry = map (entry_of owner) c.as_slice-2.result.now in
    let s0 : Stands None [] c.args.state.now = c.requires.new in
    let b : List Entry = map (entry_of owner) c.as_slice-3.result.now in
    let s1 : Stands None (all_passed [] a) c.check_items.new.state = c.in_ok-check_items.ensures.passed [] s0 in
    let entries : map (entry_of owner) c.as_slice-2.result.now ++ (map (entry_of owner) c.as_slice-3.result.now ++ map (entry_of owner) c.args.host.now.modules) ≡ of_host c.args.host.now.items ++ of_host (map load_item c.args.loads.now) ++ of_host c.args.host.now.modules =
    sym (append_assoc (map (entry_of owner) c.as_slice-2.result.now) (map (entry_of owner) c.as_slice-3.result.now) (map (entry_of owner) c.args.host.now.modules)) ∙ rw (c.as_slice-2.ensures, c.as_slice-3.ensures.value, c.in_ok-items.ensures, c.as_slice.ensures) refl in
    rw handed (subst (λ (es : List Entry). Checked {A = Unit {0}} c.args.host.now None [] es (Err (c.in_err-check_items-2.field-0.0)) c.check_items-2.new.state) entries
    (then_checked {A = Unit {0}} c.args.host.now None [] a _ (Err (c.in_err-check_items-2.field-0.0)) c.check_items-2.new.state (c.in_ok-check_items.ensures.clear [] s0)
    (stopped c.args.host.now None (all_passed [] a) b _ (c.in_err-check_items-2.field-0.0) c.check_items-2.new.state c.check_items-2.new.state (λ item reason is. c.in_err-check_items-2.ensures.refused (all_passed [] a) s1 item reason is))))

pub returns : goal.returns
returns c =
    let owner : Owner = record { guest = None; partial_read = false } in
    let a : List Entry = map (entry_of owner) c.as_slice-2.result.now in
    let s0 : Stands None [] c.args.state.now = c.requires.new in
    let b : List Entry = map (entry_of owner) c.as_slice-3.result.now in
    let s1 : Stands None (all_passed [] a) c.check_items.new.state = c.in_ok-check_items.ensures.passed [] s0 in
    let d : List Entry = map (entry_of owner) c.as_slice-4.result.now in
    let s2 : Stands None (all_passed (all_passed [] a) b) c.check_items-2.new.state = c.in_ok-check_items-2.ensures.passed (all_passed [] a) s1 in
    let entries : map (entry_of owner) c.as_slice-2.result.now ++ (map (entry_of owner) c.as_slice-3.result.now ++ map (entry_of owner) c.as_slice-4.result.now) ≡ of_host c.args.host.now.items ++ of_host (map load_item c.args.loads.now) ++ of_host c.args.host.now.modules =
    sym (append_assoc (map (entry_of owner) c.as_slice-2.result.now) (map (entry_of owner) c.as_slice-3.result.now) (map (entry_of owner) c.as_slice-4.result.now)) ∙ rw (c.as_slice-2.ensures, c.as_slice-3.ensures.value, c.in_ok-items.ensures, c.as_slice.ensures, c.as_slice-4.ensures) refl in
    let third : Checked c.args.host.now None (all_passed (all_passed [] a) b) d c.check_items-3.result c.check_items-3.new.state =
    checked_from c.args.host.now None (all_passed (all_passed [] a) b) d c.check_items-2.new.state c.check_items-3.new.state c.check_items-3.result c.check_items-3.ensures.passed c.check_items-3.ensures.clear c.check_items-3.ensures.refused s2 in
    subst (λ (es : List Entry). Checked c.args.host.now None [] es c.check_items-3.result c.check_items-3.new.state) entries
    (then_checked c.args.host.now None [] a (b ++ d) c.check_items-3.result c.check_items-3.new.state (c.in_ok-check_items.ensures.clear [] s0)
    (then_checked c.args.host.now None (all_passed [] a) b d c.check_items-3.result c.check_items-3.new.state (c.in_ok-check_items-2.ensures.clear (all_passed [] a) s1) third))
