use Rattle.std.proofs.Common.{◌≡◌, Bool, List, ◌++◌, map, Some, Err, rules, refl, sym, ap, subst, ◌∙◌, append_assoc}
use Rattle.std.proofs.lemmas.List.{map-append}
use Rattle.described.specs.declared.item.Described.{Described}
use Rattle.item_checks.specs.declared.state.Owner.{Owner}
use Rattle.item_checks.specs.Entries.{Entry, of_guest, items_of, partial_items, is_read}
use Rattle.item_checks.specs.Taken.{all_passed}
use Rattle.item_checks.specs.Standing.{Stands, entry_of}
use Rattle.item_checks.specs.PrivateStanding.{Checked}
use Rattle.item_checks.proofs.CheckedLemmas.{checked_from, then_checked, stopped}
use Rattle.item_checks.proofs.checking.check_guest.Goals as goal

-- the items of a guest, part by part
four : (owner : Owner) (a b c d : List Described) → map (entry_of owner) (a ++ b ++ c ++ d) ≡ map (entry_of owner) a ++ (map (entry_of owner) b ++ (map (entry_of owner) c ++ map (entry_of owner) d))
four owner a b c d =
    let f : Described → Entry = entry_of owner in
    map-append f (a ++ b ++ c) d ∙ ap (λ (xs : List Entry). xs ++ map f d) (map-append f (a ++ b) c ∙ ap (λ (xs : List Entry). xs ++ map f c) (map-append f a b))
    ∙ append_assoc (map f a ++ map f b) (map f c) (map f d) ∙ append_assoc (map f a) (map f b) (map f c ++ map f d)

pub returns-in_err-check_items : goal.returns-in_err-check_items
returns-in_err-check_items c last before stands none =
    let handed : c.from_residual.result ≡ Err (c.in_err-check_items.field-0.0) = search rules in
    let owner : Owner = record { guest = Some c.args.number; partial_read = c.is_read.result } in
    let a : List Entry = map (entry_of owner) c.as_slice.result.now in
    let s0 : Stands (Some c.args.number) before c.begin_guest.new.self = c.begin_guest.ensures last before c.args.number stands none in
    let lists : c.as_slice.result.now ++ partial_items c.args.guest.now.partial ++ c.args.guest.now.shared ++ c.args.guest.now.ports ≡ items_of c.args.guest.now = rw (c.as_slice.ensures) refl in
    let entries : map (entry_of owner) c.as_slice.result.now ++ (map (entry_of owner) (partial_items c.args.guest.now.partial) ++ (map (entry_of owner) c.args.guest.now.shared ++ map (entry_of owner) c.args.guest.now.ports)) ≡ of_guest c.args.number (is_read c.args.guest.now.partial) (items_of c.args.guest.now) =
    sym (four owner c.as_slice.result.now (partial_items c.args.guest.now.partial) c.args.guest.now.shared c.args.guest.now.ports) ∙ ap (λ (read : Bool). of_guest c.args.number read (c.as_slice.result.now ++ partial_items c.args.guest.now.partial ++ c.args.guest.now.shared ++ c.args.guest.now.ports)) c.is_read.ensures
    ∙ ap (of_guest c.args.number (is_read c.args.guest.now.partial)) lists in
    rw handed (subst (λ (es : List Entry). Checked {A = Unit {0}} c.args.host.now (Some c.args.number) before es (Err (c.in_err-check_items.field-0.0)) c.check_items.new.state) entries
    (stopped c.args.host.now (Some c.args.number) before a _ (c.in_err-check_items.field-0.0) c.check_items.new.state c.check_items.new.state (λ item reason is. c.in_err-check_items.ensures.refused before s0 item reason is)))

pub returns-in_err-check_items-2 : goal.returns-in_err-check_items-2
returns-in_err-check_items-2 c last before stands none =
    let handed : c.from_residual-in_err-check_items-2.result ≡ Err (c.in_err-check_items-2.field-0.0) = search rules in
    let owner : Owner = record { guest = Some c.args.number; partial_read = c.is_read.result } in
    let a : List Entry = map (entry_of owner) c.as_slice.result.now in
    let s0 : Stands (Some c.args.number) before c.begin_guest.new.self = c.begin_guest.ensures last before c.args.number stands none in
    let b : List Entry = map (entry_of owner) c.partial_items.result.now in
    let s1 : Stands (Some c.args.number) (all_passed before a) c.check_items.new.state = c.in_ok-check_items.ensures.passed before s0 in
    let lists : c.as_slice.result.now ++ c.partial_items.result.now ++ c.args.guest.now.shared ++ c.args.guest.now.ports ≡ items_of c.args.guest.now = rw (c.as_slice.ensures, c.partial_items.ensures) refl in
    let entries : map (entry_of owner) c.as_slice.result.now ++ (map (entry_of owner) (c.partial_items.result.now) ++ (map (entry_of owner) c.args.guest.now.shared ++ map (entry_of owner) c.args.guest.now.ports)) ≡ of_guest c.args.number (is_read c.args.guest.now.partial) (items_of c.args.guest.now) =
    sym (four owner c.as_slice.result.now (c.partial_items.result.now) c.args.guest.now.shared c.args.guest.now.ports) ∙ ap (λ (read : Bool). of_guest c.args.number read (c.as_slice.result.now ++ c.partial_items.result.now ++ c.args.guest.now.shared ++ c.args.guest.now.ports)) c.is_read.ensures
    ∙ ap (of_guest c.args.number (is_read c.args.guest.now.partial)) lists in
    rw handed (subst (λ (es : List Entry). Checked {A = Unit {0}} c.args.host.now (Some c.args.number) before es (Err (c.in_err-check_items-2.field-0.0)) c.check_items-2.new.state) entries
    (then_checked {A = Unit {0}} c.args.host.now (Some c.args.number) before a _ (Err (c.in_err-check_items-2.field-0.0)) c.check_items-2.new.state (c.in_ok-check_items.ensures.clear before s0)
    (stopped c.args.host.now (Some c.args.number) (all_passed before a) b _ (c.in_err-check_items-2.field-0.0) c.check_items-2.new.state c.check_items-2.new.state (λ item reason is. c.in_err-check_items-2.ensures.refused (all_passed before a) s1 item reason is))))

pub returns-in_err-check_items-3 : goal.returns-in_err-check_items-3
returns-in_err-check_items-3 c last before stands none =
    let handed : c.from_residual-in_err-check_items-3.result ≡ Err (c.in_err-check_items-3.field-0.0) = search rules in
    let owner : Owner = record { guest = Some c.args.number; partial_read = c.is_read.result } in
    let a : List Entry = map (entry_of owner) c.as_slice.result.now in
    let s0 : Stands (Some c.args.number) before c.begin_guest.new.self = c.begin_guest.ensures last before c.args.number stands none in
    let b : List Entry = map (entry_of owner) c.partial_items.result.now in
    let s1 : Stands (Some c.args.number) (all_passed before a) c.check_items.new.state = c.in_ok-check_items.ensures.passed before s0 in
    let d : List Entry = map (entry_of owner) c.as_slice-2.result.now in
    let s2 : Stands (Some c.args.number) (all_passed (all_passed before a) b) c.check_items-2.new.state = c.in_ok-check_items-2.ensures.passed (all_passed before a) s1 in
    let lists : c.as_slice.result.now ++ c.partial_items.result.now ++ c.as_slice-2.result.now ++ c.args.guest.now.ports ≡ items_of c.args.guest.now = rw (c.as_slice.ensures, c.partial_items.ensures, c.as_slice-2.ensures) refl in
    let entries : map (entry_of owner) c.as_slice.result.now ++ (map (entry_of owner) (c.partial_items.result.now) ++ (map (entry_of owner) c.as_slice-2.result.now ++ map (entry_of owner) c.args.guest.now.ports)) ≡ of_guest c.args.number (is_read c.args.guest.now.partial) (items_of c.args.guest.now) =
    sym (four owner c.as_slice.result.now (c.partial_items.result.now) c.as_slice-2.result.now c.args.guest.now.ports) ∙ ap (λ (read : Bool). of_guest c.args.number read (c.as_slice.result.now ++ c.partial_items.result.now ++ c.as_slice-2.result.now ++ c.args.guest.now.ports)) c.is_read.ensures
    ∙ ap (of_guest c.args.number (is_read c.args.guest.now.partial)) lists in
    rw handed (subst (λ (es : List Entry). Checked {A = Unit {0}} c.args.host.now (Some c.args.number) before es (Err (c.in_err-check_items-3.field-0.0)) c.check_items-3.new.state) entries
    (then_checked {A = Unit {0}} c.args.host.now (Some c.args.number) before a _ (Err (c.in_err-check_items-3.field-0.0)) c.check_items-3.new.state (c.in_ok-check_items.ensures.clear before s0)
    (then_checked {A = Unit {0}} c.args.host.now (Some c.args.number) (all_passed before a) b _ (Err (c.in_err-check_items-3.field-0.0)) c.check_items-3.new.state (c.in_ok-check_items-2.ensures.clear (all_passed before a) s1)
    (stopped c.args.host.now (Some c.args.number) (all_passed (all_passed before a) b) d _ (c.in_err-check_items-3.field-0.0) c.check_items-3.new.state c.check_items-3.new.state (λ item reason is. c.in_err-check_items-3.ensures.refused (all_passed (all_passed before a) b) s2 item reason is)))))

pub returns : goal.returns
returns c last before stands none =
    let owner : Owner = record { guest = Some c.args.number; partial_read = c.is_read.result } in
    let a : List Entry = map (entry_of owner) c.as_slice.result.now in
    let s0 : Stands (Some c.args.number) before c.begin_guest.new.self = c.begin_guest.ensures last before c.args.number stands none in
    let b : List Entry = map (entry_of owner) c.partial_items.result.now in
    let s1 : Stands (Some c.args.number) (all_passed before a) c.check_items.new.state = c.in_ok-check_items.ensures.passed before s0 in
    let d : List Entry = map (entry_of owner) c.as_slice-2.result.now in
    let s2 : Stands (Some c.args.number) (all_passed (all_passed before a) b) c.check_items-2.new.state = c.in_ok-check_items-2.ensures.passed (all_passed before a) s1 in
    let e : List Entry = map (entry_of owner) c.as_slice-3.result.now in
    let s3 : Stands (Some c.args.number) (all_passed (all_passed (all_passed before a) b) d) c.check_items-3.new.state = c.in_ok-check_items-3.ensures.passed (all_passed (all_passed before a) b) s2 in
    let lists : c.as_slice.result.now ++ c.partial_items.result.now ++ c.as_slice-2.result.now ++ c.as_slice-3.result.now ≡ items_of c.args.guest.now = rw (c.as_slice.ensures, c.partial_items.ensures, c.as_slice-2.ensures, c.as_slice-3.ensures) refl in
    let entries : map (entry_of owner) c.as_slice.result.now ++ (map (entry_of owner) (c.partial_items.result.now) ++ (map (entry_of owner) c.as_slice-2.result.now ++ map (entry_of owner) c.as_slice-3.result.now)) ≡ of_guest c.args.number (is_read c.args.guest.now.partial) (items_of c.args.guest.now) =
    sym (four owner c.as_slice.result.now (c.partial_items.result.now) c.as_slice-2.result.now c.as_slice-3.result.now) ∙ ap (λ (read : Bool). of_guest c.args.number read (c.as_slice.result.now ++ c.partial_items.result.now ++ c.as_slice-2.result.now ++ c.as_slice-3.result.now)) c.is_read.ensures
    ∙ ap (of_guest c.args.number (is_read c.args.guest.now.partial)) lists in
    let fourth : Checked c.args.host.now (Some c.args.number) (all_passed (all_passed (all_passed before a) b) d) e c.check_items-4.result c.check_items-4.new.state =
    checked_from c.args.host.now (Some c.args.number) (all_passed (all_passed (all_passed before a) b) d) e c.check_items-3.new.state c.check_items-4.new.state c.check_items-4.result c.check_items-4.ensures.passed c.check_items-4.ensures.clear c.check_items-4.ensures.refused s3 in
    subst (λ (es : List Entry). Checked c.args.host.now (Some c.args.number) before es c.check_items-4.result c.check_items-4.new.state) entries
    (then_checked c.args.host.now (Some c.args.number) before a (b ++ (d ++ e)) c.check_items-4.result c.check_items-4.new.state (c.in_ok-check_items.ensures.clear before s0)
    (then_checked c.args.host.now (Some c.args.number) (all_passed before a) b (d ++ e) c.check_items-4.result c.check_items-4.new.state (c.in_ok-check_items-2.ensures.clear (all_passed before a) s1)
    (then_checked c.args.host.now (Some c.args.number) (all_passed (all_passed before a) b) d e c.check_items-4.result c.check_items-4.new.state (c.in_ok-check_items-3.ensures.clear (all_passed (all_passed before a) b) s2) fourth)))
