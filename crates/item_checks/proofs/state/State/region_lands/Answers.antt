use Rattle.std.proofs.Common.{◌≡◌, ◌&&◌, not, Bool, true, Option, Some, None, refl, sym, ◌∙◌}
use Rattle.std.specs.Option.{option_or}
use Rattle.described.specs.Reasons.{where_so}
use Rattle.std.proofs.lemmas.Result.{IfOk-weaker}
use Rattle.described.specs.declared.why.Why.{Why}
use Rattle.described.specs.declared.why.Why.TheVariants as whys
use Rattle.frame_alloc.specs.Ranges.{lie_in, have_common}
use Rattle.item_checks.specs.Taken.{what_of}
use Rattle.item_checks.specs.Reasons.{naming_first, area_pages, layout_at}
use Rattle.item_checks.specs.Standing.{claims_taken, pages_taken}
use Rattle.item_checks.specs.PrivateStanding.{overlap_in, is_region}
use Rattle.item_checks.proofs.RegionLemmas.{lands_last}
use Rattle.item_checks.proofs.state.State.region_lands.Goals as goal

pub returns-in-None : goal.returns-in-None
returns-in-None c = IfOk-weaker c.guest_overlap.result _ _
    (λ why told guest before stands.
    let claims = c.args.takes.now.claims.items in
    let pages = c.args.takes.now.pages.items in
    let others : Option Why = naming_first (λ passed. not (is_region c.args.id.now (what_of passed)) && have_common (claims_taken passed) claims) whys.HostOverlap before in
    let fills : Option Why = overlap_in (have_common (area_pages (layout_at c.args.host.now before guest)) pages) (naming_first (λ passed. have_common (pages_taken guest passed) pages) whys.GuestOverlap before) in
    let covered : lie_in c.args.host.now.ram claims ≡ true = rw (sym c.as_slice.ensures, sym c.as_slice-2.ensures.value) (sym c.lie_in.ensures ∙ c.if-not-lie_in.false) in
    let none : None ≡ others = sym c.in-None.is ∙ rw (sym c.as_slice-3.ensures.value) (c.in_ok-why.ensures guest before stands) in
    let same : why ≡ fills = rw (sym c.as_slice-in-None.ensures.value) (told guest before stands) in
    lands_last (lie_in c.args.host.now.ram claims) whys.NotRam others fills why covered none same)
    c.guest_overlap.ensures

-- where the frames are memory, an overlap comes first
lands_first : (covered : Bool) (ram why : Why) (others fills : Option Why) → covered ≡ true → Some why ≡ others → Some why ≡ option_or (where_so (not covered) ram) (option_or others fills)
lands_first covered ram why others fills yes_covered some = rw (yes_covered, sym some) refl

pub returns-in-Some : goal.returns-in-Some
returns-in-Some c guest before stands =
    let claims = c.args.takes.now.claims.items in
    let pages = c.args.takes.now.pages.items in
    let others : Option Why = naming_first (λ passed. not (is_region c.args.id.now (what_of passed)) && have_common (claims_taken passed) claims) whys.HostOverlap before in
    let fills : Option Why = overlap_in (have_common (area_pages (layout_at c.args.host.now before guest)) pages) (naming_first (λ passed. have_common (pages_taken guest passed) pages) whys.GuestOverlap before) in
    let covered : lie_in c.args.host.now.ram claims ≡ true = rw (sym c.as_slice.ensures, sym c.as_slice-2.ensures.value) (sym c.lie_in.ensures ∙ c.if-not-lie_in.false) in
    let some : Some c.in-Some.why ≡ others = sym c.in-Some.is ∙ rw (sym c.as_slice-3.ensures.value) (c.in_ok-why.ensures guest before stands) in
    lands_first (lie_in c.args.host.now.ram claims) whys.NotRam c.in-Some.why others fills covered some
