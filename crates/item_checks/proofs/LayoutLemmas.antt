-- Where the devices that Xen makes stand in a guest.
use Rattle.std.proofs.Common.{◌≡◌, ℕ, ◌+◌, ◌&&◌, ◌||◌, Bool, true, false, cond, is_some, List, [], ◌∷◌, Option, Some, None, refl, sym, ap, subst, ◌∙◌, All}
use Rattle.std.specs.Prelude.{IsTrue, IfSome, option_map}
use Rattle.std.specs.List.{find, list_any}
use Rattle.std.specs.Option.{option_map_or}
use Rattle.described.specs.declared.layout.Layout.{Layout}
use Rattle.texts.specs.declared.ranges.BaseSize.{BaseSize}
use Rattle.texts.specs.declared.ranges.FrameRange.{FrameRange}
use Rattle.described.specs.Layouts.{usual_layout}
use Rattle.domain_bindings.specs.HostDevices.{is_usable, as_range, console_range, HasUsableDevices}
use Rattle.domain_bindings.specs.declared.host.Host.{Host}
use Rattle.item_checks.specs.declared.state.State.{State}
use Rattle.item_checks.specs.Layouts.{has_areas_apart, console_area, host_layout, layout_of, IsLayout}
use Rattle.item_checks.specs.Standing.{Stands, item_where}
use Rattle.item_checks.specs.Reasons.{has_console, layout_at, is_with_console}
use Rattle.item_checks.specs.Taken.{Passed, item_of, what_of, belongs_to, is_direct}

-- a first item that meets a test is there where one of them does
first_is_there : (test : Passed → Bool) (before : List Passed) → is_some (item_where test before) ≡ list_any test before
first_is_there test [] = refl
first_is_there test (one ∷ more) = by_test (test one) (first_is_there test more)
  where
    by_test : (meets : Bool) → is_some (option_map item_of (find test more)) ≡ list_any test more → is_some (option_map item_of (cond meets (Some one) (find test more))) ≡ (meets || list_any test more)
    by_test true later = refl
    by_test false later = later

-- a state tells the layout of the guest that it stands for
pub layout_told : (host : Host) (state : State) (guest : Option ℕ) (before : List Passed) → Stands guest before state → layout_of host state.last.direct (is_some state.last.console) ≡ layout_at host before guest
layout_told host state guest before stands =
    ap (λ (direct : Bool). layout_of host direct (is_some state.last.console)) stands.direct
    ∙ ap (λ (console : Bool). layout_of host (is_direct before guest) console)
    (ap is_some stands.console ∙ first_is_there (λ passed. belongs_to guest passed && has_console (what_of passed)) before)

-- ---- the areas of a layout

usual_is_layout : IsLayout usual_layout
unfolding usual_layout
usual_is_layout = record { distributor = refl; redistributors = refl; console = refl; grant = refl; apart = refl }

both : (a b : Bool) → (a && b) ≡ true → (a ≡ true) × (b ≡ true)
both true b is = (refl, is)
both false b is = absurd cc

module _ (host : Host) (usable : HasUsableDevices host) where
  distributor_usable : (areas : Option ((ℕ × ℕ) × (ℕ × ℕ))) → IfSome areas (λ areas. IsTrue (is_usable (as_range areas.0) && is_usable (as_range areas.1))) → IsTrue (is_usable (option_map_or (λ (areas : (ℕ × ℕ) × (ℕ × ℕ)). as_range areas.0) areas usual_layout.distributor))
  distributor_usable None is = usual_is_layout.distributor
  distributor_usable (Some areas) is = (both (is_usable (as_range areas.0)) (is_usable (as_range areas.1)) is).0

  redistributors_usable : (areas : Option ((ℕ × ℕ) × (ℕ × ℕ))) → IfSome areas (λ areas. IsTrue (is_usable (as_range areas.0) && is_usable (as_range areas.1))) → IsTrue (is_usable (option_map_or (λ (areas : (ℕ × ℕ) × (ℕ × ℕ)). as_range areas.1) areas usual_layout.redistributors))
  redistributors_usable None is = usual_is_layout.redistributors
  redistributors_usable (Some areas) is = (both (is_usable (as_range areas.0)) (is_usable (as_range areas.1)) is).1

  console_usable : (console : Bool) (address : Option ℕ) → IfSome address (λ address. IsTrue (is_usable (console_range address))) → IsTrue (is_usable (cond console (option_map_or console_range address usual_layout.console) usual_layout.console))
  console_usable false address is = usual_is_layout.console
  console_usable true None is = usual_is_layout.console
  console_usable true (Some address) is = is

  pub layout_of-is : (direct console : Bool) → IsLayout (layout_of host direct console)
  layout_of-is direct console = by_test (direct && has_areas_apart (host_layout host console)) refl
    where
      by_test : (test : Bool) → (direct && has_areas_apart (host_layout host console)) ≡ test → IsLayout (cond test (host_layout host console) usual_layout)
      by_test false is = usual_is_layout
      by_test true is = record {
        distributor = distributor_usable host.areas usable.areas;
        redistributors = redistributors_usable host.areas usable.areas;
        console = console_usable console host.console usable.console;
        grant = usual_is_layout.grant;
        apart = (both direct (has_areas_apart (host_layout host console)) is).1;
      }
