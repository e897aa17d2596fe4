-- What the host's tree tells of its devices is usable.
use Rattle.std.proofs.Common.{◌≡◌, ℕ, ◌&&◌, Bool, true, false, cond, List, [], ◌∷◌, Option, Some, None, refl, sym, subst}
use Rattle.std.specs.Prelude.{IfSome, IsTrue, option_and_then}
use Rattle.texts.specs.declared.ranges.BaseSize.{BaseSize}
use Rattle.fdt_tree.specs.Tree.{Tree}
use Rattle.fdt_nodes.specs.Controllers.{gic_of}
use Rattle.fdt_nodes.specs.Nodes.{Node}
use Rattle.domain_bindings.specs.Hosts.{reg_of}
use Rattle.domain_bindings.specs.HostDevices.{is_usable, as_range, first_two, areas_of, console_range, first_page, console_of, console_node}

-- both areas are usable
abbrev pub AreUsable : (ℕ × ℕ) × (ℕ × ℕ) → Type 0
AreUsable areas = IsTrue (is_usable (as_range areas.0) && is_usable (as_range areas.1))

-- a page at the address is usable
abbrev pub IsUsablePage : ℕ → Type 0
IsUsablePage address = IsTrue (is_usable (console_range address))

-- what is handed out where a test passes
where_passes : {A : Type 0} (P : A → Type 0) (test : Bool) (value : A) → (test ≡ true → P value) → IfSome (cond test (Some value) None) P
where_passes P true value holds = holds refl
where_passes P false value holds = tt

-- what is handed out of what is there
of_there : {A B : Type 0} (P : B → Type 0) (f : A → Option B) (there : Option A) → ((value : A) → IfSome (f value) P) → IfSome (option_and_then f there) P
of_there P f None each = tt
of_there P f (Some value) each = each value

first_two-usable : (entries : List BaseSize) → IfSome (first_two entries) AreUsable
first_two-usable [] = tt
first_two-usable (one ∷ []) = tt
first_two-usable (one ∷ other ∷ rest) = where_passes AreUsable (is_usable one && is_usable other) ((one.base, one.size), (other.base, other.size)) (λ passes. passes)

first_page-usable : (entries : List BaseSize) → IfSome (first_page entries) IsUsablePage
first_page-usable [] = tt
first_page-usable (first ∷ rest) = where_passes IsUsablePage (is_usable (console_range first.base)) first.base (λ passes. passes)

pub areas-usable : (whole : Tree) → IfSome (areas_of whole) AreUsable
areas-usable whole = of_there AreUsable (λ (gic : Node). first_two (reg_of gic)) (gic_of whole) (λ gic. first_two-usable (reg_of gic))

pub console-usable : (whole : Tree) → IfSome (console_of whole) IsUsablePage
console-usable whole = of_there IsUsablePage (λ (node : Node). first_page (reg_of node)) (console_node whole) (λ node. first_page-usable (reg_of node))
