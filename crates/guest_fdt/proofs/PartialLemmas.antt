-- What a partial tree without a fault gives: nothing that is copied is a memory node, and its interrupts are those of its devices.
use Rattle.std.proofs.Common.{◌≡◌, Bool, true, false, not, List, [], ◌∷◌, Option, Some, None, codes, refl, ap}
use Rattle.std.specs.Prelude.{IsTrue, ◌&&◌, ◌||◌, option_map, option_and_then}
use Rattle.std.specs.Option.{option_map_or}
use Rattle.std.specs.List.{list_all}
use Rattle.described.specs.declared.why.Why.{Why}
use Rattle.described.specs.declared.why.Why.TheVariants.{Missing, BadLength, BadValue}
use Rattle.fdt_tree.specs.Tree.{Bytes, Tree, Place, at, find_place}
use Rattle.fdt_nodes.specs.Nodes as nodes
use Rattle.fdt_nodes.specs.Values as values
use Rattle.described.specs.Reasons.{where_so, first_reason}
use Rattle.passthrough_dtb.specs.Whole.{has_memory_node, properties_found, partial_reason, lacks_passthrough, has_bad_gic}
use Rattle.guest_fdt.specs.Copies.{found_in, copied_paths}
use Rattle.guest_fdt.specs.Laws.{is_no_memory}

-- a test of a table that has no reason does not hold
pub passed : (why : Why) (test : Bool) (rest : List (Option Why)) → first_reason (where_so test why ∷ rest) ≡ None → (test ≡ false) × (first_reason rest ≡ None)
passed why true rest none_there = absurd (cc)
passed why false rest none_there = (refl, none_there)

no-memory-at : (partial : Tree) (path : Bytes) → values.is_memory (properties_found partial path) ≡ false → IsTrue (is_no_memory (found_in (Some partial) path))
no-memory-at partial path plain = by (find_place partial path) plain
  where
    here : (p : Place) (o : Option Tree) → values.is_memory (option_map_or (λ (t : Tree). t.properties) o []) ≡ false → IsTrue (is_no_memory o)
    here p None plain = refl
    here p (Some t) plain = ap not plain

    by : (o : Option Place) → values.is_memory (option_map_or (λ (node : nodes.Node). node.properties) (option_map (nodes.node_at partial) o) []) ≡ false → IsTrue (is_no_memory (option_and_then (at partial) o))
    by None plain = refl
    by (Some p) plain = here p (at partial p) plain

pub or-false : (a b : Bool) → (a || b) ≡ false → (a ≡ false) × (b ≡ false)
or-false true b h = absurd (cc)
or-false false b h = (refl, h)

-- nothing that is copied from a partial tree without a fault is a memory node
pub no-memory : (partial : Tree) → partial_reason partial ≡ None → IsTrue (list_all (λ path. is_no_memory (found_in (Some partial) path)) copied_paths)
no-memory partial fine =
    let a = passed Missing (lacks_passthrough partial) _ fine in
    let b = passed BadLength (has_bad_gic partial) _ a.1 in
    let c = passed BadValue (has_memory_node partial) _ b.1 in
    let one = or-false (values.is_memory (properties_found partial (codes "/passthrough")) || values.is_memory (properties_found partial (codes "/aliases"))) (values.is_memory (properties_found partial (codes "/__symbols__"))) c.0 in
    let two = or-false (values.is_memory (properties_found partial (codes "/passthrough"))) (values.is_memory (properties_found partial (codes "/aliases"))) one.0 in
    both (is_no_memory (found_in (Some partial) (codes "/passthrough"))) _ (no-memory-at partial (codes "/passthrough") two.0)
    (both (is_no_memory (found_in (Some partial) (codes "/aliases"))) _ (no-memory-at partial (codes "/aliases") two.1)
    (both (is_no_memory (found_in (Some partial) (codes "/__symbols__"))) true (no-memory-at partial (codes "/__symbols__") one.1) refl))
  where
    both : (a b : Bool) → IsTrue a → IsTrue b → IsTrue (a && b)
    both true b one other = other
    both false b one other = one
