use Rattle.std.proofs.Common.{append_assoc, length-drop, arith}
use Rattle.ib_script.specs.Script.{script_of}
use Rattle.ib_script.proofs.PlaceCounts.{places_counted}
use Rattle.ib_script.proofs.script.put_script.Goals as goal

pub place_at-requires : goal.place_at-requires
place_at-requires c = omega (arith, places_counted c.args.config.now c.args.places.now c.requires.names)

pub overflow_sub-places : goal.overflow_sub-places
overflow_sub-places c = omega (arith, places_counted c.args.config.now c.args.places.now c.requires.names)

pub place_at-requires-2 : goal.place_at-requires-2
place_at-requires-2 c = omega (arith, places_counted c.args.config.now c.args.places.now c.requires.names)

pub places_behind-behind_xen-requires : goal.places_behind-behind_xen-requires
places_behind-behind_xen-requires c = omega (arith, places_counted c.args.config.now c.args.places.now c.requires.names)

pub put_domains-requires-clause-places : goal.put_domains-requires-clause-places
put_domains-requires-clause-places c = rw (c.places_behind-behind_xen.ensures, length-drop) (omega (arith, places_counted c.args.config.now c.args.places.now c.requires.names))

pub returns : goal.returns
unfolding script_of
returns c =
    rw (
      c.in_ok-put_start.ensures,
      c.in_ok-put_domains.ensures,
      c.in_ok-put_chosen.ensures,
      c.in_ok-put_tree.ensures,
      c.in_ok-put_loads.ensures,
      c.places_behind-behind_xen.ensures,
      c.place_at.ensures,
      c.place_at-2.ensures,
      c.as_str.ensures,
      c.xen_cmd.ensures,
    ) (simp append_assoc)
