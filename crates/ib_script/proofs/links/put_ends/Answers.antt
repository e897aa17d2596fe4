use Rattle.ib_script.proofs.links.put_ends.Goals as goal

pub returns : goal.returns
returns c = rw (c.in_ok-put_cells.ensures, c.in_ok-push-2.ensures.ok, c.in_ok-push.ensures.ok, c.new-numbers.ensures)
