use Rattle.std.proofs.Common.{◌≡◌, ◌+◌, ◌≤◌, ◌++◌, take, drop}
use Rattle.stage2_walk.specs.Pages.{frames_of}
use Rattle.stage2_tables.specs.BlankPages.{AreBlank}
use Rattle.stage2_tables.proofs.draw.draw_pages.Given as goal

abbrev pub invariant-loop-drawn : goal.invariant-loop-drawn
invariant-loop-drawn l = record {
  same_root : l.image.root ≡ l.initial.image.root;
  frames : frames_of l.image.pages ≡ frames_of l.initial.image.pages ++ take l._drawn l.initial.pool.free;
  blank : AreBlank l.image.pages;
  rest : l.pool.free ≡ drop l._drawn l.initial.pool.free;
  room : l.count ≤ l.image.spare + l._drawn;
}
