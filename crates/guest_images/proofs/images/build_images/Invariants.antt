use Rattle.std.proofs.Common.{◌≡◌, map, take, None}
use Rattle.guest_images.specs.Requests.{tables_needed, left_by_all, refused_tables}
use Rattle.guest_images.specs.PrivateImageFiles.{AreImageFiles}
use Rattle.guest_images.specs.Built.{files_in, tables_counted}
use Rattle.guest_images.proofs.images.build_images.Given as goal

-- the guests so far have their images, and left these frames
abbrev pub invariant-loop-plan : goal.invariant-loop-plan
invariant-loop-plan l = record {
  built : AreImageFiles (take l.plan-index l.plans) l.initial.pool.free (files_in l.images);
  tables : tables_counted l.images ≡ map tables_needed (take l.plan-index l.plans);
  left : l.pool.free ≡ left_by_all (take l.plan-index l.plans) l.initial.pool.free;
  met : refused_tables (take l.plan-index l.plans) l.initial.pool.free ≡ None;
}
