use Rattle.std.proofs.Common.{◌≡◌, take}
use Rattle.std.specs.Option.{option_copied}
use Rattle.outside.specs.Reads.{Grew}
use Rattle.image_audit.proofs.AuditLoop.{AuditedUpTo}
use Rattle.image_audit.proofs.audit.audit_images.Given as goal

-- the images of the guests so far are audited, and these frames are free of their tables
abbrev pub invariant-loop-guest : goal.invariant-loop-guest
invariant-loop-guest g l = record {
  audited : AuditedUpTo (g.F.Files.held l.initial.files) (option_copied l.folder) l.guests (take l.guest-index l.guests) l.free;
  kept : g.F.Files.held l.files ≡ g.F.Files.held l.initial.files;
  grew : Grew (g.F.Files.counts l.initial.files) (g.F.Files.counts l.files);
}
