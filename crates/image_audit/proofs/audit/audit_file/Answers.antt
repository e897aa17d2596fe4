use Rattle.image_audit.proofs.ImageFiles.{first_there, second_there}
use Rattle.image_audit.proofs.audit.audit_file.Goals as goal

pub audit_tables-requires-clause-first : goal.audit_tables-requires-clause-first
audit_tables-requires-clause-first c = first_there c.args.bytes.items c.in-Ok.image.root c.in-Ok.image.pages c.in-Ok.ensures.ok

pub audit_tables-requires-clause-second : goal.audit_tables-requires-clause-second
audit_tables-requires-clause-second c = second_there c.args.bytes.items c.in-Ok.image.root c.in-Ok.image.pages c.in-Ok.ensures.ok
