-- What findings look like.
use Rattle.std.proofs.Common.{◌≡◌, refl, codes, Some, None}
use Rattle.std.specs.Fmt.{digits}
use Rattle.described.specs.RunLines.{kind_text}
use Rattle.stage2_walk.specs.declared.audit_fault.AuditFault.TheVariants as tears
use Rattle.stage2_walk.specs.declared.image_fault.ImageFault.TheVariants as faults
use Rattle.image_audit.specs.Texts.{image_fault_text, frame_text, tear_text, difference_text, table_mapped, table_shared, checked_line}

moved_block : difference_text 0x40000 (Some (0x40200, 0x7fc)) (Some (0x40000, 0x7fc)) ≡ codes "0x40000000 maps 0x40200000 ram, plan 0x40000000 ram"
unfolding kind_text digits
moved_block = refl

foreign_attribute : difference_text 0x40000 (Some (0x40000, 0x7bc)) (Some (0x40000, 0x00400000000007fc)) ≡ codes "0x40000000 maps 0x40000000 attr 0x7bc, plan 0x40000000 shared"
unfolding kind_text digits
foreign_attribute = refl

unmapped_device : difference_text 0xff010 None (Some (0xff010, 0x00400000000006c4)) ≡ codes "0xff010000 maps none, plan 0xff010000 device"
unfolding kind_text digits
unmapped_device = refl

reserved_word : tear_text (tears.Reserved 3 7) ≡ codes "Reserved 0x3 7"
unfolding digits
reserved_word = refl

missing_table : tear_text (tears.Missing 9) ≡ codes "Missing 0x9"
unfolding digits
missing_table = refl

reused_table : tear_text (tears.Reused 0) ≡ codes "Reused 0x0"
unfolding digits
reused_table = refl

mapped_table : frame_text table_mapped 0x40002 ≡ codes "TableMapped 0x40002"
unfolding digits
mapped_table = refl

shared_table : frame_text table_shared 2 ≡ codes "TableShared 0x2"
unfolding digits
shared_table = refl

high_page : image_fault_text (faults.TooHigh 2) ≡ codes "TooHigh at 2"
unfolding digits
high_page = refl

two_checked : checked_line 2 ≡ codes "checked 2\n"
unfolding digits
two_checked = refl
