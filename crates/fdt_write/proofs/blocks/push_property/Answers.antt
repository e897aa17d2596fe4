use Rattle.std.proofs.Common.{length}
use Rattle.fdt_write.specs.Blocks.{word_bytes, with_padding}
use Rattle.fdt_write.proofs.Appending.{four-parts}
use Rattle.fdt_write.proofs.blocks.push_property.Goals as goal

pub returns : goal.returns
returns c =
    four-parts c.push_value.result c.args.out.now.items (word_bytes 3) (word_bytes (length c.args.value.now)) (word_bytes c.args.offset) (with_padding c.args.value.now) c.push_word.new.out.items c.push_word-2.new.out.items c.push_word-3.new.out.items c.push_value.new.out.items c.in_ok-push_word.ensures c.in_ok-push_word-2.ensures c.in_ok-push_word-3.ensures c.push_value.ensures
