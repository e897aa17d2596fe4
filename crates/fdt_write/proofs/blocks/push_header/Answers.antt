use Rattle.fdt_write.specs.Flattened.{header_bytes}
use Rattle.fdt_write.proofs.blocks.push_header.Goals as goal

pub returns : goal.returns
unfolding header_bytes
returns c = c.push_words.ensures
