use Rattle.std.proofs.Common.{◌∙◌}
use Rattle.fdt_write.proofs.names.Names.offset.Goals as goal

pub returns : goal.returns
returns c = c.copied.ensures ∙ (c.get.ensures.value ∙ c.args.self.now.indexed c.args.name)
