use Rattle.std.proofs.Common.{map, string_bytes}
use Rattle.run_steps.specs.Outputs.{files_of, report_of}
use Rattle.fdt_source.specs.PrivateMeant.{meant}
use Rattle.fdt_source.proofs.Promised.{promised}
use Rattle.fdt_source.proofs.translator.FdtSourceProgram.make.Goals as goal

pub returns-clause-promised : goal.returns-clause-promised
returns-clause-promised g c =
    promised (map string_bytes c.args.words.now) (g.F.Files.held c.args.files.now) (meant c.in-Some.asked) (files_of c.in_ok-build.build) (report_of c.in_ok-build.build) c.in-Some.ensures c.in_ok-build.ensures.built
