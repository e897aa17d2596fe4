-- The files that the code makes.
use Rattle.std.specs.Prelude.{List, map}
use Rattle.outside.specs.Outside.{File}
use Rattle.run_steps.specs.Outputs.{file_of}
use Rattle.run_steps.specs.declared.output.Output.{Output}

-- outputs as files
abbrev pub files_in : List Output → List File
files_in outputs = map file_of outputs
