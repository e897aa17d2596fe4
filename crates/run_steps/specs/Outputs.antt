-- What a run makes before its first write.
use Rattle.std.specs.Prelude.{ℕ, List, [], map, unwrap_or}
use Rattle.outside.specs.Outside.{File}
use Rattle.run_steps.specs.declared.output.Output.{Output}
use Rattle.run_steps.specs.declared.output.Build.{Build}

-- the file that an output is to be
abbrev pub file_of : Output → File
file_of output = (output.name, output.bytes)

-- all of them, in the order in which they are written
abbrev pub files_of : Build → List File
files_of build = map file_of build.outputs

-- the report, which is empty where there is none
abbrev pub report_of : Build → List ℕ
report_of build = unwrap_or build.report []
