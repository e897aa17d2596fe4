-- For proofs and private contracts alone: the options as the code keeps them.
use Rattle.std.specs.Option.{option_copied}
use Rattle.dom0less_words.specs.Words as words
use Rattle.dom0less_words.specs.declared.options.Options.{Options}

-- the options that are kept
abbrev pub meant_options : Options → words.Options
meant_options o = record {
  config = option_copied o.config;
  script = option_copied o.script;
  tree = option_copied o.tree;
  files = option_copied o.files;
  outputs = option_copied o.outputs;
  kind = option_copied o.kind;
  script_only = o.script_only;
  check = o.check;
  show = option_copied o.show;
  generate = option_copied o.generate;
}
