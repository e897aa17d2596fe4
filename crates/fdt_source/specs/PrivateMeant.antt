-- Only private contracts and proofs use this file: what the words and the source that the code keeps mean.
use Rattle.fdt_source.specs.Words as words
use Rattle.fdt_source.specs.Texts.{SourceTree}
use Rattle.fdt_source.specs.declared.words.Asked.{Asked}
use Rattle.fdt_source.specs.declared.words.Asked.TheVariants as kept
use Rattle.source_text.specs.declared.read.Source.{Source}

-- what is asked for
abbrev pub meant : Asked → words.Asked
meant (kept.Print tree) = words.Print tree.now
meant (kept.Build text out) = words.Build text.now out.now

-- what a text says
abbrev pub source_tree : Source → SourceTree
source_tree source = record { reserves = source.reserves; root = source.tree.tree }
