-- Lines of text.
use Rattle.std.specs.Prelude.{ℕ, ◌++◌, List, [], ◌∷◌}

-- a line ends with a line feed
abbrev pub text_line : List ℕ → List ℕ
text_line text = text ++ 10 ∷ []
