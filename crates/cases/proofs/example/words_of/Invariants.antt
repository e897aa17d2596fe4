use Rattle.std.proofs.Common.{◌≡◌, ◌∷◌, map, codes, string_bytes, take}
use Rattle.cases.proofs.example.words_of.Given as goal

abbrev pub invariant-loop-word : goal.invariant-loop-word
invariant-loop-word l = map string_bytes l.words.items ≡ codes "dom0less" ∷ map (λ word. word.now) (take l.word-index l.more)
