use Rattle.std.proofs.Common.{◌≡◌, ◌++◌, take, map, string_bytes}
use Rattle.ib_config_show.specs.Words.{spaced}
use Rattle.ib_config_show.proofs.word.put_more.Given as goal

-- the groups so far are written, each behind a space
abbrev pub invariant-loop-group : goal.invariant-loop-group
invariant-loop-group g l = string_bytes l.out ≡ string_bytes l.initial.out ++ spaced (map g.T.Words.words (take l.group-index l.groups))
