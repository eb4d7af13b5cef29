-- the words so far, with those that are left, are all
use Rattle.std.proofs.Common.{◌≡◌, ◌-◌, ◌++◌}
use Rattle.net_built.specs.Vectors.{words_from}
use Rattle.net_pieces.proofs.vectors.words_from_none.Given as goal

abbrev pub invariant-loop-j : goal.invariant-loop-j
invariant-loop-j l = l.words.items ++ words_from l.k l.j (l.count - l.j) ≡ words_from l.k 0 l.count
