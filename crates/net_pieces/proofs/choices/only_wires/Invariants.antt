-- the wires so far
use Rattle.std.proofs.Common.{◌≡◌, map, take}
use Rattle.net_built.specs.Words.{only}
use Rattle.net_pieces.proofs.choices.only_wires.Given as goal

abbrev pub invariant-loop-result : goal.invariant-loop-result
invariant-loop-result l = l.wires.items ≡ map only (take l.result-index l.results)
