-- the words so far
use Rattle.std.proofs.Common.{◌≡◌, map, take}
use Rattle.verilog_rules.specs.NetOf.{bits}
use Rattle.verilog_tree.specs.declared.item.FirstWord.{FirstWord}
use Rattle.verilog_judge.proofs.building.words.Given as goal

abbrev pub invariant-loop-word : goal.invariant-loop-word
invariant-loop-word l = l.all.items ≡ map (λ (w : FirstWord). bits w.literal) (take l.word-index l.words)
