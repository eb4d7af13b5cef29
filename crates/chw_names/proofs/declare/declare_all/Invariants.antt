use Rattle.std.proofs.Common.{take}
use Rattle.chw_names.specs.Words.{Declares}
use Rattle.chw_names.proofs.declare.declare_all.Given as goal

abbrev pub invariant-loop-word : goal.invariant-loop-word
invariant-loop-word l = Declares l.initial.names l.names l.initial.least l.least (take l.word-index l.words)
