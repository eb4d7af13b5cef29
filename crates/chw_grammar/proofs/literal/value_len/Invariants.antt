use Rattle.chw_grammar.proofs.Digits.{Counts}
use Rattle.chw_grammar.proofs.literal.value_len.Given as goal

abbrev pub invariant-loop-n : goal.invariant-loop-n
invariant-loop-n l = Counts l.unsigned l.n
