use Rattle.std.proofs.Common.{drop}
use Rattle.chw_grammar.specs.Text.{constructors_lexemes}
use Rattle.chw_text.specs.Spaced.{Leaves, constructors_from}
use Rattle.chw_text.proofs.declarations.put_constructors.Given as goal

abbrev pub invariant-loop-i : goal.invariant-loop-i
invariant-loop-i l = Leaves l.initial.out.items (constructors_lexemes l.constructors) l.out.items (constructors_from l.i (drop l.i l.constructors))
