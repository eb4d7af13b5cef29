use Rattle.std.proofs.Common.{drop}
use Rattle.std.specs.List.{flat_map}
use Rattle.chw_grammar.specs.Text.{parameter_lexemes}
use Rattle.chw_text.specs.Spaced.{Leaves}
use Rattle.chw_text.proofs.declarations.put_parameters.Given as goal

abbrev pub invariant-loop-parameter : goal.invariant-loop-parameter
invariant-loop-parameter l = Leaves l.initial.out.items (flat_map parameter_lexemes l.parameters) l.out.items (flat_map parameter_lexemes (drop l.parameter-index l.parameters))
