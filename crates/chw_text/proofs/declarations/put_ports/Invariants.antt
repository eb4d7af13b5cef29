use Rattle.std.proofs.Common.{drop}
use Rattle.chw_grammar.specs.Text.{port_names_lexemes}
use Rattle.chw_text.specs.Spaced.{Leaves, port_names_from}
use Rattle.chw_text.proofs.declarations.put_ports.Given as goal

abbrev pub invariant-loop-i : goal.invariant-loop-i
invariant-loop-i l = Leaves l.initial.out.items (port_names_lexemes l.names) l.out.items (port_names_from l.i (drop l.i l.names))
