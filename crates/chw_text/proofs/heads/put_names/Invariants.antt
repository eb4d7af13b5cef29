use Rattle.std.proofs.Common.{drop}
use Rattle.chw_grammar.specs.Text.{lowers}
use Rattle.chw_text.specs.Spaced.{Leaves}
use Rattle.chw_text.proofs.heads.put_names.Given as goal

abbrev pub invariant-loop-name : goal.invariant-loop-name
invariant-loop-name l = Leaves l.initial.out.items (lowers l.names) l.out.items (lowers (drop l.name-index l.names))
