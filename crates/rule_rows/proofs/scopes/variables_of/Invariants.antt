-- the types so far are types of terms
use Rattle.std.proofs.Common.{[], reverse}
use Rattle.chw_typing.specs.Scopes.{AreTermTypes, setting_in}
use Rattle.rule_rows.proofs.scopes.variables_of.Given as goal

abbrev pub invariant-loop-variable : goal.invariant-loop-variable
invariant-loop-variable l = AreTermTypes (setting_in l.scene) [] (reverse l.vars.items)
