use Rattle.std.proofs.Common.{◌∙◌, length, reverse, sym, ap, arith}
use Rattle.std.proofs.lemmas.Bool.{eqb-false}
use Rattle.active_parts.proofs.Variables.{in_scope}
use Rattle.active_parts.proofs.cases.variable_type.Goals as goal

pub returns-in_default : goal.returns-in_default
returns-in_default c u v =
    let it = in_scope (reverse c.args.place.now.vars) c.at.inside.head c.at.inside.args.items c.args.at.now u c.at.view_is v in
    c.in_default.not-Var it.index it.head

pub returns-then-not-is_empty : goal.returns-then-not-is_empty
returns-then-not-is_empty c u v =
    let it = in_scope (reverse c.args.place.now.vars) c.at.inside.head c.at.inside.args.items c.args.at.now u c.at.view_is v in
    let none = ap length it.alone in
    eqb-false _ _ (sym c.is_empty.ensures ∙ c.if-not-is_empty.true) (omega (arith, none, c.at.inside.args.ok.0))
