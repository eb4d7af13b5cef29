use Rattle.std.proofs.Common.{◌∙◌, ap, sym}
use Rattle.rewriting.specs.Shapes.{leading_lambdas}
use Rattle.specialise.proofs.Shapes.{none_leads_head, none_leads_behind}
use Rattle.specialise.proofs.lifted.under_lambda.Goals as goal

pub returns-in_default : goal.returns-in_default
returns-in_default c = record {
  some = tt;
  none = ap leading_lambdas (sym c.term.view_is) ∙ none_leads_head c.term.inside.head c.term.inside.args.items c.in_default.not-Lam;
}

pub returns-else-is_empty-clause-none : goal.returns-else-is_empty-clause-none
returns-else-is_empty-clause-none c =
    let args = c.term.inside.args in
    ap leading_lambdas (sym c.term.view_is) ∙ none_leads_behind c.term.inside.head args.items args.len args.ok.0 (sym c.is_empty.ensures ∙ c.if-is_empty.false)
