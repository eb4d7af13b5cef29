use Rattle.std.proofs.Common.{subst, sym, ◌∙◌}
use Rattle.chw_terms.specs.TermView.{tree_of}
use Rattle.norm_lines.proofs.Heads.{NoneLeads, none_leads_head, none_leads_applied}
use Rattle.norm_lines.proofs.counts.under_lambda.Goals as goal

pub returns-in_default : goal.returns-in_default
returns-in_default c = record {
  some = tt;
  none =
      subst NoneLeads c.term.view_is
      (none_leads_head c.term.inside.head c.term.inside.args.items c.in_default.not-Lam);
}

pub returns-else-is_empty-clause-none : goal.returns-else-is_empty-clause-none
returns-else-is_empty-clause-none c =
    let args = c.term.inside.args in
    subst NoneLeads c.term.view_is
    (none_leads_applied (tree_of c.term.inside.head) args.items args.len args.ok.0
    (sym c.is_empty.ensures ∙ c.if-is_empty.false))
