use Rattle.std.proofs.Common.{◌∙◌, sym}
use Rattle.chw_terms.specs.TermView.{tree_of}
use Rattle.flow_cases.proofs.Bare.{applied_unless}
use Rattle.flow_cases.proofs.Makings.{not_empty}
use Rattle.flow_cases.proofs.parts.bare_head.Goals as goal

pub returns : goal.returns
returns c =
    let args = c.term.inside.args in
    applied_unless (tree_of c.term.inside.head) args.items c.args.term.now (not_empty args.items args.len args.ok.0 (sym c.is_empty.ensures ∙ c.if-is_empty.false)) c.term.view_is
