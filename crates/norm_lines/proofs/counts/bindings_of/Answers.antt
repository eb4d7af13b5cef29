use Rattle.std.proofs.Common.{ap, sym, ◌∙◌}
use Rattle.chw_terms.specs.TermView.{tree_of}
use Rattle.norm_lines.specs.Lines.{bindings_of}
use Rattle.norm_lines.proofs.Heads.{bound_by_letrec, none_bound_applied, none_bound_head}
use Rattle.norm_lines.proofs.counts.bindings_of.Goals as goal

pub returns-in_default : goal.returns-in_default
returns-in_default c =
    sym (none_bound_head c.term.inside.head c.term.inside.args.items c.in_default.not-LetRec)
    ∙ ap bindings_of c.term.view_is

pub returns-then-is_empty : goal.returns-then-is_empty
returns-then-is_empty c =
    let args = c.term.inside.args in
    c.len.ensures ∙ c.in-LetRec.group.ok.0
    ∙ sym (bound_by_letrec c.term.inside.head c.in-LetRec.group c.in-LetRec.field-1
    args.items args.len c.in-LetRec.is args.ok.0 (sym c.is_empty.ensures ∙ c.if-is_empty.true))
    ∙ ap bindings_of c.term.view_is

pub returns-else-is_empty : goal.returns-else-is_empty
returns-else-is_empty c =
    let args = c.term.inside.args in
    sym (none_bound_applied (tree_of c.term.inside.head) args.items args.len args.ok.0
    (sym c.is_empty.ensures ∙ c.if-is_empty.false))
    ∙ ap bindings_of c.term.view_is
