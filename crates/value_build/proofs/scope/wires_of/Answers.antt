use Rattle.std.proofs.Common.{◌∙◌, ap, sym}
use Rattle.chw_terms.specs.TermView.{tree_of}
use Rattle.net_built.specs.Terms.{wires_of}
use Rattle.value_build.specs.InScope.{in_scope}
use Rattle.value_build.proofs.Spines.{no_args, some_args, bare_is, no_wires_on, no_wires}
use Rattle.value_build.proofs.scope.wires_of.Goals as goal

pub returns-then-not-is_empty : goal.returns-then-not-is_empty
returns-then-not-is_empty c =
    let args = c.e.inside.args in
    sym (ap (wires_of (in_scope c.args.scope.now)) (sym c.e.view_is)
    ∙ no_wires_on (in_scope c.args.scope.now) (tree_of c.e.inside.head) args.items (some_args args.items args.len c.is_empty.result args.ok.0 c.is_empty.ensures c.if-not-is_empty.true))

pub returns-in_default : goal.returns-in_default
returns-in_default c =
    let args = c.e.inside.args in
    let none = no_args args.items args.len c.is_empty.result args.ok.0 c.is_empty.ensures c.if-not-is_empty.false in
    sym (ap (wires_of (in_scope c.args.scope.now)) (sym c.e.view_is ∙ bare_is (tree_of c.e.inside.head) args.items none)
    ∙ no_wires (in_scope c.args.scope.now) c.e.inside.head c.in_default.not-Var)

pub returns-in-Var : goal.returns-in-Var
returns-in-Var c =
    let args = c.e.inside.args in
    let none = no_args args.items args.len c.is_empty.result args.ok.0 c.is_empty.ensures c.if-not-is_empty.false in
    c.wires_at.ensures
    ∙ sym (ap (wires_of (in_scope c.args.scope.now)) (sym c.e.view_is ∙ bare_is (tree_of c.e.inside.head) args.items none ∙ ap tree_of c.in-Var.is))
