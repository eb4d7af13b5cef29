use Rattle.std.proofs.Common.{◌∙◌, ap, sym, subst}
use Rattle.chw_terms.specs.declared.term.Head.{Head}
use Rattle.chw_terms.specs.TermTree.{case_of}
use Rattle.chw_terms.specs.TermView.{alts_of, tree_of}
use Rattle.net_ready.specs.Ready.{CircuitReady}
use Rattle.circuit_build.proofs.Readiness.{variable_ready, case_bare, no_other_side}
use Rattle.circuit_build.proofs.views.circuit_side.Goals as goal

pub unreachable-requires : goal.unreachable-requires
unreachable-requires c =
    let r = c.requires in
    let d = c.in_default in
    no_other_side r.0 r.1 r.2 c.args.head.now c.args.args.now d.not-Var d.not-PrimOf d.not-Made d.not-Con d.not-Case r.3

pub signal_side-requires : goal.signal_side-requires
signal_side-requires c =
    let r = c.requires in
    (r.0, r.2, subst (λ (h : Head). CircuitReady r.0 r.1 r.2 (tree_of h) c.args.args.now) c.in-PrimOf.is r.3)

pub returns-in-Var-clause-args : goal.returns-in-Var-clause-args
returns-in-Var-clause-args c =
    let r = c.requires in
    variable_ready r.0 r.1 r.2 c.in-Var.x.number c.args.args.now (subst (λ (h : Head). CircuitReady r.0 r.1 r.2 (tree_of h) c.args.args.now) c.in-Var.is r.3)

pub returns-in-PrimOf-clause-head : goal.returns-in-PrimOf-clause-head
returns-in-PrimOf-clause-head c = ap tree_of c.in-PrimOf.is ∙ c.signal_side.ensures.head

pub returns-in-Case-clause-head : goal.returns-in-Case-clause-head
returns-in-Case-clause-head c =
    ap tree_of c.in-Case.is ∙ (λ i. case_of (sym c.deref.ensures i) (alts_of (sym c.deref-in-Case.ensures.value i)))

pub returns-in-Case-clause-args : goal.returns-in-Case-clause-args
returns-in-Case-clause-args c =
    let r = c.requires in
    let on = c.in-Case.on.value in
    let alts = alts_of c.in-Case.alts.items in
    case_bare r.0 r.1 r.2 on alts c.args.args.now (subst (λ (h : Head). CircuitReady r.0 r.1 r.2 (tree_of h) c.args.args.now) c.in-Case.is r.3)
