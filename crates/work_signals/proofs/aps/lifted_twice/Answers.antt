use Rattle.std.proofs.Common.{◌≡◌, IfOk, subst}
use Rattle.chw_types.specs.TypeTree.{fun}
use Rattle.chw_terms.specs.TermTree.{TermTree}
use Rattle.rewriting.specs.Shapes.{ap_of}
use Rattle.work_signals.proofs.aps.lifted_twice.Goals as goal

pub returns : goal.returns
returns c =
    let outer = c.args.outer in
    let inner = c.args.inner in
    let had = fun inner.from.now outer.from.now in
    let gets = fun inner.from.now outer.to.now in
    let made = λ (f : TermTree). ap_of outer.dom.now had gets f inner.function.now in
    subst (λ f. IfOk c.lifted_between.result (λ e. e ≡ made f)) c.in_ok-first.ensures
    c.lifted_between.ensures
