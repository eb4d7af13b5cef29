use Rattle.std.proofs.Common.{◌∙◌, ap, subst}
use Rattle.chw_types.specs.TypeTree.{TypeTree, fun, signal}
use Rattle.chw_terms.specs.TermTree.{TermTree}
use Rattle.rewriting.specs.Origins.{origins_of}
use Rattle.rewriting.specs.Spots.{spot_of}
use Rattle.rewriting.specs.Lifted.{FindsAt, ap_value}
use Rattle.rewriting.specs.Shapes.{fmap_of}
use Rattle.work_signals.specs.Joined.{AnswersPayload}
use Rattle.work_signals.proofs.Joining.{ap_becomes}
use Rattle.work_signals.proofs.Staying.{ap_stays_untyped}
use Rattle.work_signals.proofs.aps.ap_value.Goals as goal

pub returns-in_default : goal.returns-in_default
returns-in_default c =
    let o = origins_of c.args.scene.now in
    let at = spot_of c.args.place.now in
    ap_stays_untyped o at c.args.outer c.requires.not_pure
    (subst (AnswersPayload o at c.args.outer.function.now) c.in_default.is c.in_ok-th.ensures)

pub returns : goal.returns
returns c =
    let o = origins_of c.args.scene.now in
    let at = spot_of c.args.place.now in
    let outer = c.args.outer in
    let u = outer.function.now in
    let found : (i : TypeTree) × FindsAt o at u (signal i c.in-Some.th) =
    subst (AnswersPayload o at u) c.in-Some.is c.in_ok-th.ensures in
    let of_functions = fun outer.from.now outer.to.now in
    let made = λ (f : TermTree). fmap_of outer.dom.now of_functions outer.to.now f u in
    ap_becomes outer c.requires.inner.2 (ap_value c.requires.not_pure c.requires.fused found.1)
    (c.in_ok-made.ensures ∙ ap made c.in_ok-function.ensures)
