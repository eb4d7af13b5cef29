use Rattle.std.proofs.Common.{◌∙◌, ap, subst}
use Rattle.chw_types.specs.TypeTree.{TypeTree, fun, signal}
use Rattle.chw_terms.specs.TermTree.{TermTree}
use Rattle.rewriting.specs.Origins.{origins_of}
use Rattle.rewriting.specs.Spots.{spot_of}
use Rattle.rewriting.specs.Lifted.{FindsAt, ap_ap}
use Rattle.rewriting.specs.Shapes.{ap_of}
use Rattle.work_signals.specs.Joined.{AnswersPayload, AnswersLifted, both_mapped}
use Rattle.work_signals.proofs.Joining.{ap_becomes}
use Rattle.work_signals.proofs.Staying.{ap_stays_untyped, ap_stays_applied}
use Rattle.work_signals.proofs.aps.ap_ap.Goals as goal

pub returns-in_default : goal.returns-in_default
returns-in_default c =
    let o = origins_of c.args.scene.now in
    let at = spot_of c.args.place.now in
    ap_stays_untyped o at c.args.outer c.requires.not_pure
    (subst (AnswersPayload o at c.args.outer.function.now) c.in_default.is c.in_ok-th.ensures)

pub returns-in_default-2 : goal.returns-in_default-2
returns-in_default-2 c =
    let o = origins_of c.args.scene.now in
    let at = spot_of c.args.place.now in
    ap_stays_applied o at c.args.outer c.args.inner c.requires.not_pure c.requires.inner
    (subst (AnswersLifted o at c.args.inner.function.now) c.in_default-2.is c.in_ok-parts.ensures)

pub returns : goal.returns
returns c =
    let o = origins_of c.args.scene.now in
    let at = spot_of c.args.place.now in
    let outer = c.args.outer in
    let inner = c.args.inner in
    let u = outer.function.now in
    let v = inner.function.now in
    let th = c.in-Some.th in
    let parts = c.in-Some-2.parts in
    let found : (i : TypeTree) × FindsAt o at u (signal i th) =
    subst (AnswersPayload o at u) c.in-Some.is c.in_ok-th.ensures in
    let of_inner : (j : TypeTree) × FindsAt o at v (signal j (fun parts.0 parts.1)) =
    subst (AnswersLifted o at v) c.in-Some-2.is c.in_ok-parts.ensures in
    let first = c.in_ok-first.ensures ∙ ap (both_mapped outer inner) c.in_ok-function.ensures in
    let made =
    λ (u : TermTree). ap_of outer.dom.now inner.from.now outer.to.now u inner.signal.now in
    ap_becomes outer c.requires.inner
    (ap_ap c.requires.not_pure c.requires.fused found.1 of_inner.1)
    (c.in_ok-made.ensures ∙ ap made first)
