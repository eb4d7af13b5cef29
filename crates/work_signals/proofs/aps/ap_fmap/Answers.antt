use Rattle.std.proofs.Common.{◌∙◌, ap, subst}
use Rattle.chw_types.specs.TypeTree.{TypeTree, fun, signal}
use Rattle.chw_terms.specs.TermTree.{TermTree}
use Rattle.rewriting.specs.Origins.{origins_of}
use Rattle.rewriting.specs.Spots.{spot_of}
use Rattle.rewriting.specs.Lifted.{FindsAt, ap_fmap}
use Rattle.rewriting.specs.Shapes.{fmap_of, ap_of}
use Rattle.work_signals.specs.Joined.{AnswersPayload, AnswersFunction}
use Rattle.work_signals.proofs.Joining.{ap_becomes}
use Rattle.work_signals.proofs.Staying.{ap_stays_untyped, ap_stays_mapped}
use Rattle.work_signals.proofs.aps.ap_fmap.Goals as goal

pub returns-in_default : goal.returns-in_default
returns-in_default c =
    let o = origins_of c.args.scene.now in
    let at = spot_of c.args.place.now in
    ap_stays_untyped o at c.args.outer c.requires.not_pure
    (subst (AnswersPayload o at c.args.outer.function.now) c.in_default.is c.in_ok-th.ensures)

pub returns-in_default-2 : goal.returns-in_default-2
returns-in_default-2 c =
    let o = origins_of c.args.scene.now in
    let at = spot_of c.args.place.now in
    ap_stays_mapped o at c.args.outer c.args.inner c.requires.not_pure c.requires.inner
    (subst (AnswersFunction o at c.args.inner.function.now) c.in_default-2.is c.in_ok-parts.ensures)

pub returns : goal.returns
returns c =
    let o = origins_of c.args.scene.now in
    let at = spot_of c.args.place.now in
    let outer = c.args.outer in
    let inner = c.args.inner in
    let d = outer.dom.now in
    let a = inner.from.now in
    let u = outer.function.now in
    let g = inner.function.now in
    let parts = c.in-Some-2.parts in
    let found : (i : TypeTree) × FindsAt o at u (signal i c.in-Some.th) =
    subst (AnswersPayload o at u) c.in-Some.is c.in_ok-th.ensures in
    let of_inner : FindsAt o at g (fun parts.0 parts.1) =
    subst (AnswersFunction o at g) c.in-Some-2.is c.in_ok-parts.ensures in
    let first =
    λ (f : TermTree). fmap_of d (fun outer.from.now outer.to.now) (fun a outer.to.now) f u in
    let made = λ (u : TermTree). ap_of d a outer.to.now u inner.signal.now in
    ap_becomes outer c.requires.inner
    (ap_fmap c.requires.not_pure c.requires.fused found.1 of_inner)
    (c.in_ok-made.ensures ∙ ap made (c.in_ok-first.ensures ∙ ap first c.in_ok-function.ensures))
