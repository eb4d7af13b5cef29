use Rattle.std.proofs.Common.{◌∙◌, ap, subst}
use Rattle.chw_types.specs.TypeTree.{TypeTree, fun, signal}
use Rattle.chw_terms.specs.TermTree.{TermTree}
use Rattle.rewriting.specs.Origins.{origins_of}
use Rattle.rewriting.specs.Spots.{spot_of}
use Rattle.rewriting.specs.Lifted.{FindsAt, fmap_ap}
use Rattle.rewriting.specs.Shapes.{fmap_of, ap_of}
use Rattle.work_signals.specs.Joined.{AnswersLifted}
use Rattle.work_signals.proofs.Joining.{fmap_becomes}
use Rattle.work_signals.proofs.Staying.{fmap_stays_applied}
use Rattle.work_signals.proofs.fmaps.fmap_ap.Goals as goal

pub returns-in_default : goal.returns-in_default
returns-in_default c =
    let o = origins_of c.args.scene.now in
    let at = spot_of c.args.place.now in
    fmap_stays_applied o at c.args.outer c.args.inner c.requires.inner
    (subst (AnswersLifted o at c.args.inner.function.now) c.in_default.is c.in_ok-parts.ensures)

pub returns : goal.returns
returns c =
    let o = origins_of c.args.scene.now in
    let at = spot_of c.args.place.now in
    let outer = c.args.outer in
    let inner = c.args.inner in
    let d = outer.dom.now in
    let a = inner.from.now in
    let u = inner.function.now in
    let parts = c.in-Some.parts in
    let found : (i : TypeTree) × FindsAt o at u (signal i (fun parts.0 parts.1)) =
    subst (AnswersLifted o at u) c.in-Some.is c.in_ok-parts.ensures in
    let first =
    λ (f : TermTree). fmap_of d (fun a outer.from.now) (fun a outer.to.now) f u in
    let made = λ (u : TermTree). ap_of d a outer.to.now u inner.signal.now in
    fmap_becomes outer c.requires.inner (fmap_ap c.requires.fused found.1)
    (c.in_ok-made.ensures ∙ ap made (c.in_ok-first.ensures ∙ ap first c.in_ok-function.ensures))
