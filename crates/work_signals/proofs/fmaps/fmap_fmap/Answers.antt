use Rattle.std.proofs.Common.{◌∙◌, ap, subst}
use Rattle.chw_types.specs.TypeTree.{fun}
use Rattle.chw_terms.specs.TermTree.{TermTree}
use Rattle.rewriting.specs.Origins.{origins_of}
use Rattle.rewriting.specs.Spots.{spot_of}
use Rattle.rewriting.specs.Lifted.{FindsAt, fmap_fmap}
use Rattle.rewriting.specs.Shapes.{fmap_of}
use Rattle.work_signals.specs.Joined.{AnswersFunction}
use Rattle.work_signals.proofs.Joining.{fmap_becomes}
use Rattle.work_signals.proofs.Staying.{fmap_stays_mapped}
use Rattle.work_signals.proofs.fmaps.fmap_fmap.Goals as goal

pub returns-in_default : goal.returns-in_default
returns-in_default c =
    let o = origins_of c.args.scene.now in
    let at = spot_of c.args.place.now in
    fmap_stays_mapped o at c.args.outer c.args.inner c.requires.inner
    (subst (AnswersFunction o at c.args.inner.function.now) c.in_default.is c.in_ok-parts.ensures)

pub returns : goal.returns
returns c =
    let o = origins_of c.args.scene.now in
    let at = spot_of c.args.place.now in
    let outer = c.args.outer in
    let inner = c.args.inner in
    let g = inner.function.now in
    let parts = c.in-Some.parts in
    let found : FindsAt o at g (fun parts.0 parts.1) =
    subst (AnswersFunction o at g) c.in-Some.is c.in_ok-parts.ensures in
    let made =
    λ (f : TermTree). fmap_of outer.dom.now inner.from.now outer.to.now f inner.signal.now in
    fmap_becomes outer c.requires.inner (fmap_fmap c.requires.fused found)
    (c.in_ok-made.ensures ∙ ap made c.in_ok-function.ensures)
