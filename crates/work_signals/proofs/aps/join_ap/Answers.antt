use Rattle.std.proofs.Common.{sym, subst}
use Rattle.rewriting.specs.Origins.{origins_of}
use Rattle.rewriting.specs.Spots.{spot_of}
use Rattle.rewriting.specs.Lifted.{Joins, ap_pure}
use Rattle.rewriting.specs.Shapes.{ap_of, pure_of}
use Rattle.work_signals.proofs.aps.join_ap.Goals as goal

pub returns-in-Some : goal.returns-in-Some
returns-in-Some c =
    let o = origins_of c.args.scene.now in
    let at = spot_of c.args.place.now in
    let l = c.args.outer in
    let s = l.signal.now in
    let e = c.in_ok-ap_pure.field-0 in
    let function = pure_of c.in-Some.ensures.0 c.in-Some.ensures.1 c.in-Some.function.now in
    subst (λ u. Joins o at (ap_of l.dom.now l.from.now l.to.now u s) e) (sym c.in-Some.ensures.2)
    (subst (Joins o at (ap_of l.dom.now l.from.now l.to.now function s))
    (sym c.in_ok-ap_pure.ensures) ap_pure)
