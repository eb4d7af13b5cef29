-- What becomes of functions on signals as they are seen.
use Rattle.std.proofs.Common.{◌≡◌, sym, subst}
use Rattle.chw_terms.specs.TermTree.{TermTree}
use Rattle.rewriting.specs.Origins.{Origins}
use Rattle.rewriting.specs.Spots.{Spot}
use Rattle.rewriting.specs.Lifted.{Joins}
use Rattle.rewriting.specs.Shapes.{fmap_of, ap_of}
use Rattle.work_signals.specs.declared.views.Lifted.{Lifted}
use Rattle.work_signals.specs.Joined.{fmap_seen, ap_seen}

-- functions on another signal
abbrev fmap_on : Lifted → TermTree → TermTree
fmap_on l s = fmap_of l.dom.now l.from.now l.to.now l.function.now s

abbrev ap_on : Lifted → TermTree → TermTree
ap_on l s = ap_of l.dom.now l.from.now l.to.now l.function.now s

-- a signal that is seen
pub fmap_becomes : {o : Origins} {at : Spot} {s made e' : TermTree} (outer : Lifted)
    → outer.signal.now ≡ s
    → Joins o at (fmap_of outer.dom.now outer.from.now outer.to.now outer.function.now s) made
    → e' ≡ made → Joins o at (fmap_seen outer) e'
fmap_becomes {o} {at} {s = s} {e' = e'} outer q j p =
    subst (λ s. Joins o at (fmap_on outer s) e') (sym q)
    (subst (Joins o at (fmap_on outer s)) (sym p) j)

pub ap_becomes : {o : Origins} {at : Spot} {s made e' : TermTree} (outer : Lifted)
    → outer.signal.now ≡ s
    → Joins o at (ap_of outer.dom.now outer.from.now outer.to.now outer.function.now s) made
    → e' ≡ made → Joins o at (ap_seen outer) e'
ap_becomes {o} {at} {s = s} {e' = e'} outer q j p =
    subst (λ s. Joins o at (ap_on outer s) e') (sym q)
    (subst (Joins o at (ap_on outer s)) (sym p) j)
