-- Functions on signals of which the rule makes nothing, since a type isn't found.
use Rattle.std.proofs.Common.{◌≡◌, subst, refl}
use Rattle.chw_types.specs.TypeTree.{TypeTree, fun, signal}
use Rattle.chw_terms.specs.TermTree.{TermTree}
use Rattle.rewriting.specs.Origins.{Origins}
use Rattle.rewriting.specs.Spots.{Spot}
use Rattle.rewriting.specs.Lifted.{Joins, FindsAt, IsNotPure}
use Rattle.rewriting.specs.Shapes.{fmap_of, ap_of}
use Rattle.work_signals.specs.declared.views.Lifted.{Lifted}
use Rattle.work_signals.specs.Joined.{fmap_seen, ap_seen}
use Rattle.work_signals.proofs.Given.{OnSignal, on_value, on_mapped, on_applied}
use Rattle.work_signals.proofs.Given.{of_fmap, OfAp, of_ap}

-- nothing is made of the term
abbrev pub Stays : Origins → Spot → TermTree → Type 0
Stays o at e = (e' : TermTree) → Joins o at e e' → ⊥

-- for the term no type of functions is found, none of signals, and none of signals of functions
abbrev pub NoFunction : Origins → Spot → TermTree → Type 0
NoFunction o at g = (t r : TypeTree) → FindsAt o at g (fun t r) → ⊥

abbrev pub NoSignal : Origins → Spot → TermTree → Type 0
NoSignal o at u = (i t : TypeTree) → FindsAt o at u (signal i t) → ⊥

abbrev pub NoLifted : Origins → Spot → TermTree → Type 0
NoLifted o at u = (i t r : TypeTree) → FindsAt o at u (signal i (fun t r)) → ⊥

module _ (o : Origins) (at : Spot) where
  -- signals on which functions stay
  mapped_by_none : (d b c : TypeTree) (s g w : TermTree)
      → s ≡ fmap_of d b c g w → NoFunction o at g → OnSignal o at s → ⊥
  mapped_by_none d b c s g w q none (on_value p) = absurd cc
  mapped_by_none d b c s g w q none (on_mapped {t = t} {r = r} {g = h} p k) =
      let same : h ≡ g = cc in none t r (subst (λ g. FindsAt o at g (fun t r)) same k)
  mapped_by_none d b c s g w q none (on_applied p k) = absurd cc

  applied_by_none : (d b c : TypeTree) (s u w : TermTree)
      → s ≡ ap_of d b c u w → NoLifted o at u → OnSignal o at s → ⊥
  applied_by_none d b c s u w q none (on_value p) = absurd cc
  applied_by_none d b c s u w q none (on_mapped p k) = absurd cc
  applied_by_none d b c s u w q none (on_applied {i = i} {t = t} {r = r} {v = h} p k) =
      let same : h ≡ u = cc in
      none i t r (subst (λ u. FindsAt o at u (signal i (fun t r))) same k)

module _ (o : Origins) (at : Spot) (outer : Lifted) where
  -- `fmap` on the signal
  given_fmap : {e' : TermTree} → Joins o at (fmap_seen outer) e' → OnSignal o at outer.signal.now
  given_fmap j =
      of_fmap j outer.dom.now outer.from.now outer.to.now outer.function.now outer.signal.now refl

  pub fmap_stays_mapped : (inner : Lifted) → outer.signal.now ≡ fmap_seen inner
      → NoFunction o at inner.function.now → Stays o at (fmap_seen outer)
  fmap_stays_mapped l q none e' j =
      mapped_by_none o at l.dom.now l.from.now l.to.now outer.signal.now l.function.now
      l.signal.now q none (given_fmap j)

  pub fmap_stays_applied : (inner : Lifted) → outer.signal.now ≡ ap_seen inner
      → NoLifted o at inner.function.now → Stays o at (fmap_seen outer)
  fmap_stays_applied l q none e' j =
      applied_by_none o at l.dom.now l.from.now l.to.now outer.signal.now l.function.now
      l.signal.now q none (given_fmap j)

  -- `ap` of functions that aren't one value on the signal
  given_ap : {e' : TermTree} → Joins o at (ap_seen outer) e' → IsNotPure outer.function.now
      → OfAp o at outer.function.now outer.signal.now
  given_ap j none =
      of_ap j outer.dom.now outer.from.now outer.to.now outer.function.now outer.signal.now refl
      none

  pub ap_stays_untyped : IsNotPure outer.function.now
      → NoSignal o at outer.function.now → Stays o at (ap_seen outer)
  ap_stays_untyped pure none e' j =
      let it = given_ap j pure in none it.domain it.payload it.found

  pub ap_stays_mapped : (inner : Lifted) → IsNotPure outer.function.now
      → outer.signal.now ≡ fmap_seen inner → NoFunction o at inner.function.now
      → Stays o at (ap_seen outer)
  ap_stays_mapped l pure q none e' j =
      mapped_by_none o at l.dom.now l.from.now l.to.now outer.signal.now l.function.now
      l.signal.now q none (given_ap j pure).on

  pub ap_stays_applied : (inner : Lifted) → IsNotPure outer.function.now
      → outer.signal.now ≡ ap_seen inner → NoLifted o at inner.function.now
      → Stays o at (ap_seen outer)
  ap_stays_applied l pure q none e' j =
      applied_by_none o at l.dom.now l.from.now l.to.now outer.signal.now l.function.now
      l.signal.now q none (given_ap j pure).on
