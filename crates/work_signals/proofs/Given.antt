-- What `fmap` and `ap` have of which the rule makes something.
use Rattle.std.proofs.Common.{◌≡◌, subst}
use Rattle.chw_types.specs.TypeTree.{TypeTree, fun, signal}
use Rattle.chw_terms.specs.TermTree.{TermTree}
use Rattle.rewriting.specs.Origins.{Origins}
use Rattle.rewriting.specs.Spots.{Spot}
use Rattle.rewriting.specs.Lifted.{FindsAt, IsNotPure}
use Rattle.rewriting.specs.Lifted.{Joins, ap_pure, fmap_pure, fmap_fmap, fmap_ap}
use Rattle.rewriting.specs.Lifted.{ap_value, ap_fmap, ap_ap}
use Rattle.rewriting.specs.Shapes.{fmap_of, ap_of, pure_of}

-- the signal s on which functions are: of one value, of what a function gives, or of what
-- functions give
pub data OnSignal (o : Origins) (at : Spot) (s : TermTree) : Type 0 where
  on_value : {d b : TypeTree} {v : TermTree} → s ≡ pure_of d b v → OnSignal o at s
  on_mapped : {d b c t r : TypeTree} {g w : TermTree}
      → s ≡ fmap_of d b c g w → FindsAt o at g (fun t r) → OnSignal o at s
  on_applied : {d b c i t r : TypeTree} {v w : TermTree}
      → s ≡ ap_of d b c v w → FindsAt o at v (signal i (fun t r)) → OnSignal o at s

pub of_fmap : {o : Origins} {at : Spot} {e e' : TermTree} → Joins o at e e'
    → (d a b : TypeTree) (f s : TermTree) → e ≡ fmap_of d a b f s → OnSignal o at s
of_fmap ap_pure d a b f s q = absurd cc
of_fmap (fmap_pure {d' = e} {a' = c} {v = v}) d a b f s q =
    let is : s ≡ pure_of e c v = cc in on_value is
of_fmap (fmap_fmap {a = x} {d' = e} {b' = y} {g = g} {s = w} n k) d a b f s q =
    let is : s ≡ fmap_of e x y g w = cc in on_mapped is k
of_fmap (fmap_ap {a = x} {d' = e} {b' = y} {u = u} {v = v} n k) d a b f s q =
    let is : s ≡ ap_of e x y u v = cc in on_applied is k
of_fmap (ap_value p n k) d a b f s q = absurd cc
of_fmap (ap_fmap p n k m) d a b f s q = absurd cc
of_fmap (ap_ap p n k m) d a b f s q = absurd cc

-- the functions u, which aren't one value, and the signal s that they are on
pub record OfAp (o : Origins) (at : Spot) (u s : TermTree) : Type 0 where
  pub domain : TypeTree
  pub payload : TypeTree
  pub found : FindsAt o at u (signal domain payload)
  pub on : OnSignal o at s

-- the same functions under another name
named_so : (o : Origins) (at : Spot) (i t : TypeTree) {h u s : TermTree}
    → FindsAt o at h (signal i t) → h ≡ u → OnSignal o at s → OfAp o at u s
named_so o at i t k q on = record {
  domain = i;
  payload = t;
  found = subst (λ u. FindsAt o at u (signal i t)) q k;
  on = on;
}

pub of_ap : {o : Origins} {at : Spot} {e e' : TermTree} → Joins o at e e'
    → (d a b : TypeTree) (u s : TermTree) → e ≡ ap_of d a b u s → IsNotPure u → OfAp o at u s
of_ap (ap_pure {d' = e} {a' = c} {f = f}) d a b u s q none =
    let is : u ≡ pure_of e c f = cc in absurd (none e c f is)
of_ap fmap_pure d a b u s q none = absurd cc
of_ap (fmap_fmap n k) d a b u s q none = absurd cc
of_ap (fmap_ap n k) d a b u s q none = absurd cc
of_ap {o} {at} (ap_value {d' = e} {a' = c} {i = i} {th = t} {v = v} p n k) d a b u s q none =
    let is : s ≡ pure_of e c v = cc in named_so o at i t k (cc) (on_value is)
of_ap {o} {at} (ap_fmap {a = x} {d' = e} {b' = c} {i = i} {th = t} {g = g} {w = w} p n k m) d a b
    u s q none =
    let is : s ≡ fmap_of e x c g w = cc in named_so o at i t k (cc) (on_mapped is m)
of_ap {o} {at} (ap_ap {a = x} {d' = e} {b' = c} {i = i} {th = t} {v = v} {w = w} p n k m) d a b
    u s q none =
    let is : s ≡ ap_of e x c v w = cc in named_so o at i t k (cc) (on_applied is m)
