-- What rules make of functions on signals: the composed ones in one. In a circuit's places alone.
use Rattle.std.specs.Prelude.{◌≡◌, []}
use Rattle.type_ports.specs.Representable.{Representable}
use Rattle.chw_types.specs.TypeTree.{TypeTree, fun, signal}
use Rattle.chw_terms.specs.TermMoves.{shift}
use Rattle.chw_terms.specs.TermTree.{TermTree, var, lam, app}
use Rattle.chw_typing.specs.Finding.{Finds}
use Rattle.rewriting.specs.Origins.{Origins, setting_at}
use Rattle.rewriting.specs.Spots.{Spot}
use Rattle.rewriting.specs.Shapes.{fmap_of, ap_of, pure_of}

-- this type is found for the term at the place
abbrev pub FindsAt : Origins → Spot → TermTree → TypeTree → Type 0
FindsAt o at e t = Finds (setting_at o) [] at.vars e t

-- a signal of values of this type can't be named
abbrev pub IsFused : Origins → TypeTree → Type 0
IsFused o t = Representable o.program.datas t → ⊥

-- no signal of one value
abbrev pub IsNotPure : TermTree → Type 0
IsNotPure u = (d a : TypeTree) (f : TermTree) → u ≡ pure_of d a f → ⊥

-- the parts of a composition, raised into the new lambdas:
-- `\(x : t) . f (g x)`
abbrev pub composed : TypeTree → TermTree → TermTree → TermTree
composed t f g = lam t (app (shift f 0 1) (app (shift g 0 1) (var 0)))

-- `\(h : th) . \(x : tx) . f (h x)`
abbrev pub before_each : TypeTree → TypeTree → TermTree → TermTree
before_each th tx f = lam th (lam tx (app (shift f 0 2) (app (var 1) (var 0))))

-- `\(h : th) . h v`
abbrev pub on_value : TypeTree → TermTree → TermTree
on_value th v = lam th (app (var 0) (shift v 0 1))

-- `\(h : th) . \(x : tx) . h (g x)`
abbrev pub behind_each : TypeTree → TypeTree → TermTree → TermTree
behind_each th tx g = lam th (lam tx (app (var 1) (app (shift g 0 2) (var 0))))

-- `\(h : th) . \(k : tk) . \(x : tx) . h (k x)`
abbrev pub each_composed : TypeTree → TypeTree → TypeTree → TermTree
each_composed th tk tx = lam th (lam tk (lam tx (app (var 2) (app (var 1) (var 0)))))

-- the first term becomes the second; the types of the new lambdas are those that are found
pub data Joins (o : Origins) (at : Spot) : TermTree → TermTree → Type 0 where
  -- one function on a signal
  ap_pure : {d a b d' a' : TypeTree} {f s : TermTree}
      → Joins o at (ap_of d a b (pure_of d' a' f) s) (fmap_of d a b f s)
  -- a function on one value
  fmap_pure : {d a b d' a' : TypeTree} {f v : TermTree}
      → Joins o at (fmap_of d a b f (pure_of d' a' v)) (pure_of d b (app f v))
  -- a function on what another gives
  fmap_fmap : {d a b c d' b' t u : TypeTree} {f g s : TermTree}
      → IsFused o b → FindsAt o at g (fun t u)
      → Joins o at (fmap_of d b c f (fmap_of d' a b' g s)) (fmap_of d a c (composed t f g) s)
  fmap_ap : {d a b c d' b' i tx r : TypeTree} {f u v : TermTree}
      → IsFused o b → FindsAt o at u (signal i (fun tx r))
      → Joins o at
      (fmap_of d b c f (ap_of d' a b' u v))
      (ap_of d a c (fmap_of d (fun a b) (fun a c) (before_each (fun tx r) tx f) u) v)
  -- functions on one value
  ap_value : {d a b d' a' i th : TypeTree} {u v : TermTree}
      → IsNotPure u → IsFused o a → FindsAt o at u (signal i th)
      → Joins o at
      (ap_of d a b u (pure_of d' a' v)) (fmap_of d (fun a b) b (on_value th v) u)
  -- functions on what others give
  ap_fmap : {d a b c d' b' i th tx r : TypeTree} {u g w : TermTree}
      → IsNotPure u → IsFused o b → FindsAt o at u (signal i th) → FindsAt o at g (fun tx r)
      → Joins o at
      (ap_of d b c u (fmap_of d' a b' g w))
      (ap_of d a c (fmap_of d (fun b c) (fun a c) (behind_each th tx g) u) w)
  ap_ap : {d a b c d' b' i th j tx r : TypeTree} {u v w : TermTree}
      → IsNotPure u → IsFused o b
      → FindsAt o at u (signal i th) → FindsAt o at v (signal j (fun tx r))
      → Joins o at
      (ap_of d b c u (ap_of d' a b' v w))
      (ap_of d a c
      (ap_of d (fun a b) (fun a c)
      (fmap_of d (fun b c) (fun (fun a b) (fun a c)) (each_composed th (fun tx r) tx) u) v)
      w)
