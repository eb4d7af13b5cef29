-- What a rule makes of functions on signals is one term.
use Rattle.std.proofs.Common.{◌≡◌, sym, subst, List, ◌∷◌}
use Rattle.chw_types.specs.TypeTree.{TypeTree, fun, signal}
use Rattle.chw_terms.specs.declared.rule.Rule.{Rule}
use Rattle.chw_terms.specs.TermTree.{TermTree, made}
use Rattle.rewriting.specs.Origins.{Origins, origin_of, eta_expanded}
use Rattle.rewriting.specs.Spots.{Spot}
use Rattle.rewriting.specs.Lifted.{Joins, ap_pure, fmap_pure, fmap_fmap, fmap_ap, ap_value, ap_fmap, ap_ap}
use Rattle.rewriting.specs.Numbers.{IsNumberOf}
use Rattle.rewriting.specs.Shapes.{fmap_of, pure_of}
use Rattle.rewriting.specs.Signals.{OfSignals, join, eta, spec_function, IsLifted}
use Rattle.rewriting.proofs.CaseMakes.{one_type_found}
use Rattle.rewriting.proofs.Lists.{SameFunction, function_same, one_number}

one_join : {o : Origins} {at : Spot} {e f a b : TermTree} → Joins o at e a → Joins o at f b → e ≡ f → a ≡ b
one_join ap_pure ap_pure q = cc
one_join (ap_pure {d' = d'} {a' = a'} {f = f}) (ap_value {u = u} p n t) q = let is : u ≡ pure_of d' a' f = cc in absurd (p d' a' f is)
one_join (ap_pure {d' = d'} {a' = a'} {f = f}) (ap_fmap {u = u} p n t w) q = let is : u ≡ pure_of d' a' f = cc in absurd (p d' a' f is)
one_join (ap_pure {d' = d'} {a' = a'} {f = f}) (ap_ap {u = u} p n t w) q = let is : u ≡ pure_of d' a' f = cc in absurd (p d' a' f is)
one_join (ap_value {u = u} p n t) (ap_pure {d' = d'} {a' = a'} {f = f}) q = let is : u ≡ pure_of d' a' f = cc in absurd (p d' a' f is)
one_join (ap_fmap {u = u} p n t w) (ap_pure {d' = d'} {a' = a'} {f = f}) q = let is : u ≡ pure_of d' a' f = cc in absurd (p d' a' f is)
one_join (ap_ap {u = u} p n t w) (ap_pure {d' = d'} {a' = a'} {f = f}) q = let is : u ≡ pure_of d' a' f = cc in absurd (p d' a' f is)
one_join fmap_pure fmap_pure q = cc
one_join (fmap_fmap {t = t} {u = u} {g = g} n x) (fmap_fmap {t = t'} {u = u'} {g = g'} n' x') q =
    let inner : g ≡ g' = cc in
    let whole : fun t u ≡ fun t' u' = one_type_found x x' inner in
    let param : t ≡ t' = cc in
    cc
one_join (fmap_ap {i = i} {tx = tx} {r = r} {u = u} n x) (fmap_ap {i = i'} {tx = tx'} {r = r'} {u = u'} n' x') q =
    let inner : u ≡ u' = cc in
    let whole : signal i (fun tx r) ≡ signal i' (fun tx' r') = one_type_found x x' inner in
    let param : tx ≡ tx' = cc in
    let result : r ≡ r' = cc in
    cc
one_join (ap_value {i = i} {th = th} {u = u} p n x) (ap_value {i = i'} {th = th'} {u = u'} p' n' x') q =
    let inner : u ≡ u' = cc in
    let whole : signal i th ≡ signal i' th' = one_type_found x x' inner in
    let param : th ≡ th' = cc in
    cc
one_join (ap_fmap {i = i} {th = th} {tx = tx} {r = r} {u = u} {g = g} p n x y) (ap_fmap {i = i'} {th = th'} {tx = tx'} {r = r'} {u = u'} {g = g'} p' n' x' y') q =
    let inner : u ≡ u' = cc in
    let function : g ≡ g' = cc in
    let whole : signal i th ≡ signal i' th' = one_type_found x x' inner in
    let other : fun tx r ≡ fun tx' r' = one_type_found y y' function in
    let first : th ≡ th' = cc in
    let second : tx ≡ tx' = cc in
    cc
one_join (ap_ap {i = i} {th = th} {j = j} {tx = tx} {r = r} {u = u} {v = v} p n x y) (ap_ap {i = i'} {th = th'} {j = j'} {tx = tx'} {r = r'} {u = u'} {v = v'} p' n' x' y') q =
    let inner : u ≡ u' = cc in
    let behind : v ≡ v' = cc in
    let whole : signal i th ≡ signal i' th' = one_type_found x x' inner in
    let other : signal j (fun tx r) ≡ signal j' (fun tx' r') = one_type_found y y' behind in
    let first : th ≡ th' = cc in
    let second : tx ≡ tx' = cc in
    let third : r ≡ r' = cc in
    cc
one_join ap_pure fmap_pure q = absurd cc
one_join ap_pure (fmap_fmap n' x') q = absurd cc
one_join ap_pure (fmap_ap n' x') q = absurd cc
one_join fmap_pure ap_pure q = absurd cc
one_join fmap_pure (fmap_fmap n' x') q = absurd cc
one_join fmap_pure (fmap_ap n' x') q = absurd cc
one_join fmap_pure (ap_value p' n' x') q = absurd cc
one_join fmap_pure (ap_fmap p' n' x' y') q = absurd cc
one_join fmap_pure (ap_ap p' n' x' y') q = absurd cc
one_join (fmap_fmap n x) ap_pure q = absurd cc
one_join (fmap_fmap n x) fmap_pure q = absurd cc
one_join (fmap_fmap n x) (fmap_ap n' x') q = absurd cc
one_join (fmap_fmap n x) (ap_value p' n' x') q = absurd cc
one_join (fmap_fmap n x) (ap_fmap p' n' x' y') q = absurd cc
one_join (fmap_fmap n x) (ap_ap p' n' x' y') q = absurd cc
one_join (fmap_ap n x) ap_pure q = absurd cc
one_join (fmap_ap n x) fmap_pure q = absurd cc
one_join (fmap_ap n x) (fmap_fmap n' x') q = absurd cc
one_join (fmap_ap n x) (ap_value p' n' x') q = absurd cc
one_join (fmap_ap n x) (ap_fmap p' n' x' y') q = absurd cc
one_join (fmap_ap n x) (ap_ap p' n' x' y') q = absurd cc
one_join (ap_value p n x) fmap_pure q = absurd cc
one_join (ap_value p n x) (fmap_fmap n' x') q = absurd cc
one_join (ap_value p n x) (fmap_ap n' x') q = absurd cc
one_join (ap_value p n x) (ap_fmap p' n' x' y') q = absurd cc
one_join (ap_value p n x) (ap_ap p' n' x' y') q = absurd cc
one_join (ap_fmap p n x y) fmap_pure q = absurd cc
one_join (ap_fmap p n x y) (fmap_fmap n' x') q = absurd cc
one_join (ap_fmap p n x y) (fmap_ap n' x') q = absurd cc
one_join (ap_fmap p n x y) (ap_value p' n' x') q = absurd cc
one_join (ap_fmap p n x y) (ap_ap p' n' x' y') q = absurd cc
one_join (ap_ap p n x y) fmap_pure q = absurd cc
one_join (ap_ap p n x y) (fmap_fmap n' x') q = absurd cc
one_join (ap_ap p n x y) (fmap_ap n' x') q = absurd cc
one_join (ap_ap p n x y) (ap_value p' n' x') q = absurd cc
one_join (ap_ap p n x y) (ap_fmap p' n' x' y') q = absurd cc

-- a lifted function has one list of parameters
pub one_lifted : {o : Origins} {at : Spot} {g g' : TermTree} {t t' r r' : TypeTree} {ts ts' : List TypeTree} → IsLifted o at g t ts r → IsLifted o at g' t' ts' r' → g ≡ g' → SameFunction (t ∷ ts) (t' ∷ ts') r r'
one_lifted {o} {t = t} {t' = t'} {r = r} {r' = r'} {ts = ts} {ts' = ts'} l m q =
    function_same o.program.datas (t ∷ ts) (t' ∷ ts') r r' l.gives m.gives (one_type_found l.has m.has q)

pub one_signal : {o : Origins} {at : Spot} {r r' : Rule} {e f a b : TermTree} → OfSignals o at r e a → OfSignals o at r' f b → r ≡ r' → e ≡ f → a ≡ b
one_signal (join m j) (join m' j') k q = one_join j j' q
one_signal (eta {d = d} {a = a} {b = b} {t = t} {ts = ts} {g = g} {s = s} m l n) (eta {d = d'} {a = a'} {b = b'} {t = t'} {ts = ts'} {g = g'} {s = s'} m' l' n') k q =
    let inner : g ≡ g' = cc in
    let params : t ∷ ts ≡ t' ∷ ts' = (one_lifted l l' inner).params in
    let dom : d ≡ d' = cc in
    let from : a ≡ a' = cc in
    let to : b ≡ b' = cc in
    let on : s ≡ s' = cc in
    λ i. fmap_of (dom i) (from i) (to i) (eta_expanded (params i) (inner i)) (on i)
one_signal {o} (spec_function {d = d} {a = a} {b = b} {g = g} {s = s} {m = n} m l w i) (spec_function {d = d'} {a = a'} {b = b'} {g = g'} {s = s'} {m = n'} m' l' w' i') k q =
    let inner : g ≡ g' = cc in
    let number = one_number o (origin_of o g) n n' i (subst (λ e. IsNumberOf o (origin_of o e) n') (sym inner) i') in
    let dom : d ≡ d' = cc in
    let from : a ≡ a' = cc in
    let to : b ≡ b' = cc in
    let on : s ≡ s' = cc in
    λ i. fmap_of (dom i) (from i) (to i) (made (number i)) (on i)
one_signal (join m j) (eta m' l' n') k q = absurd cc
one_signal (join m j) (spec_function m' l' w' i') k q = absurd cc
one_signal (eta m l n) (join m' j') k q = absurd cc
one_signal (eta m l n) (spec_function m' l' w' i') k q = absurd cc
one_signal (spec_function m l w i) (join m' j') k q = absurd cc
one_signal (spec_function m l w i) (eta m' l' n') k q = absurd cc
