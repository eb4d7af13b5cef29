-- What rules make of functions on signals.
use Rattle.std.specs.Prelude.{ℕ, ◌<◌, ◌≤◌, List, [], ◌∷◌, length}
use Rattle.std.specs.List.{AllByRecursion}
use Rattle.type_ports.specs.Representable.{Representable}
use Rattle.chw_types.specs.TypeTree.{TypeTree}
use Rattle.chw_terms.specs.declared.rule.Rule.{Rule}
use Rattle.chw_terms.specs.declared.rule.Rule.TheVariants.{ApPure, Eta, Spec}
use Rattle.chw_terms.specs.TermTree.{TermTree, made}
use Rattle.chw_typing.specs.HeadTypes.{from_each}
use Rattle.chw_typing.specs.Finding.{Finds}
use Rattle.rewriting.specs.Origins.{Origins, setting_at, origin_of, eta_expanded}
use Rattle.rewriting.specs.Spots.{Spot}
use Rattle.rewriting.specs.Lifted.{Joins}
use Rattle.rewriting.specs.Numbers.{IsNumberOf}
use Rattle.rewriting.specs.Shapes.{IsOfCircuit, IsClosed, IsMade, leading_lambdas, fmap_of}

-- a lifted function that can become a made definition: closed, none itself, and found to be a
-- function of values of these types, one at least, that gives a value of the type r; all of these
-- are representable
pub record IsLifted
    (o : Origins) (at : Spot) (g : TermTree) (t : TypeTree) (ts : List TypeTree) (r : TypeTree)
    : Type 0
  where
    pub closed : IsClosed g
    pub not_made : IsMade g → ⊥
    pub has : Finds (setting_at o) [] at.vars g (from_each (t ∷ ts) r)
    pub takes : AllByRecursion (Representable o.program.datas) (t ∷ ts)
    pub gives : Representable o.program.datas r

pub data OfSignals (o : Origins) (at : Spot) : Rule → TermTree → TermTree → Type 0 where
  -- lifted functions are joined
  join : {e e' : TermTree}
      → IsOfCircuit at.mode → Joins o at e e' → OfSignals o at ApPure e e'
  -- a lifted function gets a lambda for each parameter
  eta : {d a b t r : TypeTree} {ts : List TypeTree} {g s : TermTree}
      → IsOfCircuit at.mode → IsLifted o at g t ts r → leading_lambdas g < length (t ∷ ts)
      → OfSignals o at Eta (fmap_of d a b g s) (fmap_of d a b (eta_expanded (t ∷ ts) g) s)
  -- and one that has them becomes a made definition
  spec_function : {d a b t r : TypeTree} {ts : List TypeTree} {g s : TermTree} {m : ℕ}
      → IsOfCircuit at.mode → IsLifted o at g t ts r → length (t ∷ ts) ≤ leading_lambdas g
      → IsNumberOf o (origin_of o g) m
      → OfSignals o at Spec (fmap_of d a b g s) (fmap_of d a b (made m) s)
